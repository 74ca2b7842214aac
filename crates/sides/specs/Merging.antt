-- Two files, one a direction, cut into messages and merged into turns. Document 02, C-19: "Merge them by sequence number into turns, each turn the
-- longest run from one side".
--
-- Glossary
--   fits s              the octets s begin with a message that passes 2 to 6
--   cut_from s k p      the messages of s, which begins at the place p and with k octets of the message before; cut_of s: of a file
--   messages_of s       the messages at the front of a file, up to the first that 2 to 6 refuse
--   run_from q ms       the messages at the front of ms that are numbered on from q: the longest run
--   Turn                a turn: whether it is the acceptor's, and its messages; token t: its messages, joined
--   turns_from n q i a  at most n turns, numbered from q on, of the messages i of the initiator's file and a of the acceptor's
--   turns_of i a        all turns of the messages of two files
--   together ts         how many messages turns have
--   in_row i a          24: the turns have all messages of both files
use Rattle.std.specs.Prelude.{ℕ, zero, suc, ◌+◌, ◌-◌, Bool, true, false, cond, List, [], ◌∷◌, length, drop, eqb, ltb}
use Rattle.message.specs.Layout.{head_of, size, front}
use Rattle.message.specs.Check.{all_pass, first_failing, common_rows}
use Rattle.token.specs.Token.{Chain, end, refused as cut_at, message}
use Rattle.token.specs.Split.{join}
use Rattle.conversation.specs.Logs.{messages_in}

abbrev pub fits : List ℕ → Bool
fits s = all_pass (common_rows (length s) (head_of s))

-- "1 to 6 as each file is cut up .. (an empty one is no messages ..)"
unfoldable pub cut_from : List ℕ → ℕ → ℕ → Chain
cut_from [] k place = end
cut_from (x ∷ xs) (suc k) place = cut_from xs k place
cut_from (x ∷ xs) zero place =
    cond (fits (x ∷ xs))
    (message (record { place = place; octets = front (x ∷ xs) }) (cut_from xs (size (x ∷ xs) - 1) (place + size (x ∷ xs))))
    (cut_at (first_failing (common_rows (length (x ∷ xs)) (head_of (x ∷ xs)))) place)

abbrev pub cut_of : List ℕ → Chain
cut_of s = cut_from s 0 0

abbrev pub messages_of : List ℕ → List (List ℕ)
messages_of s = messages_in (cut_of s)

-- "the longest run from one side"
unfoldable pub run_from : ℕ → List (List ℕ) → List (List ℕ)
run_from q [] = []
run_from q (m ∷ ms) = cond (eqb (head_of m).sequence q) (m ∷ run_from (q + 1) ms) []

pub record Turn : Type 0 where
  pub acceptor : Bool
  pub messages : List (List ℕ)

abbrev pub token : Turn → List ℕ
token t = join t.messages

-- "Merge them by sequence number": the next turn is of the file that has the next number at its front
unfoldable pub turns_from : ℕ → ℕ → List (List ℕ) → List (List ℕ) → List Turn
turns_from zero q i a = []
turns_from (suc n) q i a =
    cond (ltb 0 (length (run_from q i)))
    (record { acceptor = false; messages = run_from q i } ∷ turns_from n (q + length (run_from q i)) (drop (length (run_from q i)) i) a)
    (cond (ltb 0 (length (run_from q a)))
    (record { acceptor = true; messages = run_from q a } ∷ turns_from n (q + length (run_from q a)) i (drop (length (run_from q a)) a))
    [])

-- each has a message, so that there are no more of them than messages
abbrev pub turns_of : List (List ℕ) → List (List ℕ) → List Turn
turns_of i a = turns_from (length i + length a) 0 i a

unfoldable pub together : List Turn → ℕ
together [] = 0
together (t ∷ ts) = length t.messages + together ts

-- "24 where a number from 0 to the highest is missing, stands twice or stands behind a higher one in its file": `InRowExactly`
abbrev pub in_row : List (List ℕ) → List (List ℕ) → Bool
in_row i a = eqb (together (turns_of i a)) (length i + length a)
