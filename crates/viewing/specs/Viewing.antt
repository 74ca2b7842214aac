-- What a viewer is answered of a token as entries. The order of the refusals is that of `Replies`. Document 02, C-17.
--
-- Glossary
--   entry_count_answer s      the number of entries of the token s
--   entries_window es k room  as many whole entries of es, from number k on, as fit into the room; 19 where there is no entry k, 16 where not one fits
--   entries_answer s k d      those of the token s, at the front of the buffer d
--   fault_reply r s room      the entry of the fault of the token s by its reading r: nothing where it is accepted, 16 where it doesn't fit into the room
--   fault_answer s d          that entry at the front of the buffer d
--   coverage_answer s d       an octet for each of the token's, 1 where it is covered and 0 where nothing covers it, at the front of the buffer d
--   span_reply g              a token's span in an envelope, or the refusal
--   envelope_place_answer s   the place of the token in the envelope s; envelope_length_answer: its length
use Rattle.std.specs.Prelude.{ℕ, ◌/◌, cond, List, [], ◌∷◌, length, take, drop, leb, ℤ}
use Rattle.der.specs.Got.{Got, ok, no}
use Rattle.token.specs.Token.{Reading, Accepted, Refused, token_of}
use Rattle.entries.specs.declared.Entry.{Entry}
use Rattle.entries.specs.Entries.{entries_of, entry_octets}
use Rattle.blanking.specs.Masked.{coverage_of}
use Rattle.envelope_token.specs.Tokens.{Span, carried_of}
use Rattle.faults.specs.Faults.{fault_of}
use Rattle.replies.specs.Replies.{Reply, given, refused, and_then, messages_reply, item_at, fits, answer_of, Lent, written_in}

abbrev pub entry_count_answer : List ℕ → ℤ
entry_count_answer s = answer_of (and_then (messages_reply s) (λ ms. given (length (entries_of ms))))

-- "as many whole lines as fit", of entries; each has 24 octets
abbrev pub entries_window : List Entry → ℕ → ℕ → Reply (List ℕ)
entries_window es first room =
    and_then (item_at es first) (λ e. cond (leb 24 room) (given (entry_octets (take (room / 24) (drop first es)))) (refused 16))

abbrev pub entries_answer : List ℕ → ℕ → List ℕ → Lent
entries_answer s first d = written_in d (and_then (messages_reply s) (λ ms. entries_window (entries_of ms) first (length d)))

-- document 01: "Each returns its number and the token place of the message at fault"; and here the field in it
abbrev pub fault_reply : Reading → List ℕ → ℕ → Reply (List ℕ)
fault_reply (Accepted ms) s room = given []
fault_reply (Refused n place) s room = fits room (entry_octets (fault_of s ∷ []))

abbrev pub fault_answer : List ℕ → List ℕ → Lent
fault_answer s d = written_in d (fault_reply (token_of s) s (length d))

-- C-24: "Octets that nothing points at"
abbrev pub coverage_answer : List ℕ → List ℕ → Lent
coverage_answer s d = written_in d (and_then (messages_reply s) (λ ms. fits (length d) (coverage_of s)))

-- C-16: "The token's octets are handed back, for the structural reading, as part of the caller's buffer."
abbrev pub span_reply : Got Span → Reply Span
span_reply (ok x) = given x
span_reply (no n) = refused n

abbrev pub envelope_place_answer : List ℕ → ℤ
envelope_place_answer s = answer_of (and_then (span_reply (carried_of s)) (λ x. given x.place))

abbrev pub envelope_length_answer : List ℕ → ℤ
envelope_length_answer s = answer_of (and_then (span_reply (carried_of s)) (λ x. given x.size))
