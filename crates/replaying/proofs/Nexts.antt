-- The first message's conversation, by the next turn of two files.
-- Assumes nothing.
use Prim.Native.Nat.{ℕ, ◌+◌, ◌<◌, ◌≤◌}
use mathlib.Core.Path.{◌≡◌, sym, ap, ◌∙◌}
use mathlib.Core.Bool.{true, false}
use mathlib.Core.List.{List, ◌++◌}
use native.Mathlib.Omega.{arith}
use Rattle.std.proofs.Common.{Some, None}
use lib.ListN.{length, take, drop, length-drop, take-append-drop}
use lib.Seq.{take-append-le, drop-append-le}
use Rattle.octets.specs.Octets.{octets}
use Rattle.octets.proofs.Bools.{no_true}
use Rattle.token.specs.Split.{join}
use Rattle.conversation.specs.Outcomes.{zero_id}
use Rattle.sides.specs.Merging.{messages_of, run_from, turns_of}
use Rattle.sides.specs.Replay.{conversation_in}
use Rattle.merging.specs.declared.Next.{Next}
use Rattle.merging.specs.Merged.{next_in}
use Rattle.merging.proofs.Rows.{Says, initiators, acceptors, says, says-none, run-octets, run-front, run-within, turns-initiator, turns-acceptor, turns-none}

front-octets : (s x : List ℕ) → take (length x) s ≡ x → 40 ≤ length x → octets 16 s 24 ≡ octets 16 x 24
front-octets s x e h =
    let whole : s ≡ x ++ drop (length x) s = sym (take-append-drop (length x) s) ∙ ap (λ (l : List ℕ). l ++ drop (length x) s) e in
    ap (λ (l : List ℕ). octets 16 l 24) whole
    ∙ ap (take 16) (drop-append-le 24 x (drop (length x) s) (omega arith))
    ∙ take-append-le 16 (drop 24 x) (drop (length x) s) (omega (arith, length-drop 24 x))

module _ (i a : List ℕ) where
  pub talk-none : None ≡ next_in 0 i a → zero_id ≡ conversation_in (turns_of (messages_of i) (messages_of a))
  talk-none e = let z = says-none 0 i a e in sym (ap conversation_in (turns-none 0 (messages_of i) (messages_of a) z.0 z.1))

  module _ (n : Next) (n-is : Some n ≡ next_in 0 i a) where
    abbrev ri : List (List ℕ)
    ri = run_from 0 (messages_of i)

    abbrev ra : List (List ℕ)
    ra = run_from 0 (messages_of a)

    theirs : n.acceptors ≡ true → (length ri ≤ 0) × (0 < length ra)
    theirs e = go (says 0 i a n n-is) where
      go : Says 0 i a n → (length ri ≤ 0) × (0 < length ra)
      go (initiators s r o p m) = no_true (sym r ∙ e)
      go (acceptors s f r o p m) = (s, f)

    own : n.acceptors ≡ false → 0 < length ri
    own e = go (says 0 i a n n-is) where
      go : Says 0 i a n → 0 < length ri
      go (initiators s r o p m) = s
      go (acceptors s f r o p m) = no_true (sym e ∙ r)

    pub talk-long-a : n.acceptors ≡ true → 24 + 16 ≤ length a
    talk-long-a e = omega (arith, theirs e, run-octets 0 a, run-within 0 a)

    pub talk-a : n.acceptors ≡ true → (v : List ℕ) → v ≡ octets 16 a 24 → v ≡ conversation_in (turns_of (messages_of i) (messages_of a))
    talk-a e v v-is =
        v-is ∙ front-octets a (join ra) (run-front 0 a) (omega (arith, theirs e, run-octets 0 a))
        ∙ sym (ap conversation_in (turns-acceptor 0 (messages_of i) (messages_of a) (theirs e).0 (theirs e).1))

    pub talk-long-i : n.acceptors ≡ false → 24 + 16 ≤ length i
    talk-long-i e = omega (arith, own e, run-octets 0 i, run-within 0 i)

    pub talk-i : n.acceptors ≡ false → (v : List ℕ) → v ≡ octets 16 i 24 → v ≡ conversation_in (turns_of (messages_of i) (messages_of a))
    talk-i e v v-is =
        v-is ∙ front-octets i (join ri) (run-front 0 i) (omega (arith, own e, run-octets 0 i))
        ∙ sym (ap conversation_in (turns-initiator 0 (messages_of i) (messages_of a) (own e)))

pub ruleset talks = (talk-none, talk-long-a, talk-a, talk-long-i, talk-i)
