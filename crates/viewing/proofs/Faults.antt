-- The answers of a fault, and of an envelope. In the words of the code.
-- Assumes nothing.
use Prim.Native.Nat.{ℕ, ◌<◌, ◌≤◌, ◌^◌}
use mathlib.Core.Path.{◌≡◌, refl, sym, ap, subst, ◌∙◌}
use mathlib.Core.List.{List, [], ◌∷◌}
use native.Mathlib.Omega.{arith}
use lib.ListN.{length}
use lib.IntN.{ℤ, pos, neg_ℤ}
use mir.Syntax.{w64}
use mir.Val.{SFits, to_z, of_z}
use borrow.Author.Tests.{le-leb, lt-leb}
use Rattle.token.specs.Token.{Placed, Reading, Accepted, Refused, token_of}
use Rattle.token.specs.Walk.{Accepts}
use Rattle.std.specs.Prelude.{Result, Ok, Err, is_ok, Bool, true, false}
use Rattle.refusal.specs.declared.Refusal.{Refusal}
use Rattle.refusal.specs.Refusals.{number_of}
use Rattle.put.specs.Put.{Written}
use Rattle.put.proofs.Laws.{put-none}
use Rattle.entries.specs.declared.Entry.{Entry}
use Rattle.entries.specs.Entries.{entry_octets}
use Rattle.entries.proofs.Walked.{octets-length}
use Rattle.envelope_token.specs.declared.Carried.{Carried}
use Rattle.envelope_token.specs.Tokens.{Span, carried_of, said}
use Rattle.faults.specs.Faults.{fault_of}
use Rattle.replies.specs.Replies.{Reply, given, refused, and_then, reading_reply, messages_reply, fits, answer_of, lent, written_in}
use Rattle.replies.proofs.Answers.{same, Taken}
use Rattle.viewing.specs.Viewing.{fault_reply, fault_answer, span_reply, envelope_place_answer, envelope_length_answer}

-- ---- the words of `fill_fault`
module _ (e : Entry) (d : List ℕ) where
  pub entry-full : length d < 24 → lent (neg_ℤ (pos 16)) d ≡ written_in d (fits (length d) (entry_octets (e ∷ [])))
  entry-full h =
      let few : length d < length (entry_octets (e ∷ [])) = omega (arith, octets-length (e ∷ [])) in
      sym (simp (lt-leb _ _ few))

  pub entry-written : 24 ≤ length d → (d' : List ℕ) (r : ℕ) → Written d 0 24 (entry_octets (e ∷ [])) d' r
      → lent (pos r) d' ≡ written_in d (fits (length d) (entry_octets (e ∷ [])))
  entry-written h d' r w =
      let room : length (entry_octets (e ∷ [])) ≤ length d = omega (arith, octets-length (e ∷ [])) in
      let r-is : r ≡ length (entry_octets (e ∷ [])) = omega (arith, w.after, w.size) in
      ap (λ (x : ℕ). lent (pos x) d') r-is
      ∙ ap (lent (pos (length (entry_octets (e ∷ []))))) w.holds ∙ sym (simp (le-leb _ _ room))

entry-is : (e : Entry) (s : List ℕ) → e ≡ fault_of s → (d d' : List ℕ) (z : ℤ) → lent z d' ≡ written_in d (fits (length d) (entry_octets (e ∷ [])))
    → lent z d' ≡ written_in d (fits (length d) (entry_octets (fault_of s ∷ [])))
entry-is e s e-is d d' z w = rw e-is at w

given-or-refused : (ms : List Placed) (n : ℕ) → ◌≡◌ {A = Reply (List Placed)} (given ms) (refused n) → ⊥
given-or-refused ms n e = subst Given e tt where
  Given : Reply (List Placed) → Type 0
  Given (given x) = Unit {0}
  Given (refused k) = ⊥

pub entry-small : (e : Entry) (d d' : List ℕ) (r : ℕ) → Written d 0 24 (entry_octets (e ∷ [])) d' r → r < 2 ^ 63
entry-small e d d' r w = omega (arith, w.after)

-- ---- the words of `write_fault`
pub fault-none : (s d : List ℕ) → Accepts s → lent (pos 0) d ≡ fault_answer s d
fault-none s d a = ap (lent (pos 0)) (sym (put-none d 0)) ∙ sym (ap (λ (x : Reading). written_in d (fault_reply x s (length d))) a)

pub fault-some : (s d : List ℕ) (n : ℕ) → messages_reply s ≡ refused n → (e : Entry) → e ≡ fault_of s → (z : ℤ) (d' : List ℕ)
    → lent z d' ≡ written_in d (fits (length d) (entry_octets (e ∷ []))) → lent z d' ≡ fault_answer s d
fault-some s d n r e e-is z d' w = entry-is e s e-is d d' z w ∙ go (token_of s) r where
  go : (x : Reading) → reading_reply x ≡ refused n
      → written_in d (fits (length d) (entry_octets (fault_of s ∷ []))) ≡ written_in d (fault_reply x s (length d))
  go (Accepted ms) f = absurd (given-or-refused ms n f)
  go (Refused m p) f = refl

abbrev Untrue : Bool → Type 0
Untrue true = ⊥
Untrue false = Unit {0}

-- by what `accepted` answers
pub fault-taken : (s d : List ℕ) (r : Result ℕ Refusal) → Taken s r → is_ok r ≡ true → lent (pos 0) d ≡ fault_answer s d
fault-taken s d (Ok n) t e = fault-none s d t.0
fault-taken s d (Err f) t e = absurd (subst Untrue e tt)

pub refusing : (s : List ℕ) (r : Result ℕ Refusal) → Taken s r → is_ok r ≡ false → (n : ℕ) × (messages_reply s ≡ refused n)
refusing s (Ok n) t e = absurd (subst Untrue (sym e) tt)
refusing s (Err f) t e = (number_of f, t)

pub ruleset entry-answers = (entry-full, entry-written, entry-small)

-- ---- the words of `envelope_place` and `envelope_length`
module _ (s : List ℕ) (r : Result Carried Refusal) (r-is : said r ≡ carried_of s) where
  module _ (c : Carried) (here : r ≡ Ok c) where
    span-is : given (record { place = c.place; size = c.length }) ≡ span_reply (carried_of s)
    span-is = ap span_reply (sym (ap said here) ∙ r-is)

    pub place-given : (z : ℤ) → SFits w64 z → z ≡ pos c.place → to_z w64 (of_z w64 z) ≡ envelope_place_answer s
    place-given z f e = same z f (pos c.place) e ∙ ap (λ (x : Reply Span). answer_of (and_then x (λ y. given y.place))) span-is

    pub length-given : (z : ℤ) → SFits w64 z → z ≡ pos c.length → to_z w64 (of_z w64 z) ≡ envelope_length_answer s
    length-given z f e = same z f (pos c.length) e ∙ ap (λ (x : Reply Span). answer_of (and_then x (λ y. given y.size))) span-is

  module _ (refusal : Refusal) (here : r ≡ Err refusal) (n : ℕ) (n-is : n ≡ number_of refusal) (z : ℤ) (f : SFits w64 z) (e : z ≡ neg_ℤ (pos n)) where
    none_is : ◌≡◌ {A = Reply Span} (refused n) (span_reply (carried_of s))
    none_is = rw n-is (ap span_reply (sym (ap said here) ∙ r-is))

    pub place-refused : to_z w64 (of_z w64 z) ≡ envelope_place_answer s
    place-refused = same z f (neg_ℤ (pos n)) e ∙ ap (λ (x : Reply Span). answer_of (and_then x (λ y. given y.place))) none_is

    pub length-refused : to_z w64 (of_z w64 z) ≡ envelope_length_answer s
    length-refused = same z f (neg_ℤ (pos n)) e ∙ ap (λ (x : Reply Span). answer_of (and_then x (λ y. given y.size))) none_is

pub ruleset spans = (place-given, length-given, place-refused, length-refused)
