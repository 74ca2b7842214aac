-- The record after an accepted token, in the words of the code.
-- Assumes nothing.
use Prim.Native.Nat.{ℕ, ◌≤◌}
use mathlib.Core.Path.{◌≡◌, sym, ap, ◌∙◌}
use mathlib.Core.Bool.{Bool, true, false, cond}
use mathlib.Core.List.{List}
use native.Mathlib.Omega.{arith}
use lib.Dec.{eqb}
use borrow.Author.Tests.{eq-eqb, ne_eqb}
use Rattle.message.specs.Show.{ids_at, ids_of}
use Rattle.message.proofs.Ids.{length_ids}
use Rattle.schemes.specs.declared.Kept.{Kept}
use Rattle.schemes.specs.Lists.{Id}
use Rattle.schemes.specs.Sets.{common_set, kept_places, ones}
use Rattle.schemes.specs.Answers.{kept_of}
use Rattle.schemes.proofs.Mentions.{kept-few}
use Rattle.conversation.specs.declared.Record.{Record}
use Rattle.conversation.specs.declared.Scan.{Scan}
use Rattle.conversation.specs.State.{own_of}
use Rattle.conversation.specs.Turns.{reading, reads}
use Rattle.conversation.specs.Admitting.{listed_by}
use Rattle.conversation.specs.Reading.{common_after, kept_after, counts_after, taken}
use Rattle.admitting.specs.Admissions.{listed_in}
use Rattle.admitting.proofs.Lists.{listed_by_lem}
use Rattle.receiving.specs.Receiving.{Taking, with_sets, moved_by}

-- a token's number is one of four
either : (b : Bool) (x y : ℕ) → x ≤ 3 → y ≤ 3 → cond b x y ≤ 3
either true x y p q = p
either false x y p q = q

reading_small : (a : Bool) (stage : ℕ) → reading a stage ≤ 3
unfolding reading
reading_small true stage =
    either (eqb stage 0) 0 _ (omega arith) (either (eqb stage 1) 2 _ (omega arith) (either (eqb stage 3) 2 3 (omega arith) (omega arith)))
reading_small false stage = either (eqb stage 0) 1 _ (omega arith) (either (eqb stage 3) 2 3 (omega arith) (omega arith))

pub token-small : (r : Record) (token : ℕ) → token ≡ reads r → token ≤ 3
token-small r token e = omega (arith, reading_small r.acceptor r.stage)

-- the own VERIFY after a token
module _ (r : Record) (c : Scan) where
  pub counts-stage : (r.stage ≡ 1 → ⊥) → r.attested ≡ counts_after r c
  counts-stage h = rw (ne_eqb _ _ h)

  module _ (s : r.stage ≡ 1) where
    pub counts-none : r.attested ≡ false → false ≡ counts_after r c
    counts-none e = rw (eq-eqb _ _ s, e)

    pub counts-early : r.attested ≡ true → eqb c.chosen r.requested ≡ counts_after r c
    counts-early e = rw (eq-eqb _ _ s, e)

pub ruleset countings = (counts-stage, counts-none, counts-early)

module _ (r : Record) (t : List ℕ) (n : ℕ) (c : Scan) (token : ℕ) (token-is : token ≡ reads r) where
  taken_is : (x : ℕ) (k : List ℕ) → x ≡ common_after r t → k ≡ kept_after r t → with_sets (moved_by r t n c) x k ≡ taken r t n c
  taken_is x k x-is k-is =
      ap (λ (z : ℕ). with_sets (moved_by r t n c) z k) x-is ∙ ap (λ (z : List ℕ). with_sets (moved_by r t n c) (common_after r t) z) k-is

  other-kept : (token ≡ 1 → ⊥) → r.kept ≡ kept_after r t
  unfolding kept_after
  other-kept e = rw (ne_eqb (reads r) 1 (λ q. e (token-is ∙ q)))

  module _ (next : Record) (next-is : next ≡ moved_by r t n c) where
    pub taken-first : token ≡ 0 → (l : List ℕ) → l ≡ listed_in t → (x : ℕ) → x ≡ common_set (ids_at r.count r.list) (ids_of l)
        → with_sets next x next.kept ≡ taken r t n c
    taken-first e l l-is x x-is =
        ap (λ (z : Record). with_sets z x z.kept) next-is ∙ taken_is x r.kept common (other-kept (λ q. omega arith)) where
          common : x ≡ common_after r t
          common = unfold common_after in rw (eq-eqb (reads r) 0 (sym token-is ∙ e)) (x-is ∙ ap (common_set (own_of r)) (listed_by_lem t l l-is))

    pub taken-reply : (token ≡ 0 → ⊥) → token ≡ 1 → (l : List ℕ) → l ≡ listed_in t → (k : Kept)
        → k ≡ kept_of (kept_places (ids_at r.count r.list) (ids_of l)) → (x : ℕ) → x ≡ ones k.count → with_sets next x k.places ≡ taken r t n c
    taken-reply d e l l-is k k-is x x-is = ap (λ (z : Record). with_sets z x k.places) next-is ∙ taken_is x k.places common kept where
      both : k ≡ kept_of (kept_places (own_of r) (listed_by t))
      both = k-is ∙ ap (λ (z : List Id). kept_of (kept_places (own_of r) z)) (listed_by_lem t l l-is)

      common : x ≡ common_after r t
      common =
          unfold common_after kept_of in
          rw (ne_eqb (reads r) 0 (λ q. d (token-is ∙ q)), eq-eqb (reads r) 1 (sym token-is ∙ e)) (x-is ∙ ap (λ (z : Kept). ones z.count) both)

      kept : k.places ≡ kept_after r t
      kept = unfold kept_after kept_of in rw (eq-eqb (reads r) 1 (sym token-is ∙ e)) (ap (λ (z : Kept). z.places) both)

    pub taken-later : (token ≡ 0 → ⊥) → (token ≡ 1 → ⊥) → next ≡ taken r t n c
    taken-later d e = next-is ∙ taken_is r.common r.kept common (other-kept e) where
      common : r.common ≡ common_after r t
      common = unfold common_after in rw (ne_eqb (reads r) 0 (λ q. d (token-is ∙ q)), ne_eqb (reads r) 1 (λ q. e (token-is ∙ q)))

-- the own places kept are 16 at most
pub kept_small : (r : Record) (size n : ℕ) → Taking r size n → (peer : List Id) (k : Kept) → k ≡ kept_of (kept_places (ids_at r.count r.list) peer)
    → k.count ≤ 16
unfolding kept_of
kept_small r size n w peer k k-is =
    omega (arith, ap (λ (z : Kept). z.count) k-is, kept-few (own_of r) peer, length_ids r.count r.list, w.inside.few)

pub ruleset takes = (taken-first, taken-reply, taken-later, kept_small)
