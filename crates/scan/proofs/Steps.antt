-- What `position` finds in a part of a slice.
-- Assumes nothing.
use Rattle.std.proofs.Common.{◌≡◌, ℕ, ◌+◌, ◌-◌, ◌≤◌, ◌==◌, Bool, true, false, cond, List, length, take, drop, length-take, length-drop, refl, sym, ap, ◌∙◌, arith, Some, None}
use lib.Dec.{ltb}
use Rattle.std.specs.Prelude.{Option, MatchOption}
use Rattle.std.specs.List.{position_or_len}
use Rattle.std.proofs.lemmas.List.{drop-take}
use Rattle.std.proofs.lemmas.List.Sums.{prefix_len-le-length}
use borrow.Author.Tests.{ltb-false}
use mathlib.Core.Bool.{not}
use Rattle.std.proofs.lemmas.List.Recursion.{is_position_or_len}
use Rattle.scan.specs.Scan.{slice, index_after, index_of}

part : (s : List ℕ) (from to : ℕ) → from ≤ to → take (to - from) (drop from s) ≡ slice from to s
unfolding slice
part s from to h = let e : from + (to - from) ≡ to = omega arith in sym (drop-take from (to - from) s) ∙ ap (λ (n : ℕ). drop from (take n s)) e

-- the index of the first octet that is `octet`
placed : (octet : ℕ) (s : List ℕ) → index_of octet s ≡ position_or_len (λ x. x == octet) s
unfolding index_of index_after
placed octet s = is_position_or_len (index_of octet) (λ x. x == octet) refl (λ x xs. after (x == octet) (index_of octet xs)) s where
  after : (b : Bool) (n : ℕ) → index_after b n ≡ cond b 0 (1 + n)
  after true n = refl
  after false n = omega arith

-- what `position` answers, as the place in the whole
pub found : (octet : ℕ) (s : List ℕ) (from to : ℕ) → from ≤ to → to ≤ length s → (r : Option ℕ)
    → (let p = take (to - from) (drop from s) in r
    ≡ cond (ltb (position_or_len (λ x. x == octet) p) (length p)) (Some (position_or_len (λ x. x == octet) p)) None)
    → MatchOption r (to ≡ from + index_of octet (slice from to s)) (λ n. from + n ≡ from + index_of octet (slice from to s))
found octet s from to h k r e = go (ltb (position_or_len (λ x. x == octet) p) (length p)) refl where
  p : List ℕ
  p = take (to - from) (drop from s)

  here : index_of octet (slice from to s) ≡ position_or_len (λ x. x == octet) p
  here = rw (← part s from to h) (placed octet p)

  go : (b : Bool) → ltb (position_or_len (λ x. x == octet) p) (length p) ≡ b
      → MatchOption r (to ≡ from + index_of octet (slice from to s)) (λ n. from + n ≡ from + index_of octet (slice from to s))
  go true u = rw (e, u) (ap (λ (n : ℕ). from + n) (sym here))
  go false u =
      rw (e, u) (omega (
        arith,
        here,
        prefix_len-le-length (λ x. not (x == octet)) p,
        ltb-false _ _ u,
        length-take (to - from) (drop from s),
        length-drop from
            s,
      ))
