-- The writer's record after its messages: what it counts, and what it keeps.
-- Assumes nothing.
use Prim.Native.Nat.{ℕ, ◌+◌}
use mathlib.Core.Path.{◌≡◌, refl, sym, ◌∙◌}
use mathlib.Core.Bool.{Bool, true, false, cond}
use mathlib.Core.List.{List, [], ◌∷◌, ◌++◌}
use native.Mathlib.Omega.{arith}
use native.Mathlib.Nat.{add-zero}
use lib.ListN.{length, length-append}
use lib.Dec.{eqb}
use Rattle.token.specs.Split.{join}
use Rattle.conversation.specs.declared.Record.{Record}
use Rattle.conversation.specs.Turns.{ANSWER, writes}
use Rattle.conversation.specs.Choosing.{chose, may_choose}
use Rattle.sides.specs.Turning.{with_marks, begun, said, said_all, spoke}

pub said-snoc : (w : Record) (ms : List (List ℕ)) (m : List ℕ) → said_all w (ms ++ (m ∷ [])) ≡ said (said_all w ms) m
unfolding said_all
said-snoc w [] m = refl
said-snoc w (k ∷ ms) m = said-snoc (said w k) ms m

said-counts : (w : Record) (ms : List (List ℕ))
    → ((said_all w ms).used ≡ w.used + length (join ms)) × ((said_all w ms).sequence ≡ w.sequence + length ms)
unfolding said_all said
said-counts w [] = (sym (add-zero w.used), sym (add-zero w.sequence))
said-counts w (m ∷ ms) = let i = said-counts (said w m) ms in (omega (arith, i.0, length-append m (join ms)), omega (arith, i.1))

begun-counts : (m : ℕ) (w : Record) → ((begun m w).used ≡ w.used) × ((begun m w).sequence ≡ w.sequence)
unfolding begun
begun-counts m w = go (may_choose w) (eqb (writes w) ANSWER) where
  go : (a b : Bool)
      → ((cond a (chose w m) (cond b (with_marks m w) w)).used ≡ w.used) × ((cond a (chose w m) (cond b (with_marks m w) w)).sequence ≡ w.sequence)
  go true b = (refl, refl)
  go false true = (refl, refl)
  go false false = (refl, refl)

pub spoke-counts : (m : ℕ) (w : Record) (ms : List (List ℕ))
    → ((spoke m w ms).used ≡ w.used + length (join ms)) × ((spoke m w ms).sequence ≡ w.sequence + length ms)
spoke-counts m w ms = let a = said-counts (begun m w) ms in let b = begun-counts m w in (omega (arith, a.0, b.0), omega (arith, a.1, b.1))

said-keeps : (w : Record) (ms : List (List ℕ)) → (said_all w ms).count ≡ w.count
unfolding said_all said
said-keeps w [] = refl
said-keeps w (m ∷ ms) = said-keeps (said w m) ms

pub spoke-keeps : (m : ℕ) (w : Record) (ms : List (List ℕ)) → (spoke m w ms).count ≡ w.count
unfolding begun
spoke-keeps m w ms = said-keeps (begun m w) ms ∙ go (may_choose w) (eqb (writes w) ANSWER) where
  go : (a b : Bool) → (cond a (chose w m) (cond b (with_marks m w) w)).count ≡ w.count
  go true b = refl
  go false true = refl
  go false false = refl
