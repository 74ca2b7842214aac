-- "In a run the call and those accepted (not refused) before it decide 18": a run's two ends are those of its accepted calls alone. Of any two ends,
-- calls that close a record decide too.
-- Assumes nothing.
use Prim.Native.Nat.{ℕ}
use mathlib.Core.Path.{◌≡◌, refl, sym, ap, ◌∙◌}
use mathlib.Core.Bool.{Bool, true, false, cond, ◌||◌}
use mathlib.Core.Logic.{inl, inr}
use mathlib.Core.List.{List, [], ◌∷◌, Memᴰ}
use lib.Dec.{eqb}
use borrow.Author.Tests.{eqb-false, ne_eqb}
use Rattle.octets.proofs.Bools.{which, no_true}
use Rattle.conversation.specs.State.{closed}
use Rattle.conversation.specs.Runs.{Call, End, act, moved, World, world, outcome_at, next, ends, Entry, run, is_accepted}
use Rattle.conversation.specs.Claims.{decides, RefusedStays, accepted_of, deciding_of, DecidingEnds, AcceptedEnds}
use Rattle.conversation.proofs.Unchanged.{refused-unchanged}
use Rattle.conversation.proofs.Logs.{twelve-never-run}

or-false : (a b : Bool) → a || b ≡ false → (a ≡ false) × (b ≡ false)
or-false true b h = no_true (sym h)
or-false false b h = (refl, h)

-- an end after a call that does not decide is what it was: record, transcript and turn
end_stays : (e : End) (peer : List ℕ) (k : Call) → decides (act e peer k).answer ≡ false → moved e k (act e peer k) ≡ e
end_stays e peer k h =
    let (a, c) = or-false (is_accepted (act e peer k).answer) (eqb (act e peer k).answer.refusal 12) h in
    let u = refused-unchanged e peer k (eqb-false _ _ a) in
    let n : (act e peer k).answer.next ≡ e.record_of = u.0 ∙ ap (λ (b : Bool). cond b (closed e.record_of) e.record_of) c in
    rw (a, n, u.1)

pub refused-stays : RefusedStays
refused-stays w false k h = rw (end_stays w.i w.a.turn k h)
refused-stays w true k h = rw (end_stays w.a w.i.turn k h)

pub deciding-ends : DecidingEnds
deciding-ends w [] = refl
deciding-ends w (c ∷ cs) = elim (which (decides (outcome_at w c.0 c.1).answer)) [
  | inl h ↦ rw h (deciding-ends (next w c.0 c.1) cs)
  | inr h ↦ rw h (
      ap (λ (v : World). ends v (deciding_of (next w c.0 c.1) cs)) (sym (refused-stays w c.0 c.1 h))
      ∙ deciding-ends (next w c.0 c.1) cs)
]

-- where no call is refused with 12, the accepted calls are those that decide
same-calls : (w : World) (cs : List (Bool × Call)) → ((x : Entry) → Memᴰ x (run w cs) → x.said.refusal ≡ 12 → ⊥)
    → deciding_of w cs ≡ accepted_of w cs
same-calls w [] h = refl
same-calls w (c ∷ cs) h =
    let n : eqb (outcome_at w c.0 c.1).answer.refusal 12 ≡ false = ne_eqb _ 12 (h _ (Memᴰ.head refl)) in
    let i = same-calls (next w c.0 c.1) cs (λ x m. h x (Memᴰ.tail m)) in
    elim (which (is_accepted (outcome_at w c.0 c.1).answer)) [
      | inl a ↦ rw (a, i)
      | inr a ↦ rw (a, n, i)
    ]

pub accepted-ends : AcceptedEnds
accepted-ends o cs t = ap (ends (world o)) (sym (same-calls (world o) cs (twelve-never-run o cs t))) ∙ deciding-ends (world o) cs
