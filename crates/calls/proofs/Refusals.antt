-- Refusals, in the words of the code: the tests of a call after a record's limits, and those of a call that writes. A check answers a refusal e, or none,
-- where the first test that fails has the number 0.
-- Assumes nothing.
use Prim.Native.Nat.{ℕ, ◌+◌, ◌≤◌, min}
use mathlib.Core.Path.{◌≡◌, refl, sym, ap, ◌∙◌}
use mathlib.Core.Bool.{Bool, true, false, cond}
use mathlib.Core.List.{List, [], ◌∷◌, ◌++◌}
use native.Mathlib.Omega.{arith}
use lib.Dec.{eqb}
use borrow.Author.Tests.{leb-true, ltb-true}
use Rattle.std.proofs.Common.{Option, None, Some}
use Rattle.std.specs.Option.{is_some}
use Rattle.octets.proofs.Bools.{no_true}
use Rattle.refusal.specs.declared.Refusal.{Refusal}
use Rattle.refusal.specs.Refusals.{number_of}
use Rattle.refusal.proofs.Numbers.{number_some}
use Rattle.message.specs.Check.{Row, first_failing}
use Rattle.message.proofs.Tables.{AllTrue, without}
use Rattle.conversation.specs.declared.Record.{Record}
use Rattle.conversation.specs.State.{limit_rows}
use Rattle.conversation.specs.Turns.{place_after, may_write}
use Rattle.conversation.specs.Places.{allowed}
use Rattle.conversation.specs.Outcomes.{Outcome, refused, decide, row, fits}
use Rattle.conversation.specs.Writing.{stage_rows}
use Rattle.conversation.proofs.Rows.{front-true, back-true}
use Rattle.conversation.proofs.Decides.{first-none, first-stop, first_on, decide-passed, decide-refused, decide-behind}
use Rattle.calls.specs.Calls.{room_for, call_refusal, stage_refusal, write_refusal, Inside}

-- ---- the tests of a call after a record's limits
pub limits-inside : (r : Record) (rows : List Row) → AllTrue (limit_rows r ++ rows) → Inside r
limits-inside r rows h =
    let (some, (few, (different, (marks, (common, (told, (kept, (chosen, (used, (sequence, rest)))))))))) = h in
    record { few = leb-true _ _ few; different = different; bound = ltb-true _ _ common; used = leb-true _ _ used; sequence = leb-true _ _ sequence }

some : (e : Refusal) → number_of e ≡ 0 → ⊥
some e z = omega (arith, number_some e)

module _ (r : Record) (rows : List Row) where
  pub limits-stop : (e : Refusal) → number_of e ≡ first_failing (limit_rows r) → number_of e ≡ call_refusal r rows
  unfolding call_refusal
  limits-stop e e-is = e-is ∙ first-stop (limit_rows r) rows (λ z. some e (e-is ∙ z))

  module _ (z : 0 ≡ first_failing (limit_rows r)) where
    given : AllTrue (limit_rows r)
    given = first-none (limit_rows r) refl (sym z)

    pub limits-within : Inside r
    limits-within = limits-inside r [] given

    pub limits-on : (x : ℕ) → x ≡ first_failing rows → x ≡ call_refusal r rows
    unfolding call_refusal
    limits-on x e = e ∙ first_on (limit_rows r) rows given

-- the call, by its refusal
module _ (r : Record) (rows : List Row) where
  pub call-refused : (e : Refusal) → number_of e ≡ call_refusal r rows → (d : List ℕ) (action : Outcome)
      → refused r d (number_of e) 0 ≡ decide (limit_rows r ++ rows) r d action
  unfolding call_refusal
  call-refused e e-is d action =
      ap (λ (k : ℕ). refused r d k 0) e-is ∙ decide-refused (limit_rows r ++ rows) r d action (λ z. some e (e-is ∙ z))

  module _ (w : without 0 rows ≡ true) (z : 0 ≡ call_refusal r rows) where
    pub call-given : AllTrue (limit_rows r ++ rows)
    unfolding call_refusal
    call-given = first-none (limit_rows r ++ rows) w (sym z)

    pub call-passed : (d : List ℕ) (action : Outcome) → action ≡ decide (limit_rows r ++ rows) r d action
    call-passed d action = decide-passed (limit_rows r ++ rows) r d action call-given

-- ---- 18
-- a place in the turn, as the code has it
module _ (n : ℕ) (p : Option ℕ) (p-is : p ≡ allowed n) where
  pub place-none : is_some p ≡ false → eqb n 0 ≡ true
  place-none e = go (eqb n 0) (ap is_some (sym p-is) ∙ e) where
    go : (b : Bool) → is_some (cond b None (Some n)) ≡ false → b ≡ true
    go true q = refl
    go false q = no_true (sym q)

  pub place-some : is_some p ≡ true → eqb n 0 ≡ false
  place-some e = go (eqb n 0) (ap is_some (sym p-is) ∙ e) where
    go : (b : Bool) → is_some (cond b None (Some n)) ≡ true → b ≡ false
    go true q = no_true q
    go false q = refl

module _ (r : Record) (kind : ℕ) where
  pub stage-limits : (e : Refusal) → number_of e ≡ first_failing (limit_rows r) → number_of e ≡ stage_refusal r kind
  unfolding stage_refusal
  stage-limits = limits-stop r (row 18 (may_write r kind) ∷ [])

  module _ (z : 0 ≡ first_failing (limit_rows r)) (p : Option ℕ) (p-is : p ≡ allowed (place_after r kind)) where
    pub stage-kind : is_some p ≡ false → 18 ≡ stage_refusal r kind
    unfolding stage_refusal
    stage-kind e = limits-on r (row 18 (may_write r kind) ∷ []) z 18 (rw (place-none (place_after r kind) p p-is e))

    pub stage-ok : is_some p ≡ true → 0 ≡ stage_refusal r kind
    unfolding stage_refusal
    stage-ok e = limits-on r (row 18 (may_write r kind) ∷ []) z 0 (rw (place-some (place_after r kind) p p-is e))

module _ (r : Record) (kind : ℕ) (z : 0 ≡ stage_refusal r kind) where
  stage-given : AllTrue (stage_rows r kind)
  unfolding stage_refusal
  stage-given = call-given r (row 18 (may_write r kind) ∷ []) refl z

  pub stage-inside : Inside r
  stage-inside = limits-inside r (row 18 (may_write r kind) ∷ []) stage-given

-- ---- a call that writes, with the tests of its own between 18 and 16
abbrev behind : Record → List Row → ℕ → ℕ → List Row
behind r rows size len = rows ++ (row 16 (room_for r.used size len) ∷ [])

module _ (r : Record) (kind : ℕ) (rows : List Row) (size len : ℕ) where
  pub write-stage : (e : Refusal) → number_of e ≡ stage_refusal r kind → number_of e ≡ write_refusal r kind rows size len
  unfolding call_refusal stage_refusal write_refusal
  write-stage e e-is = e-is ∙ first-stop (stage_rows r kind) (behind r rows size len) (λ z. some e (e-is ∙ z))

  pub write-on : 0 ≡ stage_refusal r kind → (x : ℕ) → x ≡ first_failing (behind r rows size len) → x ≡ write_refusal r kind rows size len
  unfolding call_refusal write_refusal
  write-on z x e = e ∙ first_on (stage_rows r kind) (behind r rows size len) (stage-given r kind z)

-- what has passed where it is not refused
module _ (r : Record) (kind : ℕ) (rows : List Row) (size len : ℕ) (z : 0 ≡ write_refusal r kind rows size len)
    (sure : without 0 (behind r rows size len) ≡ true) where
  passed : AllTrue (stage_rows r kind ++ behind r rows size len)
  unfolding write_refusal
  passed = call-given r (row 18 (may_write r kind) ∷ behind r rows size len) sure z

  pub passed-inside : Inside r
  passed-inside = limits-inside r (row 18 (may_write r kind) ∷ behind r rows size len) passed

  pub passed-own : AllTrue rows
  passed-own = front-true rows (row 16 (room_for r.used size len) ∷ []) (back-true (stage_rows r kind) (behind r rows size len) passed)

  pub passed-room : r.used + size ≤ min len 65535
  passed-room = leb-true _ _ (back-true (stage_rows r kind ++ rows) (row 16 (room_for r.used size len) ∷ []) passed).0

-- the tests before 16 decide whether a message is measured: where they pass, its length may stand for a number
pub measured : (r : Record) (d : List ℕ) (kind : ℕ) (rows : List Row) (size length-of : ℕ) → (Inside r → AllTrue rows → length-of ≡ size)
    → (action : Outcome)
    → decide (stage_rows r kind ++ (rows ++ (fits r d size ∷ []))) r d action
    ≡ decide (stage_rows r kind ++ (rows ++ (fits r d length-of ∷ []))) r d action
measured r d kind rows size length-of e action =
    decide-behind (stage_rows r kind ++ rows) (fits r d size ∷ []) (fits r d length-of ∷ []) r d action
    (λ g. rw (e (limits-inside r (row 18 (may_write r kind) ∷ rows) g) (back-true (stage_rows r kind) rows g)))
