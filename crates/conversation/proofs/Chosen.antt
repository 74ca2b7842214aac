-- The choosing call's table: what a call that passes it has, and what its refusals say. The one place of this crate that knows the order of its rows.
-- Assumes nothing.
use Prim.Native.Nat.{ℕ, ◌+◌}
use mathlib.Core.Path.{◌≡◌, refl}
use mathlib.Core.Bool.{true, false}
use mathlib.Core.List.{List, [], ◌∷◌, ◌++◌}
use lib.ListN.{length}
use lib.Dec.{eqb, leb}
use borrow.Author.Tests.{eqb-true}
use Rattle.message.specs.Check.{Row, FirstFails}
use Rattle.message.proofs.Tables.{AllTrue}
use Rattle.schemes.specs.Sets.{named, below}
use Rattle.conversation.specs.declared.Record.{Record}
use Rattle.conversation.specs.State.{own_of, limit_rows}
use Rattle.conversation.specs.Outcomes.{row, room, fits}
use Rattle.conversation.specs.Writing.{then_fits, some_left, Speech, class_in, speech_fits, spoken}
use Rattle.conversation.specs.Choosing.{open_to, chose, may_choose, may_speak, choice_rows}
use Rattle.conversation.proofs.Rows.{front-true, back-true, true-behind, fails-one, fails-each, fails-until}

module _ (r : Record) (d : List ℕ) (m : ℕ) (s : Speech) where
  abbrev pub choice_table : List Row
  choice_table = limit_rows r ++ then_fits (choice_rows r m (speech_fits s) (class_in s)) (chose r m) d (spoken (chose r m) s)

  pub record Chosen : Type 0 where
    pub limits : AllTrue (limit_rows r)
    pub may : may_choose r ≡ true
    pub speaks : may_speak r m (class_in s) ≡ true
    pub marks : below r.count m ≡ true
    pub keeps : speech_fits s ≡ true
    pub left : some_left (named (own_of r) (open_to r m)) ≡ true
    pub fitting : leb (r.used + length (spoken (chose r m) s)) (room d) ≡ true

  pub choice-passed : AllTrue choice_table → Chosen
  choice-passed g =
      let (may, (marks, (fits-limits, (left, (speaks, (fitting, end)))))) =
      back-true (limit_rows r) (then_fits (choice_rows r m (speech_fits s) (class_in s)) (chose r m) d (spoken (chose r m) s)) g in
      record {
        limits = front-true (limit_rows r) (then_fits (choice_rows r m (speech_fits s) (class_in s)) (chose r m) d (spoken (chose r m) s)) g;
        may = may;
        speaks = speaks;
        marks = marks;
        keeps = fits-limits;
        left = left;
        fitting = fitting;
      }

  -- 17 is given where the stage is right and none is left
  pub choice-17 : (n : ℕ) → FirstFails n choice_table → n ≡ 17 → (may_choose r ≡ true) × (some_left (named (own_of r) (open_to r m)) ≡ false)
  choice-17 n g z =
      let l = some_left (named (own_of r) (open_to r m)) in
      let before : List Row = row 19 (below r.count m) ∷ row 25 (speech_fits s) ∷ [] in
      let w =
      fails-one 17 (limit_rows r ++ (row 18 (may_choose r) ∷ before)) l
      (row 18 (may_speak r m (class_in s)) ∷ fits (chose r m) d (length (spoken (chose r m) s)) ∷ []) n refl refl g z in
      (true-behind (limit_rows r) (row 18 (may_choose r)) before w.0, w.1)

  -- in another stage, and at the acceptor, it is 18
  pub choice-barred : may_choose r ≡ false → (n : ℕ) → FirstFails n choice_table → n ≡ 18
  choice-barred f n g =
      let more : List Row =
      row 19 (below r.count m) ∷ row 25 (speech_fits s) ∷ row 17 (some_left (named (own_of r) (open_to r m))) ∷ row 18 (may_speak r m (class_in s))
      ∷ fits (chose r m) d (length (spoken (chose r m) s)) ∷ [] in
      eqb-true _ _
      (fails-each (λ k. eqb k 18) (limit_rows r ++ (row 18 (may_choose r) ∷ [])) n refl
      (fails-until (limit_rows r) (row 18 (may_choose r)) more n f g))
