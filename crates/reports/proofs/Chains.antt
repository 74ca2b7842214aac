-- Each line as the calls that write it, one after the other, in the words of the code: t is the text before, u the text after.
-- Assumes nothing.
use Prim.Native.Nat.{ℕ}
use mathlib.Core.Path.{◌≡◌, refl}
use mathlib.Core.Bool.{Bool, true, false}
use mathlib.Core.List.{List, [], ◌∷◌, ◌++◌}
use lib.Dec.{eqb}
use borrow.Author.Tests.{eq-eqb, ne_eqb}
use Rattle.text.specs.Text.{quoted, id_text, Text, written}
use Rattle.text.proofs.Pieces.{then}
use Rattle.conversation.specs.declared.Answer.{Answer}
use Rattle.script.specs.declared.Command.{Command}
use denote.Enum.Bare.{sameb}
use Rattle.script.specs.declared.Verb.{Verb}
use Rattle.script.specs.declared.Verb.TheVariants as call
use Rattle.script.specs.contracts.Verb.{the_type}
use Rattle.script.specs.Grammar.{number_of_verb}
use Rattle.reports.specs.Reports.{wrote_text, choice_text, names_choice, numbers_line, report_of}

module _ (t a b u : Text) (p x : List ℕ) (first : a ≡ written (p ∷ x ∷ []) t) where
  pub two_fields : (q y z : List ℕ) → b ≡ written (q ∷ y ∷ []) a → u ≡ written (z ∷ []) b → u ≡ written (p ∷ x ∷ q ∷ y ∷ z ∷ []) t
  two_fields q y z f g = then t b u _ _ (then t a b _ _ first f) g

  pub field-then : (q : List ℕ) (ps : List (List ℕ)) → b ≡ written (q ∷ []) a → u ≡ written ps b → u ≡ written (p ∷ x ∷ q ∷ ps) t
  field-then q ps f g = then t b u _ _ (then t a b _ _ first f) g

pub choice-then : (t a b e u : Text) (w i q y z : List ℕ) → a ≡ written (w ∷ []) t → b ≡ written (id_text i) a → e ≡ written (q ∷ y ∷ []) b
    → u ≡ written (z ∷ []) e
    → u ≡ written (w ∷ (id_text i ++ (q ∷ y ∷ z ∷ []))) t
choice-then t a b e u w i q y z f g h k = then t a u _ _ f (then a b u _ _ g (then b e u _ _ h k))

-- whether a verb is `open`, and whether it is `read`
pub opens : (v : Verb) → sameb the_type v call.Open ≡ eqb (number_of_verb v) 10
opens call.Offer = refl
opens call.Reply = refl
opens call.Metadata = refl
opens call.Exchange = refl
opens call.Verify = refl
opens call.Alert = refl
opens call.Read = refl
opens call.Turn = refl
opens call.Open = refl
opens call.ChooseExchange = refl
opens call.ChooseVerify = refl
opens call.ChooseAlert = refl
opens call.Other = refl

pub reads : (v : Verb) → sameb the_type v call.Read ≡ eqb (number_of_verb v) 7
reads call.Offer = refl
reads call.Reply = refl
reads call.Metadata = refl
reads call.Exchange = refl
reads call.Verify = refl
reads call.Alert = refl
reads call.Read = refl
reads call.Turn = refl
reads call.Open = refl
reads call.ChooseExchange = refl
reads call.ChooseVerify = refl
reads call.ChooseAlert = refl
reads call.Other = refl

module _ (c : Command) (a : Answer) (message : List ℕ) (t u : Text) where
  pub report-refused : (a.refusal ≡ 0 → ⊥) → u ≡ written (numbers_line (quoted "refused ") a.refusal (quoted " at=") a.place.0) t
      → u ≡ written (report_of c a message) t
  unfolding report_of
  report-refused h e = rw (ne_eqb _ _ h) e

  module _ (accepted : a.refusal ≡ 0) where
    pub report-opened : true ≡ sameb the_type c.verb call.Open → u ≡ written (quoted "opened\n" ∷ []) t → u ≡ written (report_of c a message) t
    unfolding report_of
    report-opened h e = rw (eq-eqb _ _ accepted, ← opens c.verb, ← h) e

    module _ (called : false ≡ sameb the_type c.verb call.Open) where
      pub report-read : true ≡ sameb the_type c.verb call.Read → u ≡ written (numbers_line (quoted "read messages=") a.messages (quoted " length=") c.length) t
          → u ≡ written (report_of c a message) t
      unfolding report_of
      report-read h e = rw (eq-eqb _ _ accepted, ← opens c.verb, ← called, ← reads c.verb, ← h) e

      module _ (no-reading : false ≡ sameb the_type c.verb call.Read) where
        module _ (w : Text) (w-is : w ≡ written (wrote_text message) t) (b : Bool) (b-is : b ≡ names_choice (number_of_verb c.verb)) where
          pub report-choice : b ≡ true → u ≡ written (choice_text a.choice a.left) w → u ≡ written (report_of c a message) t
          unfolding report_of
          report-choice h e = rw (eq-eqb _ _ accepted, ← opens c.verb, ← called, ← reads c.verb, ← no-reading, ← b-is, h) (then t w u _ _ w-is e)

          pub report-wrote : b ≡ false → u ≡ written (quoted "\n" ∷ []) w → u ≡ written (report_of c a message) t
          unfolding report_of
          report-wrote h e = rw (eq-eqb _ _ accepted, ← opens c.verb, ← called, ← reads c.verb, ← no-reading, ← b-is, h) (then t w u _ _ w-is e)

pub ruleset reports = (report-refused, report-opened, report-read, report-choice, report-wrote)
