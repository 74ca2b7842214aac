-- What an answer gives.
-- Assumes nothing.
use mathlib.Core.Path.{◌≡◌, sym, ap, ◌∙◌}
use Rattle.std.specs.Prelude.{Result, Ok, Err, IsErrAnd}
use Rattle.refusal.specs.declared.Refusal.{Refusal}
use Rattle.refusal.specs.Refusals.{number_of}
use Rattle.der.specs.Got.{Got, ok, no, bind}
use Rattle.der.specs.Holder.{got, Answers}

module _ {T A : Type 0} {show : T → A} {Placed : T → Type 0} {g : Got A} {r : Result T Refusal} (says : Answers show Placed g r) where
  pub got-no : (e : Refusal) → r ≡ Err e → g ≡ no (number_of e)
  got-no e k = sym says.same ∙ ap (got show) k

  pub got-ok : (x : T) → r ≡ Ok x → g ≡ ok (show x)
  got-ok x k = sym says.same ∙ ap (got show) k

  pub got-placed : (x : T) → r ≡ Ok x → Placed x
  got-placed x k = rw k at says.placed

  -- a refusal is passed on: x is what `?` returns
  pub passed-on : (e : Refusal) → r ≡ Err e → {U B : Type 0} {show' : U → B} {Placed' : U → Type 0} (f : A → Got B) (x : Result U Refusal)
      → IsErrAnd x (λ y. y ≡ e) → Answers show' Placed' (bind g f) x
  passed-on e k f (Ok u) h = absurd h
  passed-on e k f (Err y) h = record { same = sym (rw (got-no e k) (ap (λ (z : Refusal). no (number_of z)) (sym h))); placed = tt }

  -- a value is read on from
  pub continued : (x : T) → r ≡ Ok x → {U B : Type 0} {show' : U → B} {Placed' : U → Type 0} (f : A → Got B) (y : Result U Refusal)
      → Answers show' Placed' (f (show x)) y → Answers show' Placed' (bind g f) y
  continued x k f y h = record { same = h.same ∙ sym (rw (got-ok x k)); placed = h.placed }
