use mathlib.Core.Path.{◌≡◌, refl}
use Rattle.script.specs.Grammar.{form_of, kind_of, number_of_verb}
use Rattle.script.proofs.Lines.{form-rest, from-rest-extensions, from-rest-alerts, from-rest-bad, from-rest-good}
use Rattle.script.proofs.with_rest.Goals as goal

pub returns-in-Extensions : goal.returns-in-Extensions
returns-in-Extensions c =
    let k : 6 ≡ (form_of (number_of_verb c.args.c.verb)).rest = rw c.in-Extensions.is at (form-rest c.form.result _ c.form.ensures) in
    from-rest-extensions _ _ _ _ _ _ _ 6 k refl _ c.with_random.ensures

pub returns-in-Alerts : goal.returns-in-Alerts
returns-in-Alerts c =
    let k : 9 ≡ (form_of (number_of_verb c.args.c.verb)).rest = rw c.in-Alerts.is at (form-rest c.form.result _ c.form.ensures) in
    from-rest-alerts _ _ _ _ _ _ _ 9 k refl _ c.with_items.ensures

pub returns-in_err-length-in-Plain : goal.returns-in_err-length-in-Plain
returns-in_err-length-in-Plain c =
    let k : kind_of c.in-Plain.kind ≡ (form_of (number_of_verb c.args.c.verb)).rest = rw c.in-Plain.is at (form-rest c.form.result _ c.form.ensures) in
    rw c.from_residual.ensures (from-rest-bad _ _ _ _ _ _ _ _ k c.in-Plain.kind refl c.in_err-length-in-Plain.ensures)

pub returns-in_ok-length-in-Plain : goal.returns-in_ok-length-in-Plain
returns-in_ok-length-in-Plain c =
    let k : kind_of c.in-Plain.kind ≡ (form_of (number_of_verb c.args.c.verb)).rest = rw c.in-Plain.is at (form-rest c.form.result _ c.form.ensures) in
    from-rest-good _ _ _ _ _ _ _ _ k c.in-Plain.kind refl _ _ c.in_ok-length-in-Plain.ensures _ c.none.ensures
