use Rattle.negotiating.proofs.Choices.{choose-ready, choose-refused, choose-made}
use Rattle.negotiating.proofs.choice.choose_and.Goals as goal

pub returns-in-Err : goal.returns-in-Err
returns-in-Err g c s of fit w = choose-refused _ _ _ s _ (rw (of, fit) c.in-Err.ensures) _ c.refused.ensures

pub chosen_record-chosen-requires : goal.chosen_record-chosen-requires
chosen_record-chosen-requires g c = choose-ready _ _ _ _ c.in_default.ensures

pub name_choice-requires : goal.name_choice-requires
name_choice-requires g c = choose-ready _ _ _ _ c.in_default.ensures

pub returns : goal.returns
returns g c s of fit w =
    choose-made _ _ _ s (rw (of, fit) c.in_default.ensures) _ c.chosen_record-chosen.ensures _ _ (w _ _ _ _ c.write-written.ensures) _
    c.name_choice.ensures
