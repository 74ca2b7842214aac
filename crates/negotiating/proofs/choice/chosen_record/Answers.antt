use Rattle.negotiating.proofs.Choices.{choices}
use Rattle.negotiating.proofs.choice.chosen_record.Goals as goal

pub returns : goal.returns
returns c = search choices
