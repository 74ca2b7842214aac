use Rattle.negotiating.proofs.Choices.{choices}
use borrow.Author.Rules.{rules}
use Rattle.negotiating.proofs.choice.name_choice.Goals as goal

pub returns-then-a-ne0 : goal.returns-then-a-ne0
returns-then-a-ne0 c = search choices

pub id_of-requires : goal.id_of-requires
id_of-requires c = search (rules, choices)

pub returns : goal.returns
returns c = search choices
