use borrow.Author.Rules.{rules}
use Rattle.turning.proofs.Owing.{choices, choice-not}
use Rattle.turning.proofs.owed.names_choice.Goals as goal

pub returns-then-left-eq0 : goal.returns-then-left-eq0
returns-then-left-eq0 c = choice-not c.args.w c.requires.0 _ c.requires.1 _ _ c.choose_kept-left.ensures c.then-left-eq0.either

pub returns : goal.returns
returns c = search (rules, choices)
