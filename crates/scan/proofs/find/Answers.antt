use Rattle.std.proofs.Common.{rules, tests, ◌==◌}
use Rattle.std.proofs.lemmas.Iterator.{YieldsList-from_slice}
use Rattle.std.proofs.lemmas.Iterator.Search.{position_from_yields_List}
use Rattle.scan.proofs.Steps.{found}
use Rattle.scan.proofs.find.Goals as goal

pub returns-in-Some-clause-place : goal.returns-in-Some-clause-place
returns-in-Some-clause-place c =
    let e = position_from_yields_List (λ x. x == c.args.octet) _ _ c.position.result c.position.ensures.ran (YieldsList-from_slice _ c.iter.ensures.rest)
    (λ x b q k. search (rules, tests)) in
    rw c.in-Some.is at (found c.args.octet c.args.s.now c.args.from c.args.to c.requires.in_order c.requires.within _ e)

pub returns-in-None-clause-place : goal.returns-in-None-clause-place
returns-in-None-clause-place c =
    let e = position_from_yields_List (λ x. x == c.args.octet) _ _ c.position.result c.position.ensures.ran (YieldsList-from_slice _ c.iter.ensures.rest)
    (λ x b q k. search (rules, tests)) in
    rw c.in-None.is at (found c.args.octet c.args.s.now c.args.from c.args.to c.requires.in_order c.requires.within _ e)
