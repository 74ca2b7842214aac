use Rattle.encode_verify.proofs.Storing.{storings, verify-unfit}
use borrow.Author.Rules.{rules}
use Rattle.encode_verify.proofs.write.Goals as goal

pub returns-then-heading-ne-VERIFY : goal.returns-then-heading-ne-VERIFY
returns-then-heading-ne-VERIFY c = verify-unfit _ _ _ _ c.then-heading-ne-VERIFY.either

pub returns-then-not-has_room : goal.returns-then-not-has_room
returns-then-not-has_room c = search (rules, storings)

pub returns : goal.returns
returns c = search (rules, storings)
