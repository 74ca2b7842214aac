use Rattle.encode_exchange.proofs.Storing.{storings, exchange-unfit}
use borrow.Author.Rules.{rules}
use Rattle.encode_exchange.proofs.write.Goals as goal

pub returns-then-kind-lt-INITIATOR_META_DATA : goal.returns-then-kind-lt-INITIATOR_META_DATA
returns-then-kind-lt-INITIATOR_META_DATA c = exchange-unfit _ _ _ _ c.then-kind-lt-INITIATOR_META_DATA.either

pub returns-then-not-has_room : goal.returns-then-not-has_room
returns-then-not-has_room c = search (rules, storings)

pub returns : goal.returns
returns c = search (rules, storings)
