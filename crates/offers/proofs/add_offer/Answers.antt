use Rattle.offers.proofs.Entering.{offers}
use borrow.Author.Rules.{rules}
use Rattle.offers.proofs.add_offer.Goals as goal

pub tick-counts-requires : goal.tick-counts-requires
tick-counts-requires c = (search offers, search (rules, offers), search offers)

pub one_beyond-beyond-requires : goal.one_beyond-beyond-requires
one_beyond-beyond-requires c = search (rules, offers)

pub overflow_add-result : goal.overflow_add-result
overflow_add-result c = record { fits = search offers }

pub returns : goal.returns
returns c = search offers
