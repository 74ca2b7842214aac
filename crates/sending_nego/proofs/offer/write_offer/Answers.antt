use mathlib.Core.Path.{◌≡◌}
use lib.ListN.{length}
use Rattle.calls.proofs.Sizes.{sized}
use Rattle.conversation.specs.Writing.{NegoContent}
use Rattle.sending_nego.proofs.Offering.{offer-refused, offer-end, offer-list, offer-part, offer-ready, offer-written}
use borrow.Author.Rules.{rules}
use Rattle.sending_nego.proofs.offer.write_offer.Goals as goal

pub returns-in-Err : goal.returns-in-Err
returns-in-Err c =
    let full : length c.args.random ≡ 32 = search rules in
    let g : NegoContent =
    record { random = c.args.random; test = c.args.test; extensions = c.args.extensions; values = c.args.values.now } in
    offer-refused _ (sized _ _ c.well_formed.0) _ g full _ c.in-Err.ensures _ c.refused.ensures

pub overflow_mul-end : goal.overflow_mul-end
overflow_mul-end c =
    let full : length c.args.random ≡ 32 = search rules in
    let g : NegoContent =
    record { random = c.args.random; test = c.args.test; extensions = c.args.extensions; values = c.args.values.now } in
    record {
      fits = offer-end _ (sized _ _ c.well_formed.0) c.args.transcript.now g full c.in_default.ensures;
    }

pub slice_bounds-list-end : goal.slice_bounds-list-end
slice_bounds-list-end c =
    let full : length c.args.random ≡ 32 = search rules in
    let g : NegoContent =
    record { random = c.args.random; test = c.args.test; extensions = c.args.extensions; values = c.args.values.now } in
    offer-list _ (sized _ _ c.well_formed.0) c.args.transcript.now g full c.in_default.ensures

pub slice_bounds-append_nego-end : goal.slice_bounds-append_nego-end
slice_bounds-append_nego-end c =
    let full : length c.args.random ≡ 32 = search rules in
    let g : NegoContent =
    record { random = c.args.random; test = c.args.test; extensions = c.args.extensions; values = c.args.values.now } in
    offer-part _ (sized _ _ c.well_formed.0) c.args.transcript.now g full c.in_default.ensures

pub append_nego-next-requires : goal.append_nego-next-requires
append_nego-next-requires c =
    let full : length c.args.random ≡ 32 = search rules in
    let g : NegoContent =
    record { random = c.args.random; test = c.args.test; extensions = c.args.extensions; values = c.args.values.now } in
    offer-ready _ (sized _ _ c.well_formed.0) _ g full c.in_default.ensures

pub returns : goal.returns
returns c =
    let full : length c.args.random ≡ 32 = search rules in
    let g : NegoContent =
    record { random = c.args.random; test = c.args.test; extensions = c.args.extensions; values = c.args.values.now } in
    offer-written _ (sized _ _ c.well_formed.0) _ g full c.in_default.ensures _ _
    c.append_nego-next.ensures _ c.accepted.ensures
