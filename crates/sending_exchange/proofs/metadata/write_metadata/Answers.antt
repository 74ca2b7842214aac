use Prim.Native.Nat.{◌<◌}
use mathlib.Core.Path.{◌≡◌}
use native.Mathlib.Omega.{arith}
use lib.ListN.{length}
use borrow.Author.Rules.{rules}
use Rattle.calls.proofs.Sizes.{sized}
use Rattle.sending_exchange.proofs.Tellings.{metadata-refused, metadata-inside, metadata-ready, metadata-place, metadata-written}
use Rattle.sending_exchange.proofs.metadata.write_metadata.Goals as goal

pub returns-in-Err : goal.returns-in-Err
returns-in-Err c =
    let full : length c.args.id ≡ 16 = search rules in
    metadata-refused _ (sized _ _ c.well_formed.0) _ _ full _ _ c.in-Err.ensures _ c.refused.ensures

pub find_own-place-requires : goal.find_own-place-requires
find_own-place-requires c =
    metadata-inside _ c.args.id (length c.args.value.now) _ c.in_default.ensures

pub overflow_cast-place : goal.overflow_cast-place
overflow_cast-place c =
    let h : c.find_own-place.result < 16 =
    metadata-place _ c.args.id (length c.args.value.now) _ c.in_default.ensures _ c.find_own-place.ensures in
    omega arith

pub with_bit-metadata-requires : goal.with_bit-metadata-requires
with_bit-metadata-requires c =
    metadata-place _ c.args.id (length c.args.value.now) _ c.in_default.ensures _ c.find_own-place.ensures

pub append_payload-next-requires : goal.append_payload-next-requires
append_payload-next-requires c =
    let full : length c.args.id ≡ 16 = search rules in
    metadata-ready _ (sized _ _ c.well_formed.0) _ _ full _ c.in_default.ensures

pub returns : goal.returns
returns c =
    let full : length c.args.id ≡ 16 = search rules in
    metadata-written _ (sized _ _ c.well_formed.0) _ _ full _ c.in_default.ensures _ c.find_own-place.ensures _
    c.with_bit-metadata.ensures _ _ c.append_payload-next.ensures _ c.accepted.ensures
