use Rattle.std.proofs.Common.{rules, ◌≡◌, refl, arith, length}
use Rattle.blanking.proofs.Wipes.{rooms, room-cells, room-own, room-header, marks-all}
use Rattle.blanking.proofs.mark_message.Goals as goal

pub le_u32-requires : goal.le_u32-requires
le_u32-requires c = search rooms

pub slice_bounds-cells-end : goal.slice_bounds-cells-end
slice_bounds-cells-end c = search rooms

pub mark_kind-requires : goal.mark_kind-requires
mark_kind-requires c =
    let sized : length c.clear.new.map ≡ length c.args.m.now = search (rules, room-cells) in
    (omega (arith, sized, c.requires.few), search rooms)

pub returns : goal.returns
returns c =
    let sized : length c.clear.new.map ≡ length c.args.m.now = search (rules, room-cells) in
    let sized1 : length c.mark_kind.new.map ≡ length c.args.m.now = search (rules, sized) in
    marks-all _ _ (room-own _ _ c.requires _ c.le_u32.ensures) (room-header _ _ c.requires _ c.le_u32.ensures) _ _ _ sized refl c.clear.ensures
    c.mark_kind.ensures sized1 _
