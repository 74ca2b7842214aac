use borrow.Author.Rules.{rules}
use lib.Seq.{length-take-le}
use mathlib.Core.Path.{sym}
use Rattle.envelope_write.proofs.Identifiers.{ids-none, ids-fit, ids-first, ids-rest, ids-put, ids-less}
use Rattle.envelope_write.proofs.+put_identifiers.Goals as goal

pub returns-then-sizes-eq0 : goal.returns-then-sizes-eq0
returns-then-sizes-eq0 t c = ids-none _ _ _ _ c.if-sizes-eq0.true

pub slice_bounds-put_element-end : goal.slice_bounds-put_element-end
slice_bounds-put_element-end t c =
    sym (length-take-le _ _ (ids-fit c.args.sizes.now c.args.octets.now c.if-sizes-eq0.false c.requires.sum))

pub put_element-next-requires : goal.put_element-next-requires
put_element-next-requires t c = let f = ids-first _ _ _ _ c.if-sizes-eq0.false c.requires in (f.room, f.small)

pub slice_bounds-put_identifiers-count-2 : goal.slice_bounds-put_identifiers-count-2
slice_bounds-put_identifiers-count-2 t c =
    let f = ids-fit c.args.sizes.now c.args.octets.now c.if-sizes-eq0.false c.requires.sum in search rules

pub slice_bounds-put_identifiers-start-2 : goal.slice_bounds-put_identifiers-start-2
slice_bounds-put_identifiers-start-2 t c =
    let f = ids-fit c.args.sizes.now c.args.octets.now c.if-sizes-eq0.false c.requires.sum in search rules

pub put_identifiers-requires : goal.put_identifiers-requires
put_identifiers-requires t c = (
  ids-less c.args.sizes.now _ c.if-sizes-eq0.false c.decreases,
  ids-rest c.args.sizes.now c.args.octets.now _ _ _ _ c.if-sizes-eq0.false c.requires c.put_element-next.ensures,
)

pub returns : goal.returns
returns t c =
    ids-put _ _ _ _ _ _ _ _ c.if-sizes-eq0.false c.requires c.put_element-next.ensures c.put_identifiers.ensures
