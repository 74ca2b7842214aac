use Rattle.coverage.proofs.Marks.{held_fits, counted-all}
use mathlib.Core.Path.{◌≡◌}
use lib.ListN.{length}
use native.Mathlib.Omega.{arith}
use borrow.Author.Rules.{rules}
use Rattle.coverage.proofs.count_kind.Goals as goal

pub overflow_sub-result : goal.overflow_sub-result
overflow_sub-result c =
    let cleared = c.clear in
    let marks = c.mark_kind in
    let kept : length cleared.new.map ≡ length c.args.map.now = search rules in
    omega (
      arith,
      held_fits _ _ c.requires.3 c.requires.2 c.args.map.now _ _ c.requires.1 kept cleared.ensures marks.ensures _
          c.header-header.ensures _ c.swept-held.ensures,
    )

pub returns : goal.returns
returns c =
    let cleared = c.clear in
    let marks = c.mark_kind in
    let kept : length cleared.new.map ≡ length c.args.map.now = search rules in
    counted-all _ _ c.requires.3 c.requires.2 c.args.map.now _ _ c.requires.1 kept cleared.ensures marks.ensures _
    c.header-header.ensures _ c.swept-held.ensures _ c.swept-vectors.ensures
