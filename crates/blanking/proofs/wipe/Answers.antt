use Rattle.std.proofs.Common.{rules, ◌≤◌, ◌<◌, length}
use Rattle.blanking.proofs.Wipes.{wipe-done, wipe-more}
use Rattle.blanking.proofs.wipe.Goals as goal

pub loop-at-preserved : goal.loop-at-preserved
loop-at-preserved c =
    let inside : c.loop-at.at < length c.loop-at.m = search rules in
    (search rules, wipe-more _ _ _ _ _ _ c.loop-at.invariant.1 inside _ c.greatest-far.ensures _ c.is_covered.ensures _ c.octet_kept.ensures)

pub returns : goal.returns
returns c =
    let past : length c.loop-at.m ≤ c.loop-at.at = search rules in
    wipe-done _ _ _ _ _ _ c.loop-at.invariant.1 past
