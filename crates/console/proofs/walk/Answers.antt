-- A window lies in its buffer, in the lines that are asked for and in all lines, and one without lines stands behind the last.
use Rattle.std.proofs.Common.{rules, arith, of_calls, length-take}
use Rattle.console.proofs.Printing.{within-buffer, behind-before, behind-inside, all_shown_lem}
use Rattle.console.proofs.walk.Goals as goal

pub returns-then-shown-eq0 : goal.returns-then-shown-eq0
returns-then-shown-eq0 g c = all_shown_lem _ (g.met.W.Windowed.short _) _ _ (search rules) (search rules) _ _ (search rules) _
    c.window-shown.ensures c.if-shown-eq0.true

pub slice_bounds-text-end : goal.slice_bounds-text-end
slice_bounds-text-end g c = omega (
  arith,
  within-buffer _ (g.met.W.Windowed.short _) _ _ (search rules) (search rules) _ _ (search rules) _
      c.window-shown.ensures,
)

pub slice_bounds-show-end : goal.slice_bounds-show-end
slice_bounds-show-end g c = simp length-take (omega (
  arith,
  within-buffer _ (g.met.W.Windowed.short _) _ _ (search rules) (search rules) _ _ (search rules) _
      c.window-shown.ensures,
))

pub overflow_add-first : goal.overflow_add-first
overflow_add-first g c = omega (
  arith,
  behind-before _ (g.met.W.Windowed.short _) _ _ (search rules) (search rules) _ _ (search rules) _
      c.window-shown.ensures,
)

pub loop-text-smaller : goal.loop-text-smaller
loop-text-smaller g c = omega (
  arith,
  behind-before _ (g.met.W.Windowed.short _) _ _ (search rules) (search rules) _ _ (search rules) _
      c.window-shown.ensures,
)

pub loop-text-preserved : goal.loop-text-preserved
loop-text-preserved g c = (
  search of_calls,
  behind-before _ (g.met.W.Windowed.short _) _ _ (search rules) (search rules) _ _ (search rules) _
      c.window-shown.ensures,
  behind-inside _ (g.met.W.Windowed.short _) _ _ (search rules) (search rules) _ _ (search rules) _
      c.window-shown.ensures,
  search rules,
)
