use mathlib.Core.Path.{sym, ap, ◌∙◌}
use Prim.Native.Nat.{ℕ}
use Rattle.conversation.specs.Outcomes.{answered}
use Rattle.turning.proofs.Hearing.{owed-28, owed-here}
use Rattle.turning.proofs.hear.owed_before.Goals as goal

pub returns-then-a-number : goal.returns-then-a-number
returns-then-a-number c =
    owed-28 c.args.r c.args.a _ c.number.ensures c.then-a-number.either _
    (c.answer.ensures ∙ ap (λ (n : ℕ). answered n 0 c.args.r) c.number-then-a-number.ensures)

pub returns : goal.returns
returns c = owed-here c.args.r c.args.a (λ e. c.if-a-number.false (e ∙ sym c.number.ensures)) c.if-a-gt0.false
