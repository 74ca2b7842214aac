use Rattle.envelope.proofs.Holders.{holder_in}
use Rattle.envelope.proofs.Levels.{level-no, level-inner-no, level-left, level-read}
use Rattle.envelope.proofs.only_at.Goals as goal

pub returns-in_err-contents : goal.returns-in_err-contents
returns-in_err-contents g c = λ body by.
    level-no _ _ _ c.requires.inside body _ c.cut_at.ensures _ c.in_err-contents.was _ c.from_residual.ensures.1

pub returns-in_err-envelope : goal.returns-in_err-envelope
returns-in_err-envelope g c = λ body by.
    level-inner-no _ _ _ c.requires.inside body _ c.cut_at.ensures _ _ c.in_ok-contents.was _
    (by c.in_ok-contents.contents _ (holder_in _ _ c.cut_at.ensures _ _ c.in_ok-contents.was c.requires.inside) c.read.ensures)
    _ c.in_err-envelope.was _ c.from_residual-in_err-envelope.ensures.1

pub returns-then-rest : goal.returns-then-rest
returns-then-rest g c = λ body by.
    level-left _ _ _ c.requires.inside body _ c.cut_at.ensures _ _ c.in_ok-contents.was _
    (by c.in_ok-contents.contents _ (holder_in _ _ c.cut_at.ensures _ _ c.in_ok-contents.was c.requires.inside) c.read.ensures)
    _ c.in_ok-envelope.was c.if-rest.true

pub returns : goal.returns
returns g c = λ body by.
    level-read _ _ _ c.requires.inside body _ c.cut_at.ensures _ _ c.in_ok-contents.was _
    (by c.in_ok-contents.contents _ (holder_in _ _ c.cut_at.ensures _ _ c.in_ok-contents.was c.requires.inside) c.read.ensures)
    _ c.in_ok-envelope.was c.if-rest.false
