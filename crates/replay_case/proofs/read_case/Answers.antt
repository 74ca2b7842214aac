use Rattle.replay_case.proofs.Cases.{no-initiator, no-acceptor, no-i, no-a, case-good}
use Rattle.replay_case.proofs.read_case.Goals as goal

pub returns-in_err-initiator : goal.returns-in_err-initiator
returns-in_err-initiator c = rw c.from_residual-in_err-initiator.ensures (no-initiator _ _ _ _ _ _ _ c.in_ok-first.ensures c.in_err-initiator.ensures)

pub returns-in_err-acceptor : goal.returns-in_err-acceptor
returns-in_err-acceptor c =
    rw c.from_residual-in_err-acceptor.ensures (no-acceptor _ _ _ _ _ _ _ c.in_ok-first.ensures _ c.in_ok-initiator.ensures c.in_err-acceptor.ensures)

pub returns-in_err-i : goal.returns-in_err-i
returns-in_err-i c =
    rw c.from_residual-in_err-i.ensures (no-i _ _ _ _ _ _ _ c.in_ok-first.ensures _ c.in_ok-initiator.ensures _ c.in_ok-acceptor.ensures c.in_err-i.ensures)

pub returns-in_err-a : goal.returns-in_err-a
returns-in_err-a c =
    rw c.from_residual-in_err-a.ensures
    (no-a _ _ _ _ _ _ _ c.in_ok-first.ensures _ c.in_ok-initiator.ensures _ c.in_ok-acceptor.ensures _ _ _ c.in_ok-i.ensures c.in_err-a.ensures)

pub returns : goal.returns
returns c = case-good _ _ _ _ _ _ _ c.in_ok-first.ensures _ c.in_ok-initiator.ensures _ c.in_ok-acceptor.ensures _ _ _ c.in_ok-i.ensures _ _ _ c.in_ok-a.ensures
