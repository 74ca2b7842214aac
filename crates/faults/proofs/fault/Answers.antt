use Rattle.std.proofs.Common.{rules, ◌∙◌, ap}
use Rattle.std.specs.Option.{unwrap_or}
use Rattle.faults.proofs.Tokens.{faults, fault-some}
use Rattle.faults.proofs.fault.Goals as goal

pub returns-then-token-gt65535 : goal.returns-then-token-gt65535
returns-then-token-gt65535 c = search faults

pub fault_at-requires : goal.fault_at-requires
fault_at-requires c = (search faults, search rules)

pub returns-in-Ok : goal.returns-in-Ok
returns-in-Ok c = search faults

pub returns-in-Err : goal.returns-in-Err
returns-in-Err c =
    fault-some _ c.read_token.result c.read_token.ensures (search rules) _ c.in-Err.refused c.in-Err.is
    (c.unwrap_or.ensures ∙ ap (unwrap_or c.fault_at.result) c.no_entry-in-Err.ensures ∙ c.fault_at.ensures)
