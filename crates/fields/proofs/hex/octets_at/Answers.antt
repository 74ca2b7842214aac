use borrow.Author.Rules.{rules}
use Rattle.fields.proofs.Decoding.{ids}
use Rattle.fields.proofs.hex.octets_at.Goals as goal

pub returns-in_err-octets : goal.returns-in_err-octets
returns-in_err-octets c = rw c.from_residual.ensures (search (rules, ids))

pub loop-i-preserved : goal.loop-i-preserved
loop-i-preserved c = record { room = search rules; told = search (rules, ids) }

pub returns : goal.returns
returns c = search (rules, ids)
