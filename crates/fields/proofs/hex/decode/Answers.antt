use borrow.Author.Rules.{rules}
use Rattle.fields.proofs.Decoding.{pair-octets}
use Rattle.fields.proofs.hex.decode.Goals as goal

pub returns-then-d-count : goal.returns-then-d-count
returns-then-d-count c = search pair-octets

pub returns-in_err-d : goal.returns-in_err-d
returns-in_err-d c = rw c.from_residual.ensures (search (rules, pair-octets))

pub loop-i-preserved : goal.loop-i-preserved
loop-i-preserved c = record {
  half = search rules;
  room = search rules;
  sized = search rules;
  behind = search (rules, pair-octets);
  told = search (rules, pair-octets);
}

pub returns-then-s-eq1 : goal.returns-then-s-eq1
returns-then-s-eq1 c = search (rules, pair-octets)

pub returns : goal.returns
returns c = search (rules, pair-octets)
