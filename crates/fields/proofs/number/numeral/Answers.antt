use borrow.Author.Rules.{rules}
use Rattle.fields.proofs.Numerals.{numeral-digit, numeral-most, numerals}
use Rattle.fields.proofs.number.numeral.Goals.{then-base-value-via-then-base-value, then-base-value-via-else-base-value+then-most-next}
use Rattle.fields.proofs.number.numeral.Goals as goal

pub returns-in_err-value : goal.returns-in_err-value
returns-in_err-value c = rw c.from_residual.ensures (search (rules, numerals))

pub returns-then-base-value : goal.returns-then-base-value
returns-then-base-value c =
    elim c.then-base-value.branch [
      | then-base-value-via-then-base-value w ↦
          numeral-digit _ _ _ _ _ _ c.loop-c.invariant.told c.loop-c-test.true _ c.in_ok-value.ensures w.if-base-value.true
      | then-base-value-via-else-base-value+then-most-next w ↦
          numeral-most _ _ _ _ _ _ c.loop-c.invariant.told c.loop-c-test.true _ c.in_ok-value.ensures w.if-base-value.false w.if-most-next.true
    ]

pub loop-c-preserved : goal.loop-c-preserved
loop-c-preserved c = record {
  most = search rules;
  small = search rules;
  base = search rules;
  told = search (rules, numerals);
}

pub returns : goal.returns
returns c = search (rules, numerals)
