use Prim.Native.Nat.{◌≤◌}
use mathlib.Core.Path.{◌≡◌}
use lib.ListN.{drop}
use Rattle.fields.specs.Fields.{base_of, numeral_from}
use Rattle.fields.proofs.number.numeral.Given as goal

abbrev pub invariant-loop-c : goal.invariant-loop-c
invariant-loop-c l = record {
  most : l.number ≤ l.most;
  small : l.base ≤ 16;
  base : l.base ≡ base_of l.fn.base;
  told : numeral_from (base_of l.fn.base) l.most 0 l.s ≡ numeral_from l.base l.most l.number (drop l.c-index l.s);
}
