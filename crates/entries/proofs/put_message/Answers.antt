use borrow.Author.Rules.{rules}
use Rattle.entries.proofs.Bounds.{held-zero}
use mathlib.Core.Path.{refl}
use Rattle.entries.proofs.Walked.{parts, part-next}
use Rattle.entries.proofs.put_message.Goals as goal

pub counts_of-counts-requires : goal.counts_of-counts-requires
counts_of-counts-requires c = search held-zero

pub sum_of-all-requires : goal.sum_of-all-requires
sum_of-all-requires c = (search held-zero, search rules)

pub loop-k-init : goal.loop-k-init
loop-k-init c = (search rules, search rules, search rules, search rules, refl, search parts)

pub overflow_add-begin : goal.overflow_add-begin
overflow_add-begin c = search (rules, parts)

pub entry_of-requires : goal.entry_of-requires
entry_of-requires c = (search rules, search parts, search rules)

pub put_entry-next-requires : goal.put_entry-next-requires
put_entry-next-requires c = search parts

pub loop-k-preserved : goal.loop-k-preserved
loop-k-preserved c = (
  search rules,
  search rules,
  search rules,
  search rules,
  search rules,
  part-next c.args.place.0 c.args.message _ _ c.args.at _ _ _ c.loop-k.invariant.1 c.loop-k.invariant.3 c.loop-k.k _ _ c.loop-k.invariant.5
      (search rules) _ c.entry_of.ensures _ _ c.put_entry-next.ensures,
)

pub returns : goal.returns
returns c = search parts
