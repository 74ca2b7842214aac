use Rattle.std.proofs.Common.{rules, refl}
use Rattle.table.proofs.Numbers.{written-spans}
use Rattle.table.proofs.put_spans.Goals as goal

pub loop-k-init : goal.loop-k-init
loop-k-init c = (search rules, refl, search written-spans)

pub put_span-next-requires : goal.put_span-next-requires
put_span-next-requires c = (search written-spans, search written-spans, search written-spans, search written-spans)

pub loop-k-preserved : goal.loop-k-preserved
loop-k-preserved c = (search rules, search rules, search written-spans)

pub returns : goal.returns
returns c = search written-spans
