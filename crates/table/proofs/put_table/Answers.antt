use Rattle.std.proofs.Common.{rules, refl}
use Rattle.messages.proofs.Steps.{some_left, left_behind, none_left}
use Rattle.table.proofs.Entries.{stores}
use Rattle.table.proofs.put_table.Goals as goal

pub loop-place-init : goal.loop-place-init
loop-place-init c = (tt, tt, refl, search (rules, stores))

pub put_entry-next-requires : goal.put_entry-next-requires
put_entry-next-requires c = record {
  held = rw c.in-Some.ensures.steps.stands (search (stores, some_left, c.in-Some.ensures.steps));
  m_in_bounds = search (stores, some_left, c.in-Some.ensures.steps);
}

pub loop-place-preserved : goal.loop-place-preserved
loop-place-preserved c =
    (tt, tt, search rules, rw (left_behind c.in-Some.ensures.steps) (search (rules, stores, some_left, c.in-Some.ensures.steps)))

pub returns : goal.returns
returns c = search (stores, none_left, c.in-None.ensures.steps.0)
