use Rattle.std.proofs.Common.{ap, sym, ◌∙◌}
use Rattle.message.specs.Layout.{nego, exchange, verify, alert, shape_as}
use Rattle.entries.proofs.Bounds.{holds-room}
use Rattle.entries.proofs.Layouts.{row_here, header_here}
use Rattle.entries.proofs.lookup.header_entry.Goals as goal

pub table_entry-requires : goal.table_entry-requires
table_entry-requires c = (
  search holds-room,
  row_here c.args.place.0 c.args.m.now c.args.kind.0 c.requires.0 c.args.k c.requires.1 nego
      (ap shape_as (sym c.in-Nego.is) ∙ c.shape.ensures),
)

pub returns-in-Nego : goal.returns-in-Nego
returns-in-Nego c =
    header_here c.args.place.0 c.args.m.now c.args.kind.0 c.requires.0 c.args.k c.requires.1 nego (ap shape_as (sym c.in-Nego.is) ∙ c.shape.ensures) _ _
    c.table_entry.ensures

pub table_entry-requires-in-Exchange : goal.table_entry-requires-in-Exchange
table_entry-requires-in-Exchange c = (
  search holds-room,
  row_here c.args.place.0 c.args.m.now c.args.kind.0 c.requires.0 c.args.k c.requires.1 exchange
      (ap shape_as (sym c.in-Exchange.is) ∙ c.shape.ensures),
)

pub returns-in-Exchange : goal.returns-in-Exchange
returns-in-Exchange c =
    header_here c.args.place.0 c.args.m.now c.args.kind.0 c.requires.0 c.args.k c.requires.1 exchange (ap shape_as (sym c.in-Exchange.is) ∙ c.shape.ensures) _ _
    c.table_entry-in-Exchange.ensures

pub table_entry-requires-in-Verify : goal.table_entry-requires-in-Verify
table_entry-requires-in-Verify c = (
  search holds-room,
  row_here c.args.place.0 c.args.m.now c.args.kind.0 c.requires.0 c.args.k c.requires.1 verify
      (ap shape_as (sym c.in-Verify.is) ∙ c.shape.ensures),
)

pub returns-in-Verify : goal.returns-in-Verify
returns-in-Verify c =
    header_here c.args.place.0 c.args.m.now c.args.kind.0 c.requires.0 c.args.k c.requires.1 verify (ap shape_as (sym c.in-Verify.is) ∙ c.shape.ensures) _ _
    c.table_entry-in-Verify.ensures

pub table_entry-requires-in-Alert : goal.table_entry-requires-in-Alert
table_entry-requires-in-Alert c = (
  search holds-room,
  row_here c.args.place.0 c.args.m.now c.args.kind.0 c.requires.0 c.args.k c.requires.1 alert
      (ap shape_as (sym c.in-Alert.is) ∙ c.shape.ensures),
)

pub returns-in-Alert : goal.returns-in-Alert
returns-in-Alert c =
    header_here c.args.place.0 c.args.m.now c.args.kind.0 c.requires.0 c.args.k c.requires.1 alert (ap shape_as (sym c.in-Alert.is) ∙ c.shape.ensures) _ _
    c.table_entry-in-Alert.ensures
