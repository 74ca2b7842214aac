use Rattle.std.proofs.Common.{◌≡◌, length}
use Rattle.token.specs.Token.{token_of}
use Rattle.token.specs.Walk.{messages_of}
use Rattle.table.specs.Table.{table_of}
use Rattle.table.proofs.Entries.{Stored}
use Rattle.table.proofs.put_table.Given as goal

abbrev pub invariant-loop-place : goal.invariant-loop-place
invariant-loop-place l =
    (goal.iterator-loop-place).can_next l.place-iterator × (goal.iterator-loop-place).is_finite l.place-iterator
    × (length l.d ≡ length l.initial.d)
    × Stored (table_of (messages_of (token_of l.token))) l.initial.d l.place-iterator.rest.now l.place-iterator.place.0 l.d l.next
