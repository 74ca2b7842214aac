use Rattle.token.specs.Token.{token_of}
use Rattle.token.specs.Walk.{messages_of}
use Rattle.table.specs.Table.{table_of}
use Rattle.table.proofs.Entries.{Sized}
use Rattle.table.proofs.table_size.Given as goal

abbrev pub invariant-loop-m : goal.invariant-loop-m
invariant-loop-m l =
    (goal.iterator-loop-m).can_next l.m-iterator × (goal.iterator-loop-m).is_finite l.m-iterator
    × Sized (table_of (messages_of (token_of l.token))) l.m-iterator.rest.now l.size
