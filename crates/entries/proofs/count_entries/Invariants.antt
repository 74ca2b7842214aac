use Rattle.token.specs.Token.{token_of}
use Rattle.token.specs.Walk.{messages_of}
use Rattle.entries.specs.Entries.{entries_of}
use Rattle.entries.proofs.Walked.{Counted}
use Rattle.entries.proofs.count_entries.Given as goal

abbrev pub invariant-loop-m : goal.invariant-loop-m
invariant-loop-m l =
    (goal.iterator-loop-m).can_next l.m-iterator × (goal.iterator-loop-m).is_finite l.m-iterator
    × Counted (entries_of (messages_of (token_of l.token))) l.m-iterator.rest.now l.count
