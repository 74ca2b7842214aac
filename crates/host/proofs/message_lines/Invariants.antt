use lib.ListN.{length}
use Rattle.token.specs.Token.{token_of}
use Rattle.token.specs.Walk.{messages_of}
use Rattle.listing.specs.Listing.{all_lines}
use Rattle.host.proofs.Counting.{Counted}
use Rattle.host.proofs.message_lines.Given as goal

abbrev pub invariant-loop-m : goal.invariant-loop-m
invariant-loop-m l =
    (goal.iterator-loop-m).can_next l.m-iterator × (goal.iterator-loop-m).is_finite l.m-iterator
    × Counted (length (all_lines (messages_of (token_of l.token)))) l.m-iterator.rest.now l.lines
