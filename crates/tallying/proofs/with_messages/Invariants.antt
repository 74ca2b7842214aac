use Rattle.std.proofs.Common.{◌≡◌, length}
use Rattle.token.specs.Token.{token_of}
use Rattle.token.specs.Walk.{messages_of}
use Rattle.tallying.specs.Files.{all_octets}
use Rattle.tallying.specs.Tally.{with_messages}
use Rattle.tallying.proofs.Steps.{Going-on}
use Rattle.tallying.proofs.with_messages.Given as goal

abbrev pub invariant-loop-m : goal.invariant-loop-m
invariant-loop-m l =
    (goal.iterator-loop-m).can_next l.m-iterator × (goal.iterator-loop-m).is_finite l.m-iterator
    × (length l.map ≡ length l.initial.map)
    × Going-on (with_messages l.initial.counted (all_octets (messages_of (token_of l.file)))) l.file l.m-iterator.rest.now l.counted
