use Rattle.std.proofs.Common.{◌≡◌, length}
use Rattle.std.specs.Iterator.Adapters.{enumerate_source, enumerate_count}
use Rattle.token.specs.Token.{token_of}
use Rattle.token.specs.Walk.{messages_of}
use Rattle.entries.specs.Entries.{entries_of}
use Rattle.entries.proofs.Walked.{Shown}
use Rattle.entries.proofs.put_entries.Given as goal

abbrev pub invariant-loop-message : goal.invariant-loop-message
invariant-loop-message l =
    (goal.iterator-loop-message).can_next l.message-iterator × (goal.iterator-loop-message).is_finite l.message-iterator
    × (length l.d ≡ length l.initial.d)
    × Shown (entries_of (messages_of (token_of l.token))) l.initial.d l.from (enumerate_source l.message-iterator).rest.now
    (enumerate_source l.message-iterator).place.0 (enumerate_count l.message-iterator)
    l.skip l.d l.next
