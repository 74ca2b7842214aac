use Rattle.std.proofs.Common.{◌-◌, ◌*◌, ◌/◌, ◌≤◌, ◌≡◌, min, length, take, drop}
use Rattle.put.specs.Put.{Written}
use Rattle.entries.specs.Entries.{entries_in, entry_octets}
use Rattle.entries.specs.Lookup.{count_in}
use Rattle.entries.proofs.put_message.Given as goal

abbrev pub invariant-loop-k : goal.invariant-loop-k
invariant-loop-k l =
    (l.k ≤ l.count) × (l.all ≡ count_in l.m) × (l.begin ≡ min l.from l.all)
    × (l.count ≡ min (l.all - l.begin) ((length l.initial.d - l.at) / 24)) × (length l.d ≡ length l.initial.d)
    × Written l.initial.d l.at (24 * l.k) (entry_octets (take l.k (drop l.begin (entries_in l.place.0 l.message l.m)))) l.d l.next
