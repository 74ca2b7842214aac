use Prim.Native.Nat.{◌-◌}
use mathlib.Core.Path.{◌≡◌}
use Rattle.schemes.specs.Lists.{mem}
use Rattle.admitting.proofs.Lists.{named_in}
use Rattle.admitting.proofs.named.is_named.Given as goal

abbrev pub invariant-loop : goal.invariant-loop
invariant-loop l = mem l.id (named_in l.count l.s) ≡ mem l.id (named_in (l.count - l.counter) l.rest)
