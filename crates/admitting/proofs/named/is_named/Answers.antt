use Prim.Native.Nat.{◌+◌, ◌-◌}
use mathlib.Core.Path.{◌≡◌}
use native.Mathlib.Omega.{arith}
use Rattle.admitting.proofs.Lists.{named_end, named-short, named-hit, named_past, named-on}
use Rattle.admitting.proofs.named.is_named.Goals as goal

pub returns-then-rest-lt-SCHEME_END : goal.returns-then-rest-lt-SCHEME_END
returns-then-rest-lt-SCHEME_END c = named-short _ c.requires _ _ _ c.loop.invariant c.if-rest-lt-SCHEME_END.true

pub returns-then-names : goal.returns-then-names
returns-then-names c =
    named-hit _ c.requires _ _ _ c.loop.invariant (omega arith) _ c.message_length-length.ensures _ c.names.ensures c.if-names.true

pub returns-then-rest-length : goal.returns-then-rest-length
returns-then-rest-length c =
    named_past _ c.requires _ _ _ c.loop.invariant (omega arith) _ c.message_length-length.ensures _ c.names.ensures c.if-names.false
    c.if-rest-length.true

pub loop-preserved : goal.loop-preserved
loop-preserved c =
    let e : c.args.count - (c.loop.counter + 1) ≡ c.args.count - c.loop.counter - 1 = omega arith in
    rw e
    (named-on _ c.requires _ _ _ c.loop.invariant (omega arith) _ c.message_length-length.ensures _ c.names.ensures c.if-names.false)

pub returns : goal.returns
returns c = named_end _ c.requires _ _ _ c.loop.invariant (omega arith)
