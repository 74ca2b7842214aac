use Rattle.std.proofs.Common.{rules}
use Rattle.der.specs.Element.{any}
use Rattle.envelope.proofs.Tails.{tail-no, tail-second, tail-token-no, tail-third, tail-checksum-no, tail-left, tail-found}
use Rattle.envelope.proofs.tail_at.Goals as goal

pub returns-in_err-second : goal.returns-in_err-second
returns-in_err-second c =
    tail-no _ _ c.args.inner _ (c.optional_at.ensures c.args.inner any (λ h r k q. search rules)) _ c.in_err-second.was _ c.from_residual.ensures.1

pub optional_at-requires-2-clause-inside : goal.optional_at-requires-2-clause-inside
optional_at-requires-2-clause-inside c =
    tail-second _ _ c.args.inner _ (c.optional_at.ensures c.args.inner any (λ h r k q. search rules)) _ _ c.in_ok-second.was

pub returns-in_err-token : goal.returns-in_err-token
returns-in_err-token c =
    tail-token-no _ _ c.args.inner _ (c.optional_at.ensures c.args.inner any (λ h r k q. search rules)) _ _ c.in_ok-second.was _
    (c.optional_at-2.ensures 0x04 any (λ h r k q. search rules)) _ c.in_err-token.was _ c.from_residual-in_err-token.ensures.1

pub optional_at-requires-3-clause-inside : goal.optional_at-requires-3-clause-inside
optional_at-requires-3-clause-inside c =
    tail-third _ _ c.args.inner _ (c.optional_at.ensures c.args.inner any (λ h r k q. search rules)) _ _ c.in_ok-second.was _
    (c.optional_at-2.ensures 0x04 any (λ h r k q. search rules)) _ _ c.in_ok-token.was

pub returns-in_err-checksum : goal.returns-in_err-checksum
returns-in_err-checksum c =
    tail-checksum-no _ _ c.args.inner _ (c.optional_at.ensures c.args.inner any (λ h r k q. search rules)) _ _ c.in_ok-second.was _
    (c.optional_at-2.ensures 0x04 any (λ h r k q. search rules)) _ _ c.in_ok-token.was _ (c.optional_at-3.ensures 0x04 any (λ h r k q. search rules)) _
    c.in_err-checksum.was _ c.from_residual-in_err-checksum.ensures.1

pub returns-then-rest : goal.returns-then-rest
returns-then-rest c =
    tail-left _ _ c.args.inner _ (c.optional_at.ensures c.args.inner any (λ h r k q. search rules)) _ _ c.in_ok-second.was _
    (c.optional_at-2.ensures 0x04 any (λ h r k q. search rules)) _ _ c.in_ok-token.was _ (c.optional_at-3.ensures 0x04 any (λ h r k q. search rules)) _ _
    c.in_ok-checksum.was c.if-rest.true

pub returns : goal.returns
returns c =
    tail-found _ _ c.args.inner _ (c.optional_at.ensures c.args.inner any (λ h r k q. search rules)) _ _ c.in_ok-second.was _
    (c.optional_at-2.ensures 0x04 any (λ h r k q. search rules)) _ _ c.in_ok-token.was _ (c.optional_at-3.ensures 0x04 any (λ h r k q. search rules)) _ _
    c.in_ok-checksum.was c.if-rest.false
