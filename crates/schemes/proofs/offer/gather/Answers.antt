use borrow.Author.Rules.{rules}
use native.Mathlib.Omega.{arith}
use lib.ListN.{length}
use mathlib.Core.Path.{◌≡◌}
use Rattle.schemes.proofs.Offers.{gather-room, gather-take, gather-skip, gatherings}
use Rattle.schemes.proofs.offer.gather.Goals as goal
use Rattle.schemes.proofs.offer.gather.Goals.{then-bit_of, else-bit_of}

pub loop-place-init : goal.loop-place-init
loop-place-init c = search gatherings

pub with_id-schemes-requires : goal.with_id-schemes-requires
with_id-schemes-requires c = let l = c.loop-place in gather-room _ _ l.place l.schemes l.invariant (omega arith)

pub loop-place-preserved : goal.loop-place-preserved
loop-place-preserved c =
    let l = c.loop-place in
    let a = c.args in
    let sized : length a.list ≡ 256 = search rules in
    elim c.if-bit_of.branch [
      | then-bit_of w ↦ rw w.schemes-is
          (gather-take _ _ l.place l.schemes l.invariant _ c.bit_of.ensures w.if-bit_of.true sized (omega arith) _ w.id_of.ensures _
          w.with_id-schemes.ensures)
      | else-bit_of w ↦ rw w.schemes-is (gather-skip _ _ l.place l.schemes l.invariant _ c.bit_of.ensures w.if-bit_of.false)
    ]

pub returns : goal.returns
returns c = search (rules, gatherings)
