use Rattle.script.proofs.Ids.{id-lists}
use borrow.Author.Rules.{rules}
use native.Mathlib.Omega.{arith}
use mathlib.Core.Path.{◌≡◌, refl}
use lib.ListN.{length}
use Rattle.script.proofs.value.ids.Goals as goal

pub loop-at-init : goal.loop-at-init
loop-at-init c = (search rules, refl, search id-lists)

pub returns-in_err-next : goal.returns-in_err-next
returns-in_err-next c = rw c.from_residual.ensures (search (rules, id-lists))

pub returns-then-d-filled-lt16 : goal.returns-then-d-filled-lt16
returns-then-d-filled-lt16 c = let h : length c.in_ok-next.next ≡ 16 = search rules in search (rules, id-lists)

pub put_octets-filled-requires : goal.put_octets-filled-requires
put_octets-filled-requires c = let h : length c.in_ok-next.next ≡ 16 = search rules in search rules

pub loop-at-smaller : goal.loop-at-smaller
loop-at-smaller c = let h = c.behind-at.ensures.onward (omega arith) in omega arith

pub loop-at-preserved : goal.loop-at-preserved
loop-at-preserved c =
    let h : length c.in_ok-next.next ≡ 16 = search rules in
    let a = c.put_octets-filled.ensures.after in
    (omega arith, search rules, search (rules, id-lists))

pub returns : goal.returns
returns c = search id-lists
