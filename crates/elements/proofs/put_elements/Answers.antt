use native.Mathlib.Omega.{arith}
use Rattle.elements.proofs.Views.{handed, items-written}
use Rattle.elements.proofs.put_elements.Goals as goal

pub overflow_cast-size-2 : goal.overflow_cast-size-2
overflow_cast-size-2 c = let k = (handed _ _ c.requires.0).few in record { fits = omega arith }

pub overflow_mul-size : goal.overflow_mul-size
overflow_mul-size c = let k = (handed _ _ c.requires.0).few in record { fits = omega arith }

pub overflow_add-first : goal.overflow_add-first
overflow_add-first c =
    let k = (handed _ _ c.requires.0).few in
    let m = c.requires.1.1 in
    record { fits = omega arith }

pub put_array-values_at-requires : goal.put_array-values_at-requires
put_array-values_at-requires c =
    let p = c.requires in
    let h = handed _ _ p.0 in
    let n = h.short in
    let s = h.sum in
    let k = h.few in
    let m = p.1.1 in
    let r = p.1.0 in
    (k, (omega arith, omega arith))

pub returns : goal.returns
returns c =
    let p = c.requires in
    items-written _ _ p.0 _ _ _ p.1.0 _ _ c.put_array-values_at.ensures _ _ c.put_octets.ensures
