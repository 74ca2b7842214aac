use mathlib.Core.Path.{◌≡◌}
use native.Mathlib.Omega.{arith}
use lib.ListN.{length, take}
use borrow.Author.Rules.{rules}
use Rattle.std.specs.Iterator.Adapters.{zip_first, zip_second}
use Rattle.std.specs.Slice.Iter.{iter_rest}
use Rattle.elements.proofs.Limits.{sum-turn}
use Rattle.elements.proofs.Arrays.{left-turn, left_end, reached, turn-more, turn_end}
use Rattle.elements.proofs.put_array.Goals as goal

pub overflow_add-offset : goal.overflow_add-offset
overflow_add-offset c =
    let e = c.args.e in
    let types : length e.types ≡ 8 = search rules in
    let sizes : length e.sizes ≡ 8 = search rules in
    let first : iter_rest (zip_first c.into_iter-kind-iterator.result) ≡ take e.count e.types = cc in
    let second : iter_rest (zip_second c.into_iter-kind-iterator.result) ≡ take e.count e.sizes = cc in
    let xs = c.loop-kind.yielded in
    let s = c.into_iter-kind-iterator.result in
    let t = c.loop-kind.kind-iterator in
    let i = reached e.types e.sizes e.count c.requires.0 types sizes xs s t c.next.new.self c.next.result first second c.loop-kind.yielded_by
    c.next.ensures.steps in
    let m = turn-more e.types e.sizes e.count c.requires.0 types sizes xs s t c.next.new.self c.next.result first second c.loop-kind.yielded_by
    c.next.ensures.steps _ c.in-Some.is in
    let l = (rw i at c.loop-kind.invariant.2).sum in
    let turn = sum-turn e.count (length xs) e.sizes m.0 in
    let p = c.requires.1.1 in
    record { fits = omega (arith, m.3, l, turn) }

pub loop-kind-preserved : goal.loop-kind-preserved
loop-kind-preserved c =
    let e = c.args.e in
    let types : length e.types ≡ 8 = search rules in
    let sizes : length e.sizes ≡ 8 = search rules in
    let first : iter_rest (zip_first c.into_iter-kind-iterator.result) ≡ take e.count e.types = cc in
    let second : iter_rest (zip_second c.into_iter-kind-iterator.result) ≡ take e.count e.sizes = cc in
    let xs = c.loop-kind.yielded in
    let s = c.into_iter-kind-iterator.result in
    let t = c.loop-kind.kind-iterator in
    let i = reached e.types e.sizes e.count c.requires.0 types sizes xs s t c.next.new.self c.next.result first second c.loop-kind.yielded_by
    c.next.ensures.steps in
    let m = turn-more e.types e.sizes e.count c.requires.0 types sizes xs s t c.next.new.self c.next.result first second c.loop-kind.yielded_by
    c.next.ensures.steps _ c.in-Some.is in (
      (tt, tt),
      tt,
      rw (m.1, m.3)
          (left-turn _ _ _ _ _ _ c.requires.1.0 _ _ _ _ (rw i at c.loop-kind.invariant.2) m.0 _ _ (rw (m.2, m.3) at c.put_element-place.ensures)),
    )

pub returns : goal.returns
returns c =
    let e = c.args.e in
    let types : length e.types ≡ 8 = search rules in
    let sizes : length e.sizes ≡ 8 = search rules in
    let first : iter_rest (zip_first c.into_iter-kind-iterator.result) ≡ take e.count e.types = cc in
    let second : iter_rest (zip_second c.into_iter-kind-iterator.result) ≡ take e.count e.sizes = cc in
    let xs = c.loop-kind.yielded in
    let s = c.into_iter-kind-iterator.result in
    let t = c.loop-kind.kind-iterator in
    let i = reached e.types e.sizes e.count c.requires.0 types sizes xs s t c.next.new.self c.next.result first second c.loop-kind.yielded_by
    c.next.ensures.steps in
    let m = turn_end e.types e.sizes e.count c.requires.0 types sizes xs s t c.next.new.self c.next.result first second c.loop-kind.yielded_by
    c.next.ensures.steps c.in-None.is in
    left_end _ _ _ _ _ _ c.requires.1.0 _ _ _ _ (rw i at c.loop-kind.invariant.2) m
