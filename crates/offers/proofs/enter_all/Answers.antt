use Rattle.std.proofs.Common.{arith, ap, ◌∙◌, ◌≡◌, ◌∷◌}
use Rattle.std.specs.Slice.Iter.{chunks_exact_rest}
use Rattle.message.specs.Show.{ids_of}
use Rattle.schemes.proofs.Chunks.{chunk-first, chunk-none}
use Rattle.offers.proofs.Entering.{entered-few, entries-done, entries-more}
use Rattle.offers.proofs.enter_all.Goals as goal

pub loop-id-preserved : goal.loop-id-preserved
loop-id-preserved c =
    let l = c.loop-id in
    let t = c.in-Some.ensures.steps in
    let e : ids_of (chunks_exact_rest l.id-iterator) ≡ c.in-Some.id.now ∷ ids_of (chunks_exact_rest c.next.new.self) =
    ap ids_of t.1.0 ∙ chunk-first c.in-Some.id.now (chunks_exact_rest c.next.new.self) (t.1.1 ∙ l.invariant.2) in (
      omega arith,
      tt,
      t.0 ∙ l.invariant.2,
      entered-few l.entered c.in-Some.id.now c.enter-entered.result l.invariant.3 c.enter-entered.ensures,
      entries-more _ l.entered c.in-Some.id.now _ _ c.enter-entered.result e c.enter-entered.ensures l.invariant.4,
    )

pub returns : goal.returns
returns c =
    let l = c.loop-id in
    let t = c.in-None.ensures.steps in
    entries-done _ l.entered _ (chunk-none (chunks_exact_rest l.id-iterator) (omega arith)) l.invariant.4
