use Prim.Native.Nat.{◌≤◌}
use mathlib.Core.Path.{◌≡◌, ap, ◌∙◌}
use mathlib.Core.List.{◌∷◌}
use native.Mathlib.Omega.{arith}
use lib.ListN.{length}
use Rattle.std.specs.Slice.Iter.{chunks_exact_rest, chunks_exact_size}
use Rattle.message.specs.Show.{ids_at, ids_of}
use Rattle.message.proofs.Ids.{length_ids}
use Rattle.schemes.proofs.Chunks.{chunk-first, chunk-none}
use Rattle.schemes.proofs.Mentions.{keeping-start, keeping-noting, keeping-turn, keeping-end}
use Rattle.schemes.proofs.reply.kept_places.Goals as goal

pub loop-id-init : goal.loop-id-init
loop-id-init c =
    let s : chunks_exact_size c.into_iter-id-iterator.result ≡ 16 = cc in
    let r : chunks_exact_rest c.into_iter-id-iterator.result ≡ c.args.peer.now = cc in
    (omega arith, tt, s, rw r (keeping-start _ _))

pub note-kept-requires : goal.note-kept-requires
note-kept-requires c =
    let few : length (ids_at c.args.n c.args.own.now) ≤ 16 = omega (arith, length_ids c.args.n c.args.own.now) in
    rw length_ids at (keeping-noting (ids_at c.args.n c.args.own.now) _ c.loop-id.kept _ c.loop-id.invariant.3 few c.find.result)

pub loop-id-preserved : goal.loop-id-preserved
loop-id-preserved c =
    let t = c.in-Some.ensures.steps in
    let s : chunks_exact_size c.next.new.self ≡ 16 = t.0 ∙ c.loop-id.invariant.2 in
    let e : ids_of (chunks_exact_rest c.loop-id.id-iterator) ≡ c.in-Some.id.now ∷ ids_of (chunks_exact_rest c.next.new.self) =
    ap ids_of t.1.0 ∙ chunk-first c.in-Some.id.now (chunks_exact_rest c.next.new.self) (t.1.1 ∙ c.loop-id.invariant.2) in (
      omega arith,
      tt,
      s,
      keeping-turn _ _ c.loop-id.kept c.in-Some.id.now _ (rw e at c.loop-id.invariant.3) c.note-kept.result
          (rw length_ids (rw c.find.ensures at c.note-kept.ensures)),
    )

pub returns : goal.returns
returns c =
    let t = c.in-None.ensures.steps in
    keeping-end _ _ c.loop-id.kept (rw (chunk-none (chunks_exact_rest c.loop-id.id-iterator) (omega arith)) at c.loop-id.invariant.3)
