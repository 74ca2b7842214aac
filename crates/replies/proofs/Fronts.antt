-- The messages before the one at fault are an accepted token.
-- Assumes nothing.
use Prim.Native.Nat.{ℕ, ◌<◌}
use mathlib.Core.Path.{◌≡◌, refl, sym, ap, subst, ◌∙◌}
use mathlib.Core.Logic.{inl, inr}
use mathlib.Core.List.{List, [], ◌∷◌, ◌++◌, append_assoc}
use native.Mathlib.Omega.{arith}
use lib.ListN.{length, take, length-append}
use lib.Seq.{take_at}
use Rattle.message.specs.Layout.{Head, head_of}
use Rattle.token.specs.Token.{Accepted, token_of}
use Rattle.token.specs.Split.{Numbered, join, placed_from, Stop}
use Rattle.token.specs.Walk.{messages_of, Accepts}
use Rattle.token.proofs.Splits.{message-head, refused-stops, splits-accepted}
use Rattle.replies.specs.Replies.{FrontAccepted}

-- the first message says the same, whatever follows
same_head : (ms : List (List ℕ)) (q : ℕ) (v rest : List ℕ) → Numbered q v ms → 0 < length (join ms) → head_of (join ms ++ rest) ≡ head_of (join ms)
same_head [] q v rest e h = absurd (omega arith)
same_head (m ∷ ms) q v rest e h =
    ap head_of (append_assoc m (join ms) rest) ∙ message-head q v m (join ms ++ rest) e.0 ∙ sym (message-head q v m (join ms) e.0)

stopped : (s : List ℕ) (n p : ℕ) (ms : List (List ℕ)) (rest : List ℕ) → Stop s n p ms rest → 0 < p → Accepts (take p s)
stopped s n p ms rest stop h =
    let front : take p s ≡ join ms = ap (take p) (sym stop.joins) ∙ take_at (join ms) rest p (sym stop.place) in
    let head : head_of s ≡ head_of (join ms) =
    ap head_of (sym stop.joins) ∙ same_head ms (head_of s).sequence (head_of s).conversation rest stop.numbered
    (omega (arith, stop.place)) in
    let read : token_of (join ms) ≡ Accepted (placed_from 0 ms) = splits-accepted (join ms) ms (record {
      short = omega (arith, stop.short, ap length stop.joins, length-append (join ms) rest);
      some = omega (arith, stop.place);
      joins = refl;
      numbered = subst (λ (x : Head). Numbered x.sequence x.conversation ms) head stop.numbered;
    }) in
    subst Accepts (sym front) (read ∙ ap Accepted (sym (ap messages_of read)))

pub front-accepted : FrontAccepted
front-accepted s n p e h = elim (refused-stops s n p e) [
  | inl a ↦ absurd (omega (arith, a))
  | inr a ↦ elim a [
    | inl b ↦ absurd (omega (arith, b))
    | inr b ↦ let (ms, (rest, stop)) = b in stopped s n p ms rest stop h
  ]
]
