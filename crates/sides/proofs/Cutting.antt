-- A file is cut message by message: what passes 2 to 6 at its front is taken off, and a join of such messages is cut into them.
-- Assumes nothing.
use Prim.Native.Nat.{ℕ, zero, suc, ◌+◌, ◌-◌, ◌<◌, ◌≤◌}
use mathlib.Core.Path.{◌≡◌, refl, sym, ap, ◌∙◌}
use mathlib.Core.Bool.{true, false}
use mathlib.Core.Logic.{◌⊎◌, inl, inr}
use mathlib.Core.List.{List, [], ◌∷◌, ◌++◌}
use native.Mathlib.Omega.{arith}
use lib.ListN.{length, take, drop, length-append}
use lib.Seq.{take-append-le, take_at, drop_at, take-take, length-take-le, drop-nil}
use Rattle.octets.proofs.Bools.{which}
use Rattle.message.specs.Layout.{Head, head_of, size, front}
use Rattle.message.specs.Check.{first_failing, common_rows}
use Rattle.message.proofs.Headers.{Sized, common-sized}
use Rattle.message.proofs.Local.{head-front, common-front}
use Rattle.token.specs.Token.{refused as cut_at, message}
use Rattle.token.specs.Split.{join}
use Rattle.token.proofs.Cuts.{placed, drop-one}
use Rattle.conversation.specs.Logs.{messages_in}
use Rattle.sides.specs.Merging.{fits, cut_from, messages_of}
use Rattle.sides.specs.Replay.{Whose, finished, cut_ending}

-- 1. the message at the front

pub fits-sized : (s : List ℕ) → fits s ≡ true → Sized (length s) (head_of s)
fits-sized s e = common-sized (length s) (head_of s) e

skip-cut : (xs : List ℕ) (k place : ℕ) → cut_from xs k place ≡ cut_from (drop k xs) 0 place
unfolding cut_from
skip-cut [] k place = rw (drop-nil k)
skip-cut (x ∷ xs) zero place = refl
skip-cut (x ∷ xs) (suc k) place = skip-cut xs k place

first : (place x : ℕ) (xs : List ℕ) → fits (x ∷ xs) ≡ true
    → cut_from (x ∷ xs) 0 place ≡ message (placed place (front (x ∷ xs))) (cut_from xs (size (x ∷ xs) - 1) (place + size (x ∷ xs)))
unfolding cut_from
first place x xs e = rw e

pub turn-fits : (place : ℕ) (s : List ℕ) → fits s ≡ true
    → cut_from s 0 place ≡ message (placed place (front s)) (cut_from (drop (size s) s) 0 (place + size s))
turn-fits place [] e = let z = fits-sized [] e in absurd (omega (arith, z))
turn-fits place (x ∷ xs) e =
    let z = fits-sized (x ∷ xs) e in
    first place x xs e
    ∙ ap (message (placed place (front (x ∷ xs))))
    (skip-cut xs (size (x ∷ xs) - 1) (place + size (x ∷ xs))
    ∙ ap (λ (l : List ℕ). cut_from l 0 (place + size (x ∷ xs))) (drop-one x xs (size (x ∷ xs)) (omega (arith, z))))

pub turn-stops : (place : ℕ) (s : List ℕ) → 0 < length s → fits s ≡ false
    → cut_from s 0 place ≡ cut_at (first_failing (common_rows (length s) (head_of s))) place
unfolding cut_from
turn-stops place [] w e = absurd (omega arith)
turn-stops place (x ∷ xs) w e = rw e

-- 2. a message by itself, and with anything after it

pub record Piece (m : List ℕ) : Type 0 where
  pub passes : fits m ≡ true
  pub exact : size m ≡ length m

pub piece-front : (s : List ℕ) → fits s ≡ true → Piece (front s)
piece-front s e =
    let z = fits-sized s e in
    let n : length (front s) ≡ size s = length-take-le (size s) s z.within in
    let enough : size s ≤ length (front s) = omega arith in
    let same : take (size s) (front s) ≡ take (size s) s = take-take (size s) (size s) s (omega arith) in
    let h : head_of (front s) ≡ head_of s = head-front s (front s) e enough same in
    record { passes = common-front s (front s) e enough same; exact = ap (λ (g : Head). g.length) h ∙ sym n }

module _ (m r : List ℕ) (e : Piece m) where
  enough : size m ≤ length (m ++ r)
  enough = omega (arith, e.exact, length-append m r)

  same : take (size m) (m ++ r) ≡ take (size m) m
  same = take-append-le (size m) m r (omega (arith, e.exact))

  pub piece-head : head_of (m ++ r) ≡ head_of m
  piece-head = head-front m (m ++ r) e.passes enough same

  pub piece-fits : fits (m ++ r) ≡ true
  piece-fits = common-front m (m ++ r) e.passes enough same

  pub piece-size : size (m ++ r) ≡ length m
  piece-size = ap (λ (g : Head). g.length) piece-head ∙ e.exact

  pub cut-piece : (place : ℕ) → cut_from (m ++ r) 0 place ≡ message (placed place m) (cut_from r 0 (place + length m))
  cut-piece place =
      turn-fits place (m ++ r) piece-fits
      ∙ ap (λ (k : ℕ). message (placed place (take k (m ++ r))) (cut_from (drop k (m ++ r)) 0 (place + k))) piece-size
      ∙ ap (λ (l : List ℕ). message (placed place l) (cut_from (drop (length m) (m ++ r)) 0 (place + length m))) (take_at m r (length m) refl)
      ∙ ap (λ (l : List ℕ). message (placed place m) (cut_from l 0 (place + length m))) (drop_at m r (length m) refl)

pub piece-long : (m : List ℕ) → Piece m → 64 ≤ length m
piece-long m e = let z = fits-sized m e.passes in omega (arith, z, e.exact)

-- 3. messages one after the other

abbrev pub Pieces : List (List ℕ) → Type 0
Pieces [] = Unit {0}
Pieces (m ∷ ms) = Piece m × Pieces ms

pub pieces-append : (ms ns : List (List ℕ)) → Pieces ms → Pieces ns → Pieces (ms ++ ns)
pieces-append [] ns a b = b
pieces-append (m ∷ ms) ns a b = (a.0, pieces-append ms ns a.1 b)

pub pieces-cut : (xs : List ℕ) (k place : ℕ) → Pieces (messages_in (cut_from xs k place))
unfolding cut_from messages_in
pieces-cut [] k place = tt
pieces-cut (x ∷ xs) (suc k) place = pieces-cut xs k place
pieces-cut (x ∷ xs) zero place = go (which (fits (x ∷ xs))) (pieces-cut xs (size (x ∷ xs) - 1) (place + size (x ∷ xs))) where
  go : (fits (x ∷ xs) ≡ true) ⊎ (fits (x ∷ xs) ≡ false) → Pieces (messages_in (cut_from xs (size (x ∷ xs) - 1) (place + size (x ∷ xs))))
      → Pieces (messages_in (cut_from (x ∷ xs) 0 place))
  go (inl e) ih = rw e (piece-front (x ∷ xs) e, ih)
  go (inr e) ih = rw e tt

cut-pieces : (place : ℕ) (ms : List (List ℕ)) → Pieces ms → messages_in (cut_from (join ms) 0 place) ≡ ms
unfolding messages_in
cut-pieces place [] e = unfold cut_from in refl
cut-pieces place (m ∷ ms) e =
    ap messages_in (cut-piece m (join ms) e.0 place) ∙ ap (λ (l : List (List ℕ)). m ∷ l) (cut-pieces (place + length m) ms e.1)

-- a join of messages is cut into them, to its end
pub messages-join : (ms : List (List ℕ)) → Pieces ms → messages_of (join ms) ≡ ms
messages-join ms e = cut-pieces 0 ms e

pub ends_join : (w : Whose) (place : ℕ) (ms : List (List ℕ)) → Pieces ms → cut_ending w (cut_from (join ms) 0 place) ≡ finished
unfolding cut_ending
ends_join w place [] e = unfold cut_from in refl
ends_join w place (m ∷ ms) e = ap (cut_ending w) (cut-piece m (join ms) e.0 place) ∙ ends_join w (place + length m) ms e.1
