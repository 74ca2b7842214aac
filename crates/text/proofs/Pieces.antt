-- Pieces of text written one behind the other.
-- Assumes nothing.
use Prim.Native.Nat.{ℕ, suc, ◌+◌, ◌<◌, ◌≤◌}
use mathlib.Core.Path.{◌≡◌, refl, sym, ap, ◌∙◌}
use mathlib.Core.Bool.{Bool, true, false, cond}
use mathlib.Core.Logic.{inl, inr}
use mathlib.Core.List.{List, [], ◌∷◌, ◌++◌}
use native.Mathlib.Nat.{add-zero}
use native.Mathlib.Numerals.{add-one}
use native.Mathlib.Omega.{arith}
use lib.ListN.{length, drop, take, get_or, length-append, drop_of_length-le}
use lib.Seq.{drop-cons, take-suc, take_at, length-take-le}
use lib.Dec.{leb, eqb}
use borrow.Author.Tests.{le-leb, leb-true}
use Rattle.octets.proofs.Bools.{which}
use Rattle.text.specs.Text.{quoted, hex_of, digits_of, glyph_of, glyphs, Text, text, appended, written}
use Rattle.put.specs.Put.{put, joined, Written}
use Rattle.put.proofs.Laws.{put-none, length-put, put-more, joined-append}

-- what stands in front of a place, once v is put there
pub take_put : (d : List ℕ) (at : ℕ) (v : List ℕ) → at + length v ≤ length d → take (at + length v) (put d at v) ≡ take at d ++ v
unfolding put
take_put d at v h =
    let e : length (take at d ++ v) ≡ at + length v = simp (length-append, length-take-le at d (omega arith)) in
    take_at (take at d ++ v) (drop (at + length v) d) (at + length v) e

-- the slice keeps its length
length-appended : (t : Text) (v : List ℕ) → length (appended t v).octets ≡ length t.octets
unfolding appended
length-appended t v =
    elim (which (leb (t.next + length v) (length t.octets)))
    [ inl e ↦ rw e (length-put t.octets t.next v (leb-true _ _ e)) | inr e ↦ rw e refl ]

pub length-written : (ps : List (List ℕ)) (t : Text) → length (written ps t).octets ≡ length t.octets
unfolding written
length-written [] t = refl
length-written (p ∷ ps) t = length-written ps (appended t p) ∙ length-appended t p

pub same-room : (d d' : List ℕ) (at r : ℕ) (ps : List (List ℕ)) → text d' r ≡ written ps (text d at) → length d' ≡ length d
same-room d d' at r ps e = ap (λ (t : Text). length t.octets) e ∙ length-written ps (text d at)

-- the digits of the octets that are left
module _ (v : List ℕ) (i : ℕ) (x t : Text) (inv : x ≡ written (digits_of (drop i v)) t) where
  pub digits_more : i < length v → (u : Text) → u ≡ written (hex_of (get_or v i 0) ∷ []) t → x ≡ written (digits_of (drop (i + 1) v)) u
  unfolding digits_of written
  digits_more h u e = inv ∙ rw (add-one, drop-cons v i 0) (sym (ap (written (digits_of (drop (suc i) v))) e))

  pub digits-end : length v ≤ i → t ≡ x
  unfolding digits_of written
  digits-end h = sym (inv ∙ rw (drop_of_length-le v h))

pub ruleset digits = (digits_more, digits-end)

-- pieces behind pieces
pub written-append : (ps qs : List (List ℕ)) (t : Text) → written (ps ++ qs) t ≡ written qs (written ps t)
unfolding written
written-append [] qs t = refl
written-append (p ∷ ps) qs t = written-append ps qs (appended t p)

pub then : (t u w : Text) (ps qs : List (List ℕ)) → u ≡ written ps t → w ≡ written qs u → w ≡ written (ps ++ qs) t
then t u w ps qs e f = f ∙ ap (written qs) e ∙ sym (written-append ps qs t)

-- the same for a call that appends one piece or two, and what the calls behind it append
module _ (t u w : Text) (p : List ℕ) (ps : List (List ℕ)) where
  pub one_then : u ≡ written (p ∷ []) t → w ≡ written ps u → w ≡ written (p ∷ ps) t
  one_then e f = then t u w (p ∷ []) ps e f

  pub two_then : (q : List ℕ) → u ≡ written (p ∷ q ∷ []) t → w ≡ written ps u → w ≡ written (p ∷ q ∷ ps) t
  two_then q e f = then t u w (p ∷ q ∷ []) ps e f

pub ruleset chains = (one_then, two_then)

-- where there is room for all pieces they stand joined
fits : (t : Text) (v : List ℕ) → t.next + length v ≤ length t.octets → appended t v ≡ text (put t.octets t.next v) (t.next + length v)
unfolding appended
fits t v h = simp (le-leb _ _ h)

pub written-joined : (ps : List (List ℕ)) (t : Text) → t.next + length (joined ps) ≤ length t.octets
    → written ps t ≡ text (put t.octets t.next (joined ps)) (t.next + length (joined ps))
unfolding written
written-joined [] t h = rw (put-none t.octets t.next, add-zero t.next) refl
written-joined (p ∷ ps) t h =
    let n : length (p ++ joined ps) ≡ length p + length (joined ps) = length-append p (joined ps) in
    let g : t.next + length p ≤ length t.octets = omega arith in
    let l : length (put t.octets t.next p) ≡ length t.octets = length-put t.octets t.next p g in
    let s : t.next + length p + length (joined ps) ≡ t.next + length (p ++ joined ps) = omega arith in
    ap (written ps) (fits t p g)
    ∙ written-joined ps (text (put t.octets t.next p) (t.next + length p)) (omega arith)
    ∙ ap (λ (x : List ℕ). text x (t.next + length p + length (joined ps))) (put-more t.octets t.next p (joined ps) (omega arith))
    ∙ ap (text (put t.octets t.next (p ++ joined ps))) s

-- the pieces at the front of a slice that has room for them
pub front-put : (ps : List (List ℕ)) (d d' : List ℕ) (r : ℕ) → length (joined ps) ≤ length d → text d' r ≡ written ps (text d 0)
    → d' ≡ put d 0 (joined ps)
front-put ps d d' r h e = ap (λ (t : Text). t.octets) (e ∙ written-joined ps (text d 0) (omega arith))

pub front-is : (ps : List (List ℕ)) (d d' : List ℕ) (r : ℕ) → length (joined ps) ≤ length d → text d' r ≡ written ps (text d 0)
    → (r ≡ length (joined ps)) × (take r d' ≡ joined ps)
front-is ps d d' r h e =
    let w = e ∙ written-joined ps (text d 0) (omega arith) in
    let n : r ≡ 0 + length (joined ps) = ap (λ (t : Text). t.next) w in
    (omega arith, ap (λ (k : ℕ). take k d') n ∙ ap (take (0 + length (joined ps))) (front-put ps d d' r h e) ∙ take_put d 0 (joined ps) (omega arith))

-- the answers of `append`
module _ (d v : List ℕ) (at : ℕ) where
  pub append-out : (at + length v ≤ length d → ⊥) → text d at ≡ written (v ∷ []) (text d at)
  unfolding written appended
  append-out h = elim (which (leb (at + length v) (length d))) [ inl e ↦ absurd (h (leb-true _ _ e)) | inr e ↦ rw e refl ]

  pub append-put : at + length v ≤ length d → (d' : List ℕ) (next : ℕ) → Written d at (length v) v d' next
      → text d' next ≡ written (v ∷ []) (text d at)
  unfolding written
  append-put h d' next w = rw (w.holds, w.after) (sym (fits (text d at) v h))

-- one turn of the loop over the places of an id's text
glyphs-append : (i ks ls : List ℕ) → glyphs i (ks ++ ls) ≡ glyphs i ks ++ glyphs i ls
unfolding glyphs
glyphs-append i [] ls = refl
glyphs-append i (k ∷ ks) ls = ap (λ (x : List (List ℕ)). glyph_of i k ∷ x) (glyphs-append i ks ls)

pub length-glyphs : (i ks : List ℕ) → length (joined (glyphs i ks)) ≤ length ks + length ks
unfolding glyphs
length-glyphs i [] = omega arith
length-glyphs i (k ∷ ks) =
    omega (arith, length-append (glyph_of i k) (joined (glyphs i ks)), length-glyphs i ks, two (eqb k 16) (get_or i k 0)) where
      two : (b : Bool) (x : ℕ) → length (cond b (quoted "-") (hex_of x)) ≤ 2
      two true x = omega arith
      two false x = omega arith

module _ (t : Text) (i order : List ℕ) where
  pub glyphs-start : t ≡ written (glyphs i (take 0 order)) t
  unfolding glyphs written
  glyphs-start = refl

  pub glyphs-more : (u x : Text) (k : ℕ) → k < length order → u ≡ written (glyphs i (take k order)) t
      → x ≡ written (glyph_of i (get_or order k 0) ∷ []) u → x ≡ written (glyphs i (take (k + 1) order)) t
  unfolding glyphs
  glyphs-more u x k h e f =
      let g : take (k + 1) order ≡ take k order ++ (get_or order k 0 ∷ []) = rw add-one (take-suc order k 0 h) in
      then t u x _ _ e f ∙ ap (λ (ps : List (List ℕ)). written ps t) (sym (ap (glyphs i) g ∙ glyphs-append i (take k order) (get_or order k 0 ∷ [])))

pub ruleset pieces = (glyphs-start, glyphs-more)

-- the length of pieces behind pieces
pub length-joined : (ps qs : List (List ℕ)) → length (joined (ps ++ qs)) ≡ length (joined ps) + length (joined qs)
length-joined ps qs = ap length (joined-append ps qs) ∙ length-append (joined ps) (joined qs)
