-- The functions in the words of the code.
-- Assumes nothing.
use Prim.Native.Nat.{ℕ, suc, ◌+◌, ◌-◌, ◌*◌, ◌≤◌, ◌<◌, min, max}
use mir.Val.{bool_byte}
use mathlib.Core.Path.{◌≡◌, refl, sym, ap, ◌∙◌}
use mathlib.Core.Bool.{Bool, true, false}
use mathlib.Core.Logic.{inl, inr}
use mathlib.Core.List.{List}
use native.Mathlib.Omega.{arith}
use lib.ListN.{length, get_or, set, take, drop, drop_of_length-le}
use lib.Seq.{set_out, take_all}
use lib.Dec.{leb, ltb}
use borrow.Author.Tests.{lt-ltb, le-ltb, lt-leb, le-leb, leb-true, leb-false}
use Rattle.octets.specs.Octets.{le}
use Rattle.octets.proofs.Bools.{which}
use Rattle.vector.specs.declared.Vector.{Vector}
use Rattle.vector.specs.Vector.{part}
use Rattle.message.specs.Layout.{head_of, shape_of, header_of, nego, exchange, verify, alert, values_of, elements_at, elements_of, octet_vector, scheme_vector, extension_vector, exchange_vector, checksum_vector, alert_vector, vectors_of, content_of}
use Rattle.message.proofs.Shapes.{header-least}
use Rattle.coverage.specs.declared.Octets.{Octets}
use Rattle.coverage.specs.Coverage.{header_in, vectors_in, lies_in_one, in_vector, is_bare, one, count, header_octets, vector_octets, bare_octets, octets_in}
use Rattle.coverage.specs.Sweep.{Clear, marked, marked_all, sweep}
use Rattle.coverage.proofs.Sweeps.{length-marks, held_by, sweep-held}
use Rattle.coverage.proofs.Sums.{count_same, count-not, count-below, count-zero}

-- ---- `part`
pub drop-least : {A : Type 0} (l : List A) (k : ℕ) → drop (min k (length l)) l ≡ drop k l
drop-least l k = elim (which (leb k (length l))) [
  | inl e ↦ let h = leb-true k (length l) e in let z : min k (length l) ≡ k = omega arith in rw z
  | inr e ↦ let h =
      leb-false k (length l) e in let z : min k (length l) ≡ length l =
      omega arith in rw z (drop_of_length-le l {i = length l} (omega arith) ∙ sym (drop_of_length-le l {i = k} (omega arith)))
]

pub take-least : {A : Type 0} (l : List A) (k : ℕ) → take (min k (length l)) l ≡ take k l
take-least l k = elim (which (leb k (length l))) [
  | inl e ↦ let h = leb-true k (length l) e in let z : min k (length l) ≡ k = omega arith in rw z
  | inr e ↦ let h =
      leb-false k (length l) e in let z : min k (length l) ≡ length l =
      omega arith in rw z (take_all (length l) l (omega arith) ∙ sym (take_all k l (omega arith)))
]

-- ---- `mark`
module _ (map : List ℕ) (v : Vector) where
  pub mark-out : length map ≤ v.offset.0 → map ≡ marked map v
  unfolding marked
  mark-out h = sym (set_out map v.offset.0 _ h)

  pub mark-in : (end far : ℕ) → end ≡ min (v.offset.0 + v.count * v.size) (length map) → far ≡ max (get_or map v.offset.0 0) end
      → set map v.offset.0 far ≡ marked map v
  unfolding marked
  mark-in end far e f = simp (f, e)

-- ---- a turn of `mark_values`
abbrev pub values_from : ℕ → List ℕ → ℕ → List Vector
values_from n a at = values_of (elements_at n a at)

module _ (a : List ℕ) (whole map : List ℕ) where
  pub values-done : (n k : ℕ) → n ≤ k → whole ≡ marked_all map (values_from (n - k) a (12 * k)) → map ≡ whole
  unfolding marked_all elements_at
  values-done n k h inv = let e : n - k ≡ 0 = omega arith in sym (rw e at inv)

  pub values-more : (n k : ℕ) (v : Vector) (map' : List ℕ) → k < n → v ≡ octet_vector a (12 * k + 4) → map' ≡ marked map v
      → whole ≡ marked_all map (values_from (n - k) a (12 * k)) → whole ≡ marked_all map' (values_from (n - (k + 1)) a (12 * (k + 1)))
  unfolding marked_all elements_at
  values-more n k v map' h e f inv =
      let left : n - k ≡ suc (n - (k + 1)) = omega arith in
      let at : 12 * k + 12 ≡ 12 * (k + 1) = omega arith in
      rw left at inv ∙ rw at (simp (f, e))

-- ---- a turn of `swept`
from-bool : (b : Bool) → bool_byte b ≡ one b
unfolding one
from-bool true = refl
from-bool false = refl

pub bit : (b : Bool) (x : ℕ) → x ≡ bool_byte b → x ≤ 1
bit true x e = omega arith
bit false x e = omega arith

module _ (map : List ℕ) (whole far n : ℕ) where
  pub sweep-done : (size at : ℕ) → size ≤ at → whole ≡ n + sweep map far (size - at) at → n ≡ whole
  unfolding sweep
  sweep-done size at h inv = let e : size - at ≡ 0 = omega arith in let r : whole ≡ n + 0 = rw e at inv in omega arith

  pub sweep-more : (size at far' x : ℕ) → at < size → far' ≡ max far (get_or map at 0) → x ≡ bool_byte (ltb at far')
      → whole ≡ n + sweep map far (size - at) at → whole ≡ n + x + sweep map far' (size - (at + 1)) (at + 1)
  unfolding sweep
  sweep-more size at far' x h e f inv =
      let left : size - at ≡ suc (size - (at + 1)) = omega arith in
      rw left at inv ∙ simp (f, e, from-bool) (omega arith)

pub one-le : (b : Bool) (x : ℕ) → x ≡ one b → x ≤ 1
unfolding one
one-le true x e = omega arith
one-le false x e = omega arith

-- ---- the vectors of each layout
module _ (map m : List ℕ) where
  pub marks-exchange : (v : Vector) (map1 : List ℕ) → v ≡ exchange_vector m → map1 ≡ marked map v
      → map1 ≡ marked_all map (vectors_of (content_of exchange m))
  unfolding marked_all vectors_of content_of
  marks-exchange v map1 e f = simp (f, e)

  pub marks-verify : (v : Vector) (map1 : List ℕ) → v ≡ checksum_vector m → map1 ≡ marked map v → map1 ≡ marked_all map (vectors_of (content_of verify m))
  unfolding marked_all vectors_of content_of
  marks-verify v map1 e f = simp (f, e)

  pub marks-alert : (a : Vector) (map1 es map2 : List ℕ) → a ≡ alert_vector m → map1 ≡ marked map a
      → es ≡ part m a → map2 ≡ marked_all map1 (values_of (elements_of es)) → map2 ≡ marked_all map (vectors_of (content_of alert m))
  unfolding marked_all vectors_of content_of
  marks-alert a map1 es map2 e f g h = h ∙ simp (g, f, e)

  pub marks-nego : (v a : Vector) (map1 map2 es map3 : List ℕ)
      → v ≡ scheme_vector m → map1 ≡ marked map v → a ≡ extension_vector m → map2 ≡ marked map1 a
      → es ≡ part m a → map3 ≡ marked_all map2 (values_of (elements_of es)) → map3 ≡ marked_all map (vectors_of (content_of nego m))
  unfolding marked_all vectors_of content_of
  marks-nego v a map1 map2 es map3 e f e2 f2 g h = h ∙ simp (g, f2, e2, f, e)

pub ruleset sweeps = (mark-out, mark-in, values-done, values-more, sweep-done, sweep-more)

pub ruleset layouts = (marks-exchange, marks-verify, marks-alert, marks-nego)

-- ---- `count_octets`: the three counts of a message that has its header, and of one that has not
module _ (m : List ℕ) where
  held_none : (p : ℕ) → held_by 0 (vectors_in m) p ≡ in_vector m p
  held_none p = rw (le-ltb p 0 (omega arith))

  header-count : header_octets m ≡ min (length m) (header_in m)
  unfolding header_octets
  header-count = omega (arith, count-below (header_in m) (length m) 0)

  module _ (short : length m < header_in m) where
    no-vectors : (p : ℕ) → in_vector m p ≡ false
    unfolding vectors_in lies_in_one
    no-vectors p = rw (lt-leb _ _ short)

    no-vector-octets : vector_octets m ≡ 0
    unfolding vector_octets
    no-vector-octets = count-zero (in_vector m) (length m) 0 (λ p h. no-vectors p)

    no-bare-octets : bare_octets m ≡ 0
    unfolding bare_octets
    no-bare-octets = count-zero (is_bare m) (length m) 0 (λ p h. rw (lt-ltb p (header_in m) (omega arith)))

    pub counted-cut : ◌≡◌ {A = Octets} (record { headers = length m; vectors = 0; bare = 0 }) (octets_in m)
    counted-cut =
        let e : length m ≡ header_octets m = omega (arith, header-count) in
        rw (no-vector-octets, no-bare-octets, ← e)

-- ---- `whole_kind`
module _ (m : List ℕ) (kind : ℕ) (kind-is : kind ≡ le 4 m 8) where
  pub kind-here : kind ≡ (head_of m).kind
  unfolding head_of
  kind-here = kind-is

  pub header-here : (header : ℕ) → header ≡ header_of (shape_of kind) → header ≡ header_in m
  header-here header e = e ∙ ap (λ (k : ℕ). header_of (shape_of k)) kind-here

pub header_least : (m : List ℕ) → 64 ≤ header_in m
header_least m = header-least (shape_of (head_of m).kind)

-- the sweeps over a map in which the message's vectors are marked
module _ (m : List ℕ) (kind : ℕ) (kind-is : kind ≡ (head_of m).kind) (h : header_of (shape_of kind) ≤ length m)
    (map map0 map1 : List ℕ) (sized : length map ≡ length m) (kept : length map0 ≡ length map) (clear : Clear map0)
    (e : map1 ≡ marked_all map0 (vectors_of (content_of (shape_of kind) m))) where
  l : length map0 ≡ length m
  l = kept ∙ sized

  fits : header_in m ≤ length m
  fits = rw kind-is at h

  all : vectors_in m ≡ vectors_of (content_of (shape_of kind) m)
  unfolding vectors_in
  all = rw (le-leb _ _ fits, kind-is)

  same : length map1 ≡ length m
  same = ap length e ∙ length-marks map0 _ ∙ l

  swept-is : (start r : ℕ) → r ≡ sweep map1 start (length map1) 0 → r ≡ count (held_by start (vectors_in m)) (length m) 0
  swept-is start r f =
      f ∙ ap (λ (n : ℕ). sweep map1 start n 0) (same ∙ sym l) ∙ ap (λ (k : List ℕ). sweep k start (length map0) 0) (e ∙ ap (marked_all map0) (sym all))
      ∙ sweep-held map0 clear start (vectors_in m) ∙ ap (λ (n : ℕ). count (held_by start (vectors_in m)) n 0) l

  vectors-swept : (r : ℕ) → r ≡ sweep map1 0 (length map1) 0 → r ≡ vector_octets m
  unfolding vector_octets
  vectors-swept r f = swept-is 0 r f ∙ count_same (held_by 0 (vectors_in m)) (in_vector m) (held_none m) (length m) 0

  bare-swept : (r : ℕ) → r ≡ sweep map1 (header_in m) (length map1) 0 → r + bare_octets m ≡ length m
  unfolding bare_octets
  bare-swept r f =
      ap (λ (k : ℕ). k + count (is_bare m) (length m) 0) (swept-is (header_in m) r f) ∙ count-not (held_by (header_in m) (vectors_in m)) (length m) 0

  module _ (header : ℕ) (header_is : header ≡ header_of (shape_of kind)) (held : ℕ) (held-is : held ≡ sweep map1 header (length map1) 0) where
    header-own : header ≡ header_in m
    header-own = header_is ∙ ap (λ (k : ℕ). header_of (shape_of k)) kind-is

    bare-sum : held + bare_octets m ≡ length m
    bare-sum = bare-swept held (held-is ∙ ap (λ (k : ℕ). sweep map1 k (length map1) 0) header-own)

    pub held_fits : held ≤ length m
    held_fits = omega (arith, bare-sum)

    pub counted-all : (vectors : ℕ) → vectors ≡ sweep map1 0 (length map1) 0
        → ◌≡◌ {A = Octets} (record { headers = header; vectors = vectors; bare = length m - held }) (octets_in m)
    counted-all vectors vectors-is =
        let b : length m - held ≡ bare_octets m = omega (arith, bare-sum) in
        let a : header ≡ header_octets m = omega (arith, header-count m, header-own, fits) in
        rw (b, vectors-swept vectors vectors-is, a)
