-- One message: another one of equal length that agrees with it on its covered octets says the same.
-- Assumes nothing.
use Prim.Native.Nat.{ℕ, ◌+◌, ◌<◌, ◌≤◌}
use mathlib.Core.Path.{◌≡◌, refl, sym, ap, subst, ◌∙◌}
use mathlib.Core.Bool.{Bool, true, false, not, ◌&&◌, ◌||◌}
use mathlib.Core.List.{List, [], ◌∷◌, Memᴰ}
use native.Mathlib.Omega.{arith}
use lib.ListN.{length, drop, get_or, length-take, length-drop}
use lib.Seq.{get_or-take, get_or-drop, ext_get_or, take_all}
use borrow.Author.Tests.{le-leb, lt-leb, lt-ltb, le-ltb}
use Rattle.octets.specs.Octets.{le, octets}
use Rattle.vector.specs.declared.Vector.{Vector}
use Rattle.vector.specs.Vector.{extent, part, shown}
use Rattle.message.specs.Layout.{Shape, nego, exchange, verify, alert, head_of, Head, shape_of, header_of, pads_of, octet_vector, vector_at, extension_vector, alert_vector, content_of, content_in, vectors_of, size, front}
use Rattle.message.specs.Check.{all_pass, content_rows, body_rows, front_rows}
use Rattle.message.proofs.Local.{le_same, head-same}
use Rattle.message.proofs.Shapes.{header-least}
use Rattle.token.specs.Token.{next_rows}
use Rattle.token.specs.Split.{Message}
use Rattle.token.proofs.Cuts.{passes-sized}
use Rattle.coverage.specs.Coverage.{header_in, vectors_in, in_header, lies_in_pad, in_pad, lies_in, lies_in_one, in_vector, is_covered}
use Rattle.blanking.specs.Covered.{all_shown}

-- ---- a read of n octets at a place is the same where all its octets agree
abbrev pub Same : List ℕ → List ℕ → ℕ → ℕ → Type 0
Same m t at n = (i : ℕ) → at ≤ i → i < at + n → get_or t i 0 ≡ get_or m i 0

module _ (m t : List ℕ) where
  -- a stretch of a stretch
  pub within : (from k at n : ℕ) → Same m t from k → from ≤ at → at + n ≤ from + k → Same m t at n
  within from k at n h a b i p q = h i (omega arith) (omega arith)

  pub octets-same : length t ≡ length m → (n at : ℕ) → Same m t at n → octets n t at ≡ octets n m at
  octets-same sized n at h =
      ext_get_or 0 _ _ (simp (length-take, length-drop, sized))
      (λ i w. let u : i < n = omega (arith, length-take n (drop at t)) in
      get_or-take n (drop at t) i 0 u ∙ get_or-drop at t i 0 ∙ h (at + i) (omega arith) (omega arith)
      ∙ sym (get_or-take n (drop at m) i 0 u ∙ get_or-drop at m i 0))

  -- all that a layout says stands in a few stretches of its header and in its vectors
  module _ (sized : length t ≡ length m) (from k : ℕ) (h : Same m t from k) where
    number : (n at : ℕ) → from ≤ at → at + n ≤ from + k → le n t at ≡ le n m at
    number n at a b = le_same n m t at (within from k at n h a b)

    id : (n at : ℕ) → from ≤ at → at + n ≤ from + k → octets n t at ≡ octets n m at
    id n at a b = octets-same sized n at (within from k at n h a b)

    vector : (n at : ℕ) → from ≤ at → at + 6 ≤ from + k → vector_at n t at ≡ vector_at n m at
    vector n at a b = simp (number 4 at a (omega arith), number 2 (at + 4) (omega arith) (omega arith))

    octet-vector : (at : ℕ) → from ≤ at → at + 8 ≤ from + k → octet_vector t at ≡ octet_vector m at
    octet-vector at a b = simp (number 4 at a (omega arith), number 4 (at + 4) (omega arith) (omega arith))

  pub part_same : length t ≡ length m → (v : Vector) → Same m t v.offset.0 (extent v) → part t v ≡ part m v
  part_same sized v h = octets-same sized (extent v) v.offset.0 h

  pub shown-same : length t ≡ length m → (header : ℕ) (v : Vector) → Same m t v.offset.0 (extent v) → shown header t v ≡ shown header m v
  unfolding shown
  shown-same sized header v h = simp (sized, part_same sized v h)

  pub all-shown-same : length t ≡ length m → (header : ℕ) (vs : List Vector) → ((v : Vector) → Memᴰ v vs → Same m t v.offset.0 (extent v))
      → all_shown header t vs ≡ all_shown header m vs
  unfolding all_shown
  all-shown-same sized header [] h = refl
  all-shown-same sized header (v ∷ vs) h =
      simp (shown-same sized header v (h v (Memᴰ.head refl)), all-shown-same sized header vs (λ w i. h w (Memᴰ.tail i)))

-- ---- what is covered
or_l : (a b : Bool) → a ≡ true → a || b ≡ true
or_l a b e = rw e

pub or_r : (a b : Bool) → b ≡ true → a || b ≡ true
or_r true b e = refl
or_r false b e = e

lies-one : (vs : List Vector) (v : Vector) → Memᴰ v vs → (p : ℕ) → lies_in v p ≡ true → lies_in_one vs p ≡ true
unfolding lies_in_one
lies-one [] v i p e = elim i [ ]
lies-one (w ∷ vs) v (Memᴰ.head is) p e = or_l (lies_in w p) (lies_in_one vs p) (ap (λ (x : Vector). lies_in x p) (sym is) ∙ e)
lies-one (w ∷ vs) v (Memᴰ.tail i) p e = or_r (lies_in w p) (lies_in_one vs p) (lies-one vs v i p e)

-- the stretches of each header between its pads
nego-low : (i : ℕ) → i < 86 → lies_in_pad (pads_of nego) i ≡ false
unfolding lies_in_pad
nego-low i h = rw (lt-leb 86 i h, lt-leb 94 i (omega arith))

nego-high : (i : ℕ) → 88 ≤ i → i < 94 → lies_in_pad (pads_of nego) i ≡ false
unfolding lies_in_pad
nego-high i a b = simp (le-leb 86 i (omega arith), le-ltb i 88 a, lt-leb 94 i b)

verify-low : (i : ℕ) → i < 76 → lies_in_pad (pads_of verify) i ≡ false
unfolding lies_in_pad
verify-low i h = rw (lt-leb 76 i h)

alert-low : (i : ℕ) → i < 66 → lies_in_pad (pads_of alert) i ≡ false
unfolding lies_in_pad
alert-low i h = rw (lt-leb 66 i h, lt-leb 68 i (omega arith))

module _ (m t : List ℕ) (sized : length t ≡ length m) (agree : (i : ℕ) → is_covered m i ≡ true → get_or t i 0 ≡ get_or m i 0) where
  in-vector : (v : Vector) → Memᴰ v (vectors_in m) → Same m t v.offset.0 (extent v)
  unfolding lies_in
  in-vector v j i p q =
      agree i (or_r (in_header m i && not (in_pad m i)) (in_vector m i) (lies-one (vectors_in m) v j i (rw (le-leb _ _ p, lt-ltb _ _ q))))

  -- a message of a given layout that has its header
  module _ (shape : Shape) (is : shape_of (head_of m).kind ≡ shape) (room : header_of shape ≤ length m) where
    in-header : (i : ℕ) → i < header_of shape → lies_in_pad (pads_of shape) i ≡ false → get_or t i 0 ≡ get_or m i 0
    in-header i h e = agree i (simp (is, lt-ltb i (header_of shape) h, e))

    all : vectors_in m ≡ vectors_of (content_of shape m)
    unfolding vectors_in
    all = simp (is, le-leb _ _ room)

    own-vector : (v : Vector) → Memᴰ v (vectors_of (content_of shape m)) → part t v ≡ part m v
    own-vector v j = part_same m t sized v (in-vector v (subst (Memᴰ v) (sym all) j))

  nego-same : shape_of (head_of m).kind ≡ nego → 96 ≤ length m → content_of nego t ≡ content_of nego m
  unfolding content_of vectors_of
  nego-same is room =
      let a : Same m t 0 86 = λ i p q. in-header nego is room i (omega arith) (nego-low i (omega arith)) in
      let b : Same m t 88 6 = λ i p q. in-header nego is room i (omega arith) (nego-high i p (omega arith)) in
      simp (
        id m t sized 0 86 a 32 40 (omega arith) (omega arith),
        number m t sized 0 86 a 8 72 (omega arith) (omega arith),
        number m t sized 0 86 a 4 80 (omega arith) (omega arith),
        number m t sized 0 86 a 2 84 (omega arith) (omega arith),
        number m t sized 88 6 b 4 88 (omega arith) (omega arith),
        number m t sized 88 6 b 2 92 (omega arith) (omega arith),
        own-vector nego is room (extension_vector m) (Memᴰ.tail (Memᴰ.head refl)),
      )

  exchange-same : shape_of (head_of m).kind ≡ exchange → 64 ≤ length m → content_of exchange t ≡ content_of exchange m
  unfolding content_of lies_in_pad
  exchange-same is room =
      let a : Same m t 0 64 = λ i p q. in-header exchange is room i (omega arith) refl in
      simp (
        id m t sized 0 64 a 16 40 (omega arith) (omega arith),
        number m t sized 0 64 a 4 56 (omega arith)
            (omega arith),
        number m t sized 0 64 a 4 60 (omega arith) (omega arith),
      )

  verify-same : shape_of (head_of m).kind ≡ verify → 80 ≤ length m → content_of verify t ≡ content_of verify m
  unfolding content_of
  verify-same is room =
      let a : Same m t 0 76 = λ i p q. in-header verify is room i (omega arith) (verify-low i (omega arith)) in
      let n : (at : ℕ) → at + 4 ≤ 76 → le 4 t at ≡ le 4 m at = λ at w. number m t sized 0 76 a 4 at (omega arith) (omega arith) in
      simp (
        id m t sized 0 76 a 16 40 (omega arith) (omega arith),
        n 56 (omega arith),
        n 60 (omega arith),
        n 64 (omega arith),
        n 68
            (omega arith),
        n 72 (omega arith),
      )

  alert-same : shape_of (head_of m).kind ≡ alert → 72 ≤ length m → content_of alert t ≡ content_of alert m
  unfolding content_of vectors_of
  alert-same is room =
      let a : Same m t 0 66 = λ i p q. in-header alert is room i (omega arith) (alert-low i (omega arith)) in
      simp (
        id m t sized 0 66 a 16 40 (omega arith) (omega arith),
        number m t sized 0 66 a 4 56 (omega arith) (omega arith),
        number m t sized 0 66 a 4 60 (omega arith) (omega arith),
        number m t sized 0 66 a 2 64 (omega arith) (omega arith),
        own-vector alert is room (alert_vector m) (Memᴰ.head refl),
      )

  layout-same : (shape : Shape) → shape_of (head_of m).kind ≡ shape → header_of shape ≤ length m → content_of shape t ≡ content_of shape m
  layout-same nego is room = nego-same is room
  layout-same exchange is room = exchange-same is room
  layout-same verify is room = verify-same is room
  layout-same alert is room = alert-same is room

  -- the first forty octets of every header have no pad
  forty : (shape : Shape) → shape_of (head_of m).kind ≡ shape → header_of shape ≤ length m → (i : ℕ) → i < 40 → get_or t i 0 ≡ get_or m i 0
  unfolding lies_in_pad
  forty nego is room i h = in-header nego is room i (omega arith) (nego-low i (omega arith))
  forty exchange is room i h = in-header exchange is room i (omega arith) refl
  forty verify is room i h = in-header verify is room i (omega arith) (verify-low i (omega arith))
  forty alert is room i h = in-header alert is room i (omega arith) (alert-low i (omega arith))

  module _ (room : header_in m ≤ length m) where
    pub head-is : head_of t ≡ head_of m
    head-is =
        let least = header-least (shape_of (head_of m).kind) in
        head-same m t (omega arith) (omega arith) (forty (shape_of (head_of m).kind) refl room)

    pub content-is : content_in t ≡ content_in m
    content-is = ap (λ (h : Head). content_of (shape_of h.kind) t) head-is ∙ layout-same (shape_of (head_of m).kind) refl room

    pub header_is : header_in t ≡ header_in m
    header_is = ap (λ (h : Head). header_of (shape_of h.kind)) head-is

    pub vectors-are : vectors_in t ≡ vectors_in m
    unfolding vectors_in
    vectors-are = simp (header_is, sized, content-is)

    pub covered-is : (i : ℕ) → is_covered t i ≡ is_covered m i
    covered-is i = rw (vectors-are, head-is)

    pub part-is : (v : Vector) → Memᴰ v (vectors_of (content_in m)) → part t v ≡ part m v
    part-is v j = own-vector (shape_of (head_of m).kind) refl room v j

    pub shown-is : all_shown (header_in t) t (vectors_in t) ≡ all_shown (header_in m) m (vectors_in m)
    shown-is =
        ap (λ (n : ℕ). all_shown n t (vectors_in t)) header_is ∙ ap (all_shown (header_in m) t) vectors-are
        ∙ all-shown-same m t sized (header_in m) (vectors_in m) in-vector

-- ---- a message that passes its checks, and so does the other
pub message-room : (q : ℕ) (v m : List ℕ) → Message q v m → header_in m ≤ length m
message-room q v m e = let z = passes-sized m q v e.pass in omega (arith, z, e.exact)

module _ (q : ℕ) (v m t : List ℕ) (e : Message q v m) (sized : length t ≡ length m)
    (agree : (i : ℕ) → is_covered m i ≡ true → get_or t i 0 ≡ get_or m i 0) where
  room : header_in m ≤ length m
  room = message-room q v m e

  head : head_of t ≡ head_of m
  head = head-is m t sized agree room

  exact : size t ≡ length t
  exact = ap (λ (h : Head). h.length) head ∙ e.exact ∙ sym sized

  whole : (l : List ℕ) → size l ≡ length l → front l ≡ l
  whole l h = take_all (size l) l (omega arith)

  body : front_rows t ≡ front_rows m
  unfolding front_rows body_rows
  body =
      ap (λ (l : List ℕ). content_rows (header_in t) (size t) (content_of (shape_of (head_of t).kind) l)) (whole t exact)
      ∙ ap (content_rows (header_in t) (size t)) (content-is m t sized agree room)
      ∙ ap (λ (h : Head). content_rows (header_of (shape_of h.kind)) h.length (content_in m)) head
      ∙ sym (ap (λ (l : List ℕ). content_rows (header_in m) (size m) (content_of (shape_of (head_of m).kind) l)) (whole m e.exact))

  rows : next_rows t q v ≡ next_rows m q v
  unfolding next_rows
  rows = simp (sized, head, body)

  pub message-same : Message q v t
  message-same = record { pass = ap all_pass rows ∙ e.pass; exact = exact }
