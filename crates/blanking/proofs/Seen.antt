-- Tokens that show the same agree on the covered octets.
-- Assumes nothing.
use Prim.Native.Nat.{ℕ, zero, suc, ◌+◌, ◌*◌, ◌-◌, ◌<◌, ◌≤◌}
use mathlib.Core.Path.{◌≡◌, refl, sym, ap, subst, ◌∙◌}
use mathlib.Core.Bool.{Bool, true, false, not, ◌&&◌, ◌||◌}
use mathlib.Core.Logic.{◌⊎◌, inl, inr}
use mathlib.Core.List.{List, [], ◌∷◌, ◌++◌}
use native.Mathlib.Omega.{arith}
use lib.ListN.{length, drop, get_or, get_or-append, get_or-eq_default}
use lib.Seq.{get_or-take, get_or-drop, get_or-append-add, take_all}
use lib.Dec.{leb, ltb}
use borrow.Author.Tests.{le-leb, lt-ltb, ltb-true, ltb-false, leb-true, not-true}
use Rattle.octets.specs.Octets.{le, octets}
use Rattle.octets.proofs.Bools.{which, no_true, both}
use Rattle.octets.proofs.Le.{le-add}
use Rattle.vector.specs.declared.Vector.{Vector}
use Rattle.vector.specs.Vector.{extent, keeps_rule, part, shown}
use Rattle.message.specs.Layout.{Shape, nego, exchange, verify, alert, Head, head_of, shape_of, header_of, pads_of, octet_vector, vector_at, scheme_vector, extension_vector, exchange_vector, checksum_vector, alert_vector, content_of, content_in, vectors_of, size, front}
use Rattle.message.specs.Check.{all_keep_rule, content_rows, body_rows, front_rows}
use Rattle.message.proofs.Tables.{given}
use Rattle.token.specs.Token.{Placed, Reading}
use Rattle.token.specs.Walk.{messages_of}
use Rattle.token.proofs.Cuts.{passes-parts}
use Rattle.token.proofs.Splits.{accepted-splits}
use Rattle.token.specs.Split.{Message, Numbered, join, placed_from}
use Rattle.coverage.specs.Coverage.{header_in, vectors_in, in_header, lies_in_pad, in_pad, lies_in, lies_in_one, in_vector, is_covered}
use Rattle.blanking.specs.Covered.{lies_at, covered_in, all_shown, View, view_of, views_of, AllOctets, CoveredSeen}
use Rattle.blanking.proofs.Sames.{message-room}
use Rattle.blanking.proofs.Keeps.{before-first}

-- ---- octets that are read the same are the same
abbrev Between : List ℕ → List ℕ → ℕ → ℕ → Type 0
Between m t from end = (i : ℕ) → from ≤ i → i < end → get_or t i 0 ≡ get_or m i 0

module _ (m t : List ℕ) where
  next : (a b c : ℕ) → Between m t a b → Between m t b c → Between m t a c
  next a b c f g i p q = elim (which (ltb i b)) [
    | inl e ↦ f i p (ltb-true _ _ e)
    | inr e ↦ g i (ltb-false _ _ e) q
  ]

one-octet : (s : List ℕ) (at : ℕ) → le 1 s at ≡ get_or s at 0
unfolding le
one-octet s at = let z : at + 0 ≡ at = omega arith in simp z (omega arith)

first-octet : (k : ℕ) (s : List ℕ) (at : ℕ) → le (suc k) s at ≡ get_or s at 0 + 256 * le k s (at + 1)
first-octet k s at =
    let z : suc k ≡ 1 + k = omega arith in
    ap (λ (n : ℕ). le n s at) z ∙ le-add 1 k s at ∙ ap (λ (n : ℕ). n + 256 * le k s (at + 1)) (one-octet s at)

module _ (m t : List ℕ) (mo : AllOctets m) (to : AllOctets t) where
  number-seen : (k at : ℕ) → le k t at ≡ le k m at → Between m t at (at + k)
  number-seen zero at e i p q = absurd (omega arith)
  number-seen (suc k) at e i p q =
      let d : get_or t at 0 + 256 * le k t (at + 1) ≡ get_or m at 0 + 256 * le k m (at + 1) = sym (first-octet k t at) ∙ e ∙ first-octet k m at in
      let r : le k t (at + 1) ≡ le k m (at + 1) = omega (arith, d, mo at, to at) in
      let f : get_or t at 0 ≡ get_or m at 0 = omega (arith, d, mo at, to at) in
      elim (which (ltb at i)) [
        | inl w ↦ let u = ltb-true at i w in number-seen k (at + 1) r i (omega arith) (omega arith)
        | inr w ↦ let u = ltb-false at i w in let z : i ≡ at = omega arith in ap (λ (n : ℕ). get_or t n 0) z ∙ f ∙ ap (λ (n : ℕ). get_or m n 0) (sym z)
      ]

  octets-seen : (n at : ℕ) → octets n t at ≡ octets n m at → Between m t at (at + n)
  octets-seen n at e i p q =
      let z : at + (i - at) ≡ i = omega arith in
      let u : i - at < n = omega arith in
      ap (λ (k : ℕ). get_or t k 0) (sym z) ∙ sym (get_or-take n (drop at t) (i - at) 0 u ∙ get_or-drop at t (i - at) 0)
      ∙ ap (λ (l : List ℕ). get_or l (i - at) 0) e
      ∙ get_or-take n (drop at m) (i - at) 0 u ∙ get_or-drop at m (i - at) 0 ∙ ap (λ (k : ℕ). get_or m k 0) z

  vector-seen : (n at : ℕ) → vector_at n t at ≡ vector_at n m at → Between m t at (at + 6)
  vector-seen n at e =
      let z : at + 4 + 2 ≡ at + 6 = omega arith in
      next m t at (at + 4) (at + 6) (number-seen 4 at (ap (λ (v : Vector). v.offset.0) e))
      (subst (Between m t (at + 4)) z (number-seen 2 (at + 4) (ap (λ (v : Vector). v.count) e)))

  octet-vector-seen : (at : ℕ) → octet_vector t at ≡ octet_vector m at → Between m t at (at + 8)
  octet-vector-seen at e =
      let z : at + 4 + 4 ≡ at + 8 = omega arith in
      next m t at (at + 4) (at + 8) (number-seen 4 at (ap (λ (v : Vector). v.offset.0) e))
      (subst (Between m t (at + 4)) z (number-seen 4 (at + 4) (ap (λ (v : Vector). v.count) e)))

  head-seen : head_of t ≡ head_of m → Between m t 0 40
  unfolding head_of
  head-seen e =
      next m t 0 8 40 (number-seen 8 0 (ap (λ (h : Head). h.signature) e))
      (next m t 8 12 40 (number-seen 4 8 (ap (λ (h : Head). h.kind) e))
      (next m t 12 16 40 (number-seen 4 12 (ap (λ (h : Head). h.sequence) e))
      (next m t 16 20 40 (number-seen 4 16 (ap (λ (h : Head). h.header) e))
      (next m t 20 24 40 (number-seen 4 20 (ap (λ (h : Head). h.length) e))
      (octets-seen 16 24 (ap (λ (h : Head). h.conversation) e))))))

  -- ---- the header of each layout, but for its pads
  nego-seen : content_of nego t ≡ content_of nego m → Between m t 40 86 × Between m t 88 94
  unfolding content_of
  nego-seen e =
      let random : octets 32 t 40 ≡ octets 32 m 40 = cc in
      let version : le 8 t 72 ≡ le 8 m 72 = cc in
      let schemes : scheme_vector t ≡ scheme_vector m = cc in
      let extensions : extension_vector t ≡ extension_vector m = cc in (
        next m t 40 72 86 (octets-seen 32 40 random) (next m t 72 80 86 (number-seen 8 72 version) (vector-seen 16 80 schemes)),
        vector-seen 12 88
            extensions,
      )

  exchange-seen : content_of exchange t ≡ content_of exchange m → Between m t 40 64
  unfolding content_of
  exchange-seen e =
      let scheme : octets 16 t 40 ≡ octets 16 m 40 = cc in
      let value : exchange_vector t ≡ exchange_vector m = cc in
      next m t 40 56 64 (octets-seen 16 40 scheme) (octet-vector-seen 56 value)

  verify-seen : content_of verify t ≡ content_of verify m → Between m t 40 76
  unfolding content_of
  verify-seen e =
      let scheme : octets 16 t 40 ≡ octets 16 m 40 = cc in
      let length : le 4 t 56 ≡ le 4 m 56 = cc in
      let checksum : le 4 t 60 ≡ le 4 m 60 = cc in
      let type : le 4 t 64 ≡ le 4 m 64 = cc in
      let value : checksum_vector t ≡ checksum_vector m = cc in
      next m t 40 56 76 (octets-seen 16 40 scheme)
      (next m t 56 60 76 (number-seen 4 56 length)
      (next m t 60 64 76 (number-seen 4 60 checksum) (next m t 64 68 76 (number-seen 4 64 type) (octet-vector-seen 68 value))))

  alert-seen : content_of alert t ≡ content_of alert m → Between m t 40 66
  unfolding content_of
  alert-seen e =
      let scheme : octets 16 t 40 ≡ octets 16 m 40 = cc in
      let code : le 4 t 56 ≡ le 4 m 56 = cc in
      let alerts : alert_vector t ≡ alert_vector m = cc in
      next m t 40 56 66 (octets-seen 16 40 scheme) (next m t 56 60 66 (number-seen 4 56 code) (vector-seen 12 60 alerts))

-- a place of a header that is in no pad lies in one of the stretches between them
pad-no : (a b i : ℕ) (c : Bool) → (leb a i && ltb i b) || c ≡ false → a ≤ i → i < b → ⊥
pad-no a b i c e p q = no_true (sym (rw (le-leb a i p, lt-ltb i b q) at e))

or-second : (a b : Bool) → a || b ≡ false → b ≡ false
or-second true b e = no_true (sym e)
or-second false b e = e

module _ (m t : List ℕ) (mo : AllOctets m) (to : AllOctets t) (head : head_of t ≡ head_of m) where
  nego-header : content_of nego t ≡ content_of nego m → (i : ℕ) → i < 96 → lies_in_pad (pads_of nego) i ≡ false → get_or t i 0 ≡ get_or m i 0
  unfolding lies_in_pad
  nego-header e i h free =
      let s = nego-seen m t mo to e in
      elim (which (ltb i 86)) [
        | inl w ↦ next m t 0 40 86 (head-seen m t mo to head) s.0 i (omega arith) (ltb-true _ _ w)
        | inr w ↦ let a = ltb-false i 86 w in elim (which (ltb i 88)) [
          | inl x ↦ absurd (pad-no 86 88 i _ free a (ltb-true _ _ x))
          | inr x ↦ elim (which (ltb i 94)) [
            | inl y ↦ s.1 i (ltb-false _ _ x) (ltb-true _ _ y)
            | inr y ↦ absurd (pad-no 94 96 i false (or-second (leb 86 i && ltb i 88) ((leb 94 i && ltb i 96) || false) free) (ltb-false _ _ y) h)
          ]
        ]
      ]

  verify-header : content_of verify t ≡ content_of verify m → (i : ℕ) → i < 80 → lies_in_pad (pads_of verify) i ≡ false → get_or t i 0 ≡ get_or m i 0
  unfolding lies_in_pad
  verify-header e i h free = elim (which (ltb i 76)) [
    | inl w ↦ next m t 0 40 76 (head-seen m t mo to head) (verify-seen m t mo to e) i (omega arith) (ltb-true _ _ w)
    | inr w ↦ absurd (pad-no 76 80 i _ free (ltb-false _ _ w) h)
  ]

  alert-header : content_of alert t ≡ content_of alert m → (i : ℕ) → i < 72 → lies_in_pad (pads_of alert) i ≡ false → get_or t i 0 ≡ get_or m i 0
  unfolding lies_in_pad
  alert-header e i h free = elim (which (ltb i 66)) [
    | inl w ↦ next m t 0 40 66 (head-seen m t mo to head) (alert-seen m t mo to e) i (omega arith) (ltb-true _ _ w)
    | inr w ↦ elim (which (ltb i 68)) [
      | inl x ↦ absurd (pad-no 66 68 i _ free (ltb-false _ _ w) (ltb-true _ _ x))
      | inr x ↦ absurd (pad-no 68 72 i false (or-second (leb 66 i && ltb i 68) ((leb 68 i && ltb i 72) || false) free) (ltb-false _ _ x) h)
    ]
  ]

  header-seen : (shape : Shape) → content_of shape t ≡ content_of shape m → (i : ℕ) → i < header_of shape → lies_in_pad (pads_of shape) i ≡ false
      → get_or t i 0 ≡ get_or m i 0
  header-seen nego e i h free = nego-header e i h free
  header-seen exchange e i h free = next m t 0 40 64 (head-seen m t mo to head) (exchange-seen m t mo to e) i (omega arith) h
  header-seen verify e i h free = verify-header e i h free
  header-seen alert e i h free = alert-header e i h free

-- ---- the vectors
lies-bounds : (v : Vector) (i : ℕ) → lies_in v i ≡ true → (v.offset.0 ≤ i) × (i < v.offset.0 + extent v)
unfolding lies_in
lies-bounds v i e = let b = both (leb v.offset.0 i) (ltb i (v.offset.0 + extent v)) e in (leb-true _ _ b.0, ltb-true _ _ b.1)

module _ (header : ℕ) (m t : List ℕ) (mo : AllOctets m) (to : AllOctets t) (sized : length t ≡ length m) where
  shown-seen : (v : Vector) → keeps_rule header (length m) v ≡ true → shown header t v ≡ shown header m v → (i : ℕ) → lies_in v i ≡ true
      → get_or t i 0 ≡ get_or m i 0
  unfolding shown
  shown-seen v k e i l =
      let b = lies-bounds v i l in
      let u : keeps_rule header (length t) v ≡ true = ap (λ (n : ℕ). keeps_rule header n v) sized ∙ k in
      let p : part t v ≡ part m v = rw (u, k) at e in
      octets-seen m t mo to (extent v) v.offset.0 p i b.0 b.1

  vectors-seen : (vs : List Vector) → all_keep_rule header (length m) vs ≡ true → all_shown header t vs ≡ all_shown header m vs → (i : ℕ)
      → lies_in_one vs i ≡ true → get_or t i 0 ≡ get_or m i 0
  unfolding all_keep_rule all_shown lies_in_one
  vectors-seen [] k e i l = no_true l
  vectors-seen (v ∷ vs) k e i l = elim (which (lies_in v i)) [
    | inl w ↦ let h : shown header t v ≡ shown header m v =
        cc in shown-seen v (both (keeps_rule header (length m) v) (all_keep_rule header (length m) vs) k).0 h i w
    | inr w ↦ let h : all_shown header t vs ≡ all_shown header m vs =
        cc in vectors-seen vs (both (keeps_rule header (length m) v) (all_keep_rule header (length m) vs) k).1 h i (rw w at l)
  ]

-- ---- a message
message-rule : (q : ℕ) (v m : List ℕ) → Message q v m → all_keep_rule (header_in m) (length m) (vectors_in m) ≡ true
unfolding front_rows body_rows content_rows vectors_in
message-rule q v m e =
    let whole : front m ≡ m = take_all (size m) m (omega (arith, e.exact)) in
    let (r10, (r11, (r12, (r13, none)))) = given (front_rows m) (passes-parts m q v e.pass).body in
    rw (le-leb _ _ (message-room q v m e))
    (subst (λ (n : ℕ). all_keep_rule (header_in m) n (vectors_of (content_in m)) ≡ true) e.exact
    (subst (λ (l : List ℕ). all_keep_rule (header_in m) (size m) (vectors_of (content_of (shape_of (head_of m).kind) l)) ≡ true) whole r11))

record SameView (m t : List ℕ) : Type 0 where
  head : head_of t ≡ head_of m
  content : content_in t ≡ content_in m
  vectors : all_shown (header_in t) t (vectors_in t) ≡ all_shown (header_in m) m (vectors_in m)

or_case : (a b : Bool) → a || b ≡ true → (a ≡ true) ⊎ (b ≡ true)
or_case true b e = inl refl
or_case false b e = inr e

module _ (q k : ℕ) (v c m t : List ℕ) (em : Message q v m) (et : Message k c t) (mo : AllOctets m) (to : AllOctets t) (same : SameView m t) where
  same_length : length t ≡ length m
  same_length = sym et.exact ∙ ap (λ (h : Head). h.length) same.head ∙ em.exact

  same-header : header_in t ≡ header_in m
  same-header = ap (λ (h : Head). header_of (shape_of h.kind)) same.head

  same-vectors : vectors_in t ≡ vectors_in m
  unfolding vectors_in
  same-vectors = simp (same-header, same_length, same.content)

  same-shown : all_shown (header_in m) t (vectors_in m) ≡ all_shown (header_in m) m (vectors_in m)
  same-shown = ap (all_shown (header_in m) t) (sym same-vectors) ∙ ap (λ (n : ℕ). all_shown n t (vectors_in t)) (sym same-header) ∙ same.vectors

  same-content : content_of (shape_of (head_of m).kind) t ≡ content_of (shape_of (head_of m).kind) m
  same-content = ap (λ (h : Head). content_of (shape_of h.kind) t) (sym same.head) ∙ same.content

  message-seen : (i : ℕ) → is_covered m i ≡ true → get_or t i 0 ≡ get_or m i 0
  message-seen i e = elim (or_case (in_header m i && not (in_pad m i)) (in_vector m i) e) [
    | inl w ↦ let b =
        both (in_header m i) (not (in_pad m i)) w in
        header-seen m t mo to same.head (shape_of (head_of m).kind) same-content i (ltb-true _ _ b.0) (not-true _ b.1)
    | inr w ↦ vectors-seen (header_in m) m t mo to same_length (vectors_in m) (message-rule q v m em) same-shown i w
  ]

-- ---- the token
module _ (a b : List ℕ) (o : AllOctets (a ++ b)) where
  first-octets : AllOctets a
  first-octets i = elim (which (ltb i (length a))) [
    | inl w ↦ subst (λ (n : ℕ). n < 256) (get_or-append a b 0 i (ltb-true _ _ w)) (o i)
    | inr w ↦ let z : get_or a i 0 ≡ 0 = get_or-eq_default a 0 (ltb-false _ _ w) in omega (arith, z)
  ]

  rest-octets : AllOctets b
  rest-octets i = subst (λ (n : ℕ). n < 256) (get_or-append-add a b i 0) (o (length a + i))

abbrev Seen : ℕ → List (List ℕ) → List (List ℕ) → Type 0
Seen p ms ns = (i : ℕ) → covered_in (placed_from p ms) i ≡ true → get_or (join ns) (i - p) 0 ≡ get_or (join ms) (i - p) 0

module _ (p : ℕ) (m t : List ℕ) (ms ns : List (List ℕ)) (sized : length t ≡ length m) where
  in-first : ((i : ℕ) → is_covered m i ≡ true → get_or t i 0 ≡ get_or m i 0) → (i : ℕ) → p ≤ i → i < p + length m → is_covered m (i - p) ≡ true
      → get_or (t ++ join ns) (i - p) 0 ≡ get_or (m ++ join ms) (i - p) 0
  in-first h i a b c =
      get_or-append t (join ns) 0 (i - p) (omega arith) ∙ h (i - p) c ∙ sym (get_or-append m (join ms) 0 (i - p) (omega arith))

  behind-first : Seen (p + length m) ms ns → (i : ℕ) → covered_in (placed_from (p + length m) ms) i ≡ true
      → get_or (t ++ join ns) (i - p) 0 ≡ get_or (m ++ join ms) (i - p) 0
  behind-first h i c = elim (which (ltb i (p + length m))) [
    | inl w ↦ no_true (sym (before-first (p + length m) ms i (ltb-true _ _ w)) ∙ c)
    | inr w ↦ let u = ltb-false i (p + length m) w in
        let j : ℕ = i - (p + length m) in
        let a : i - p ≡ length t + j = omega arith in
        let b : i - p ≡ length m + j = omega arith in
        ap (λ (n : ℕ). get_or (t ++ join ns) n 0) a ∙ get_or-append-add t (join ns) j 0 ∙ h i c
        ∙ sym (ap (λ (n : ℕ). get_or (m ++ join ms) n 0) b ∙ get_or-append-add m (join ms) j 0)
  ]

same_view : (p : ℕ) (m t : List ℕ) → view_of (record { place = p; octets = t }) ≡ view_of (record { place = p; octets = m }) → SameView m t
same_view p m t e =
    record { head = ap (λ (w : View). w.head) e; content = ap (λ (w : View). w.content) e; vectors = ap (λ (w : View). w.vectors) e }

seen : (p q k : ℕ) (v c : List ℕ) (ms ns : List (List ℕ)) → Numbered q v ms → Numbered k c ns → AllOctets (join ms) → AllOctets (join ns)
    → views_of (placed_from p ns) ≡ views_of (placed_from p ms) → Seen p ms ns
unfolding views_of covered_in
seen p q k v c [] ns em en mo to e i h = no_true h
seen p q k v c (m ∷ ms) [] em en mo to e i h = absurd (omega (arith, ap length e))
seen p q k v c (m ∷ ms) (t ∷ ns) em en mo to e i h =
    let first : view_of (record { place = p; octets = t }) ≡ view_of (record { place = p; octets = m }) = cc in
    let rest : views_of (placed_from (p + length t) ns) ≡ views_of (placed_from (p + length m) ms) = cc in
    let same = same_view p m t first in
    let mo1 = first-octets m (join ms) mo in
    let to1 = first-octets t (join ns) to in
    let n = same_length q k v c m t em.0 en.0 mo1 to1 same in
    let behind : Seen (p + length m) ms ns =
    seen (p + length m) (q + 1) (k + 1) v c ms ns em.1 en.1 (rest-octets m (join ms) mo) (rest-octets t (join ns) to)
    (ap (λ (l : ℕ). views_of (placed_from (p + l) ns)) (sym n) ∙ rest) in
    elim (or_case (lies_at (record { place = p; octets = m }) i && is_covered m (i - p)) (covered_in (placed_from (p + length m) ms) i) h) [
      | inl w ↦ let b = both (lies_at (record { place = p; octets = m }) i) (is_covered m (i - p)) w in
          let l = both (leb p i) (ltb i (p + length m)) b.0 in
          in-first p m t ms ns n (message-seen q k v c m t em.0 en.0 mo1 to1 same) i (leb-true _ _ l.0) (ltb-true _ _ l.1) b.1
      | inr w ↦ behind-first p m t ms ns n behind i w
    ]

pub covered-seen : CoveredSeen
covered-seen s t ps qs so to e f views p c =
    let (ms, (split, places)) = accepted-splits s ps e in
    let (ns, (split2, places2)) = accepted-splits t qs f in
    let told : covered_in (placed_from 0 ms) p ≡ true =
    ap (λ (l : List Placed). covered_in l p) places ∙ sym (ap (λ (r : Reading). covered_in (messages_of r) p) e) ∙ c in
    let z : p - 0 ≡ p = omega arith in
    let r : get_or (join ns) (p - 0) 0 ≡ get_or (join ms) (p - 0) 0 =
    seen 0 (head_of s).sequence (head_of t).sequence (head_of s).conversation (head_of t).conversation ms ns split.numbered split2.numbered
    (subst AllOctets (sym split.joins) so) (subst AllOctets (sym split2.joins) to)
    (ap views_of places2 ∙ views ∙ sym (ap views_of places)) p told in
    ap (λ (n : ℕ). get_or t n 0) (sym z) ∙ sym (ap (λ (l : List ℕ). get_or l (p - 0) 0) split2.joins) ∙ r
    ∙ ap (λ (l : List ℕ). get_or l (p - 0) 0) split.joins ∙ ap (λ (n : ℕ). get_or s n 0) z
