-- One element, in the words of the code.
-- Assumes nothing.
use Prim.Native.Nat.{ℕ, ◌+◌, ◌-◌, ◌<◌, ◌≤◌}
use mathlib.Core.Path.{◌≡◌, refl, sym, ap, ◌∙◌}
use mathlib.Core.Bool.{Bool, true, false, not, cond, ◌||◌}
use mathlib.Core.List.{List, [], ◌∷◌}
use native.Mathlib.Nat.{add-zero, add_assoc}
use native.Mathlib.Omega.{arith}
use lib.ListN.{length, take, drop, get_or}
use lib.Dec.{leb, eqb}
use lib.Pointwise.{pointwise}
use borrow.Author.Tests.{le-leb, lt-leb, eq-eqb, ne_eqb}
use Rattle.std.specs.Prelude.{Result, Ok, Err}
use Rattle.refusal.specs.declared.Refusal.{Refusal}
use Rattle.refusal.specs.declared.Refusal.TheVariants as refusal
use Rattle.octets.proofs.Same.{compared}
use Rattle.octets.specs.Octets.{same_octets}
use Rattle.der.specs.Got.{ok, check}
use Rattle.der.specs.Element.{length_in, lead_of, size_of, framed, framed_from, frame, indefinite, shortest, judged, cut}
use Rattle.der.specs.Holder.{HolderAt, octets_at, part, capped, FrameInside, Frames, Inside, Cuts, verdict}
use Rattle.der.specs.declared.Framed.{Framed}
use Rattle.der.specs.declared.Part.{Part as Section}
use Rattle.der.proofs.Parts.{part_none, part-cons, length_part, drop-part, take_part, get_or-part}
use Rattle.der.proofs.Answers.{got-ok, got-placed}

-- from its length on
module _ (s : List ℕ) (H : Section) (h : HolderAt s H) where
  abbrev at : ℕ
  at = H.from

  abbrev end : ℕ
  end = H.end

  abbrev Says : Result Framed Refusal → Type 0
  Says r = Frames s H (framed_from (octets_at s H)) r

  size-of-v : length (part s at end) ≡ end - at
  size-of-v = length_part s at end h.order h.inside

  cut_off : length (part s at end) < lead_of (part s at end) + size_of (part s at end) → Says (Err refusal.Element)
  unfolding framed_from check
  cut_off k = record { same = sym (rw (lt-leb (lead_of (part s at end) + size_of (part s at end)) (length (part s at end)) k)); placed = tt }

  pub frame-none : at ≡ end → Says (Err refusal.Element)
  unfolding lead_of
  frame-none k = cut_off (omega (arith, size-of-v))

  module _ (some : at ≡ end → ⊥) (k : ℕ) (k-is : k ≡ 1 + (get_or s at 0 - 128)) where
    lead_is : lead_of (part s at end) ≡ k
    unfolding lead_of
    lead_is = let o = h.order in rw (get_or-part s at end h.order h.inside 0 (omega arith), add-zero) (sym k-is)

    pub frame-cut : end < at + k → Says (Err refusal.Element)
    frame-cut g = let o = h.order in cut_off (omega (arith, size-of-v, lead_is))

    module _ (fits : at + k ≤ end) (n : ℕ) (n-is : n ≡ capped (length_in (take (at + k - at) (drop at s)))) where
      head-is : take (lead_of (part s at end)) (part s at end) ≡ part s at (at + k)
      unfolding part
      head-is = let o = h.order in rw lead_is (take_part s at end h.order h.inside k (omega arith))

      size_is : n ≡ capped (size_of (part s at end))
      unfolding size_of part
      size_is = n-is ∙ rw head-is

      pub frame_past : end < at + k + n → Says (Err refusal.Element)
      frame_past g = let o = h.order in cut_off (omega (arith, size-of-v, lead_is, size_is))

      module _ (room : at + k + n ≤ end) where
        exact : size_of (part s at end) ≡ n
        exact = let o = h.order in let i = h.inside in let m = h.small in omega (arith, size_is)

        contents-are : take n (drop k (part s at end)) ≡ part s (at + k) (at + k + n)
        contents-are =
            let o = h.order in rw (drop-part s at end h.order h.inside k) (take_part s (at + k) end (omega arith) h.inside n (omega arith))

        rest-is : drop (k + n) (part s at end) ≡ part s (at + k + n) end
        rest-is = rw (drop-part s at end h.order h.inside (k + n), add_assoc)

        fit : leb (k + n) (length (part s at end)) ≡ true
        fit = let o = h.order in le-leb (k + n) (length (part s at end)) (omega (arith, size-of-v))

        pub frame_found : Says (Ok (record {
          lead = record { from = at; end = at + k };
          contents = record { from = at + k; end = at + k + n };
          rest = record { from = at + k + n; end = end };
        }))
        unfolding framed_from framed check
        frame_found =
            let o = h.order in
            let l : 0 < k = omega arith in
            record {
              same = sym (rw (head-is, exact, lead_is, fit, contents-are, rest-is));
              placed = record {
                order = omega arith;
                next = omega arith;
                inside = record { past = omega arith; order = omega arith; next = refl; behind = room; last = refl };
              };
            }

pub ruleset framing = (frame-none, frame-cut, frame_past, frame_found)

-- with its tag
module _ (s : List ℕ) (H : Section) (t : ℕ) (h : HolderAt s H) where
  abbrev SaysTag : Result Framed Refusal → Type 0
  SaysTag r = Frames s H (frame t (octets_at s H)) r

  pub tag-none : H.from ≡ H.end → SaysTag (Err refusal.Element)
  unfolding frame
  tag-none k = record { same = sym (rw (← k, part_none s H.from)); placed = tt }

  module _ (some : H.from ≡ H.end → ⊥) where
    front : octets_at s H ≡ get_or s H.from 0 ∷ part s (H.from + 1) H.end
    front = let o = h.order in part-cons s H.from H.end (omega arith) h.inside

    pub tag-other : (get_or s H.from 0 ≡ t → ⊥) → SaysTag (Err refusal.Element)
    unfolding frame check
    tag-other k = record { same = sym (rw (front, ne_eqb _ _ k)); placed = tt }

    pub tag-holder : HolderAt s (record { from = H.from + 1; end = H.end })
    tag-holder = let o = h.order in record { order = omega arith; inside = h.inside; small = h.small }

    pub tag-behind : get_or s H.from 0 ≡ t → (r : Result Framed Refusal)
        → Frames s (record { from = H.from + 1; end = H.end }) (framed_from (part s (H.from + 1) H.end)) r → SaysTag r
    unfolding frame check
    tag-behind k (Ok f) c =
        let i = c.placed.inside in
        let past : H.from < f.contents.from = omega arith in
        record {
          same = c.same ∙ sym (rw (front, eq-eqb _ _ k));
          placed = record {
            order = c.placed.order;
            next = c.placed.next;
            inside = record { past = past; order = i.order; next = i.next; behind = i.behind; last = i.last };
          };
        }
    tag-behind k (Err e) c = record { same = c.same ∙ sym (rw (front, eq-eqb _ _ k)); placed = tt }

pub ruleset tags = (tag-none, tag-other, tag-holder, tag-behind)

-- the verdict: w is the octet 80, q says that the length is another
module _ (right : Bool) (v w : List ℕ) where
  other : (q : Bool) → q ≡ not (pointwise eqb v w) → w ≡ 0x80 ∷ [] → q ≡ not (indefinite v)
  other q e k = e ∙ ap not (compared v w ∙ ap (same_octets v) k)

  pub verdict-wrong : (q : Bool) → q ≡ not (pointwise eqb v w) → w ≡ 0x80 ∷ [] → right ≡ false → q ≡ true → (c rest : Section)
      → Err refusal.Element ≡ verdict right v c rest
  verdict-wrong q e k r h c rest = go (indefinite v) refl (sym (other q e k) ∙ h) where
    go : (i : Bool) → indefinite v ≡ i → not i ≡ true → Err refusal.Element ≡ verdict right v c rest
    go true z y = let u : ◌≡◌ {A = Bool} false true = y in cc
    go false z y = rw (r, z)

  pub fine-indefinite : (q : Bool) → q ≡ not (pointwise eqb v w) → w ≡ 0x80 ∷ [] → q ≡ false → (right || indefinite v) ≡ true
  fine-indefinite q e k h = go right (indefinite v) (sym (other q e k) ∙ h) where
    go : (r i : Bool) → not i ≡ false → (r || i) ≡ true
    go true i y = refl
    go false true y = refl
    go false false y = let u : ◌≡◌ {A = Bool} true false = y in cc

  pub fine-right : right ≡ true → (right || indefinite v) ≡ true
  fine-right h = rw h

module _ (right : Bool) (v : List ℕ) (c rest : Section) (fine : (right || indefinite v) ≡ true) (x : Bool) (x-is : x ≡ shortest v (c.end - c.from)) where
  pub verdict-long : x ≡ false → Err refusal.ElementLength ≡ verdict right v c rest
  verdict-long h = rw (fine, ← x-is, h)

  pub verdict-found : x ≡ true → Ok (c, rest) ≡ verdict right v c rest
  verdict-found h = rw (fine, ← x-is, h)

-- the element, by what it is taken apart into and by the verdict
module _ (s : List ℕ) (H : Section) (t : ℕ) (h : HolderAt s H) (f : Framed) (r : Result Framed Refusal)
    (says : Frames s H (frame t (octets_at s H)) r) (r-is : r ≡ Ok f) where
  places : FrameInside H f
  places = got-placed says f r-is

  pub cut_by_lem : (p : List ℕ → Bool) (right : Bool) → right ≡ p (octets_at s f.contents)
      → (x : Result (Section × Section) Refusal) → x ≡ verdict right (octets_at s f.lead) f.contents f.rest → Cuts s H (cut t p (octets_at s H)) x
  unfolding cut judged check
  cut_by_lem p right right_is x x-is =
      let i = places.inside in
      let o = h.inside in
      let n : length (octets_at s f.contents) ≡ f.contents.end - f.contents.from = length_part s f.contents.from f.contents.end i.order (omega arith) in
      rw (x-is, got-ok says f r-is, ← right_is, n)
      (go right (indefinite (octets_at s f.lead)) (shortest (octets_at s f.lead) (f.contents.end - f.contents.from)) i) where
        go : (x y z : Bool) → Inside H f.contents f.rest
            → Cuts s H (check (x || y) 20 (check z 21 (ok (record { value = octets_at s f.contents; rest = octets_at s f.rest }))))
            (cond (x || y) (cond z (Ok (f.contents, f.rest)) (Err refusal.ElementLength)) (Err refusal.Element))
        go true y true i = record { same = refl; placed = i }
        go true y false i = record { same = refl; placed = tt }
        go false true true i = record { same = refl; placed = i }
        go false true false i = record { same = refl; placed = tt }
        go false false z i = record { same = refl; placed = tt }
