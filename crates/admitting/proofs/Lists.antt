-- The schemes that the messages of a token name, in the words of the code.
-- Assumes nothing.
use Prim.Native.Nat.{ℕ, zero, suc, ◌+◌, ◌-◌, ◌/◌, ◌<◌, ◌≤◌, min}
use mathlib.Core.Path.{◌≡◌, refl, sym, ap, ◌∙◌}
use mathlib.Core.Bool.{Bool, true, false}
use mathlib.Core.List.{List, [], ◌∷◌, map}
use native.Mathlib.Numerals.{sub-one}
use native.Mathlib.Omega.{arith}
use lib.ListN.{length, take, drop, length-take, length-drop}
use lib.Seq.{length-take-le, ext_get_or, get_or-take, get_or-drop}
use Rattle.octets.proofs.Slices.{tail_all}
use Rattle.octets.specs.Octets.{octets, same_octets, same_id}
use Rattle.octets.proofs.Same.{same-sizes}
use Rattle.message.specs.Layout.{size, front, scheme_vector}
use Rattle.message.specs.Show.{ids_at, ids_of, schemes_in}
use Rattle.parts.proofs.Shows.{shown-short}
use Rattle.schemes.specs.Lists.{Id, mem}
use Rattle.schemes.proofs.Ids.{same-as}
use Rattle.conversation.specs.Writing.{starts_with}
use Rattle.conversation.specs.Admitting.{scheme_in, listed_by, messages_at, metadata_fits}
use Rattle.admitting.specs.Admissions.{listed_in}

-- the list of the token's NEGO
module _ (t : List ℕ) where
  pub listed-short : length t < 96 → [] ≡ listed_in t
  listed-short h = shown-short 96 (front t) (scheme_vector (front t)) (simp length-take (omega arith))

pub listed_by_lem : (t l : List ℕ) → l ≡ listed_in t → ids_of l ≡ listed_by t
unfolding schemes_in
listed_by_lem t l e = ap (λ (a : List ℕ). ids_of a) e

module _ (l id : List ℕ) where
  pub starts-short : length l < 16 → false ≡ starts_with (ids_of l) id
  unfolding ids_at
  starts-short h = let e : length l / 16 ≡ 0 = omega arith in rw e

  pub starts-same : 16 ≤ length l → (b : Bool) → b ≡ same_id id (take 16 l) → b ≡ starts_with (ids_of l) id
  unfolding ids_at
  starts-same h b e =
      let q : length l / 16 ≡ suc (length l / 16 - 1) = omega arith in
      rw q (e ∙ same-as id (take 16 l) (length-take-le 16 l h))

-- octets of another number are others
scheme-length : (n : ℕ) (s : List ℕ) → length (scheme_in (take n s)) ≡ min 16 (min n (length s) - 40)
scheme-length n s = simp (length-take, length-drop)

-- the first n octets of s, as a message
module _ (s : List ℕ) (n : ℕ) (id : List ℕ) (sixteen : length id ≡ 16) where
  pub names-short : min n (length s) < 56 → false ≡ same_octets id (scheme_in (take n s))
  names-short h = same-sizes id (scheme_in (take n s)) (λ e. omega (arith, scheme-length n s))

  module _ (long : 56 ≤ min n (length s)) where
    scheme-there : octets 16 s 40 ≡ scheme_in (take n s)
    scheme-there =
        ext_get_or 0 _ _ (simp (length-take, length-drop) (omega arith))
        (λ i w. let u : i < 16 = omega (arith, simp (length-take, length-drop) at w) in
        get_or-take 16 (drop 40 s) i 0 u ∙ get_or-drop 40 s i 0 ∙ sym (get_or-take n s (40 + i) 0 (omega arith))
        ∙ sym (get_or-take 16 (drop 40 (take n s)) i 0 u ∙ get_or-drop 40 (take n s) i 0))

    pub names_same : (b : Bool) → b ≡ same_id id (take 16 (drop 40 s)) → b ≡ same_octets id (scheme_in (take n s))
    names_same b e =
        let l : length (octets 16 s 40) ≡ 16 = simp (length-take, length-drop) (omega arith) in
        e ∙ same-as id (octets 16 s 40) l ∙ ap (same_octets id) scheme-there

-- the schemes that n messages name
abbrev pub named_in : ℕ → List ℕ → List Id
named_in n s = map scheme_in (messages_at n s)

nobody : (id : List ℕ) → length id ≡ 16 → (n : ℕ) (s : List ℕ) → length s < 56 → false ≡ mem id (named_in n s)
unfolding mem messages_at
nobody id e zero s h = refl
nobody id e (suc n) s h = simp (← names-short s (size s) id e (omega arith)) (nobody id e n (drop (size s) s) (omega (arith, length-drop (size s) s)))

first_of : (n : ℕ) (s : List ℕ) → 0 < n → named_in n s ≡ scheme_in (front s) ∷ named_in (n - 1) (drop (size s) s)
unfolding messages_at
first_of zero s h = absurd (omega arith)
first_of (suc n) s h = simp sub-one

-- one turn of the search: x is what it began with
module _ (id : List ℕ) (sixteen : length id ≡ 16) (n : ℕ) (s : List ℕ) (x : Bool) (inv : x ≡ mem id (named_in n s)) where
  pub named_end : n ≤ 0 → false ≡ x
  unfolding mem messages_at
  named_end h = let e : n ≡ 0 = omega arith in sym (inv ∙ rw e)

  pub named-short : length s < 56 → false ≡ x
  named-short h = nobody id sixteen n s h ∙ sym inv

  module _ (more : 0 < n) (k : ℕ) (k-is : k ≡ size s) (b : Bool) (b-is : b ≡ same_octets id (scheme_in (take k s))) where
    tested : same_octets id (scheme_in (front s)) ≡ b
    tested = ap (λ (j : ℕ). same_octets id (scheme_in (take j s))) (sym k-is) ∙ sym b-is

    pub named-hit : b ≡ true → true ≡ x
    unfolding mem
    named-hit t = sym (inv ∙ ap (mem id) (first_of n s more) ∙ simp (tested, t))

    module _ (miss : b ≡ false) where
      step : x ≡ mem id (named_in (n - 1) (drop k s))
      unfolding mem
      step =
          inv ∙ ap (mem id) (first_of n s more) ∙ simp (tested, miss)
          (ap (λ (j : ℕ). mem id (named_in (n - 1) (drop j s))) (sym k-is))

      pub named_past : length s < k → false ≡ x
      named_past h = nobody id sixteen (n - 1) (drop k s) (omega (arith, length-drop k s)) ∙ sym step

      pub named-on : x ≡ mem id (named_in (n - 1) (take (length s - k) (drop k s)))
      named-on = step ∙ ap (λ (l : List ℕ). mem id (named_in (n - 1) l)) (sym (tail_all s k))

-- 15 for metadata
module _ (t : List ℕ) (named : ℕ) (id : List ℕ) where
  pub metadata-short : length t < 96 → false ≡ metadata_fits t named id
  unfolding mem ids_at
  metadata-short h = let e : listed_by t ≡ [] = sym (listed_by_lem t [] (listed-short t h)) in rw e

  module _ (l : List ℕ) (l-is : l ≡ listed_in t) (a : Bool) (a-is : a ≡ mem id (ids_at (length l / 16) l)) where
    listed-test : mem id (listed_by t) ≡ a
    listed-test = sym (a-is ∙ ap (mem id) (listed_by_lem t l l-is))

    pub metadata-unlisted : a ≡ false → false ≡ metadata_fits t named id
    metadata-unlisted e = rw (listed-test, e)

    module _ (has : a ≡ true) (s : List ℕ) (s-is : s ≡ drop (size t) t) (b : Bool) (b-is : b ≡ mem id (named_in named s)) where
      named-test : mem id (named_in named (drop (size t) t)) ≡ b
      named-test = sym (b-is ∙ ap (λ (l : List ℕ). mem id (named_in named l)) s-is)

      pub metadata-again : b ≡ true → false ≡ metadata_fits t named id
      metadata-again e = rw (listed-test, has, named-test, e)

      pub metadata-new : b ≡ false → true ≡ metadata_fits t named id
      metadata-new e = rw (listed-test, has, named-test, e)

pub ruleset lists = (listed-short, starts-short, starts-same)

pub ruleset metadatas = (metadata-short, metadata-unlisted, metadata-again, metadata-new)
