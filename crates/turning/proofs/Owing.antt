-- 28, in the words of the code.
-- Assumes nothing.
use Prim.Native.Nat.{ℕ, zero, suc, ◌+◌, ◌*◌, ◌-◌, ◌/◌, ◌%◌, ◌<◌, ◌≤◌}
use mathlib.Core.Path.{◌≡◌, refl, sym, ap, ◌∙◌}
use mathlib.Core.Bool.{Bool, true, false, not, ◌&&◌}
use mathlib.Core.Logic.{◌⊎◌, inl, inr}
use mathlib.Core.List.{List, [], ◌∷◌, ◌++◌}
use native.Mathlib.Omega.{arith}
use lib.ListN.{length, take, drop, get_or, length-take, length-drop}
use lib.Seq.{take-add, length-take-le, take_all}
use lib.Bits.{bit_and}
use lib.Dec.{eqb}
use lib.Pointwise.{pointwise}
use borrow.Author.Tests.{eq-eqb, ne_eqb, eqb-true, eqb-false, le-leb}
use Rattle.octets.specs.Octets.{octets, same_octets, same_id}
use Rattle.octets.proofs.Bools.{which}
use Rattle.octets.proofs.Same.{same-sizes}
use Rattle.vector.specs.Vector.{extent, keeps_rule, part, shown}
use Rattle.vector.proofs.Rule.{rule-inside}
use Rattle.message.specs.Layout.{front, scheme_vector}
use Rattle.message.specs.Show.{id_at, ids_at, schemes_in}
use Rattle.message.proofs.Ids.{length_ids, id-at}
use Rattle.schemes.specs.Lists.{Id, join_ids}
use Rattle.schemes.specs.Sets.{left, named, open_places}
use Rattle.schemes.specs.Answers.{left_of, schemes_of}
use Rattle.schemes.specs.declared.Left.{Left}
use Rattle.schemes.specs.declared.Schemes.{Schemes}
use Rattle.schemes.proofs.Offers.{join-length, gathered-octets}
use Rattle.conversation.specs.declared.Record.{Record}
use Rattle.conversation.specs.State.{own_of, replied}
use Rattle.conversation.specs.Turns.{writes}
use Rattle.conversation.specs.Writing.{some_left, first_or}
use Rattle.conversation.specs.Admitting.{scheme_in, listed_by}
use Rattle.conversation.specs.Choosing.{open_to, may_choose}
use Rattle.admitting.specs.Admissions.{listed_in}
use Rattle.calls.proofs.Lefts.{left_less, open_none}
use Rattle.sides.specs.Turning.{same_list, with_marks, owed}

-- 1. octets, one by one

id_same : (a b : List ℕ) → length a ≡ 16 → same_id a b ≡ same_octets a b
unfolding same_id
id_same a b e = rw (eq-eqb _ _ e)

-- as the comparison of two slices says it
pub compared : (a b : List ℕ) → pointwise eqb a b ≡ same_octets a b
unfolding same_octets
compared [] [] = refl
compared [] (y ∷ b) = refl
compared (x ∷ a) [] = refl
compared (x ∷ a) (y ∷ b) = rw (compared a b) refl

-- the scheme of a message that has one
pub scheme-there : (m : List ℕ) → 56 ≤ length m → id_at m 40 ≡ scheme_in m
unfolding id_at
scheme-there m h = rw (le-leb 56 (length m) h)

-- 2. the schemes that a NEGO lists, as octets

ids-joined : (n : ℕ) (a : List ℕ) → join_ids (ids_at n a) ≡ take (16 * n) a
unfolding ids_at
ids-joined zero a = refl
ids-joined (suc n) a =
    let e : 16 + 16 * n ≡ 16 * suc n = omega arith in
    ap (λ (l : List ℕ). take 16 a ++ l) (ids-joined n (drop 16 a)) ∙ sym (take-add 16 (16 * n) a) ∙ ap (λ (k : ℕ). take k a) e

shown-whole : (m : List ℕ) → length (shown 96 m (scheme_vector m)) % 16 ≡ 0
unfolding shown
shown-whole m = elim (which (keeps_rule 96 (length m) (scheme_vector m))) [
  | inr e ↦ rw e
  | inl e ↦ rw e (elim (which (eqb (extent (scheme_vector m)) 0)) [
    | inl z ↦ let n =
        length-take (extent (scheme_vector m)) (drop (scheme_vector m).offset.0 m) in omega (arith, eqb-true (extent (scheme_vector m)) 0 z)
    | inr z ↦
        let i = rule-inside 96 (length m) (scheme_vector m) e (eqb-false _ _ z) in
        let n : length (part m (scheme_vector m)) ≡ extent (scheme_vector m) =
        length-take-le (extent (scheme_vector m)) (drop (scheme_vector m).offset.0 m)
        (omega (arith, i.before, length-drop (scheme_vector m).offset.0 m)) in
        omega arith
  ])
]

listed-joined : (t : List ℕ) → join_ids (listed_by t) ≡ listed_in t
unfolding schemes_in
listed-joined t =
    let a : List ℕ = listed_in t in
    let w = shown-whole (front t) in
    ids-joined (length a / 16) a ∙ take_all (16 * (length a / 16)) a (omega arith)

module _ (w : Record) (t l : List ℕ) (l-is : l ≡ listed_in t) where
  pub lists-own-is : (b : Bool) → b ≡ pointwise eqb l (take (16 * w.count) w.list) → b ≡ same_list (listed_by t) (own_of w)
  lists-own-is b b-is =
      b-is ∙ compared l (take (16 * w.count) w.list) ∙ ap (λ (x : List ℕ). same_octets x (take (16 * w.count) w.list)) (l-is ∙ sym (listed-joined t))
      ∙ ap (same_octets (join_ids (listed_by t))) (sym (ids-joined w.count w.list))

-- 3. the reply
module _ (w : Record) (few : w.count ≤ 16) (list : length w.list ≡ 256) (marks : ℕ) (small : marks < 65536) (s : Schemes)
    (s-is : s ≡ schemes_of (left (own_of w) (bit_and w.common (65535 - marks)) 0)) where
  abbrev own : List Id
  own = left (own_of w) w.common marks

  gathered : s ≡ schemes_of own
  gathered = s-is ∙ ap schemes_of (left_less 16 (own_of w) w.common marks (rw length_ids few) small)

  gathered-count : s.count ≡ length own
  unfolding schemes_of
  gathered-count = ap (λ (x : Schemes). x.count) gathered

  octets-are : take (16 * s.count) s.octets ≡ join_ids own
  octets-are = rw gathered (gathered-octets w.count w.list w.common marks (omega arith))

  pub reply-none : s.count ≡ 0 → (t : List ℕ)
      → not (eqb s.count 0) ≡ some_left (replied (with_marks marks w)) && same_list (listed_by t) (replied (with_marks marks w))
  reply-none z t = ap not (eq-eqb s.count 0 z) ∙ go own (sym gathered-count ∙ z) where
    go : (l : List Id) → length l ≡ 0 → false ≡ some_left l && same_list (listed_by t) l
    go [] e = refl
    go (x ∷ l) e = absurd (omega arith)

  joined_length : length (join_ids own) ≡ 16 * s.count
  joined_length = join-length w.count w.list w.common marks (omega arith) ∙ ap (λ (k : ℕ). 16 * k) (sym gathered-count)

  pub reply-end : 16 * s.count ≤ length s.octets
  reply-end = omega (arith, length-take (16 * s.count) s.octets, ap length octets-are, joined_length)

  pub reply-is : (s.count ≡ 0 → ⊥) → (t l : List ℕ) → l ≡ listed_in t → (b : Bool) → b ≡ pointwise eqb l (take (16 * s.count) s.octets)
      → b ≡ some_left (replied (with_marks marks w)) && same_list (listed_by t) (replied (with_marks marks w))
  reply-is n t l l-is b b-is =
      b-is ∙ compared l (take (16 * s.count) s.octets) ∙ ap (λ (x : List ℕ). same_octets x (take (16 * s.count) s.octets)) (l-is ∙ sym (listed-joined t))
      ∙ ap (same_octets (join_ids (listed_by t))) octets-are ∙ go own (λ e. n (gathered-count ∙ e)) where
        go : (k : List Id) → (length k ≡ 0 → ⊥) → same_list (listed_by t) k ≡ some_left k && same_list (listed_by t) k
        go [] h = absurd (h refl)
        go (x ∷ k) h = refl

pub ruleset lists = (lists-own-is, reply-none, reply-end, reply-is)

-- 4. the choice
module _ (w : Record) (few : w.count ≤ 16) (t : List ℕ) (long : 64 ≤ length t) (z : Left) (marks : ℕ)
    (is : z ≡ left_of (open_places w.kept w.common marks)) where
  abbrev ks : List ℕ
  ks = open_to w marks

  abbrev answer : Bool
  answer = some_left (named (own_of w) ks) && same_octets (scheme_in t) (first_or (named (own_of w) ks))

  choice-none : z.left ≡ 0 → false ≡ answer
  choice-none h = rw (sym (open_none w.list w.count z ks is h))

  module _ (n : z.left ≡ 0 → ⊥) where
    first-is : (some_left (named (own_of w) ks) ≡ true) × (first_or (named (own_of w) ks) ≡ get_or (own_of w) z.place [])
    unfolding left_of
    first-is = go ks (λ e. n (ap (λ (x : Left). x.left) is ∙ e)) (ap (λ (x : Left). x.place) is) where
      go : (l : List ℕ) → (length l ≡ 0 → ⊥) → z.place ≡ get_or l 0 0
          → (some_left (named (own_of w) l) ≡ true) × (first_or (named (own_of w) l) ≡ get_or (own_of w) z.place [])
      go [] h p = absurd (h refl)
      go (k ∷ l) h p = (refl, ap (λ (j : ℕ). get_or (own_of w) j []) (sym p))

    sixteen : length (scheme_in t) ≡ 16
    sixteen = length-take-le 16 (drop 40 t) (omega (arith, length-drop 40 t))

    answer-is : answer ≡ same_octets (scheme_in t) (get_or (own_of w) z.place [])
    answer-is =
        ap (λ (b : Bool). b && same_octets (scheme_in t) (first_or (named (own_of w) ks))) first-is.0 ∙ ap (same_octets (scheme_in t)) first-is.1

    choice-foreign : w.count ≤ z.place → false ≡ answer
    choice-foreign h =
        sym (answer-is ∙ ap (same_octets (scheme_in t)) (beyond (own_of w) z.place (omega (arith, length_ids w.count w.list)))
        ∙ sym (same-sizes (scheme_in t) [] (λ e. omega (arith, sixteen)))) where
          beyond : (l : List Id) (k : ℕ) → length l ≤ k → get_or l k [] ≡ []
          beyond [] k g = refl
          beyond (x ∷ l) zero g = absurd (omega arith)
          beyond (x ∷ l) (suc k) g = beyond l k (omega arith)

    module _ (low : z.place < w.count) where
      pub choice-part : length w.list ≡ 256 → 16 * z.place + 16 ≤ length w.list
      choice-part h = omega arith

      pub choice-is : (id : List ℕ) → id ≡ id_at t 40 → (b : Bool) → b ≡ same_id id (octets 16 w.list (16 * z.place)) → b ≡ answer
      choice-is id id-is b b-is =
          let i : id ≡ scheme_in t = id-is ∙ scheme-there t (omega arith) in
          let c : octets 16 w.list (16 * z.place) ≡ get_or (own_of w) z.place [] = sym (id-at w.count w.list z.place low) in
          b-is ∙ ap (λ (x : List ℕ). same_id x (octets 16 w.list (16 * z.place))) i ∙ ap (same_id (scheme_in t)) c
          ∙ id_same (scheme_in t) (get_or (own_of w) z.place []) sixteen ∙ sym answer-is

  pub choice-not : (z.left ≡ 0) ⊎ ((z.left ≡ 0 → ⊥) × (w.count ≤ z.place)) → false ≡ answer
  choice-not (inl h) = choice-none h
  choice-not (inr (n, h)) = choice-foreign n h

pub ruleset choices = (choice-part, choice-is)

-- 5. by what there is to write
module _ (w : Record) (marks : ℕ) (t : List ℕ) (token : ℕ) (token-is : token ≡ writes w) where
  pub owes-first : token ≡ 0 → (b : Bool) → b ≡ same_list (listed_by t) (own_of w) → b ≡ owed marks w t
  unfolding owed
  owes-first e b b-is = rw (eq-eqb (writes w) 0 (sym token-is ∙ e)) b-is

  module _ (n : token ≡ 0 → ⊥) where
    pub owes-reply : token ≡ 1 → (b : Bool) → b ≡ (some_left (replied (with_marks marks w)) && same_list (listed_by t) (replied (with_marks marks w)))
        → b ≡ owed marks w t
    unfolding owed
    owes-reply e b b-is = rw (ne_eqb (writes w) 0 (λ q. n (token-is ∙ q)), eq-eqb (writes w) 1 (sym token-is ∙ e)) b-is

    module _ (k : token ≡ 1 → ⊥) (c : Bool) (c-is : c ≡ may_choose w) where
      pub owes-choice : c ≡ true → (b : Bool) → b
          ≡ (some_left (named (own_of w) (open_to w marks)) && same_octets (scheme_in t) (first_or (named (own_of w) (open_to w marks)))) → b ≡ owed marks w t
      unfolding owed
      owes-choice e b b-is = rw (ne_eqb (writes w) 0 (λ q. n (token-is ∙ q)), ne_eqb (writes w) 1 (λ q. k (token-is ∙ q)), sym c-is ∙ e) b-is

      pub owes_nothing : c ≡ false → not c ≡ owed marks w t
      unfolding owed
      owes_nothing e = rw (ne_eqb (writes w) 0 (λ q. n (token-is ∙ q)), ne_eqb (writes w) 1 (λ q. k (token-is ∙ q)), sym c-is ∙ e, e)

pub ruleset owings = (owes-first, owes-reply, owes-choice, owes_nothing)
