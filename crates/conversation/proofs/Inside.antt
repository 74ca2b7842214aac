-- A record stays inside its limits: what each accepted call makes of the sets, the kept places and the chosen place.
-- Assumes nothing.
use Prim.Native.Nat.{ℕ, zero, suc, ◌+◌, ◌*◌, ◌^◌, ◌/◌, ◌≤◌, ◌<◌}
use mathlib.Core.Path.{◌≡◌, refl, sym, ap, subst, ◌∙◌}
use mathlib.Core.Bool.{Bool, true, false, cond, not, ◌&&◌, ◌||◌}
use mathlib.Core.Logic.{inl, inr}
use mathlib.Core.List.{List, [], ◌∷◌}
use native.Mathlib.Omega.{arith}
use lib.ListN.{length, get_or}
use lib.Pow.{pow_pos, pow_mono}
use lib.Dec.{eqb, ltb}
use borrow.Author.Tests.{eqb-true, leb-true, ltb-true, le-leb, lt-ltb, not-true}
use Rattle.octets.proofs.Bools.{which, no_true, and_l, and_r}
use Rattle.octets.specs.Octets.{same_octets}
use Rattle.message.specs.Layout.{head_of}
use Rattle.message.proofs.Tables.{AllTrue}
use Rattle.message.proofs.Ids.{length_ids}
use Rattle.schemes.specs.Lists.{Id, mem, place, bit}
use Rattle.schemes.specs.Answers.{left_of}
use Rattle.schemes.specs.Sets.{common_set, left, kept_places, ones, named, below, kept_below, pad_to}
use Rattle.schemes.proofs.Choice.{mem-tail}
use Rattle.schemes.proofs.Digits.{ones-pow, bit-room}
use Rattle.schemes.proofs.Places.{set-bound}
use Rattle.schemes.proofs.Limits.{kept-below, open-below}
use Rattle.schemes.proofs.Mentions.{kept-few}
use Rattle.schemes.proofs.Replies.{place-below}
use Rattle.conversation.specs.declared.Record.{Record}
use Rattle.conversation.specs.declared.Scan.{Scan}
use Rattle.conversation.specs.State.{NONE, own_of, scheme_at, replied, limit_rows}
use Rattle.conversation.specs.Turns.{FIRST, ANSWER, FURTHER, NEGO, METADATA, writing, reading, class_of, after, after_further, writes, reads}
use Rattle.conversation.specs.Outcomes.{WrittenAs, wrote}
use Rattle.conversation.specs.Writing.{some_left, first_or, metadata_allowed, starts_with, scheme_now, scheme_allowed}
use Rattle.conversation.specs.Admitting.{listed_by, scheme_in, is_at, further_fits, scheme_fits, confirmed_for, passed, on, admit}
use Rattle.conversation.specs.Reading.{common_after, kept_after, taken}
use Rattle.conversation.specs.Choosing.{open_to, first_place, chose}
use Rattle.conversation.proofs.Tokens.{not-stop}

or_right : (a : Bool) {b : Bool} → b ≡ true → a || b ≡ true
or_right true e = refl
or_right false e = e

-- 1. schemes of the own list

mem-left : (id : Id) (l : List Id) (c m : ℕ) → mem id (left l c m) ≡ true → mem id l ≡ true
unfolding left mem
mem-left id [] c m h = h
mem-left id (x ∷ l) c m h = go (bit c 0 && not (bit m 0)) (mem-left id l (c / 2) (m / 2)) h where
  go : (b : Bool) → (mem id (left l (c / 2) (m / 2)) ≡ true → mem id l ≡ true)
      → mem id (cond b (x ∷ left l (c / 2) (m / 2)) (left l (c / 2) (m / 2))) ≡ true → mem id (x ∷ l) ≡ true
  go false ih g = mem-tail id x l (ih g)
  go true ih g = elim (which (same_octets id x)) [ inl e ↦ rw e | inr e ↦ rw e (ih (rw e at g)) ]

pub mem-at : (id : Id) (l : List Id) (k : ℕ) → k < length l → same_octets id (get_or l k []) ≡ true → mem id l ≡ true
unfolding mem
mem-at id [] k h e = absurd (omega arith)
mem-at id (x ∷ l) zero h e = rw e
mem-at id (x ∷ l) (suc k) h e = mem-tail id x l (mem-at id l k (omega arith) e)

module _ (r : Record) where
  pub own-length : length (own_of r) ≡ r.count
  own-length = length_ids r.count r.list

  pub place-own : (id : Id) → mem id (own_of r) ≡ true → place (own_of r) id < r.count
  place-own id h = subst (λ (n : ℕ). place (own_of r) id < n) own-length (place-below (own_of r) id h)

  pub at_mem : (id : Id) (k : ℕ) → is_at r k id ≡ true → mem id (own_of r) ≡ true
  at_mem id k h =
      let low : k < r.count = ltb-true _ _ (and_l (ltb k r.count) (same_octets id (scheme_at r k)) h) in
      mem-at id (own_of r) k (subst (λ (n : ℕ). k < n) (sym own-length) low) (and_r (ltb k r.count) (same_octets id (scheme_at r k)) h)

  pub replied-mem : (id : Id) → mem id (replied r) ≡ true → mem id (own_of r) ≡ true
  replied-mem id h = mem-left id (own_of r) r.common r.marks h

  -- 2. metadata, once

  module _ (id : Id) (h : metadata_allowed r id ≡ true) where
    pub allowed-own : mem id (own_of r) ≡ true
    allowed-own = own r.acceptor (and_l (mem id (cond r.acceptor (replied r) (own_of r))) (not (bit r.metadata (place (own_of r) id))) h) where
      own : (a : Bool) → mem id (cond a (replied r) (own_of r)) ≡ true → mem id (own_of r) ≡ true
      own true e = replied-mem id e
      own false e = e

    pub allowed-untold : bit r.metadata (place (own_of r) id) ≡ false
    allowed-untold = not-true _ (and_r (mem id (cond r.acceptor (replied r) (own_of r))) (not (bit r.metadata (place (own_of r) id))) h)

    pub told_below : below r.count r.metadata ≡ true → below r.count (r.metadata + 2 ^ place (own_of r) id) ≡ true
    told_below b = lt-ltb _ _ (bit-room r.count r.metadata (place (own_of r) id) (ltb-true _ _ b) (place-own id allowed-own) allowed-untold)

  -- 3. the rule's scheme

  pub now-below : scheme_allowed r ≡ true → scheme_now r < r.count
  unfolding scheme_now
  now-below h = elim (which (eqb (writes r) ANSWER)) [
    | inl a ↦
        let first : eqb (writes r) FIRST ≡ false = (let w : writes r ≡ 1 = eqb-true _ _ a in rw w) in
        rw (first, a)
        (ltb-true r.requested r.count
        (and_l (ltb r.requested r.count) (starts_with (replied r) (scheme_at r r.requested)) (rw a at h)))
    | inr a ↦ rw a (ltb-true (cond (eqb (writes r) FIRST) 0 r.chosen) r.count (rw a at h))
  ]

  -- 4. the chosen place of a token's messages

  abbrev pub ChosenBelow : ℕ → Type 0
  ChosenBelow k = (eqb k NONE || ltb k r.count) ≡ true

  low-chosen : (k : ℕ) → k < r.count → ChosenBelow k
  low-chosen k h = or_right (eqb k NONE) (lt-ltb k r.count h)

  pub further-mem : (chosen : ℕ) (id : Id) → further_fits r chosen id ≡ true → mem id (own_of r) ≡ true
  further-mem chosen id h = go (eqb chosen NONE) h where
    go : (b : Bool) → cond b (r.acceptor && mem id (replied r)) (is_at r chosen id) ≡ true → mem id (own_of r) ≡ true
    go true e = replied-mem id (and_r r.acceptor (mem id (replied r)) e)
    go false e = at_mem id chosen e

  -- neither a NEGO nor metadata is a message of a later token
  pub further-kind : (token position : ℕ) (v : Bool) (kind : ℕ) → eqb token FURTHER ≡ true → not (eqb (after token position v kind) 0) ≡ true
      → (eqb kind NEGO ≡ false) × (eqb kind METADATA ≡ false)
  unfolding after after_further
  further-kind token position v kind f h = (
    elim (which (eqb kind NEGO)) [ inl e ↦ no_true (rw (eqb-true token FURTHER f, eqb-true kind NEGO e) at h) | inr e ↦ e ],
    elim (which (eqb kind METADATA)) [ inl e ↦ no_true (rw (eqb-true token FURTHER f, eqb-true kind METADATA e) at h) | inr e ↦ e ],
  )

  pub admit-chosen : (t : List ℕ) (c d : Scan) (m : List ℕ) → ChosenBelow c.chosen → admit r t c m ≡ on d → ChosenBelow d.chosen
  unfolding admit passed scheme_fits
  admit-chosen t c d m p e =
      let kind : ℕ = class_of (not r.acceptor) (head_of m).kind in
      let a = not-stop (not (eqb (after (reads r) c.position (confirmed_for r c (scheme_in m)) kind) 0)) 14 _ d e in
      let b = not-stop (scheme_fits r t c kind (scheme_in m)) 15 _ d a.1 in
      let is : passed r c kind (after (reads r) c.position (confirmed_for r c (scheme_in m)) kind) (scheme_in m) ≡ d = cc in
      subst (λ (s : Scan). ChosenBelow s.chosen) is (elim (which (eqb (reads r) FURTHER)) [
        | inr f ↦ rw f p
        | inl f ↦
            let k = further-kind (reads r) c.position (confirmed_for r c (scheme_in m)) kind f a.0 in
            let g : further_fits r c.chosen (scheme_in m) ≡ true = rw (k.0, k.1, f) at b.0 in
            rw f (low-chosen _ (place-own (scheme_in m) (further-mem c.chosen (scheme_in m) g)))
      ])

-- 5. the initiator's choice: the first open place, or none

pub first_below : (r : Record) (m : ℕ) → kept_below r.count r.kept r.common ≡ true → ChosenBelow r (first_place (open_to r m))
first_below r m h = go (open_to r m) (open-below r.count r.kept r.common m h) where
  go : (ks : List ℕ) → (((left_of ks).left ≡ 0 → ⊥) → (left_of ks).place < r.count) → ChosenBelow r (first_place ks)
  go [] f = refl
  go (k ∷ ks) f = unfold left_of in low-chosen r k (f (λ z. omega arith))

-- where a scheme is left, it is one of the list: so 15 never comes up
pub chosen-below : (r : Record) (m : ℕ) → kept_below r.count r.kept r.common ≡ true → some_left (named (own_of r) (open_to r m)) ≡ true
    → first_place (open_to r m) < r.count
chosen-below r m h = go (open_to r m) (open-below r.count r.kept r.common m h) where
  go : (ks : List ℕ) → (((left_of ks).left ≡ 0 → ⊥) → (left_of ks).place < r.count) → some_left (named (own_of r) ks) ≡ true → first_place ks < r.count
  go [] f s = no_true s
  go (k ∷ ks) f s = unfold left_of in f (λ z. omega arith)

-- after the choice a message names the chosen scheme
pub now-chosen : (r : Record) (m : ℕ) → scheme_now (chose r m) ≡ first_place (open_to r m)
unfolding scheme_now writing
now-chosen r m = go r.acceptor where
  go : (a : Bool) → cond (eqb (writing a 3) 0) 0 (cond (eqb (writing a 3) 1) r.requested (first_place (open_to r m))) ≡ first_place (open_to r m)
  go true = refl
  go false = refl

pub scheme-chosen : (r : Record) (m : ℕ) → some_left (named (own_of r) (open_to r m)) ≡ true
    → scheme_at r (scheme_now (chose r m)) ≡ first_or (named (own_of r) (open_to r m))
scheme-chosen r m h = ap (scheme_at r) (now-chosen r m) ∙ go (open_to r m) h where
  go : (ks : List ℕ) → some_left (named (own_of r) ks) ≡ true → scheme_at r (first_place ks) ≡ first_or (named (own_of r) ks)
  go [] s = no_true s
  go (k ∷ ks) s = refl

pub chosen-allowed : (r : Record) (m : ℕ) → kept_below r.count r.kept r.common ≡ true → some_left (named (own_of r) (open_to r m)) ≡ true
    → scheme_allowed (chose r m) ≡ true
chosen-allowed r m kept some =
    rw (no_answer r.acceptor) (ap (λ (k : ℕ). ltb k r.count) (now-chosen r m) ∙ lt-ltb _ _ (chosen-below r m kept some)) where
      no_answer : (a : Bool) → eqb (writing a 3) ANSWER ≡ false
      no_answer true = unfold writing in refl
      no_answer false = unfold writing in refl

-- 6. the common set and the kept places that a reading leaves

first-acceptor : (a : Bool) (stage : ℕ) → eqb (reading a stage) FIRST ≡ true → a ≡ true
unfolding reading
first-acceptor true stage h = refl
first-acceptor false stage h = go (eqb stage 0) (eqb stage 3) h where
  go : (b c : Bool) → eqb (cond b 1 (cond c 2 3)) 0 ≡ true → false ≡ true
  go true c e = no_true e
  go false true e = no_true e
  go false false e = no_true e

ones-few : (k n : ℕ) → k ≤ n → below n (ones k) ≡ true
ones-few k n h = let p : 2 ^ k ≤ 2 ^ n = pow_mono {i = k} {j = n} h in let low : ones k < 2 ^ n = omega (arith, ones-pow k) in lt-ltb _ _ low

module _ (r : Record) (t : List ℕ) where
  pub common-then : below r.count r.common ≡ true → below r.count (common_after r t) ≡ true
  unfolding common_after
  common-then h = elim (which (eqb (reads r) FIRST)) [
    | inl e ↦ rw e
        (subst (λ (n : ℕ). below n (common_set (own_of r) (listed_by t)) ≡ true) (own-length r)
        (lt-ltb _ _ (set-bound (λ s. mem s (listed_by t)) (own_of r))))
    | inr e ↦ elim (which (eqb (reads r) ANSWER)) [
      | inl g ↦ rw (e, g)
          (ones-few _ r.count (subst (λ (n : ℕ). length (kept_places (own_of r) (listed_by t)) ≤ n) (own-length r) (kept-few (own_of r) (listed_by t))))
      | inr g ↦ rw (e, g) h
    ]
  ]

  pub places_then : (r.acceptor || kept_below r.count r.kept r.common) ≡ true
      → (r.acceptor || kept_below r.count (kept_after r t) (common_after r t)) ≡ true
  unfolding common_after kept_after
  places_then h = elim (which (eqb (reads r) FIRST)) [
    | inl e ↦ rw (first-acceptor r.acceptor r.stage e)
    | inr e ↦ elim (which (eqb (reads r) ANSWER)) [
      | inl g ↦ rw (e, g)
          (or_right r.acceptor
          (subst (λ (n : ℕ). kept_below n (pad_to 16 (kept_places (own_of r) (listed_by t))) (ones (length (kept_places (own_of r) (listed_by t)))) ≡ true)
          (own-length r)
          (kept-below (own_of r) (listed_by t) (ones (length (kept_places (own_of r) (listed_by t))))
          (omega (arith, ones-pow (length (kept_places (own_of r) (listed_by t))))))))
      | inr g ↦ rw (e, g) h
    ]
  ]

-- 7. the limits after each kind of call

module _ (r : Record) (limits : AllTrue (limit_rows r)) where
  pub limits-wrote : (position size : ℕ) (w : WrittenAs) → below r.count w.marks ≡ true → below r.count w.metadata ≡ true → 64 ≤ size
      → r.used + size ≤ 65535 → AllTrue (limit_rows (wrote r position size w))
  limits-wrote position size w marks told long room =
      let (l1, (l2, (l3, (l4, (l5, (l6, (l7, (l8, (l9, (l10, (l11, rest))))))))))) = limits in
      let sixty : 64 * r.sequence ≤ r.used = leb-true _ _ l11 in
      let numbers : r.sequence + 1 ≤ 1023 = omega arith in
      let enough : 64 * (r.sequence + 1) ≤ r.used + size = omega arith in
      (l1, (l2, (l3, (marks, (l5, (told, (l7, (l8, (le-leb _ _ room, (le-leb _ _ numbers, (le-leb _ _ enough, tt)))))))))))

  pub limits-taken : (t : List ℕ) (n : ℕ) (c : Scan) → ChosenBelow r c.chosen → 64 * n ≤ length t → r.used + length t ≤ 65535
      → AllTrue (limit_rows (taken r t n c))
  limits-taken t n c chosen long room =
      let (l1, (l2, (l3, (l4, (l5, (l6, (l7, (l8, (l9, (l10, (l11, rest))))))))))) = limits in
      let sixty : 64 * r.sequence ≤ r.used = leb-true _ _ l11 in
      let numbers : r.sequence + n ≤ 1023 = omega arith in
      let enough : 64 * (r.sequence + n) ≤ r.used + length t = omega arith in (
        l1,
        (
          l2,
          (
            l3,
            (
              l4,
              (
                common-then r t l5,
                (
                  lt-ltb 0 (2 ^ r.count) (pow_pos r.count),
                  (places_then r t l7, (chosen, (le-leb _ _ room, (le-leb _ _ numbers, (le-leb _ _ enough, tt))))),
                ),
              ),
            ),
          ),
        ),
      )

  pub limits-chose : (m : ℕ) → r.acceptor ≡ false → below r.count m ≡ true → AllTrue (limit_rows (chose r m))
  limits-chose m role marks =
      let (l1, (l2, (l3, (l4, (l5, (l6, (l7, (l8, (l9, (l10, (l11, rest))))))))))) = limits in
      (l1, (l2, (l3, (marks, (l5, (l6, (l7, (first_below r m (rw role at l7), (l9, (l10, (l11, tt)))))))))))

  pub limits-counts : (r.used ≤ 65535) × (r.sequence ≤ 1023)
  limits-counts =
      let (l1, (l2, (l3, (l4, (l5, (l6, (l7, (l8, (l9, (l10, (l11, rest))))))))))) = limits in
      (leb-true _ _ l9, leb-true _ _ l10)
