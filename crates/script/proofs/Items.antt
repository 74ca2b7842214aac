-- Extensions and alerts, one behind the other, in the words of the code.
-- Assumes nothing.
use Prim.Native.Nat.{ℕ, zero, suc, ◌+◌, ◌-◌, ◌≤◌, ◌<◌}
use mathlib.Core.Path.{◌≡◌, refl, sym, ap, ◌∙◌}
use mathlib.Core.Bool.{Bool, true, false, cond}
use mathlib.Core.List.{List, [], ◌∷◌, ◌++◌, append_assoc, append-nil, map, map-append}
use native.Mathlib.Omega.{arith}
use lib.ListN.{length, take, drop, get_or, set, length-append, length-drop, length-map}
use lib.Seq.{length-take-le, take-append-add, take-append-le}
use lib.Dec.{eqb, leb}
use lib.Pointwise.{pointwise}
use borrow.Author.Tests.{eq-eqb, ne_eqb, le-leb, lt-leb, leb-true, leb-false}
use Rattle.octets.specs.Octets.{same_octets}
use Rattle.text.specs.Text.{quoted}
use Rattle.put.specs.Put.{joined}
use Rattle.elements.specs.declared.Elements.{Elements}
use Rattle.elements.specs.Elements.{Item, item_values, no_elements}
use Rattle.std.proofs.Common.{Some, None}
use Rattle.fields.specs.Fields.{part, is, nothing, hexadecimal_of, Octets, of, none, Front, front, bad, fit, octets_of, random_of, Decodes}
use Rattle.octets.proofs.Same.{compared}
use Rattle.fields.proofs.Decoding.{fits}
use Rattle.script.specs.declared.item.ItemText.{ItemText}
use Rattle.script.specs.Grammar.{first, others, past, Items, these, no_items, both_items, typed, item_of, items_in, filled, size_of, elements_of, test_in, Line, line, bad_line, octets_then, front_then, items_then, from_random}
use Rattle.script.specs.Places.{fields_from}
use Rattle.script.specs.Steps.{within, ItemRead, one_more}
use Rattle.script.proofs.Places.{past_none, field_there}

-- the word `test`, in front of another field
test-none : (fs : List (List ℕ)) → others fs ≡ [] → false ≡ test_in fs
test-none [] e = refl
test-none (f ∷ []) e = refl
test-none (f ∷ g ∷ fs) e = let z : suc (length fs) ≡ 0 = ap length e in absurd (omega arith)

test-some : (fs : List (List ℕ)) (g : List ℕ) (gs : List (List ℕ)) → others fs ≡ g ∷ gs → same_octets (first fs) (quoted "test") ≡ test_in fs
test-some [] g gs e = let z : 0 ≡ suc (length gs) = ap length e in absurd (omega arith)
test-some (f ∷ []) g gs e = let z : 0 ≡ suc (length gs) = ap length e in absurd (omega arith)
test-some (f ∷ h ∷ fs) g gs e = refl

module _ (s : List ℕ) (from at : ℕ) (at-is : fields_from s at ≡ others (fields_from s from)) where
  pub test-last : length s < at → false ≡ test_in (fields_from s from)
  test-last h = test-none (fields_from s from) (sym at-is ∙ past_none s at h)

  pub test_word : at ≤ length s → (f : List ℕ) → f ≡ first (fields_from s from) → (b : Bool) → b ≡ pointwise eqb f (quoted "test")
      → b ≡ test_in (fields_from s from)
  test_word h f f-is b b-is =
      b-is ∙ compared f (quoted "test")
      ∙ rw f-is (test-some (fields_from s from) (first (fields_from s at)) (others (fields_from s at)) (sym at-is ∙ field_there s at h))

pub ruleset test_words = (test-last, test_word)

-- octets that stand at the front of a slice, and such as do not
abbrev marked : Front → ℕ
marked (front n o) = 1
marked bad = 0

abbrev shown : Front → List ℕ
shown (front n o) = o
shown bad = []

abbrev counted : Front → ℕ
counted (front n o) = n
counted bad = 0

pub record Fitted (room n : ℕ) (x : List ℕ) (o : Octets) : Type 0 where
  pub octets : o ≡ of x
  pub size : n ≡ length x
  pub inside : n ≤ room

fitted-at : (room n : ℕ) (x v : List ℕ) (b : Bool) → leb (length v) room ≡ b → front n x ≡ cond b (front (length v) v) bad → Fitted room n x (of v)
fitted-at room n x v true t e =
    let u : length v ≤ room = leb-true _ _ t in
    let x-is : x ≡ v = ap shown e in
    let n-is : n ≡ length v = ap counted e in
    record { octets = ap of (sym x-is); size = n-is ∙ ap length (sym x-is); inside = omega arith }
fitted-at room n x v false t e = let z : ◌≡◌ {A = ℕ} 1 0 = ap marked e in absurd (omega arith)

fitted : (room n : ℕ) (x : List ℕ) (o : Octets) → front n x ≡ fit room o → Fitted room n x o
fitted room n x (of v) e = fitted-at room n x v (leb (length v) room) refl e
fitted room n x none e = let z : ◌≡◌ {A = ℕ} 1 0 = ap marked e in absurd (omega arith)

unfitted-at : (room : ℕ) (v : List ℕ) (b : Bool) → leb (length v) room ≡ b → bad ≡ cond b (front (length v) v) bad → room < length v
unfitted-at room v true t e = let z : ◌≡◌ {A = ℕ} 0 1 = ap marked e in absurd (omega arith)
unfitted-at room v false t e = leb-false _ _ t

unfitted : (room : ℕ) (P : Octets → Type 0) → P none → ((v : List ℕ) → room < length v → P (of v)) → (o : Octets) → bad ≡ fit room o → P o
unfitted room P p q (of v) e = q v (unfitted-at room v (leb (length v) room) refl e)
unfitted room P p q none e = p

-- the item of a field
within-one : (room t : ℕ) (v : List ℕ) → length v ≤ room → these (record { type = t; value = v } ∷ []) ≡ within room (typed (is t) (of v))
within-one room t v h = rw (append-nil v, le-leb _ _ h)

within-long : (room t : ℕ) (v : List ℕ) → room < length v → no_items ≡ within room (typed (is t) (of v))
within-long room t v h = rw (append-nil v, lt-leb _ _ h)

module _ (s d : List ℕ) (k : ℕ) (k-is : k ≡ get_or s 8 0) where
  pub item-colon : (k ≡ 58 → ⊥) → ItemRead s d None d
  unfolding item_of
  item-colon h = record { says = rw (← k-is, ne_eqb _ _ h); inside = tt }

  module _ (colon : k ≡ 58) (a : List ℕ) (a-is : a ≡ part s 0 8) where
    item-is : item_of s ≡ typed (hexadecimal_of 8 4294967295 a) (octets_of (part s 9 (length s)))
    unfolding item_of
    item-is = rw (← k-is, eq-eqb _ _ colon, ← a-is)

    pub item-type : nothing ≡ hexadecimal_of 8 4294967295 a → ItemRead s d None d
    item-type h = record { says = rw (item-is, ← h); inside = tt }

    module _ (type : ℕ) (type-is : is type ≡ hexadecimal_of 8 4294967295 a) (b : List ℕ) (b-is : b ≡ part s 9 (length s)) (d' : List ℕ) where
      item-typed : item_of s ≡ typed (is type) (octets_of b)
      item-typed = item-is ∙ rw (← type-is, b-is)

      pub item-value : Decodes b d (octets_of b) None d' → ItemRead s d None d'
      item-value r = record {
        says =
            rw item-typed
            (unfitted (length d) (λ (o : Octets). no_items ≡ within (length d) (typed (is type) o)) refl (within-long (length d) type) (octets_of b)
            r.says);
        inside = tt;
      }

      pub item-good : (size : ℕ) → Decodes b d (octets_of b) (Some size) d' → ItemRead s d (Some (record { kind = type; size = size })) d'
      item-good size r =
          let f : Fitted (length d) size (take size d') (octets_of b) = fitted (length d) size (take size d') (octets_of b) r.says in
          let l : length (take size d') ≤ length d = omega (arith, f.size, f.inside) in
          record { says = rw (item-typed, f.octets) (within-one (length d) type (take size d') l); inside = f.inside }

pub ruleset item-texts = (item-colon, item-type, item-value, item-good)

-- one item more
both-none : (x : Items) → x ≡ both_items (these []) x
both-none (these xs) = refl
both-none no_items = refl

both-twice : (xs ys : List Item) (x : Items) → both_items (these xs) (both_items (these ys) x) ≡ both_items (these (xs ++ ys)) x
both-twice xs ys (these zs) = ap these (sym (append_assoc xs ys zs))
both-twice xs ys no_items = refl

values-append : (xs ys : List Item) → joined (item_values (xs ++ ys)) ≡ joined (item_values xs) ++ joined (item_values ys)
values-append [] ys = refl
values-append (x ∷ xs) ys = rw (values-append xs ys) (sym (append_assoc x.value (joined (item_values xs)) (joined (item_values ys))))

values-more : (o v : List ℕ) (xs : List Item) (t : ℕ)
    → o ++ joined (item_values xs) ++ v ≡ o ++ joined (item_values (xs ++ record { type = t; value = v } ∷ []))
values-more o v xs t =
    append_assoc o (joined (item_values xs)) v ∙ ap (λ (l : List ℕ). o ++ l)
    (sym (values-append xs (record { type = t; value = v } ∷ []) ∙ rw (append-nil v)))

filled_more : (k : ℕ) (ns : List ℕ) (x : ℕ) → set (filled k ns) (length ns) x ≡ filled k (ns ++ x ∷ [])
filled_more zero ns x = refl
filled_more (suc k) [] x = refl
filled_more (suc k) (n ∷ ns) x = ap (λ (l : List ℕ). n ∷ l) (filled_more k ns x)

column-more : (f : Item → ℕ) (xs : List Item) (x : Item) → set (filled 8 (map f xs)) (length xs) (f x) ≡ filled 8 (map f (xs ++ x ∷ []))
column-more f xs x = rw (map-append f xs (x ∷ []), ← length-map xs f) (filled_more 8 (map f xs) (f x))

elements-none : no_elements ≡ elements_of []
unfolding elements_of
elements-none = refl

elements-more : (xs : List Item) (x : Item) → one_more (elements_of xs) x.type (length x.value) ≡ elements_of (xs ++ x ∷ [])
unfolding elements_of
elements-more xs x =
    rw (← column-more (λ y. y.type) xs x, ← column-more (λ y. size_of (length y.value)) xs x, length-append xs (x ∷ []))

-- an invariant of the loop: which items are read, and where their values stand
pub record Read (s : List ℕ) (from start : ℕ) (d₀ d : List ℕ) (e : Elements) (at n : ℕ) : Type 0 where
  pub items : List Item
  pub fields : items_in (fields_from s from) ≡ both_items (these items) (items_in (fields_from s at))
  pub elements : e ≡ elements_of items
  pub octets : take n d ≡ take start d₀ ++ joined (item_values items)
  pub inside : n ≤ length d
  pub room : length d ≡ length d₀
  pub few : e.count ≤ at

pub read-start : (s d : List ℕ) (from start : ℕ) (e : Elements) → start ≤ length d → e ≡ no_elements → Read s from start d d e from start
read-start s d from start e h e-is = record {
  items = [];
  fields = both-none (items_in (fields_from s from));
  elements = e-is ∙ elements-none;
  octets = sym (append-nil (take start d));
  inside = h;
  room = refl;
  few = rw e-is (omega arith);
}

-- an item that has room, and such as have none or are bad
abbrev there : Items → ℕ
there (these xs) = 1
there no_items = 0

within-at : (room : ℕ) (xs ys : List Item) (b : Bool) → these xs ≡ cond b (these ys) no_items → these ys ≡ these xs
within-at room xs ys true e = sym e
within-at room xs ys false e = let z : ◌≡◌ {A = ℕ} 1 0 = ap there e in absurd (omega arith)

within-some : (room : ℕ) (xs : List Item) (y : Items) → these xs ≡ within room y → y ≡ these xs
within-some room xs (these ys) e = within-at room xs ys (leb (length (joined (item_values ys))) room) e
within-some room xs no_items e = sym e

unwithin-at : (room : ℕ) (xs : List Item) (b : Bool) → leb (length (joined (item_values xs))) room ≡ b → no_items ≡ cond b (these xs) no_items
    → room < length (joined (item_values xs))
unwithin-at room xs true t e = let z : ◌≡◌ {A = ℕ} 0 1 = ap there e in absurd (omega arith)
unwithin-at room xs false t e = leb-false _ _ t

unwithin : (room : ℕ) (P : Items → Type 0) → P no_items → ((xs : List Item) → room < length (joined (item_values xs)) → P (these xs)) → (y : Items)
    → no_items ≡ within room y → P y
unwithin room P p q (these xs) e = q xs (unwithin-at room xs (leb (length (joined (item_values xs))) room) refl e)
unwithin room P p q no_items e = p

module _ (room : ℕ) (o : List ℕ) (g : Elements → ℕ → List ℕ → Line) where
  items-long : (xs : List Item) → room < length o + length (joined (item_values xs)) → bad_line ≡ items_then room o (these xs) g
  items-long xs h = rw (length-append o (joined (item_values xs)), lt-leb _ _ h)

  -- behind items that have room, one that has none
  items-full : (xs ys : List Item) (z : Items) → room < length o + length (joined (item_values xs)) + length (joined (item_values ys))
      → bad_line ≡ items_then room o (both_items (these xs) (both_items (these ys) z)) g
  items-full xs ys no_items h = refl
  items-full xs ys (these zs) h =
      let a : length (joined (item_values (xs ++ (ys ++ zs)))) ≡ length (joined (item_values xs)) + (length (joined (item_values ys)) + length
      (joined (item_values zs))) =
      rw (values-append xs (ys ++ zs), values-append ys zs) (simp length-append) in
      items-long (xs ++ (ys ++ zs)) (omega arith)

  pub items-none : (x : Items) → room < length o → bad_line ≡ items_then room o x g
  items-none no_items h = refl
  items-none (these xs) h = items-long xs (omega arith)

-- what is lent to an item, behind n octets
abbrev pub behind_it : List ℕ → ℕ → List ℕ
behind_it d n = take (length d - n) (drop n d)

pub behind-size : (d : List ℕ) (n : ℕ) → length (behind_it d n) ≡ length d - n
behind-size d n = length-take-le (length d - n) (drop n d) (simp length-drop (omega arith))

module _ (s d₀ d : List ℕ) (from start at n : ℕ) (e : Elements) (r : Read s from start d₀ d e at n) where
  -- all that is read so far
  so_far : n ≡ length (take start d₀) + length (joined (item_values r.items))
  so_far = sym (length-take-le n d r.inside) ∙ ap length r.octets ∙ length-append (take start d₀) (joined (item_values r.items))

  module _ (more : at ≤ length s) (f : List ℕ) (f-is : f ≡ first (fields_from s at)) (mid : List ℕ) where
    next : items_in (fields_from s from) ≡ both_items (these r.items) (both_items (item_of f) (items_in (others (fields_from s at))))
    unfolding items_in
    next = r.fields ∙ ap (λ (fs : List (List ℕ)). both_items (these r.items) (items_in fs)) (field_there s at more) ∙ rw (← f-is)

    pub items-bad : ItemRead f (behind_it d n) None mid → (g : Elements → ℕ → List ℕ → Line)
        → bad_line ≡ items_then (length d₀) (take start d₀) (items_in (fields_from s from)) g
    items-bad y g =
        let z = items_in (others (fields_from s at)) in
        unwithin (length (behind_it d n))
        (λ (y : Items). bad_line ≡ items_then (length d₀) (take start d₀) (both_items (these r.items) (both_items y z)) g) refl
        (λ ys u.
        let a = r.inside in
        let b = r.room in
        items-full (length d₀) (take start d₀) g r.items ys z (omega (arith, so_far, behind-size d n)))
        (item_of f) y.says
        ∙ ap (λ (y : Items). items_then (length d₀) (take start d₀) y g) (sym next)

    module _ (x : ItemText) (y : ItemRead f (behind_it d n) (Some x) mid) (whole : length mid ≡ length (behind_it d n)) where
      value : List ℕ
      value = take x.size mid

      one : Item
      one = record { type = x.kind; value = value }

      abbrev left : List ℕ
      left = drop (length d - n) (drop n d)

      same : length (take n d ++ (mid ++ left)) ≡ length d
      same = let a = r.inside in let b = behind-size d n in simp (length-append, length-take-le n d a, length-drop) (omega arith)

      pub items_more : (e' : Elements) → e' ≡ one_more e x.kind x.size → (to : ℕ) → fields_from s to ≡ others (fields_from s at) → at < to
          → Read s from start d₀ (take n d ++ (mid ++ left)) e' to (n + x.size)
      unfolding one value
      items_more e' e'-is to to_is onward =
          let a = r.inside in
          let b : x.size ≤ length (behind_it d n) = y.inside in
          let l : length (take n d) ≡ n = length-take-le n d a in
          let m = behind-size d n in
          let k : x.size ≤ length mid = omega arith in
          let v : length (take x.size mid) ≡ x.size = length-take-le x.size mid k in
          let i : item_of f ≡ these (one ∷ []) = within-some (length (behind_it d n)) (one ∷ []) (item_of f) y.says in
          record {
            items = r.items ++ one ∷ [];
            fields = next ∙ rw (i, ← to_is) (both-twice r.items (one ∷ []) (items_in (fields_from s to)));
            elements = e'-is ∙ rw r.elements (ap (one_more (elements_of r.items) x.kind) (sym v) ∙ elements-more r.items one);
            octets =
                ap (λ (m : ℕ). take (m + x.size) (take n d ++ (mid ++ left))) (sym l)
                ∙ take-append-add (take n d) (mid ++ left) x.size
                ∙ rw (take-append-le x.size mid left k, r.octets) (values-more (take start d₀) (take x.size mid) r.items x.kind);
            inside = rw same (omega arith);
            room = same ∙ r.room;
            few = let c = r.few in rw e'-is (omega arith);
          }

  pub items-end : length s < at → (verb : ℕ) (acceptor : Bool) (marks k : ℕ) (i : List ℕ) (test : Bool)
      → line verb acceptor marks k i test e n (take n d)
      ≡ items_then (length d₀) (take start d₀) (items_in (fields_from s from)) (line verb acceptor marks k i test)
  unfolding items_in
  items-end h verb acceptor marks k i test =
      let a = r.inside in
      let b = r.room in
      let all : items_in (fields_from s from) ≡ these r.items = r.fields ∙ rw (past_none s at h) (ap these (append-nil r.items)) in
      sym (rw (all, ← r.octets, ← r.elements)
      (ap (λ (x : Front). front_then x (line verb acceptor marks k i test e))
      (sym (fits (length d₀) n (of (take n d)) (take n d) refl (length-take-le n d a) (omega arith)))))

pub ruleset item-lists = (read-start, items-bad, items_more, items-end)

-- RANDOM, and what is behind it
module _ (fs : List (List ℕ)) (f : List ℕ) (f-is : f ≡ first fs) (d d' : List ℕ) where
  pub random-bad : Decodes f d (random_of f) None d' → (g : Bool → Elements → ℕ → List ℕ → Line) → bad_line ≡ from_random fs (length d) g
  unfolding from_random
  random-bad r g =
      let t = test_in (others fs) in
      rw (← f-is)
      (unfitted (length d) (λ (o : Octets). bad_line ≡ octets_then o (λ o. items_then (length d) o (items_in (past t (others fs))) (g t))) refl
      (λ v u. items-none (length d) v (g t) (items_in (past t (others fs))) u) (random_of f) r.says)

  module _ (n : ℕ) (reads : Decodes f d (random_of f) (Some n) d') where
    random-is : Fitted (length d) n (take n d') (random_of f)
    random-is = fitted (length d) n (take n d') (random_of f) reads.says

    pub random-inside : length d' ≡ length d → n ≤ length d'
    random-inside h = let a = random-is.inside in omega arith

    pub random-good : length d' ≡ length d → (gs hs : List (List ℕ)) → gs ≡ others fs → (t : Bool) → t ≡ test_in gs → hs ≡ past t gs
        → (g : Bool → Elements → ℕ → List ℕ → Line)
        → (x : Line) → x ≡ items_then (length d') (take n d') (items_in hs) (g t) → x ≡ from_random fs (length d) g
    unfolding from_random
    random-good h gs hs gs-is t t-is hs-is g x e = e ∙ rw (h, hs-is, t-is, gs-is) (sym (rw (← f-is, random-is.octets)))

pub ruleset randoms = (random-bad, random-inside, random-good)
