-- The entries of a message by number, piece by piece. In the words of the code.
-- Assumes nothing.
use Prim.Native.Nat.{ℕ, zero, suc, ◌+◌, ◌*◌, ◌-◌, ◌<◌, ◌≤◌, ◌^◌}
use mathlib.Core.Path.{◌≡◌, refl, sym, ap, subst, ◌∙◌}
use mathlib.Core.List.{List, ◌∷◌, ◌++◌}
use native.Mathlib.Omega.{arith}
use lib.ListN.{length, get_or, length-append}
use Rattle.octets.specs.Octets.{le}
use Rattle.vector.specs.declared.Vector.{Vector}
use Rattle.message.specs.Layout.{Shape, nego, exchange, verify, alert, head_of, shape_of, header_of}
use Rattle.vector.specs.Vector.{extent}
use Rattle.coverage.specs.Coverage.{vectors_in, vector_in}
use Rattle.table.specs.Table.{vector_place, Held}
use Rattle.table.proofs.Numbers.{vector-short, vector-early}
use Rattle.entries.specs.declared.Entry.{Entry}
use Rattle.entries.specs.Entries.{fields_of, number_at, field_entry, message_entry, header_entry, vector_what, vector_number, vector_entry, ids_vector, array_vector, type_what, value_what, id_entry, type_entry, value_entry, listed, elements_in, lists_in, body_in, shaped_in, entries_in}
use Rattle.entries.specs.declared.lookup.Counts.{Counts}
use Rattle.entries.specs.Lookup.{table_entry, Holds, Counted, no_entry, count_in}
use Rattle.entries.proofs.Bounds.{few-vectors}
use Rattle.entries.proofs.Listed.{listed-length, listed_at, in-front, behind}

-- the first of two lists is f of the first n numbers
module _ (f : ℕ → Entry) (n : ℕ) (b : List Entry) (k : ℕ) where
  front_at : k < n → get_or (listed f n 0 ++ b) k no_entry ≡ f k
  front_at h = in-front (listed f n 0) b k (omega (arith, listed-length f n 0)) ∙ listed_at f n k h

  rest_at : n ≤ k → get_or (listed f n 0 ++ b) k no_entry ≡ get_or b (k - n) no_entry
  rest_at h =
      behind (listed f n 0) b k (omega (arith, listed-length f n 0))
      ∙ ap (λ (j : ℕ). get_or b (k - j) no_entry) (listed-length f n 0)

  both-length : length (listed f n 0 ++ b) ≡ n + length b
  both-length = omega (arith, length-append (listed f n 0) b, listed-length f n 0)

module _ (p i : ℕ) (m : List ℕ) (shape : Shape) where
  elements-length : length (elements_in p i m shape) ≡ 2 * (array_vector shape m).count
  elements-length =
      omega (
        arith,
        both-length (type_entry p i m shape) (array_vector shape m).count (listed (value_entry p i m shape) (array_vector shape m).count 0) 0,
        listed-length (value_entry p i m shape) (array_vector shape m).count 0,
      )

  lists_length : length (lists_in p i m shape) ≡ (ids_vector shape m).count + length (elements_in p i m shape)
  lists_length = both-length (id_entry p i m shape) (ids_vector shape m).count (elements_in p i m shape) 0

  body-length : length (body_in p i m shape) ≡ length (vectors_in m) + length (lists_in p i m shape)
  body-length = both-length (vector_entry p i m shape) (length (vectors_in m)) (lists_in p i m shape) 0

  shaped-length : length (shaped_in p i m shape) ≡ 1 + (length (fields_of shape) + length (body_in p i m shape))
  unfolding shaped_in
  shaped-length = ap suc (both-length (header_entry p i m shape) (length (fields_of shape)) (body_in p i m shape) 0) ∙ omega arith

pub count-is : (p i : ℕ) (m : List ℕ) → length (entries_in p i m) ≡ count_in m
unfolding count_in
count-is p i m =
    let shape = shape_of (head_of m).kind in
    omega (arith, shaped-length p i m shape, body-length p i m shape, lists_length p i m shape, elements-length p i m shape)

module _ (p i : ℕ) (m : List ℕ) (shape : Shape) (k : ℕ) (x : Entry) where
  -- ---- the words of `element_entry`
  module _ (v : Vector) (v-is : v ≡ array_vector shape m) where
    pub element-type : k < v.count → (w : ℕ) → w ≡ type_what shape → x ≡ field_entry p i m w k (v.offset.0 + 12 * k) 4
        → x ≡ get_or (elements_in p i m shape) k no_entry
    element-type h w w-is e =
        (rw (v-is, w-is) at e)
        ∙ sym (front_at (type_entry p i m shape) (array_vector shape m).count (listed (value_entry p i m shape) (array_vector shape m).count 0) k
        (rw v-is at h))

    pub element-few : k < length (elements_in p i m shape) → v.count ≤ k → k - v.count < v.count
    element-few h g = let e : v.count ≡ (array_vector shape m).count = ap (λ (u : Vector). u.count) v-is in omega (arith, elements-length p i m shape)

    pub element-value : k < length (elements_in p i m shape) → v.count ≤ k → (w : ℕ) → w ≡ value_what shape
        → x ≡ field_entry p i m w (k - v.count) (v.offset.0 + 12 * (k - v.count) + 4) 8 → x ≡ get_or (elements_in p i m shape) k no_entry
    element-value h g w w-is e =
        (rw (v-is, w-is) at e)
        ∙ sym (
        rest_at (type_entry p i m shape) (array_vector shape m).count (listed (value_entry p i m shape) (array_vector shape m).count 0) k (rw v-is at g)
        ∙ listed_at (value_entry p i m shape) (array_vector shape m).count (k - (array_vector shape m).count) (rw v-is at (element-few h g))
        )

  -- ---- the words of `list_entry`
  module _ (v : Vector) (v-is : v ≡ ids_vector shape m) where
    pub list-id : k < v.count → x ≡ field_entry p i m 11 k (v.offset.0 + 16 * k) 16 → x ≡ get_or (lists_in p i m shape) k no_entry
    list-id h e = (rw v-is at e) ∙ sym (front_at (id_entry p i m shape) (ids_vector shape m).count (elements_in p i m shape) k (rw v-is at h))

    pub list-few : k < length (lists_in p i m shape) → v.count ≤ k → k - v.count < length (elements_in p i m shape)
    list-few h g = let e : v.count ≡ (ids_vector shape m).count = ap (λ (u : Vector). u.count) v-is in omega (arith, lists_length p i m shape)

    pub list-rest : v.count ≤ k → x ≡ get_or (elements_in p i m shape) (k - v.count) no_entry → x ≡ get_or (lists_in p i m shape) k no_entry
    list-rest g e = (rw v-is at e) ∙ sym (rest_at (id_entry p i m shape) (ids_vector shape m).count (elements_in p i m shape) k (rw v-is at g))

  -- ---- the words of `body_entry`
  module _ (n : ℕ) (n-is : n ≡ length (vectors_in m)) where
    pub body-vector : k < n → x ≡ vector_entry p i m shape k → x ≡ get_or (body_in p i m shape) k no_entry
    body-vector h e = e ∙ sym (front_at (vector_entry p i m shape) (length (vectors_in m)) (lists_in p i m shape) k (omega arith))

    pub body-few : k < length (body_in p i m shape) → n ≤ k → k - n < length (lists_in p i m shape)
    body-few h g = omega (arith, body-length p i m shape)

    pub body-rest : n ≤ k → x ≡ get_or (lists_in p i m shape) (k - n) no_entry → x ≡ get_or (body_in p i m shape) k no_entry
    body-rest g e = (rw n-is at e) ∙ sym (rest_at (vector_entry p i m shape) (length (vectors_in m)) (lists_in p i m shape) k (omega arith))

-- ---- the words of `entry_of`
behind-first : (x : Entry) (l : List Entry) (k : ℕ) → (k ≡ 0 → ⊥) → get_or (x ∷ l) k no_entry ≡ get_or l (k - 1) no_entry
behind-first x l zero h = absurd (h refl)
behind-first x l (suc k) h = let e : k ≡ suc k - 1 = omega arith in ap (λ (j : ℕ). get_or l j no_entry) e

module _ (p : ℕ) (m : List ℕ) (kind : ℕ) (kind-is : kind ≡ le 4 m 8) where
  pub entry-holds : Held p m → Holds p m kind
  unfolding head_of
  entry-holds held = record { held = held; is = kind-is }

  module _ (i k : ℕ) where
    pub entry-message : k ≡ 0 → ◌≡◌ {A = Entry} (record { what = 0; message = i; number = 0; value = kind; place = p; length = length m })
        (get_or (entries_in p i m) k no_entry)
    unfolding shaped_in head_of
    entry-message z = rw (z, kind-is)

    module _ (some : k ≡ 0 → ⊥) (n : ℕ) (n-is : n ≡ length (fields_of (shape_of kind))) where
      own : shape_of kind ≡ shape_of (head_of m).kind
      unfolding head_of
      own = ap shape_of kind-is

      pub header-few : k - 1 < n → k - 1 < length (fields_of (shape_of kind))
      header-few h = omega arith

      pub entry-header : k - 1 < n → (x : Entry) → x ≡ header_entry p i m (shape_of kind) (k - 1) → x ≡ get_or (entries_in p i m) k no_entry
      unfolding shaped_in
      entry-header h x e =
          e
          ∙ sym (front_at (header_entry p i m (shape_of kind)) (length (fields_of (shape_of kind))) (body_in p i m (shape_of kind)) (k - 1) (omega arith))
          ∙ sym (behind-first (message_entry p i m)
          (listed (header_entry p i m (shape_of kind)) (length (fields_of (shape_of kind))) 0 ++ body_in p i m (shape_of kind)) k some)
          ∙ ap (λ (shape : Shape). get_or (shaped_in p i m shape) k no_entry) own

      pub entry-few : k < length (entries_in p i m) → n ≤ k - 1 → k - 1 - n < length (body_in p i m (shape_of kind))
      entry-few h g =
          let z : length (shaped_in p i m (shape_of kind)) ≡ length (entries_in p i m) = ap (λ (shape : Shape). length (shaped_in p i m shape)) own in
          omega (arith, shaped-length p i m (shape_of kind))

      pub entry-body : n ≤ k - 1 → (x : Entry) → x ≡ get_or (body_in p i m (shape_of kind)) (k - 1 - n) no_entry → x ≡ get_or (entries_in p i m) k no_entry
      unfolding shaped_in
      entry-body h x e =
          (rw n-is at e)
          ∙ sym (rest_at (header_entry p i m (shape_of kind)) (length (fields_of (shape_of kind))) (body_in p i m (shape_of kind)) (k - 1) (omega arith))
          ∙ sym (behind-first (message_entry p i m)
          (listed (header_entry p i m (shape_of kind)) (length (fields_of (shape_of kind))) 0 ++ body_in p i m (shape_of kind)) k some)
          ∙ ap (λ (shape : Shape). get_or (shaped_in p i m shape) k no_entry) own

-- ---- what is counted once for all entries of a message
module _ (m : List ℕ) where
  pub counted : (kind fields vectors : ℕ) → kind ≡ le 4 m 8 → fields ≡ length (fields_of (shape_of kind)) → vectors ≡ length (vectors_in m)
      → Counted (record { kind = record { 0 = kind }; fields = fields; vectors = vectors }) m
  unfolding head_of
  counted kind fields vectors k f v = record { kind = k; fields = f; vectors = v }

  pub counted-kind : (c : Counts) → Counted c m → c.kind.0 ≡ le 4 m 8
  unfolding head_of
  counted-kind c h = h.kind

-- ---- the words of `field_entry` and `vector_entry`
pub field_is : (p i : ℕ) (m : List ℕ) (w k at n x q : ℕ) → x ≡ number_at n m at → q ≡ p + at
    → ◌≡◌ {A = Entry} (record { what = w; message = i; number = k; value = x; place = q; length = n }) (field_entry p i m w k at n)
unfolding field_entry
field_is p i m w k at n x q x-is q-is = rw (x-is, q-is)

pub table_is : (p i : ℕ) (m t : List ℕ) (k : ℕ) (x : Entry) → x ≡ field_entry p i m (get_or t (3 * k) 0) 0 (get_or t (3 * k + 1) 0) (get_or t (3 * k + 2) 0)
    → x ≡ table_entry p i m t k
unfolding table_entry
table_is p i m t k x e = e

number-most : (shape : Shape) (k : ℕ) → vector_number shape k ≤ k
number-most nego k = omega arith
number-most exchange k = omega arith
number-most verify k = omega arith
number-most alert k = omega arith

module _ (p : ℕ) (m : List ℕ) (kind : ℕ) (on : Holds p m kind) (k : ℕ) where
  pub number_small : k < length (vectors_in m) → (n : ℕ) → n ≡ vector_number (shape_of kind) k → n < 2 ^ 32
  number_small h n e = omega (arith, number-most (shape_of kind) k, few-vectors p m on.held)

  module _ (v : Vector) (v-is : v ≡ vector_in m k) where
    pub place-small : (q : ℕ) → q ≡ vector_place p v → q < 2 ^ 32
    place-small q e = omega (arith, vector-early p m on.held k v v-is)

    pub length-small : (l : ℕ) → l ≡ extent v → l < 2 ^ 32
    length-small l e = omega (arith, vector-short p m on.held k v v-is)

    pub vector-is : (i w n q l : ℕ) → w ≡ vector_what (shape_of kind) k → n ≡ vector_number (shape_of kind) k → q ≡ vector_place p v → l ≡ extent v
        → ◌≡◌ {A = Entry} (record { what = w; message = i; number = n; value = v.offset.0; place = q; length = l })
        (vector_entry p i m (shape_of kind) k)
    unfolding vector_entry
    vector-is i w n q l w-is n-is q-is l-is = rw (w-is, n-is, q-is, l-is, v-is)

-- ---- the words of `entry_count`
pub few-fields : (shape : Shape) → length (fields_of shape) ≤ 12
few-fields nego = omega arith
few-fields exchange = omega arith
few-fields verify = omega arith
few-fields alert = omega arith

module _ (m : List ℕ) (held : Held 0 m) (kind : ℕ) (kind-is : kind ≡ le 4 m 8) where
  pub count-header : header_of (shape_of kind) ≤ length m
  unfolding head_of
  count-header = subst (λ (x : ℕ). header_of (shape_of x) ≤ length m) (sym kind-is) held.header

  module _ (f : ℕ) (f-is : f ≡ length (fields_of (shape_of kind))) where
    pub count-one : 1 + f < 2 ^ 64
    count-one = omega (arith, few-fields (shape_of kind))

    module _ (v : ℕ) (v-is : v ≡ length (vectors_in m)) where
      pub count-two : 1 + f + v < 2 ^ 64
      count-two = omega (arith, few-fields (shape_of kind), few-vectors 0 m held)

      module _ (a b : Vector) (a-is : a ≡ ids_vector (shape_of kind) m) (b-is : b ≡ array_vector (shape_of kind) m) where
        pub count-three : a.count < 2 ^ 32 → 1 + f + v + a.count < 2 ^ 64
        count-three h = omega (arith, few-fields (shape_of kind), few-vectors 0 m held)

        pub count-four : a.count < 2 ^ 32 → b.count < 2 ^ 32 → 1 + f + v + a.count + 2 * b.count < 2 ^ 64
        count-four h g = omega (arith, few-fields (shape_of kind), few-vectors 0 m held)

        pub count-all : 1 + f + v + a.count + 2 * b.count ≡ count_in m
        unfolding count_in head_of
        count-all = rw (f-is, v-is, a-is, b-is, kind-is)

pub ruleset sums = (count-header, count-one, count-two, count-three, count-four, count-all)

pub ruleset fields-are = (field_is, table_is)

pub ruleset vectors-are = (number_small, place-small, length-small, vector-is)

pub ruleset elements = (element-type, element-few, element-value)

pub ruleset lists = (list-id, list-few, list-rest)

pub ruleset bodies = (body-vector, body-few, body-rest)

pub ruleset wholes = (counted-kind, entry-holds, entry-message, header-few, entry-header, entry-few, entry-body)
