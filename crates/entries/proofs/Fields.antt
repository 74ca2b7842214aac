-- The tables of fields, row by row. In the words of the code where a function is meant.
-- Assumes nothing.
use Prim.Native.Nat.{ℕ, zero, suc, ◌+◌, ◌*◌, ◌<◌, ◌≤◌}
use mathlib.Core.Path.{◌≡◌, refl, sym, ap, ◌∙◌}
use mathlib.Core.Bool.{Bool, true, ◌&&◌}
use mathlib.Core.List.{List, [], ◌∷◌}
use native.Mathlib.Omega.{arith}
use lib.ListN.{length, get_or}
use lib.Seq.{get_or-append-add}
use lib.Dec.{leb}
use borrow.Author.Tests.{leb-true, lt-ltb, le-ltb}
use Rattle.octets.proofs.Bools.{and_l, and_r}
use Rattle.octets.specs.Octets.{le, octets}
use Rattle.message.specs.Layout.{Shape, nego, exchange, verify, alert, header_of, Head, head_of, content_of}
use Rattle.entries.specs.Entries.{Field, fields_of, no_field, field_at, number_at, header_entry}
use Rattle.entries.specs.Lookup.{flat, table_entry, Row}
use Rattle.entries.specs.Claims.{FieldsTile, PadsListed, FieldsRead}

pub fields-tile : FieldsTile
fields-tile nego = refl
fields-tile exchange = refl
fields-tile verify = refl
fields-tile alert = refl

pub pads-listed : PadsListed
pads-listed nego = refl
pads-listed exchange = refl
pads-listed verify = refl
pads-listed alert = refl

head_read_lem : (m : List ℕ) (shape : Shape) → ◌≡◌ {A = Head}
    (record {
      signature = le (field_at shape 0).size m (field_at shape 0).at;
      kind = le (field_at shape 1).size m (field_at shape 1).at;
      sequence =
          le (field_at shape 2).size m (field_at shape 2).at;
      header =
          le (field_at shape 3).size m (field_at shape 3).at;
      length =
          le (field_at shape 4).size m (field_at shape 4).at;
      conversation = octets (field_at shape 5).size m (field_at shape 5).at;
    }) (head_of m)
unfolding head_of
head_read_lem m nego = refl
head_read_lem m exchange = refl
head_read_lem m verify = refl
head_read_lem m alert = refl

pub fields_read : FieldsRead
unfolding content_of
fields_read m = (head_read_lem m, (refl, (refl, (refl, refl))))

-- ---- a table, three numbers a row
three : (a b c : ℕ) (l : List ℕ) (x : ℕ) → get_or (a ∷ b ∷ c ∷ l) (3 + x) 0 ≡ get_or l x 0
three a b c l x = get_or-append-add (a ∷ b ∷ c ∷ []) l x 0

record Rowed (t : List ℕ) (k : ℕ) (f : Field) : Type 0 where
  what : get_or t (3 * k) 0 ≡ f.what
  at : get_or t (3 * k + 1) 0 ≡ f.at
  size : get_or t (3 * k + 2) 0 ≡ f.size
  inside : 3 * k + 3 ≤ length t

rowed : (fs : List Field) (k : ℕ) → k < length fs → Rowed (flat fs) k (get_or fs k no_field)
rowed [] k h = absurd (omega arith)
rowed (f ∷ fs) zero h = record { what = refl; at = refl; size = refl; inside = omega arith }
rowed (f ∷ fs) (suc k) h =
    let r = rowed fs k (omega arith) in
    let e0 : 3 * suc k ≡ 3 + 3 * k = omega arith in
    let e1 : 3 * suc k + 1 ≡ 3 + (3 * k + 1) = omega arith in
    let e2 : 3 * suc k + 2 ≡ 3 + (3 * k + 2) = omega arith in
    record {
      what = ap (λ (x : ℕ). get_or (flat (f ∷ fs)) x 0) e0 ∙ three f.what f.at f.size (flat fs) (3 * k) ∙ r.what;
      at = ap (λ (x : ℕ). get_or (flat (f ∷ fs)) x 0) e1 ∙ three f.what f.at f.size (flat fs) (3 * k + 1) ∙ r.at;
      size = ap (λ (x : ℕ). get_or (flat (f ∷ fs)) x 0) e2 ∙ three f.what f.at f.size (flat fs) (3 * k + 2) ∙ r.size;
      inside = omega (arith, r.inside);
    }

-- fields that end within a header, and have two octets at the least
all_in : ℕ → List Field → Bool
all_in h [] = true
all_in h (f ∷ fs) = (leb (f.at + f.size) h && leb 2 f.size) && all_in h fs

one_in : (h : ℕ) (fs : List Field) (k : ℕ) → all_in h fs ≡ true → k < length fs
    → ((get_or fs k no_field).at + (get_or fs k no_field).size ≤ h) × (2 ≤ (get_or fs k no_field).size)
unfolding all_in
one_in h [] k e l = absurd (omega arith)
one_in h (f ∷ fs) zero e l =
    let here : (leb (f.at + f.size) h && leb 2 f.size) ≡ true = and_l (leb (f.at + f.size) h && leb 2 f.size) (all_in h fs) e in
    (leb-true _ _ (and_l (leb (f.at + f.size) h) (leb 2 f.size) here), leb-true _ _ (and_r (leb (f.at + f.size) h) (leb 2 f.size) here))
one_in h (f ∷ fs) (suc k) e l = one_in h fs k (and_r (leb (f.at + f.size) h && leb 2 f.size) (all_in h fs) e) (omega arith)

all_in_lem : (shape : Shape) → all_in (header_of shape) (fields_of shape) ≡ true
unfolding all_in
all_in_lem nego = refl
all_in_lem exchange = refl
all_in_lem verify = refl
all_in_lem alert = refl

pub row_in : (shape : Shape) (m : List ℕ) (k : ℕ) → header_of shape ≤ length m → k < length (fields_of shape) → Row (flat (fields_of shape)) m k
row_in shape m k h l =
    let r = rowed (fields_of shape) k l in
    let (fits, some) = one_in (header_of shape) (fields_of shape) k (all_in_lem shape) l in
    record { inside = r.inside; lies = omega (arith, r.at, r.size, fits); some = omega (arith, r.size, some) }

pub row-entry : (p i : ℕ) (m : List ℕ) (shape : Shape) (k : ℕ) → k < length (fields_of shape)
    → table_entry p i m (flat (fields_of shape)) k ≡ header_entry p i m shape k
unfolding table_entry header_entry
row-entry p i m shape k l =
    let r = rowed (fields_of shape) k l in
    rw (r.what, r.at, r.size)

-- ---- the words of `number_at`
module _ (n at : ℕ) (m : List ℕ) (x : ℕ) where
  pub number-two : n < 4 → x ≡ le 2 m at → x ≡ number_at n m at
  unfolding number_at
  number-two h e = e ∙ sym (simp (lt-ltb _ _ h))

  pub number-four : 4 ≤ n → x ≡ le 4 m at → x ≡ number_at n m at
  unfolding number_at
  number-four h e = e ∙ sym (simp (le-ltb _ _ h))

pub ruleset numbers-at = (number-two, number-four)
