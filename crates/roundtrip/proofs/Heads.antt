-- The header of a written message, and its checks from what its layout says.
-- Assumes nothing.
use Prim.Native.Nat.{ℕ, ◌%◌, ◌<◌, ◌≤◌}
use mathlib.Core.Path.{◌≡◌, refl, sym, ap, ◌∙◌}
use mathlib.Core.Bool.{true, false, cond, ◌&&◌}
use mathlib.Core.List.{List, [], ◌∷◌, ◌++◌, append-nil}
use native.Mathlib.Omega.{arith}
use lib.ListN.{length, take, drop, length-append}
use lib.Seq.{take_at}
use lib.Dec.{leb, eqb}
use borrow.Author.Tests.{le-leb, eq-eqb, leb-true, eqb-true}
use Rattle.octets.proofs.Bools.{both}
use Rattle.octets.proofs.Same.{id-refl}
use Rattle.octets.specs.Octets.{le}
use Rattle.message.specs.Layout.{Shape, nego, exchange, verify, alert, shape_of, header_of, signature, Head, head_of, front, Content, content_of, vectors_of}
use Rattle.message.specs.Check.{Row, all_pass, first_failing, SIGNATURE, common_rows, all_keep_rule, content_rows, body_rows, front_rows, message_rows, version_ok, critical_ok, checksum_ok, Verdict, read, refused, verdict, fields_of, message_verdict}
use Rattle.message.proofs.Tables.{giving, verdict-is, verdict-append, verdict-read, verdict-refused}
use Rattle.message.proofs.Shapes.{header-least, shape-nego, shape-exchange, shape-verify, shape-alert}
use Rattle.token.specs.Token.{order_rows, next_rows, passes}
use Rattle.put.specs.Put.{joined}
use Rattle.put.proofs.Laws.{joined-append}
use Rattle.encode.specs.declared.Heading.{Heading}
use Rattle.encode.specs.Encode.{Contents, of_nego, of_exchange, of_verify, of_alert, size_of, head_fields, body_fields, has_kind, fits_fields, encodable, encoded}
use Rattle.roundtrip.specs.ReadBack.{Sent, shape_for, head_read, content_read, ordinary_in}
use Rattle.elements.specs.Elements.{items_fit}
use Rattle.elements.proofs.Views.{fit_small}
use Rattle.encode.proofs.Sizes.{length-encoded}
use Rattle.roundtrip.proofs.Fields.{number_at, octets-at}
use Rattle.roundtrip.proofs.Arrays.{critical-read}

-- what can be encoded has the kind of its layout, and a length of 32 bits
pub record Fitting (h : Heading) (c : Contents) : Type 0 where
  pub shape : shape_of h.kind.0 ≡ shape_for c
  pub known : h.kind.0 ≤ 7
  pub header : header_of (shape_for c) ≤ size_of c
  pub small : size_of c < 4294967296

pub fitting : (h : Heading) (c : Contents) → encodable h c ≡ true → Fitting h c
unfolding encodable
fitting h (of_nego o) e =
    let a = both (has_kind (of_nego o) h.kind.0) (fits_fields (of_nego o)) e in
    let b = both (eqb (length o.schemes % 16) 0) (leb (length o.schemes) 1048560 && items_fit o.extensions) a.1 in
    let f = both (leb (length o.schemes) 1048560) (items_fit o.extensions) b.1 in
    let k = leb-true h.kind.0 1 a.0 in
    let n = leb-true (length o.schemes) 1048560 f.0 in
    let s = (fit_small o.extensions f.1).size in
    record { shape = shape-nego _ k; known = omega arith; header = omega arith; small = omega arith }
fitting h (of_exchange p) e =
    let a = both (has_kind (of_exchange p) h.kind.0) (fits_fields (of_exchange p)) e in
    let b = both (leb 2 h.kind.0) (leb h.kind.0 5) a.0 in
    let k = leb-true 2 h.kind.0 b.0 in
    let l = leb-true h.kind.0 5 b.1 in
    let n = leb-true (length p.value) 4294967231 a.1 in
    record { shape = shape-exchange _ k l; known = omega arith; header = omega arith; small = omega arith }
fitting h (of_verify s) e =
    let a = both (has_kind (of_verify s) h.kind.0) (fits_fields (of_verify s)) e in
    let k = eqb-true h.kind.0 6 a.0 in
    let n = leb-true (length s.value) 4294967215 a.1 in
    record { shape = shape-verify h.kind.0 (omega arith) (omega arith) k; known = omega arith; header = omega arith; small = omega arith }
fitting h (of_alert p) e =
    let a = both (has_kind (of_alert p) h.kind.0) (fits_fields (of_alert p)) e in
    let k = eqb-true h.kind.0 7 a.0 in
    let s = (fit_small p.alerts a.1).size in
    record {
      shape = shape-alert h.kind.0 (omega arith) (omega arith) (λ z. omega arith);
      known = omega arith;
      header = omega arith;
      small = omega arith;
    }

header-small : (s : Shape) → header_of s < 4294967296
header-small nego = omega arith
header-small exchange = omega arith
header-small verify = omega arith
header-small alert = omega arith

signature-first : (t : List ℕ) → le 8 (signature ++ t) 0 ≡ SIGNATURE
unfolding le
signature-first t = refl

-- a table that passes leaves the verdict to the one behind it
past : (xs ys : List Row) (v : Verdict) → all_pass xs ≡ true → verdict (xs ++ ys) v ≡ verdict ys v
past xs ys v e = verdict-append xs ys v ∙ verdict-is xs (verdict ys v) ∙ rw e

-- the common header, whatever fields are behind it
module _ (h : Heading) (n : ℕ) (fs : List (List ℕ)) (known : h.kind.0 ≤ 7) (number : h.sequence < 4294967296) (small : n < 4294967296)
    (id : length h.conversation ≡ 16) where
  pub head-fields : head_of (joined (head_fields h n ++ fs))
      ≡ record {
        signature = SIGNATURE;
        kind = h.kind.0;
        sequence = h.sequence;
        header = header_of (shape_of h.kind.0);
        length = n;
        conversation = h.conversation;
      }
  unfolding head_of
  head-fields =
      let s = signature-first (joined (drop 1 (head_fields h n) ++ fs)) in
      let k = number_at 1 8 (head_fields h n ++ fs) refl 4 h.kind.0 _ refl (omega arith) in
      let q = number_at 2 12 (head_fields h n ++ fs) refl 4 h.sequence _ refl number in
      let l = number_at 3 16 (head_fields h n ++ fs) refl 4 (header_of (shape_of h.kind.0)) _ refl (header-small (shape_of h.kind.0)) in
      let m = number_at 4 20 (head_fields h n ++ fs) refl 4 n _ refl small in
      let v = octets-at 5 24 (head_fields h n ++ fs) refl h.conversation _ refl 16 id in
      cc

behind : (fs : List (List ℕ)) (r : List ℕ) → joined fs ++ r ≡ joined (fs ++ (r ∷ []))
behind fs r = sym (joined-append fs (r ∷ []) ∙ ap (λ (l : List ℕ). joined fs ++ l) (append-nil r))

-- a message that can be written, followed by any octets
module _ (h : Heading) (c : Contents) (s : Sent h c) where
  pub fits : Fitting h c
  fits = fitting h c s.can

  pub size-encoded : length (encoded h c) ≡ size_of c
  size-encoded = length-encoded h s.id c s.whole

  module _ (r : List ℕ) where
    pub head-encoded : head_of (encoded h c ++ r) ≡ head_read h c
    unfolding encoded
    head-encoded =
        let f = fits in
        let e = head-fields h (size_of c) (body_fields c ++ (r ∷ [])) f.known s.number f.small s.id in
        ap head_of (behind (head_fields h (size_of c) ++ body_fields c) r) ∙ e
        ∙ ap (λ (t : Shape).
        record {
          signature = SIGNATURE;
          kind = h.kind.0;
          sequence = h.sequence;
          header = header_of t;
          length = size_of c;
          conversation = h.conversation;
        }) f.shape

    pub front-encoded : front (encoded h c ++ r) ≡ encoded h c
    front-encoded = ap (λ (g : Head). take g.length (encoded h c ++ r)) head-encoded ∙ take_at (encoded h c) r (size_of c) size-encoded

    common-encoded : all_pass (common_rows (length (encoded h c ++ r)) (head_of (encoded h c ++ r))) ≡ true
    unfolding common_rows
    common-encoded =
        let f = fits in
        let a = f.header in
        let b : size_of c ≤ length (encoded h c ++ r) = omega (arith, size-encoded, length-append (encoded h c) r) in
        let d : 40 ≤ length (encoded h c ++ r) = omega (arith, header-least (shape_for c)) in
        let k : header_of (shape_for c) ≡ header_of (shape_of h.kind.0) = ap header_of (sym f.shape) in
        rw head-encoded
        (giving (common_rows (length (encoded h c ++ r)) (head_read h c))
        (le-leb _ _ d, (eq-eqb SIGNATURE _ refl, (le-leb _ _ f.known, (eq-eqb _ _ k, (le-leb _ _ a, (le-leb _ _ b, tt)))))))

    -- from what the layout says: the content, and vectors that keep their rule
    module _ (content : content_of (shape_for c) (encoded h c) ≡ content_read c)
        (rules : all_keep_rule (header_of (shape_for c)) (size_of c) (vectors_of (content_read c)) ≡ true) where
      version-encoded : (d : Contents) → version_ok (content_read d) ≡ true
      version-encoded (of_nego o) = refl
      version-encoded (of_exchange p) = refl
      version-encoded (of_verify k) = refl
      version-encoded (of_alert p) = refl

      critical-encoded : (d : Contents) → critical_ok (content_read d) ≡ ordinary_in d
      critical-encoded (of_nego o) = critical-read o.extensions _
      critical-encoded (of_exchange p) = refl
      critical-encoded (of_verify k) = refl
      critical-encoded (of_alert p) = refl

      checksum-encoded : (d : Contents) → checksum_ok (content_read d) ≡ true
      checksum-encoded (of_nego o) = refl
      checksum-encoded (of_exchange p) = refl
      checksum-encoded (of_verify k) = refl
      checksum-encoded (of_alert p) = refl

      -- the body's rows: all pass but 12, which passes where no type is critical
      front-rows : front_rows (encoded h c ++ r) ≡ content_rows (header_of (shape_for c)) (size_of c) (content_read c)
      unfolding front_rows body_rows
      front-rows =
          ap (λ (g : Head). body_rows (shape_of g.kind) g.length (front (encoded h c ++ r))) head-encoded
          ∙ ap (λ (t : Shape). body_rows t (size_of c) (front (encoded h c ++ r))) fits.shape
          ∙ ap (λ (m : List ℕ). body_rows (shape_for c) (size_of c) m) front-encoded
          ∙ ap (λ (d : Content). content_rows (header_of (shape_for c)) (size_of c) d) content

      pub front-verdict : (v : Verdict) → verdict (front_rows (encoded h c ++ r)) v ≡ cond (ordinary_in c) v (refused 12)
      unfolding content_rows
      front-verdict v = rw front-rows (simp (version-encoded c, rules, critical-encoded c, checksum-encoded c))

      pub verdict-encoded : message_verdict (encoded h c ++ r) ≡ cond (ordinary_in c) (read (fields_of (head_read h c))) (refused 12)
      unfolding message_verdict message_rows
      verdict-encoded =
          let v = read (fields_of (head_of (encoded h c ++ r))) in
          past (common_rows (length (encoded h c ++ r)) (head_of (encoded h c ++ r))) (front_rows (encoded h c ++ r)) v common-encoded ∙ front-verdict v
          ∙ ap (λ (g : Head). cond (ordinary_in c) (read (fields_of g)) (refused 12)) head-encoded

      order-encoded : all_pass (order_rows (head_of (encoded h c ++ r)) h.sequence h.conversation) ≡ true
      unfolding order_rows
      order-encoded =
          rw head-encoded
          (giving (order_rows (head_read h c) h.sequence h.conversation)
          (eq-eqb h.sequence h.sequence refl, (id-refl h.conversation s.id, tt)))

      -- with its own number and conversation it passes 7 and 8 too
      next-encoded : (v : Verdict) → verdict (next_rows (encoded h c ++ r) h.sequence h.conversation) v ≡ cond (ordinary_in c) v (refused 12)
      unfolding next_rows
      next-encoded v =
          let order = order_rows (head_of (encoded h c ++ r)) h.sequence h.conversation in
          past (common_rows (length (encoded h c ++ r)) (head_of (encoded h c ++ r))) (order ++ front_rows (encoded h c ++ r)) v common-encoded
          ∙ past order (front_rows (encoded h c ++ r)) v order-encoded ∙ front-verdict v

      pub passes-encoded : ordinary_in c ≡ true → passes (encoded h c ++ r) h.sequence h.conversation ≡ true
      passes-encoded o =
          let g =
          fields_of (head_read h c) in (verdict-read (next_rows (encoded h c ++ r) h.sequence h.conversation) g g (next-encoded (read g) ∙ rw o)).0

      pub stops-encoded : ordinary_in c ≡ false → (passes (encoded h c ++ r) h.sequence h.conversation ≡ false)
          × (first_failing (next_rows (encoded h c ++ r) h.sequence h.conversation) ≡ 12)
      stops-encoded o =
          let g =
          fields_of (head_read h c) in verdict-refused (next_rows (encoded h c ++ r) h.sequence h.conversation) g 12 (next-encoded (read g) ∙ rw o)
