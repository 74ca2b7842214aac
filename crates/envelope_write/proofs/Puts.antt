-- Parts put one behind the other, in the words of the code.
-- Assumes nothing.
use Prim.Native.Nat.{ℕ, ◌+◌, ◌≤◌}
use mathlib.Core.Path.{◌≡◌, sym, ap, ◌∙◌}
use mathlib.Core.Bool.{Bool, true}
use mathlib.Core.List.{List, [], ◌∷◌, ◌++◌, append-nil}
use mathlib.Core.Option.{some}
use native.Mathlib.Omega.{arith}
use lib.ListN.{length, length-append}
use Rattle.put.specs.Put.{Written, joined}
use Rattle.put.proofs.Laws.{Wrote, wrote, wrote_after, wrote-holds, length-put, step, done}
use Rattle.der.specs.Element.{element}
use Rattle.der.specs.Grammar.{field_octets}
use Rattle.der_put.specs.Size.{head, head_size, element_size, given, field_size}
use Rattle.der_put.proofs.Heads.{length-element, length-field, size-bounds, size-one}
use Rattle.envelope.specs.Envelope.{spnego, identifiers, tail_octets, sequence, encoded}
use Rattle.envelope_write.specs.Given.{sum_of, split_by, init_given, resp_given, identifiers_size, tail_size, init_size, resp_size, IdentifiersRoom, ListRoom, TailRoom, InitRoom, RespRoom}

-- what is left of the room behind parts that were put
wrote-room : {d d2 : List ℕ} {vs : List (List ℕ)} {at a2 : ℕ} (n m : ℕ) → Wrote d at vs d2 a2 → length (joined vs) ≡ n → at + (n + m) ≤ length d
    → a2 + m ≤ length d2
wrote-room {d} {d2} {vs} {at} n m w e h =
    let a = wrote_after w in
    let k : at + length (joined vs) ≤ length d = omega arith in
    let l : length d2 ≡ length d = ap length (wrote-holds w k) ∙ length-put d at (joined vs) k in
    omega arith

-- The list of mechanisms.
sum-small : (ns : List ℕ) → sum_of ns ≤ identifiers_size ns
unfolding sum_of identifiers_size
sum-small [] = omega arith
sum-small (n ∷ ns) = omega (arith, sum-small ns)

pub record ListFits (at inner size l : ℕ) : Type 0 where
  pub room : at + (head_size inner + (head_size size + size)) ≤ l
  pub inner-small : inner ≤ 65535
  pub size_small : size ≤ 65535

module _ (ns s d : List ℕ) (at size inner : ℕ) (r : ListRoom ns s d at size) (inner-is : inner ≡ element_size size) where
  pub list-fits : ListFits at inner size (length d)
  list-fits =
      let z : field_size true size ≡ head_size inner + (head_size size + size) = rw inner-is in
      let o = r.room in let m = r.small in let b = size-bounds inner in let c = size-bounds size in
      record { room = omega arith; inner-small = omega arith; size_small = omega arith }

  module _ (d1 d2 : List ℕ) (a b : ℕ) (w1 : Written d at (head_size inner) (head 0xA0 inner) d1 a)
      (w2 : Written d1 a (head_size size) (head 0x30 size) d2 b) where
    pub list-identifiers : IdentifiersRoom ns s d2 b
    list-identifiers =
        let f = list-fits.room in let g = list-fits.size_small in
        let n : length (joined (head 0xA0 inner ∷ head 0x30 size ∷ [])) ≡ head_size inner + head_size size =
        length-append (head 0xA0 inner) (head 0x30 size ++ []) ∙ rw (w1.size, ap length (append-nil (head 0x30 size)) ∙ w2.size) in
        let m : b + size ≤ length d2 = wrote-room (head_size inner + head_size size) size (step w1 (step w2 done)) n (omega arith) in
        let i = r.is in let u = r.sum in let v = sum-small ns in
        record { sum = r.sum; small = omega arith; room = omega arith }

    module _ (d3 : List ℕ) (e : ℕ) (w3 : Written d2 b (identifiers_size ns) (identifiers (split_by ns s)) d3 e) where
      list-octets : joined (head 0xA0 inner ∷ head 0x30 size ∷ identifiers (split_by ns s) ∷ [])
          ≡ field_octets 0xA0 0x30 (some (identifiers (split_by ns s)))
      unfolding field_octets element
      list-octets =
          let c = identifiers (split_by ns s) in
          let k : length c ≡ size = w3.size ∙ sym r.is in
          let l : length (element 0x30 c) ≡ inner = length-element 0x30 c ∙ rw k (sym inner-is) in
          rw (append-nil) (sym (rw (l, k)))

      pub list_put : Written d at (field_size true size) (field_octets 0xA0 0x30 (some (identifiers (split_by ns s)))) d3 e
      list_put =
          let c = identifiers (split_by ns s) in
          let k : length c ≡ size = w3.size ∙ sym r.is in
          let n : length (field_octets 0xA0 0x30 (given true c)) ≡ field_size true size = length-field 0xA0 0x30 true c ∙ rw k in
          rw list-octets at (wrote (field_size true size) (step w1 (step w2 (step w3 done))) (ap length list-octets ∙ n) r.room)

pub ruleset lists = (list-fits, list-identifiers, list_put)

-- The three fields behind the first.
pub record TailFits (at x y z l : ℕ) : Type 0 where
  pub room : at + (x + (y + z)) ≤ l
  pub first_small : x ≤ 65535
  pub second-small : y ≤ 65535
  pub third-small : z ≤ 65535

pub tail-fits : (by : Bool) (y : ℕ) (bt : Bool) (t : ℕ) (bk : Bool) (k : ℕ) (d : List ℕ) (at : ℕ) → TailRoom d at (tail_size by y bt t bk k)
    → TailFits at (field_size by y) (field_size bt t) (field_size bk k) (length d)
unfolding tail_size
tail-fits by y bt t bk k d at r =
    let o = r.room in let m = r.small in record { room = o; first_small = omega arith; second-small = omega arith; third-small = omega arith }

pub length-tail : (v : ℕ) (by : Bool) (y : List ℕ) (bt : Bool) (t : List ℕ) (bk : Bool) (k : List ℕ)
    → length (tail_octets v (given by y) (given bt t) (given bk k)) ≡ tail_size by (length y) bt (length t) bk (length k)
unfolding tail_size
length-tail v by y bt t bk k = simp (length-append, length-field) (omega arith)

pub tail-put : (v : ℕ) (by : Bool) (y : List ℕ) (bt : Bool) (t : List ℕ) (bk : Bool) (k d d1 d2 d3 : List ℕ) (at a b e : ℕ)
    → TailRoom d at (tail_size by (length y) bt (length t) bk (length k))
    → Written d at (field_size by (length y)) (field_octets 0xA1 v (given by y)) d1 a
    → Written d1 a (field_size bt (length t)) (field_octets 0xA2 0x04 (given bt t)) d2 b
    → Written d2 b (field_size bk (length k)) (field_octets 0xA3 0x04 (given bk k)) d3 e
    → Written d at (tail_size by (length y) bt (length t) bk (length k)) (tail_octets v (given by y) (given bt t) (given bk k)) d3 e
tail-put v by y bt t bk k d d1 d2 d3 at a b e r w1 w2 w3 =
    wrote (tail_size by (length y) bt (length t) bk (length k)) (step w1 (step w2 (step w3 done))) (length-tail v by y bt t bk k) r.room

-- A Resp.
pub record RespFits (sequence inner first tail l : ℕ) : Type 0 where
  pub room : head_size sequence + (head_size inner + (first + tail)) ≤ l
  pub sequence-small : sequence ≤ 65535
  pub inner-small : inner ≤ 65535
  pub first_small : first ≤ 65535
  pub tail-small : tail ≤ 65535

pub resp-fits : (d : List ℕ) (inner first tail sequence : ℕ) → RespRoom d inner first tail → sequence ≡ element_size inner
    → RespFits sequence inner first tail (length d)
resp-fits d inner first tail sequence r e =
    let w : resp_size inner ≡ head_size sequence + (head_size inner + inner) = rw e in
    let i = r.fields in let j = r.small in let o = r.room in let b = size-bounds inner in let c = size-bounds sequence in
    record { room = omega arith; sequence-small = omega arith; inner-small = omega arith; first_small = omega arith; tail-small = omega arith }

module _ (bx : Bool) (x : ℕ) (bm : Bool) (m : List ℕ) (bt : Bool) (t : List ℕ) (bk : Bool) (k : List ℕ) (d d1 d2 d3 : List ℕ)
    (inner sequence' a b c : ℕ)
    (r : RespRoom d inner (field_size bx 1) (tail_size bm (length m) bt (length t) bk (length k))) (e : sequence' ≡ element_size inner)
    (w1 : Written d 0 (head_size sequence') (head 0xA1 sequence') d1 a) (w2 : Written d1 a (head_size inner) (head 0x30 inner) d2 b)
    (w3 : Written d2 b (field_size bx 1) (field_octets 0xA0 0x0A (given bx (x ∷ []))) d3 c) where
  abbrev fits : RespFits sequence' inner (field_size bx 1) (tail_size bm (length m) bt (length t) bk (length k)) (length d)
  fits = resp-fits d inner (field_size bx 1) (tail_size bm (length m) bt (length t) bk (length k)) sequence' r e

  pub resp-tail-room : TailRoom d3 c (tail_size bm (length m) bt (length t) bk (length k))
  resp-tail-room =
      let f = fits.room in
      let n : length (joined
      (head 0xA1 sequence' ∷ head 0x30 inner ∷ field_octets 0xA0 0x0A (given bx (x ∷ [])) ∷ []))
      ≡ head_size sequence' + (head_size inner + field_size bx 1) =
      length-append (head 0xA1 sequence') (head 0x30 inner ++ (field_octets 0xA0 0x0A (given bx (x ∷ [])) ++ []))
      ∙ rw (length-append (head 0x30 inner) (field_octets 0xA0 0x0A (given bx (x ∷ [])) ++ []), append-nil, w1.size, w2.size, w3.size) in
      record {
        small = fits.tail-small;
        room = wrote-room (head_size sequence' + (head_size inner + field_size bx 1))
            (tail_size bm (length m) bt (length t) bk (length k)) (step w1 (step w2 (step w3 done))) n (omega arith);
      }

  module _ (d4 : List ℕ) (f : ℕ)
      (w4 : Written d3 c (tail_size bm (length m) bt (length t) bk (length k)) (tail_octets 0x06 (given bm m) (given bt t) (given bk k)) d4 f) where
    abbrev fields : List ℕ
    fields = sequence 0x0A 0x06 (given bx (x ∷ [])) (given bm m) (given bt t) (given bk k)

    length_fields : length fields ≡ inner
    length_fields =
        length-append (field_octets 0xA0 0x0A (given bx (x ∷ []))) (tail_octets 0x06 (given bm m) (given bt t) (given bk k))
        ∙ rw (w3.size, w4.size) (sym r.fields)

    resp-octets : joined
        (head 0xA1 sequence' ∷ head 0x30 inner ∷ field_octets 0xA0 0x0A (given bx (x ∷ [])) ∷ tail_octets 0x06 (given bm m) (given bt t) (given bk k)
        ∷ []) ≡ encoded (resp_given bx x bm m bt t bk k)
    unfolding encoded resp_given element
    resp-octets =
        let l : length (element 0x30 fields) ≡ sequence' = length-element 0x30 fields ∙ rw length_fields (sym e) in
        rw append-nil (sym (rw (l, length_fields)))

    length-resp : length (encoded (resp_given bx x bm m bt t bk k)) ≡ resp_size inner
    unfolding encoded resp_given
    length-resp = length-element 0xA1 (element 0x30 fields) ∙ rw (length-element 0x30 fields, length_fields)

    pub resp-put : Written d 0 (resp_size inner) (encoded (resp_given bx x bm m bt t bk k)) d4 f
    resp-put =
        rw resp-octets at
        (wrote (resp_size inner) (step w1 (step w2 (step w3 (step w4 done)))) (ap length resp-octets ∙ length-resp) (let o = r.room in omega arith))

-- An Init.
pub record InitFits (wrapped sequence inner list tail l : ℕ) : Type 0 where
  pub room : head_size wrapped + (8 + (head_size sequence + (head_size inner + (list + tail)))) ≤ l
  pub wrapped-small : wrapped ≤ 65535
  pub identifier : head_size 6 ≡ 2
  pub sequence-small : sequence ≤ 65535
  pub inner-small : inner ≤ 65535
  pub list-small : list ≤ 65535
  pub tail-small : tail ≤ 65535

pub init-fits : (ns s d : List ℕ) (list inner tail sequence token : ℕ) → InitRoom ns s d list inner tail → sequence ≡ element_size inner
    → token ≡ element_size sequence
    → InitFits (8 + token) sequence inner (field_size true list) tail (length d)
init-fits ns s d list inner tail sequence token r e f =
    let w : init_size inner ≡ head_size (8 + token) + (8 + (head_size sequence + (head_size inner + inner))) = rw (f, e) in
    let i =
    r.fields in let j =
    r.small in let o = r.room in let b = size-bounds inner in let c = size-bounds sequence in let g = size-bounds (8 + token) in
    record {
      room = omega arith;
      wrapped-small = omega arith;
      identifier = size-one 6 (omega arith);
      sequence-small = omega arith;
      inner-small = omega arith;
      list-small = omega arith;
      tail-small = omega arith;
    }

pub init-token : (ns s d : List ℕ) (list inner tail sequence token : ℕ) → InitRoom ns s d list inner tail → sequence ≡ element_size inner
    → token ≡ element_size sequence → token ≤ 65535
init-token ns s d list inner tail sequence token r e f = let q = (init-fits ns s d list inner tail sequence token r e f).wrapped-small in omega arith

module _ (ns s : List ℕ) (bf : Bool) (f : List ℕ) (bt : Bool) (t : List ℕ) (bk : Bool) (k : List ℕ) (d d1 d2 d3 d4 : List ℕ)
    (list inner sequence' token a b c g : ℕ)
    (r : InitRoom ns s d list inner (tail_size bf (length f) bt (length t) bk (length k))) (e : sequence' ≡ element_size inner)
    (h : token ≡ element_size sequence')
    (w1 : Written d 0 (head_size (8 + token)) (head 0x60 (8 + token)) d1 a) (w2 : Written d1 a (element_size 6) (element 0x06 spnego) d2 b)
    (w3 : Written d2 b (head_size sequence') (head 0xA0 sequence') d3 c) (w4 : Written d3 c (head_size inner) (head 0x30 inner) d4 g) where
  abbrev tailed : ℕ
  tailed = tail_size bf (length f) bt (length t) bk (length k)

  abbrev init-fit : InitFits (8 + token) sequence' inner (field_size true list) tailed (length d)
  init-fit = init-fits ns s d list inner tailed sequence' token r e h

  abbrev front : ℕ
  front = head_size (8 + token) + (8 + (head_size sequence' + head_size inner))

  front-size : length (head 0x60 (8 + token)) + (length (element 0x06 spnego) + (length (head 0xA0 sequence') + length (head 0x30 inner))) ≡ front
  front-size = let i = init-fit.identifier in let x = w1.size in let y = w2.size in let z = w3.size in let u = w4.size in omega arith

  pub init-list-room : ListRoom ns s d4 g list
  init-list-room =
      let q = init-fit.room in
      let n : length (joined (head 0x60 (8 + token) ∷ element 0x06 spnego ∷ head 0xA0 sequence' ∷ head 0x30 inner ∷ [])) ≡ front =
      simp (length-append) (omega (arith, front-size)) in
      record {
        sum = r.sum;
        is = r.is;
        small = init-fit.list-small;
        room = wrote-room front (field_size true list) (step w1 (step w2 (step w3 (step w4 done)))) n (omega arith);
      }

  module _ (d5 : List ℕ) (l : ℕ) (w5 : Written d4 g (field_size true list) (field_octets 0xA0 0x30 (some (identifiers (split_by ns s)))) d5 l) where
    pub init-tail-room : TailRoom d5 l tailed
    init-tail-room =
        let q = init-fit.room in
        let v = w5.size in
        let n : length (joined
        (head 0x60 (8 + token) ∷ element 0x06 spnego ∷ head 0xA0 sequence' ∷ head 0x30 inner
        ∷ field_octets 0xA0 0x30 (some (identifiers (split_by ns s))) ∷ [])) ≡ front + field_size true list =
        simp (length-append) (omega (arith, front-size)) in
        record {
          small = init-fit.tail-small;
          room = wrote-room (front + field_size true list) tailed (step w1 (step w2 (step w3 (step w4 (step w5 done))))) n (omega arith);
        }

    module _ (d6 : List ℕ) (m : ℕ) (w6 : Written d5 l tailed (tail_octets 0x03 (given bf f) (given bt t) (given bk k)) d6 m) where
      abbrev init-fields : List ℕ
      init-fields = sequence 0x30 0x03 (some (identifiers (split_by ns s))) (given bf f) (given bt t) (given bk k)

      length-init-fields : length init-fields ≡ inner
      length-init-fields =
          length-append (field_octets 0xA0 0x30 (some (identifiers (split_by ns s)))) (tail_octets 0x03 (given bf f) (given bt t) (given bk k))
          ∙ rw (w5.size, w6.size) (sym r.fields)

      length-sequence : length (element 0x30 init-fields) ≡ sequence'
      length-sequence = length-element 0x30 init-fields ∙ rw length-init-fields (sym e)

      length-wrapped : length (element 0x06 spnego ++ element 0xA0 (element 0x30 init-fields)) ≡ 8 + token
      length-wrapped =
          let i = init-fit.identifier in let y = w2.size in
          let x : length (element 0xA0 (element 0x30 init-fields)) ≡ token =
          length-element 0xA0 (element 0x30 init-fields) ∙ rw length-sequence (sym h) in
          length-append (element 0x06 spnego) (element 0xA0 (element 0x30 init-fields)) ∙ rw x (omega arith)

      init-octets : joined
          (head 0x60 (8 + token) ∷ element 0x06 spnego ∷ head 0xA0 sequence' ∷ head 0x30 inner
          ∷ field_octets 0xA0 0x30 (some (identifiers (split_by ns s))) ∷ tail_octets 0x03 (given bf f) (given bt t) (given bk k) ∷ [])
          ≡ encoded (init_given ns s bf f bt t bk k)
      unfolding encoded init_given element
      init-octets =
          rw (append-nil (tail_octets 0x03 (given bf f) (given bt t) (given bk k))) (sym (rw (length-wrapped, length-sequence, length-init-fields)))

      length-init : length (encoded (init_given ns s bf f bt t bk k)) ≡ init_size inner
      unfolding encoded init_given
      length-init = length-element 0x60 (element 0x06 spnego ++ element 0xA0 (element 0x30 init-fields)) ∙ rw (length-wrapped, h, e)

      pub init-put : Written d 0 (init_size inner) (encoded (init_given ns s bf f bt t bk k)) d6 m
      init-put =
          rw init-octets at
          (wrote (init_size inner) (step w1 (step w2 (step w3 (step w4 (step w5 (step w6 done)))))) (ap length init-octets ∙ length-init)
          (let o = r.room in omega arith))
