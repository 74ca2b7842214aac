-- An envelope stored or refused, in the words of the code.
-- Assumes nothing.
use Prim.Native.Nat.{ℕ, suc, ◌+◌, ◌<◌, ◌≤◌}
use mathlib.Core.Path.{◌≡◌, refl, sym, ap, ◌∙◌}
use mathlib.Core.Bool.{Bool, true, false}
use mathlib.Core.List.{List, [], ◌∷◌, ◌++◌}
use mathlib.Core.Option.{Option, some}
use mathlib.Core.Logic.{◌⊎◌, inl, inr}
use native.Mathlib.Omega.{arith}
use lib.ListN.{length, take, drop, length-append, length-drop}
use lib.Seq.{length-take-le}
use lib.Dec.{leb, eqb}
use borrow.Author.Tests.{le-leb, lt-leb, leb-true, eqb-true, eq-eqb}
use Rattle.std.specs.Prelude.{Result, Ok, Err, IsErrAnd}
use Rattle.octets.proofs.Bools.{which}
use Rattle.refusal.specs.declared.Refusal.{Refusal}
use Rattle.refusal.specs.Refusals.{number_of, refusal_number}
use Rattle.refusal.proofs.Numbers.{number_some}
use Rattle.put.specs.Put.{Written}
use Rattle.der.specs.Element.{element}
use Rattle.der.specs.Grammar.{field_octets}
use Rattle.der.specs.Holder.{capped}
use Rattle.der_put.specs.Size.{head_size, element_size, given, field_size}
use Rattle.der_put.proofs.Heads.{length-element, length-field, capped-element, size-bounds, size-one}
use Rattle.envelope.specs.Envelope.{Envelope, spnego, identifiers, tail_octets, sequence, encoded, fine_state, fine, few}
use Rattle.envelope_write.specs.Given.{sum_of, split_by, init_given, resp_given, identifiers_size, tail_size, init_size, resp_size, mechanisms_refusal, Mechanisms, InitSized, InitRoom, RespSized, RespRoom}
use Rattle.envelope_write.specs.Writing.{Outcome, stored, unstored, told, storing, storing_init}
use Rattle.envelope_write.proofs.Puts.{length-tail}

-- Any envelope that passes 20 and 23, and whose size is known as far as it counts.
module _ (d : List ℕ) (e : Envelope) (all : ℕ) (is_fine : fine e ≡ true) (is_few : few e ≡ true)
    (near : capped all ≡ capped (length (encoded e))) where
  store_long : 65535 < all → unstored 1 d ≡ storing d e
  unfolding storing
  store_long h = let g : 65535 < length (encoded e) = omega (arith, near) in rw (is_fine, is_few, lt-leb (length (encoded e)) 65535 g)

  module _ (short : all ≤ 65535) where
    exact : length (encoded e) ≡ all
    exact = omega (arith, near)

    store-crowded : length d < all → unstored 16 d ≡ storing d e
    unfolding storing
    store-crowded h = rw (is_fine, is_few, exact, le-leb all 65535 short, lt-leb all (length d) h)

    store-done : all ≤ length d → (d' : List ℕ) (n : ℕ) → Written d 0 all (encoded e) d' n → stored n d' ≡ storing d e
    unfolding storing
    store-done h d' n w =
        let z : n ≡ all = w.after ∙ omega arith in
        rw (is_fine, is_few, exact, le-leb all 65535 short, le-leb all (length d) h) (rw (z, w.holds))

-- A Resp.
module _ (bx : Bool) (x : ℕ) (bm : Bool) (m : List ℕ) (bt : Bool) (t : List ℕ) (bk : Bool) (k : List ℕ) where
  length-resp : length (encoded (resp_given bx x bm m bt t bk k)) ≡ resp_size (field_size bx 1 + tail_size bm (length m) bt (length t) bk (length k))
  unfolding encoded resp_given
  length-resp =
      let fields = sequence 0x0A 0x06 (given bx (x ∷ [])) (given bm m) (given bt t) (given bk k) in
      let n : length fields ≡ field_size bx 1 + tail_size bm (length m) bt (length t) bk (length k) =
      length-append (field_octets 0xA0 0x0A (given bx (x ∷ []))) (tail_octets 0x06 (given bm m) (given bt t) (given bk k))
      ∙ rw (length-field 0xA0 0x0A bx (x ∷ []), length-tail 0x06 bm m bt t bk k) in
      length-element 0xA1 (element 0x30 fields) ∙ rw (length-element 0x30 fields, n)

  resp-few : few (resp_given bx x bm m bt t bk k) ≡ true
  unfolding few resp_given
  resp-few = refl

  resp-fine : fine_state (given bx (x ∷ [])) ≡ true → fine (resp_given bx x bm m bt t bk k) ≡ true
  unfolding fine resp_given
  resp-fine e = e

  module _ (d : List ℕ) (inner sequence' all : ℕ)
      (z : RespSized (given bx (x ∷ [])) inner (field_size bx 1) (tail_size bm (length m) bt (length t) bk (length k)))
      (sequence-is : sequence' ≡ element_size inner) (all-is : all ≡ element_size sequence') where
    near : capped all ≡ capped (length (encoded (resp_given bx x bm m bt t bk k)))
    near =
        let whole = field_size bx 1 + tail_size bm (length m) bt (length t) bk (length k) in
        rw (all-is, sequence-is, length-resp) (capped-element (element_size inner) (element_size whole) (capped-element inner whole z.near))

    pub resp-long : 65535 < all → unstored 1 d ≡ storing d (resp_given bx x bm m bt t bk k)
    resp-long = store_long d (resp_given bx x bm m bt t bk k) all (resp-fine z.passed) resp-few near

    module _ (short : all ≤ 65535) where
      pub resp-crowded : length d < all → unstored 16 d ≡ storing d (resp_given bx x bm m bt t bk k)
      resp-crowded = store-crowded d (resp_given bx x bm m bt t bk k) all (resp-fine z.passed) resp-few near short

      module _ (room : all ≤ length d) where
        whole_is : resp_size inner ≡ all
        whole_is = sym (all-is ∙ rw sequence-is)

        pub resp-room : RespRoom d inner (field_size bx 1) (tail_size bm (length m) bt (length t) bk (length k))
        resp-room =
            let b = size-bounds inner in let c = size-bounds sequence' in let n = z.near in
            let g : inner ≡ field_size bx 1 + tail_size bm (length m) bt (length t) bk (length k) = omega arith in
            record { fields = g; small = rw whole_is short; room = rw whole_is room }

        pub resp-stored : (d' : List ℕ) (n : ℕ) → Written d 0 (resp_size inner) (encoded (resp_given bx x bm m bt t bk k)) d' n
            → stored n d' ≡ storing d (resp_given bx x bm m bt t bk k)
        resp-stored d' n w = store-done d (resp_given bx x bm m bt t bk k) all (resp-fine z.passed) resp-few near short room d' n (rw whole_is at w)

  pub resp-unfine : (d : List ℕ) (b : Bool) → b ≡ fine_state (given bx (x ∷ [])) → b ≡ false
      → unstored 20 d ≡ storing d (resp_given bx x bm m bt t bk k)
  unfolding storing fine resp_given
  resp-unfine d b is h = rw (← is, h)

pub resp-sized : (state : Option (List ℕ)) (first tail x t : ℕ) (b : Bool) → b ≡ fine_state state → b ≡ true → x ≡ capped first → t ≡ capped tail
    → RespSized state (x + t) first tail
resp-sized state first tail x t b is fine e f = record { passed = sym is ∙ fine; near = omega arith; limit = omega arith }

pub resp-limit : (inner a : ℕ) → inner ≤ 131072 → a ≡ element_size inner → a ≤ 1000000
resp-limit inner a h e = let b = size-bounds inner in omega arith

pub ruleset resps = (resp-long, resp-crowded, resp-room, resp-stored, resp-unfine, resp-sized, resp-limit)

-- An Init.
pub length-split : (ns s : List ℕ) → length (split_by ns s) ≡ length ns
unfolding split_by
length-split [] s = refl
length-split (n ∷ ns) s = ap suc (length-split ns (drop n s))

pub length-identifiers : (ns s : List ℕ) → length s ≡ sum_of ns → length (identifiers (split_by ns s)) ≡ identifiers_size ns
unfolding sum_of split_by identifiers identifiers_size
length-identifiers [] s h = refl
length-identifiers (n ∷ ns) s h =
    let f : n ≤ length s = omega arith in
    let e : length (take n s) ≡ n = length-take-le n s f in
    let r : length (drop n s) ≡ sum_of ns = rw (length-drop n s) (omega arith) in
    length-append (element 0x06 (take n s)) (identifiers (split_by ns (drop n s)))
    ∙ rw (length-element 0x06 (take n s), e, length-identifiers ns (drop n s) r)

module _ (ns s : List ℕ) (bf : Bool) (f : List ℕ) (bt : Bool) (t : List ℕ) (bk : Bool) (k : List ℕ) where
  abbrev e : Envelope
  e = init_given ns s bf f bt t bk k

  abbrev whole : ℕ
  whole = field_size true (identifiers_size ns) + tail_size bf (length f) bt (length t) bk (length k)

  length-init : length s ≡ sum_of ns → length (encoded e) ≡ init_size whole
  unfolding encoded init_given
  length-init h =
      let c = identifiers (split_by ns s) in
      let fields = sequence 0x30 0x03 (some c) (given bf f) (given bt t) (given bk k) in
      let n : length fields ≡ whole =
      length-append (field_octets 0xA0 0x30 (given true c)) (tail_octets 0x03 (given bf f) (given bt t) (given bk k))
      ∙ rw (length-field 0xA0 0x30 true c, length-identifiers ns s h, length-tail 0x03 bf f bt t bk k) in
      let i : head_size 6 ≡ 2 = size-one 6 (omega arith) in
      let w : length (element 0x06 spnego ++ element 0xA0 (element 0x30 fields)) ≡ 8 + element_size (element_size whole) =
      length-append (element 0x06 spnego) (element 0xA0 (element 0x30 fields))
      ∙ rw (length-element 0x06 spnego, length-element 0xA0 (element 0x30 fields), length-element 0x30 fields, n, i) in
      length-element 0x60 (element 0x06 spnego ++ element 0xA0 (element 0x30 fields)) ∙ rw w

  init-fine : 1 ≤ length ns → fine e ≡ true
  unfolding fine init_given
  init-fine h = rw (length-split ns s) (le-leb 1 (length ns) h)

  init-few : length ns ≤ 16 → few e ≡ true
  unfolding few init_given
  init-few h = rw (length-split ns s) (le-leb (length ns) 16 h)

  module _ (d : List ℕ) (list inner sequence' token all : ℕ) (z : InitSized ns s list inner (tail_size bf (length f) bt (length t) bk (length k)))
      (sequence-is : sequence' ≡ element_size inner) (token-is : token ≡ element_size sequence') (all-is : all ≡ element_size (8 + token)) where
    init-near : capped all ≡ capped (length (encoded e))
    init-near =
        let x : capped (element_size (element_size inner)) ≡ capped (element_size (element_size whole)) =
        capped-element (element_size inner) (element_size whole) (capped-element inner whole z.near) in
        let y : capped (8 + element_size (element_size inner)) ≡ capped (8 + element_size (element_size whole)) = omega arith in
        rw (all-is, token-is, sequence-is, length-init z.passed.sum)
        (capped-element (8 + element_size (element_size inner)) (8 + element_size (element_size whole)) y)

    pub init-long : 65535 < all → unstored 1 d ≡ storing d (init_given ns s bf f bt t bk k)
    init-long = store_long d e all (init-fine z.passed.some) (init-few z.passed.few) init-near

    module _ (short : all ≤ 65535) where
      pub init-crowded : length d < all → unstored 16 d ≡ storing d (init_given ns s bf f bt t bk k)
      init-crowded = store-crowded d e all (init-fine z.passed.some) (init-few z.passed.few) init-near short

      module _ (room : all ≤ length d) where
        init-whole : init_size inner ≡ all
        init-whole = sym (all-is ∙ rw (token-is, sequence-is))

        pub init-room : InitRoom ns s d list inner (tail_size bf (length f) bt (length t) bk (length k))
        init-room =
            let b = size-bounds inner in let c = size-bounds sequence' in let g = size-bounds (8 + token) in let n = z.near in let i = z.is in
            let j : inner ≡ whole = omega arith in
            let b' = size-bounds (identifiers_size ns) in let c' = size-bounds (element_size (identifiers_size ns)) in
            let l : list ≡ identifiers_size ns = omega arith in
            record { sum = z.passed.sum; is = l; fields = rw l j; small = rw init-whole short; room = rw init-whole room }

        pub init-stored : (d' : List ℕ) (n : ℕ) → Written d 0 (init_size inner) (encoded (init_given ns s bf f bt t bk k)) d' n
            → stored n d' ≡ storing d (init_given ns s bf f bt t bk k)
        init-stored d' n w =
            store-done d e all (init-fine z.passed.some) (init-few z.passed.few) init-near short room d' n (rw init-whole at w)

pub init-limit : (inner a b : ℕ) → inner ≤ 131072 → a ≡ element_size inner → b ≡ element_size a → 8 + b ≤ 1000000
init-limit inner a b h e g = let i = size-bounds inner in let j = size-bounds a in omega arith

near-sum : (x y tail first t : ℕ) → capped x ≡ capped y → first ≡ capped x → t ≡ capped tail → capped (first + t) ≡ capped (y + tail)
near-sum x y tail first t e f g = omega arith

limit-sum : (x tail first t : ℕ) → first ≡ capped x → t ≡ capped tail → first + t ≤ 131072
limit-sum x tail first t f g = omega arith

pub init-sized : (ns s : List ℕ) (list first tail t : ℕ) → Mechanisms ns s → list ≡ capped (identifiers_size ns) → first ≡ capped (field_size true list)
    → t ≡ capped tail → InitSized ns s list (first + t) tail
init-sized ns s list first tail t p e f g =
    let x : capped list ≡ capped (identifiers_size ns) = omega arith in
    let y : capped (element_size (element_size list)) ≡ capped (element_size (element_size (identifiers_size ns))) =
    capped-element (element_size list) (element_size (identifiers_size ns)) (capped-element list (identifiers_size ns) x) in
    record { passed = p; is = e; near = near-sum _ _ tail first t y f g; limit = limit-sum (field_size true list) tail first t f g }

pub ruleset inits = (init-long, init-crowded, init-room, init-stored, init-limit, init-sized, resp-limit)

-- The mechanisms' refusals.
mechanisms-pass : (ns s : List ℕ) (n : ℕ) → n ≡ mechanisms_refusal ns (length s) → n ≡ 0 → Mechanisms ns s
unfolding mechanisms_refusal
mechanisms-pass ns s n is h = go (which (eqb (length s) (sum_of ns))) (which (leb 1 (length ns))) (which (leb (length ns) 16)) (sym is ∙ h) where
  go : (eqb (length s) (sum_of ns) ≡ true) ⊎ (eqb (length s) (sum_of ns) ≡ false) → (leb 1 (length ns) ≡ true) ⊎ (leb 1 (length ns) ≡ false)
      → (leb (length ns) 16 ≡ true) ⊎ (leb (length ns) 16 ≡ false)
      → mechanisms_refusal ns (length s) ≡ 0 → Mechanisms ns s
  go (inl a) (inl b) (inl c) z = record { sum = eqb-true _ _ a; some = leb-true _ _ b; few = leb-true _ _ c }
  go (inl a) (inl b) (inr c) z = let y : ◌≡◌ {A = ℕ} 23 0 = rw (a, b, c) at z in absurd (omega arith)
  go (inl a) (inr b) c z = let y : ◌≡◌ {A = ℕ} 20 0 = rw (a, b) at z in absurd (omega arith)
  go (inr a) b c z = let y : ◌≡◌ {A = ℕ} 20 0 = rw a at z in absurd (omega arith)

module _ (ns s : List ℕ) (bf : Bool) (f : List ℕ) (bt : Bool) (t : List ℕ) (bk : Bool) (k : List ℕ) (d : List ℕ) (n : ℕ)
    (is : n ≡ mechanisms_refusal ns (length s)) where
  init-refused : (n ≡ 0 → ⊥) → unstored n d ≡ storing_init d ns s bf f bt t bk k
  unfolding mechanisms_refusal storing_init storing fine few init_given
  init-refused h = go (which (eqb (length s) (sum_of ns))) (which (leb 1 (length ns))) (which (leb (length ns) 16)) where
    go : (eqb (length s) (sum_of ns) ≡ true) ⊎ (eqb (length s) (sum_of ns) ≡ false) → (leb 1 (length ns) ≡ true) ⊎ (leb 1 (length ns) ≡ false)
        → (leb (length ns) 16 ≡ true) ⊎ (leb (length ns) 16 ≡ false)
        → unstored n d ≡ storing_init d ns s bf f bt t bk k
    go (inl a) (inl b) (inl c) = let z : n ≡ 0 = is ∙ rw (a, b, c) in absurd (h z)
    go (inl a) (inl b) (inr c) = let z : n ≡ 23 = is ∙ rw (a, b, c) in rw (z, a, length-split ns s, b, c)
    go (inl a) (inr b) c = let z : n ≡ 20 = is ∙ rw (a, b) in rw (z, a, length-split ns s, b)
    go (inr a) b c = let z : n ≡ 20 = is ∙ rw a in rw (z, a)

  init-passed : n ≡ 0 → storing d (init_given ns s bf f bt t bk k) ≡ storing_init d ns s bf f bt t bk k
  unfolding storing_init
  init-passed h = let p = (mechanisms-pass ns s n is h).sum in rw (eq-eqb (length s) (sum_of ns) p)

  init-written : n ≡ 0 → (o : Outcome) → o ≡ storing d (init_given ns s bf f bt t bk k) → o ≡ storing_init d ns s bf f bt t bk k
  init-written h o e = e ∙ init-passed h

-- what is checked of them passes, or is handed on: x is what `?` returns
pub check-passed : (ns s : List ℕ) (r : Result Unit Refusal) → refusal_number r ≡ mechanisms_refusal ns (length s) → (u : Unit) → r ≡ Ok u → Mechanisms ns s
check-passed ns s r is u z = mechanisms-pass ns s 0 (rw z at is) refl

module _ (ns s : List ℕ) (bf : Bool) (f : List ℕ) (bt : Bool) (t : List ℕ) (bk : Bool) (k : List ℕ) (d : List ℕ) (r : Result Unit Refusal)
    (is : refusal_number r ≡ mechanisms_refusal ns (length s)) where
  pub check-refused : (e : Refusal) → r ≡ Err e → (x : Result ℕ Refusal) → IsErrAnd x (λ y. y ≡ e) → told x d ≡ storing_init d ns s bf f bt t bk k
  check-refused e z (Ok y) h = absurd h
  check-refused e z (Err y) h =
      let some = number_some e in
      rw h (init-refused ns s bf f bt t bk k d (number_of e) (rw z at is) (λ q. omega arith))

  module _ (u : Unit) (z : r ≡ Ok u) where
    none : 0 ≡ mechanisms_refusal ns (length s)
    none = rw z at is

    pub check-written : (o : Outcome) → o ≡ storing d (init_given ns s bf f bt t bk k) → o ≡ storing_init d ns s bf f bt t bk k
    check-written o e = init-written ns s bf f bt t bk k d 0 none refl o e
