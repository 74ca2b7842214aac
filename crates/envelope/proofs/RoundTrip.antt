-- What is written reads back equal, and what is read is what would be written.
-- Assumes nothing.
use Prim.Native.Nat.{ℕ, ◌≤◌}
use mathlib.Core.Path.{◌≡◌, refl, ap, ◌∙◌}
use mathlib.Core.Bool.{true, false, cond}
use mathlib.Core.List.{List, [], ◌++◌}
use mathlib.Core.Option.{Option, none, some}
use mathlib.Core.Logic.{◌⊎◌, inl, inr}
use native.Mathlib.Omega.{arith}
use lib.ListN.{length, length-append}
use lib.Dec.{leb}
use borrow.Author.Tests.{le-leb, leb-true}
use Rattle.octets.proofs.Bools.{which}
use Rattle.octets.proofs.Same.{same-eq, same_refl}
use Rattle.der.specs.Got.{ok, check}
use Rattle.der.specs.Element.{Part, element, cut, any, exactly}
use Rattle.der.specs.Grammar.{closed, only, starts, optional, field_octets}
use Rattle.der.proofs.Gots.{bind_ok, check-ok, closed-ok}
use Rattle.der.proofs.Cuts.{cut-back, cut-forth}
use Rattle.der.proofs.Nesting.{Forth, Back, Suits, within-forth, only-forth, within-back, only-back, optional-forth, optional-back, starts-past}
use Rattle.envelope.specs.Envelope.{Envelope, Init, Resp, spnego, is_state, identifiers, tail_octets, encoded, fine_state, fine, few}
use Rattle.envelope.specs.Reading.{Tail, list_of, mechanisms_of, tail_of, init_of, begins, resp_of, wrapped_of, envelope_of}
use Rattle.envelope.specs.Claims.{OneReading, ReadEncoded, EncodedRead}
use Rattle.envelope.proofs.Identifiers.{Some, list-forth, list_back}

-- a front, and what is known of the rest
onto : (a : List ℕ) {s r b : List ℕ} → s ≡ a ++ r → r ≡ b → s ≡ a ++ b
onto a e f = e ∙ ap (λ (x : List ℕ). a ++ x) f

behind : (a b : List ℕ) → length (a ++ b) ≤ 65535 → length b ≤ 65535
behind a b h = omega (arith, length-append a b)

nil-starts : (t : ℕ) → starts t [] ≡ false
unfolding starts
nil-starts t = refl

suits-any : (t u : ℕ) (v : Option (List ℕ)) → Suits t u any v
suits-any t u none = tt
suits-any t u (some c) = refl

-- The list of mechanisms.
mechanisms-forth : (s : List ℕ) (q : Part (List (List ℕ))) → mechanisms_of s ≡ ok q
    → (s ≡ element 0xA0 (element 0x30 (identifiers q.value)) ++ q.rest) × Some q.value
mechanisms-forth = within-forth 0xA0 any (only 0x30 any list_of) (λ ms. element 0x30 (identifiers ms)) Some
    (only-forth 0x30 any list_of identifiers Some list-forth)

mechanisms-back : (ms : List (List ℕ)) (r : List ℕ) → Some ms → length (element 0xA0 (element 0x30 (identifiers ms)) ++ r) ≤ 65535
    → mechanisms_of (element 0xA0 (element 0x30 (identifiers ms)) ++ r) ≡ ok (record { value = ms; rest = r })
mechanisms-back = within-back 0xA0 any (only 0x30 any list_of) (λ ms. element 0x30 (identifiers ms)) Some
    (only-back 0x30 any list_of identifiers Some list_back (λ a g. refl)) (λ a g. refl)

-- The three fields behind the first.
abbrev tail : ℕ → Tail → List ℕ
tail v q = tail_octets v q.second q.token q.checksum

tail-forth : (v : ℕ) (s : List ℕ) (q : Tail) → tail_of v s ≡ ok q → s ≡ tail v q
unfolding tail_of
tail-forth v s q g =
    let (y, g1, h1) = bind_ok (optional 0xA1 v any s) _ q g in
    let (t, g2, h2) = bind_ok (optional 0xA2 0x04 any y.rest) _ q h1 in
    let (k, g3, h3) = bind_ok (optional 0xA3 0x04 any t.rest) _ q h2 in
    let (end, is) = closed-ok k.rest _ q h3 in
    let (a1, u1) = optional-forth 0xA1 v any s y g1 in
    let (a2, u2) = optional-forth 0xA2 0x04 any y.rest t g2 in
    let (a3, u3) = optional-forth 0xA3 0x04 any t.rest k g3 in
    rw (← is) (onto (field_octets 0xA1 v y.value) a1 (onto (field_octets 0xA2 0x04 t.value) a2 (onto (field_octets 0xA3 0x04 k.value) a3 end)))

-- no field of the tail has another tag
module _ (v : ℕ) (q : Tail) where
  third-out : (u : ℕ) → (0xA3 ≡ u → ⊥) → starts u (field_octets 0xA3 0x04 q.checksum ++ []) ≡ false
  third-out u h = starts-past u 0xA3 0x04 q.checksum [] h (nil-starts u)

  second-out : (u : ℕ) → (0xA2 ≡ u → ⊥) → (0xA3 ≡ u → ⊥)
      → starts u (field_octets 0xA2 0x04 q.token ++ (field_octets 0xA3 0x04 q.checksum ++ [])) ≡ false
  second-out u h i = starts-past u 0xA2 0x04 q.token _ h (third-out u i)

  tail-out : (u : ℕ) → (0xA1 ≡ u → ⊥) → (0xA2 ≡ u → ⊥) → (0xA3 ≡ u → ⊥) → starts u (tail v q) ≡ false
  tail-out u h i j = starts-past u 0xA1 v q.second _ h (second-out u i j)

  tail-back : length (tail v q) ≤ 65535 → tail_of v (tail v q) ≡ ok q
  unfolding tail_of closed
  tail-back h =
      let r2 = field_octets 0xA3 0x04 q.checksum ++ [] in
      let r1 = field_octets 0xA2 0x04 q.token ++ r2 in
      let h1 : length r1 ≤ 65535 = behind (field_octets 0xA1 v q.second) r1 h in
      let h2 : length r2 ≤ 65535 = behind (field_octets 0xA2 0x04 q.token) r2 h1 in
      rw (
        optional-back 0xA1 v any q.second r1 (suits-any 0xA1 v q.second) (second-out 0xA1 (λ e. omega arith) (λ e. omega arith)) h,
        optional-back 0xA2 0x04 any q.token r2 (suits-any 0xA2 0x04 q.token) (third-out 0xA2 (λ e. omega arith)) h1,
        optional-back 0xA3 0x04 any q.checksum [] (suits-any 0xA3 0x04 q.checksum) (nil-starts 0xA3) h2,
      )

-- The sequences, and what is known of a reading.
abbrev inner : Envelope → List ℕ
inner (Init ms f t k) = element 0xA0 (element 0x30 (identifiers ms)) ++ tail 0x03 (record { second = f; token = t; checksum = k })
inner (Resp x m t k) = field_octets 0xA0 0x0A x ++ tail 0x06 (record { second = m; token = t; checksum = k })

abbrev GoodInit : Envelope → Type 0
GoodInit (Init ms f t k) = Some ms
GoodInit (Resp x m t k) = ⊥

abbrev GoodResp : Envelope → Type 0
GoodResp (Init ms f t k) = ⊥
GoodResp (Resp x m t k) = fine_state x ≡ true

init-forth : Forth any init_of inner GoodInit
unfolding init_of
init-forth s e h g =
    let (m, g1, h1) = bind_ok (mechanisms_of s) _ e g in
    let (t, g2, h2) = bind_ok (tail_of 0x03 m.rest) _ e h1 in
    let is : Init m.value t.second t.token t.checksum ≡ e = cc in
    let (a1, good) = mechanisms-forth s m g1 in
    rw (← is) (onto (element 0xA0 (element 0x30 (identifiers m.value))) a1 (tail-forth 0x03 m.rest t g2), good)

init-back : Back init_of inner GoodInit
unfolding init_of
init-back (Resp x m t k) g h = absurd g
init-back (Init ms f t k) g h =
    let q : Tail = record { second = f; token = t; checksum = k } in
    rw (mechanisms-back ms (tail 0x03 q) g h, tail-back 0x03 q (behind (element 0xA0 (element 0x30 (identifiers ms))) (tail 0x03 q) h))

resp-forth : Forth any resp_of inner GoodResp
unfolding resp_of
resp-forth s e h g0 =
    let (b, g) = check-ok _ 20 _ e g0 in
    let (x, g1, h1) = bind_ok (optional 0xA0 0x0A is_state s) _ e g in
    let (t, g2, h2) = bind_ok (tail_of 0x06 x.rest) _ e h1 in
    let is : Resp x.value t.second t.token t.checksum ≡ e = cc in
    let (a1, u1) = optional-forth 0xA0 0x0A is_state s x g1 in
    rw (← is) (onto (field_octets 0xA0 0x0A x.value) a1 (tail-forth 0x06 x.rest t g2), good x.value u1) where
      good : (v : Option (List ℕ)) → Suits 0xA0 0x0A is_state v → fine_state v ≡ true
      good none h = refl
      good (some c) h = h

begins-field : (t u : ℕ) (a : Option (List ℕ)) (r : List ℕ) → 0xA0 ≤ t → t ≤ 0xA3 → begins r ≡ true → begins (field_octets t u a ++ r) ≡ true
unfolding begins field_octets element
begins-field t u none r h i e = e
begins-field t u (some c) r h i e = rw (le-leb 0xA0 t h, le-leb t 0xA3 i)

resp-back : Back resp_of inner GoodResp
unfolding resp_of check begins
resp-back (Init ms f t k) g h = absurd g
resp-back (Resp x m t k) g h =
    let q : Tail = record { second = m; token = t; checksum = k } in
    let h1 : length (tail 0x06 q) ≤ 65535 = behind (field_octets 0xA0 0x0A x) (tail 0x06 q) h in
    let b : begins (field_octets 0xA0 0x0A x ++ tail 0x06 q) ≡ true =
    begins-field 0xA0 0x0A x (tail 0x06 q) (omega arith) (omega arith)
    (begins-field 0xA1 0x06 m _ (omega arith) (omega arith)
    (begins-field 0xA2 0x04 t _ (omega arith) (omega arith) (begins-field 0xA3 0x04 k [] (omega arith) (omega arith) refl))) in
    rw (
      b,
      optional-back 0xA0 0x0A is_state x (tail 0x06 q) (suit x g) (tail-out 0x06 q 0xA0 (λ e. omega arith) (λ e. omega arith) (λ e. omega arith)) h,
      tail-back 0x06 q h1,
    ) where
      suit : (v : Option (List ℕ)) → fine_state v ≡ true → Suits 0xA0 0x0A is_state v
      suit none h = tt
      suit (some c) h = h

-- The wrapper's contents.
wrapped : Envelope → List ℕ
wrapped e = element 0x06 spnego ++ element 0xA0 (element 0x30 (inner e))

wrapped-forth : Forth any wrapped_of wrapped GoodInit
unfolding wrapped_of wrapped
wrapped-forth s e h g =
    let (q, g1, g2) = bind_ok (cut 0x06 (exactly spnego) s) _ e g in
    let (s-is, right) = cut-forth 0x06 (exactly spnego) s q g1 in
    let (r-is, good) =
    only-forth 0xA0 any (only 0x30 any init_of) (λ a. element 0x30 (inner a)) GoodInit (only-forth 0x30 any init_of inner GoodInit init-forth)
    q.rest e refl g2 in
    (s-is ∙ rw (same-eq q.value spnego right, r-is), good)

wrapped-back : Back wrapped_of wrapped GoodInit
unfolding wrapped_of wrapped
wrapped-back e g h =
    rw (cut-back 0x06 (exactly spnego) spnego (element 0xA0 (element 0x30 (inner e))) (omega arith) (same_refl spnego))
    (only-back 0xA0 any (only 0x30 any init_of) (λ a. element 0x30 (inner a)) GoodInit
    (only-back 0x30 any init_of inner GoodInit init-back (λ a k. refl)) (λ a k. refl) e g
    (behind (element 0x06 spnego) (element 0xA0 (element 0x30 (inner e))) h))

-- The whole.
record Whole (v : List ℕ) (e : Envelope) : Type 0 where
  octets : v ≡ encoded e
  is_fine : fine e ≡ true
  is_few : few e ≡ true

init-whole : (e : Envelope) → GoodInit e → Whole (element 0x60 (wrapped e)) e
unfolding wrapped encoded field_octets fine few
init-whole (Init ms f t k) g = record { octets = refl; is_fine = le-leb 1 (length ms) g.0; is_few = le-leb (length ms) 16 g.1 }
init-whole (Resp x m t k) g = absurd g

resp-whole : (e : Envelope) → GoodResp e → Whole (element 0xA1 (element 0x30 (inner e))) e
unfolding encoded fine few
resp-whole (Init ms f t k) g = absurd g
resp-whole (Resp x m t k) g = record { octets = refl; is_fine = g; is_few = refl }

pub read-encoded : ReadEncoded
unfolding envelope_of
read-encoded s e g0 = go (which (starts 0x60 s)) (check-ok (leb (length s) 65535) 1 _ e g0) where
  go : (starts 0x60 s ≡ true) ⊎ (starts 0x60 s ≡ false)
      → (leb (length s) 65535 ≡ true) × (cond (starts 0x60 s) (only 0x60 any wrapped_of s) (only 0xA1 any (only 0x30 any resp_of) s) ≡ ok e)
      → OneReading s e
  go (inl b) g =
      let (is, good) = only-forth 0x60 any wrapped_of wrapped GoodInit wrapped-forth s e refl (rw b at g.1) in
      let w = init-whole e good in
      record { same = is ∙ w.octets; is_fine = w.is_fine; is_few = w.is_few; short = leb-true _ _ g.0 }
  go (inr b) g =
      let (is, good) =
      only-forth 0xA1 any (only 0x30 any resp_of) (λ a. element 0x30 (inner a)) GoodResp
      (only-forth 0x30 any resp_of inner GoodResp resp-forth) s e refl (rw b at g.1) in
      let w = resp-whole e good in
      record { same = is ∙ w.octets; is_fine = w.is_fine; is_few = w.is_few; short = leb-true _ _ g.0 }

pub encoded-read : EncodedRead
unfolding envelope_of encoded check wrapped starts element field_octets fine few
encoded-read (Init ms f t k) a b h =
    rw (le-leb (length (encoded (Init ms f t k))) 65535 h)
    (only-back 0x60 any wrapped_of wrapped GoodInit wrapped-back (λ a i. refl) (Init ms f t k) (leb-true 1 (length ms) a, leb-true (length ms) 16 b) h)
encoded-read (Resp x m t k) a b h =
    rw (le-leb (length (encoded (Resp x m t k))) 65535 h)
    (only-back 0xA1 any (only 0x30 any resp_of) (λ a. element 0x30 (inner a)) GoodResp
    (only-back 0x30 any resp_of inner GoodResp resp-back (λ a i. refl)) (λ a i. refl) (Resp x m t k) a h)
