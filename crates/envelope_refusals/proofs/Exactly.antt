-- Which number is given when.
-- Assumes nothing.
use Prim.Native.Nat.{ℕ, zero, suc, ◌+◌, ◌≤◌}
use mathlib.Core.Path.{◌≡◌, refl, sym, ap, ◌∙◌}
use mathlib.Core.Bool.{Bool, true, false, ◌||◌}
use mathlib.Core.List.{List, [], ◌∷◌, ◌++◌, append_assoc}
use mathlib.Core.Logic.{◌⊎◌, inl, inr}
use native.Mathlib.Omega.{arith}
use lib.ListN.{length}
use lib.Dec.{eqb, leb}
use borrow.Author.Tests.{eq-eqb, ne_eqb, eqb-true, eqb-false, le-leb, lt-leb, leb-true, leb-false}
use Rattle.octets.specs.Octets.{same_octets}
use Rattle.octets.proofs.Bools.{which}
use Rattle.octets.proofs.Same.{same-eq, same_refl}
use Rattle.der.specs.Got.{Got, ok, no, bind, check}
use Rattle.der.specs.Element.{Part, element, lead_of, size_of, framed, framed_from, frame, indefinite, shortest, judged, cut, any}
use Rattle.der.specs.Grammar.{within, only, closed, starts}
use Rattle.der.proofs.Cuts.{cut-forth}
use Rattle.envelope.specs.Envelope.{Envelope, identifiers}
use Rattle.envelope.specs.Reading.{filled, identifiers_of, list_of, wrapped_of, resp_of, envelope_of}
use Rattle.envelope_refusals.specs.Refusals.{ElementFault, missing, tag, past, contents, long, ElementExactly, WithinFault, outer, inner, WithinExactly, OnlyFault, before, left, OnlyExactly, EnvelopeFault, large, wrapper, response, EnvelopeExactly, SeventeenthFault, SeventeenthLast}

ok-no : {A B : Type 0} (a : A) (n : ℕ) → ok a ≡ no n → B
ok-no a n e = let z : ◌≡◌ {A = ℕ} 0 1 = cc in absurd (omega arith)

number_is : {A : Type 0} (m n : ℕ) → ◌≡◌ {A = Got A} (no m) (no n) → m ≡ n
number_is m n e = cc

not_same : (a b : List ℕ) → same_octets a b ≡ false → a ≡ b → ⊥
not_same a b e k = let z : true ≡ false = sym (same_refl b) ∙ (rw k at e) in let y : ◌≡◌ {A = ℕ} 0 1 = cc in absurd (omega arith)

same_false : (a b : List ℕ) → (a ≡ b → ⊥) → same_octets a b ≡ false
same_false a b h = go (which (same_octets a b)) where
  go : (same_octets a b ≡ true) ⊎ (same_octets a b ≡ false) → same_octets a b ≡ false
  go (inl e) = absurd (h (same-eq a b e))
  go (inr e) = e

-- One element.
abbrev F : (t : ℕ) (p : List ℕ → Bool) (s : List ℕ) → ℕ → Type 0
F t p s n = ElementFault t p (t ∷ s) n

judge-no : (t : ℕ) (p : List ℕ → Bool) (s : List ℕ) → lead_of s + size_of s ≤ length s → (n : ℕ) → judged (p (framed s).contents) (framed s) ≡ no n
    → F t p s n
unfolding judged check
judge-no t p s fits n =
    go (which (p (framed s).contents)) (which (indefinite (framed s).lead)) (which (shortest (framed s).lead (length (framed s).contents))) where
      go : (p (framed s).contents ≡ true) ⊎ (p (framed s).contents ≡ false)
          → (indefinite (framed s).lead ≡ true) ⊎ (indefinite (framed s).lead ≡ false)
          → (shortest (framed s).lead (length (framed s).contents) ≡ true) ⊎ (shortest (framed s).lead (length (framed s).contents) ≡ false)
          → judged (p (framed s).contents) (framed s) ≡ no n → F t p s n
      go (inl a) b (inl c) e = ok-no _ n (rw (a, c) at e)
      go (inl a) b (inr c) e = rw (← number_is 21 n (rw (a, c) at e)) (long s fits (inl a) (not_same _ _ c))
      go (inr a) (inl b) (inl c) e = ok-no _ n (rw (a, b, c) at e)
      go (inr a) (inl b) (inr c) e = rw (← number_is 21 n (rw (a, b, c) at e)) (long s fits (inr (same-eq _ _ b)) (not_same _ _ c))
      go (inr a) (inr b) c e = rw (← number_is 20 n (rw (a, b) at e)) (contents s fits a (not_same _ _ b))

cut-no : (t : ℕ) (p : List ℕ → Bool) (s : List ℕ) (n : ℕ) → cut t p s ≡ no n → ElementFault t p s n
unfolding cut frame framed_from check
cut-no t p [] n e = rw (← number_is 20 n e) missing
cut-no t p (x ∷ s) n e = go (which (eqb x t)) (which (leb (lead_of s + size_of s) (length s))) where
  go : (eqb x t ≡ true) ⊎ (eqb x t ≡ false) → (leb (lead_of s + size_of s) (length s) ≡ true) ⊎ (leb (lead_of s + size_of s) (length s) ≡ false)
      → ElementFault t p (x ∷ s) n
  go (inl a) (inl b) = rw (eqb-true x t a) (judge-no t p s (leb-true _ _ b) n (rw (a, b) at e))
  go (inl a) (inr b) = rw (eqb-true x t a, ← number_is 20 n (rw (a, b) at e)) (past s (leb-false _ _ b))
  go (inr a) b = rw (← number_is 20 n (rw a at e)) (tag x s (eqb-false x t a))

no_cut : {t : ℕ} {p : List ℕ → Bool} {s : List ℕ} {n : ℕ} → ElementFault t p s n → cut t p s ≡ no n
unfolding cut frame framed_from judged check
no_cut missing = refl
no_cut {t} (tag x s h) = rw (ne_eqb x t h)
no_cut {t} (past s h) = rw (eq-eqb t t refl, lt-leb (lead_of s + size_of s) (length s) h)
no_cut {t} (contents s fits a b) = rw (eq-eqb t t refl, le-leb (lead_of s + size_of s) (length s) fits, a, same_false _ _ b)
no_cut {t} (long s fits (inl a) c) = rw (eq-eqb t t refl, le-leb (lead_of s + size_of s) (length s) fits, a, same_false _ _ c)
no_cut {t} {p} (long s fits (inr b) c) =
    rw (eq-eqb t t refl, le-leb (lead_of s + size_of s) (length s) fits, passes (p (framed s).contents), same_false _ _ c) where
      passes : (x : Bool) → x || indefinite (framed s).lead ≡ true
      passes true = refl
      passes false = ap (λ (v : List ℕ). same_octets v (0x80 ∷ [])) b ∙ same_refl (0x80 ∷ [])

pub element-exactly : ElementExactly
element-exactly t p s = record { only_then = cut-no t p s; then = λ n f. no_cut f }

-- What it holds, and what is behind it.
pub within-exactly : WithinExactly
unfolding within
within-exactly A t p body s = record { only_then = λ n e. go n (cut t p s) refl e; then = λ n f. back f } where
  go : (n : ℕ) (g : Got (Part (List ℕ))) → cut t p s ≡ g
      → bind {B = Part A} g (λ q. bind {B = Part A} (body q.value) (λ a. ok (record { value = a; rest = q.rest }))) ≡ no n
      → WithinFault t p body s n
  go n (no m) k e = outer n (rw (← number_is m n e) (cut-no t p s m k))
  go n (ok q) k e = two (body q.value) refl e where
    two : (h : Got A) → body q.value ≡ h → bind {B = Part A} h (λ a. ok (record { value = a; rest = q.rest })) ≡ no n → WithinFault t p body s n
    two (ok a) j e = ok-no _ n e
    two (no m) j e = inner q n k (j ∙ ap no (number_is m n e))

  back : {n : ℕ} → WithinFault t p body s n → within t p body s ≡ no n
  back (outer n f) = rw (no_cut f)
  back (inner q n k j) = rw (k, j)

pub only-exactly : OnlyExactly
unfolding only closed
only-exactly A t p body s = record { only_then = λ n e. go n (within t p body s) refl e; then = λ n f. back f } where
  go : (n : ℕ) (g : Got (Part A)) → within t p body s ≡ g → bind g (λ q. closed q.rest q.value) ≡ no n → OnlyFault t p body s n
  go n (no m) k e = before n ((within-exactly A t p body s).only_then n (k ∙ ap no (number_is m n e)))
  go n (ok q) k e = two q.rest refl e where
    two : (r : List ℕ) → q.rest ≡ r → closed r q.value ≡ no n → OnlyFault t p body s n
    two [] j e = ok-no _ n e
    two (x ∷ r) j e = rw (← number_is 22 n e) (left q k (λ z. let y : length q.rest ≡ 0 = ap length z in absurd (omega (arith, ap length j))))

  back : {n : ℕ} → OnlyFault t p body s n → only t p body s ≡ no n
  back (before n f) = rw ((within-exactly A t p body s).then n f)
  back (left q k h) = rw k (two q.rest h) where
    two : (r : List ℕ) → (r ≡ [] → ⊥) → closed r q.value ≡ no 22
    two [] h = absurd (h refl)
    two (x ∷ r) h = refl

-- The whole buffer.
pub envelope-exactly : EnvelopeExactly
unfolding envelope_of check
envelope-exactly s = record { only_then = forth; then = λ n f. back f } where
  forth : (n : ℕ) → envelope_of s ≡ no n → EnvelopeFault s n
  forth n e = go (which (leb (length s) 65535)) (which (starts 0x60 s)) where
    go : (leb (length s) 65535 ≡ true) ⊎ (leb (length s) 65535 ≡ false) → (starts 0x60 s ≡ true) ⊎ (starts 0x60 s ≡ false) → EnvelopeFault s n
    go (inl a) (inl b) = wrapper n (leb-true _ _ a) b ((only-exactly Envelope 0x60 any wrapped_of s).only_then n (rw (a, b) at e))
    go (inl a) (inr b) = response n (leb-true _ _ a) b ((only-exactly Envelope 0xA1 any (only 0x30 any resp_of) s).only_then n (rw (a, b) at e))
    go (inr a) b = rw (← number_is 1 n (rw a at e)) (large (leb-false _ _ a))

  back : {n : ℕ} → EnvelopeFault s n → envelope_of s ≡ no n
  back (large h) = rw (lt-leb (length s) 65535 h)
  back (wrapper n h b f) = rw (le-leb (length s) 65535 h, b) ((only-exactly Envelope 0x60 any wrapped_of s).then n f)
  back (response n h b f) = rw (le-leb (length s) 65535 h, b) ((only-exactly Envelope 0xA1 any (only 0x30 any resp_of) s).then n f)

-- The seventeenth identifier.
record Found (k : ℕ) (s : List ℕ) : Type 0 where
  read : List (List ℕ)
  behind : List ℕ
  further : Part (List ℕ)
  number : length read ≡ k
  same : s ≡ identifiers read ++ behind
  one : cut 0x06 any behind ≡ ok further

no-element-23 : {A : Type 0} (t : ℕ) (p : List ℕ → Bool) (s : List ℕ) → cut t p s ≡ no 23 → A
no-element-23 {A} t p s e = go (cut-no t p s 23 e) refl where
  go : {s : List ℕ} {n : ℕ} → ElementFault t p s n → n ≡ 23 → A
  go missing k = absurd (omega arith)
  go (tag x s h) k = absurd (omega arith)
  go (past s h) k = absurd (omega arith)
  go (contents s a b c) k = absurd (omega arith)
  go (long s a b c) k = absurd (omega arith)

found : (k : ℕ) (s : List ℕ) → identifiers_of k s ≡ no 23 → Found k s
unfolding identifiers_of identifiers
found zero s e = go (which (filled s)) where
  go : (filled s ≡ true) ⊎ (filled s ≡ false) → Found 0 s
  go (inl b) = two (cut 0x06 any s) refl (rw b at e) where
    two : (g : Got (Part (List ℕ))) → cut 0x06 any s ≡ g → bind {B = List (List ℕ)} g (λ q. no 23) ≡ no 23 → Found 0 s
    two (ok q) h e = record { read = []; behind = s; further = q; number = refl; same = refl; one = h }
    two (no n) h e = no-element-23 0x06 any s (h ∙ ap no (number_is n 23 e))
  go (inr b) = ok-no [] 23 (rw b at e)
found (suc k) s e = go (which (filled s)) (found k) where
  go : (filled s ≡ true) ⊎ (filled s ≡ false) → ((r : List ℕ) → identifiers_of k r ≡ no 23 → Found k r) → Found (suc k) s
  go (inr b) f = ok-no [] 23 (rw b at e)
  go (inl b) f = two (cut 0x06 any s) refl (rw b at e) where
    three : (q : Part (List ℕ)) → cut 0x06 any s ≡ ok q → Found k q.rest → Found (suc k) s
    three q h w =
        record {
          read = q.value ∷ w.read;
          behind = w.behind;
          further = w.further;
          number = ap suc w.number;
          one = w.one;
          same = (cut-forth 0x06 any s q h).0 ∙ ap (λ (r : List ℕ). element 0x06 q.value ++ r) w.same
              ∙ sym (append_assoc (element 0x06 q.value) (identifiers w.read) w.behind);
        }

    four : (q : Part (List ℕ)) (g : Got (List (List ℕ))) → identifiers_of k q.rest ≡ g → bind g (λ ms. ok (q.value ∷ ms)) ≡ no 23
        → identifiers_of k q.rest ≡ no 23
    four q (ok ms) h e = ok-no _ 23 e
    four q (no n) h e = h ∙ ap no (number_is n 23 e)

    two : (g : Got (Part (List ℕ))) → cut 0x06 any s ≡ g → bind g (λ q. bind (identifiers_of k q.rest) (λ ms. ok (q.value ∷ ms))) ≡ no 23
        → Found (suc k) s
    two (ok q) h e = three q h (f q.rest (four q (identifiers_of k q.rest) refl e))
    two (no n) h e = no-element-23 0x06 any s (h ∙ ap no (number_is n 23 e))

pub seventeenth-last : SeventeenthLast
unfolding list_of check
seventeenth-last s e = go (which (filled s)) where
  make : Found 16 s → SeventeenthFault s
  make w = record { sixteen = w.read; behind = w.behind; further = w.further; number = w.number; same = w.same; one = w.one }

  go : (filled s ≡ true) ⊎ (filled s ≡ false) → SeventeenthFault s
  go (inl b) = make (found 16 s (rw b at e))
  go (inr b) = let z : ◌≡◌ {A = ℕ} 20 23 = number_is {A = List (List ℕ)} 20 23 (rw b at e) in absurd (omega arith)
