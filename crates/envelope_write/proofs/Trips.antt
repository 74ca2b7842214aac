-- What is written reads back equal, what is read and written again gives the same octets, and a refusal changes nothing.
-- Assumes nothing.
use Prim.Native.Nat.{ℕ}
use mathlib.Core.Path.{◌≡◌, sym, ◌∙◌}
use mathlib.Core.Bool.{true, false}
use mathlib.Core.List.{List}
use mathlib.Core.Logic.{◌⊎◌, inl, inr}
use native.Mathlib.Omega.{arith}
use lib.ListN.{length, take}
use lib.Seq.{take-append_seam}
use lib.Dec.{leb}
use borrow.Author.Tests.{le-leb, leb-true}
use Rattle.octets.proofs.Bools.{which}
use Rattle.put.specs.Put.{put}
use Rattle.der.specs.Got.{ok}
use Rattle.envelope.specs.Envelope.{Envelope, encoded, fine, few}
use Rattle.envelope.specs.Reading.{envelope_of}
use Rattle.envelope.specs.Claims.{OneReading}
use Rattle.envelope.proofs.RoundTrip.{encoded-read, read-encoded}
use Rattle.envelope_write.specs.Writing.{stored, unstored, storing}
use Rattle.envelope_write.specs.Claims.{EnvelopeReads, ReadWritten, RefusedKeeps}

no-stored : {A : Type 0} (k n : ℕ) (d d' : List ℕ) → unstored k d ≡ stored n d' → A
no-stored k n d d' e = let z : ◌≡◌ {A = ℕ} 0 1 = cc in absurd (omega arith)

-- the four tests, in order
data Test (d : List ℕ) (e : Envelope) : Type 0 where
  done : fine e ≡ true → few e ≡ true → leb (length (encoded e)) 65535 ≡ true → storing d e ≡ stored (length (encoded e)) (put d 0 (encoded e))
      → Test d e
  refused : (n : ℕ) → storing d e ≡ unstored n d → Test d e

test : (d : List ℕ) (e : Envelope) → Test d e
unfolding storing
test d e = go (which (fine e)) (which (few e)) (which (leb (length (encoded e)) 65535)) (which (leb (length (encoded e)) (length d))) where
  go : (fine e ≡ true) ⊎ (fine e ≡ false) → (few e ≡ true) ⊎ (few e ≡ false)
      → (leb (length (encoded e)) 65535 ≡ true) ⊎ (leb (length (encoded e)) 65535 ≡ false)
      → (leb (length (encoded e)) (length d) ≡ true) ⊎ (leb (length (encoded e)) (length d) ≡ false) → Test d e
  go (inl a) (inl b) (inl c) (inl f) = done a b c (rw (a, b, c, f))
  go (inl a) (inl b) (inl c) (inr f) = refused 16 (rw (a, b, c, f))
  go (inl a) (inl b) (inr c) f = refused 1 (rw (a, b, c))
  go (inl a) (inr b) c f = refused 23 (rw (a, b))
  go (inr a) b c f = refused 20 (rw a)

pub envelope-reads : EnvelopeReads
unfolding put
envelope-reads d e n d' h = go (test d e) where
  go : Test d e → envelope_of (take n d') ≡ ok e
  go (done a b c is) =
      let s : stored (length (encoded e)) (put d 0 (encoded e)) ≡ stored n d' = sym is ∙ h in
      let s1 : length (encoded e) ≡ n = cc in
      let s2 : put d 0 (encoded e) ≡ d' = cc in
      rw (← s1, ← s2, take-append_seam (encoded e) _) (encoded-read e a b (leb-true _ _ c))
  go (refused k is) = no-stored k n d d' (sym is ∙ h)

pub read-written : ReadWritten
unfolding storing
read-written s e d h room =
    let w : OneReading s e = read-encoded s e h in
    let c : leb (length s) 65535 ≡ true = le-leb _ _ w.short in
    let f : leb (length s) (length d) ≡ true = le-leb _ _ room in
    rw (w.is_fine, w.is_few, ← w.same, c, f)

pub refused-keeps : RefusedKeeps
refused-keeps d e n d' h = go (test d e) where
  go : Test d e → d' ≡ d
  go (done a b c is) = no-stored n (length (encoded e)) d' (put d 0 (encoded e)) (sym h ∙ is)
  go (refused k is) = let s : unstored k d ≡ unstored n d' = sym is ∙ h in let z : d ≡ d' = cc in sym z
