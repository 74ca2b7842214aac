-- What the writer leaves: one law for each answer, in the words of the code.
-- Assumes nothing.
use mathlib.Core.Path.{◌≡◌}
use mathlib.Core.Bool.{Bool, true, false}
use mathlib.Core.Logic.{◌⊎◌, inl, inr}
use mathlib.Core.List.{List}
use Prim.Native.Nat.{ℕ, ◌+◌, ◌≤◌, ◌<◌}
use lib.ListN.{length}
use lib.Dec.{leb}
use lib.IntN.{ℤ}
use borrow.Author.Tests.{le-leb, lt-leb, eq-eqb, ne_eqb}
use Rattle.put.specs.Put.{Written}
use Rattle.encode.specs.declared.Heading.{Heading}
use Rattle.encode.specs.Encode.{Checksum, of_verify, encoded, encodable, written, unwritten, storing}
use Rattle.encode.proofs.Storing.{unencodable, crowded, roomy, room-given}

module _ (d : List ℕ) (at : ℕ) (h : Heading) (k : Checksum) where
  pub verify-unfit : (h.kind.0 ≡ 6 → ⊥) ⊎ ((h.kind.0 ≡ 6) × (4294967215 < length k.value)) → unwritten d ≡ storing d at h (of_verify k)
  unfolding encodable
  verify-unfit (inl e) = unencodable d at h (of_verify k) (simp (ne_eqb _ _ e))
  verify-unfit (inr (kind, l)) = unencodable d at h (of_verify k) (simp (eq-eqb _ _ kind, lt-leb _ _ l))

  module _ (kind : h.kind.0 ≡ 6) (size : length k.value ≤ 4294967215) where
    can-verify : encodable h (of_verify k) ≡ true
    unfolding encodable
    can-verify = simp (eq-eqb _ _ kind, le-leb _ _ size)

    module _ (id : length h.conversation ≡ 16) (whole : length k.scheme ≡ 16) (r : Bool)
        (r-is : r ≡ leb (at + (80 + length k.value)) (length d)) where
      pub verify-crowded : r ≡ false → unwritten d ≡ storing d at h (of_verify k)
      verify-crowded = crowded d at h (of_verify k) can-verify id whole r r-is

      pub verify-roomy : r ≡ true → (d' : List ℕ) (next : ℕ) (z : ℤ) → z ≡ k.type
          → Written d at (80 + length k.value) (encoded h (of_verify (record { scheme = k.scheme; type = z; value = k.value }))) d' next
          → written next d' ≡ storing d at h (of_verify k)
      verify-roomy e d' next z z-is w = roomy d at h (of_verify k) can-verify id whole r r-is e d' next (rw z-is at w)

pub ruleset storings = (verify-unfit, verify-crowded, verify-roomy, room-given)
