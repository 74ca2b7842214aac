-- What the writer leaves: one law for each answer, in the words of the code.
-- Assumes nothing.
use mathlib.Core.Path.{◌≡◌}
use mathlib.Core.Bool.{Bool, true, false}
use mathlib.Core.Logic.{◌⊎◌, inl, inr}
use mathlib.Core.List.{List}
use Prim.Native.Nat.{ℕ, ◌+◌, ◌≤◌, ◌<◌}
use lib.ListN.{length}
use lib.Dec.{leb}
use borrow.Author.Tests.{le-leb, lt-leb}
use Rattle.put.specs.Put.{Written}
use Rattle.encode.specs.declared.Heading.{Heading}
use Rattle.encode.specs.Encode.{Payload, of_exchange, encoded, encodable, written, unwritten, storing}
use Rattle.encode.proofs.Storing.{unencodable, crowded, roomy, room-given}

module _ (d : List ℕ) (at : ℕ) (h : Heading) (p : Payload) where
  pub exchange-unfit : (h.kind.0 < 2)
      ⊎ (((2 ≤ h.kind.0) × (5 < h.kind.0)) ⊎ ((2 ≤ h.kind.0) × (h.kind.0 ≤ 5) × (4294967231 < length p.value)))
      → unwritten d ≡ storing d at h (of_exchange p)
  unfolding encodable
  exchange-unfit (inl k) = unencodable d at h (of_exchange p) (simp (lt-leb _ _ k))
  exchange-unfit (inr (inl (low, k))) = unencodable d at h (of_exchange p) (simp (le-leb _ _ low, lt-leb _ _ k))
  exchange-unfit (inr (inr (low, high, k))) = unencodable d at h (of_exchange p) (simp (le-leb _ _ low, le-leb _ _ high, lt-leb _ _ k))

  module _ (low : 2 ≤ h.kind.0) (high : h.kind.0 ≤ 5) (size : length p.value ≤ 4294967231) where
    can-exchange : encodable h (of_exchange p) ≡ true
    unfolding encodable
    can-exchange = simp (le-leb _ _ low, le-leb _ _ high, le-leb _ _ size)

    module _ (id : length h.conversation ≡ 16) (whole : length p.scheme ≡ 16) (r : Bool)
        (r-is : r ≡ leb (at + (64 + length p.value)) (length d)) where
      pub exchange-crowded : r ≡ false → unwritten d ≡ storing d at h (of_exchange p)
      exchange-crowded = crowded d at h (of_exchange p) can-exchange id whole r r-is

      pub exchange-roomy : r ≡ true → (d' : List ℕ) (next : ℕ) → Written d at (64 + length p.value) (encoded h (of_exchange p)) d' next
          → written next d' ≡ storing d at h (of_exchange p)
      exchange-roomy = roomy d at h (of_exchange p) can-exchange id whole r r-is

pub ruleset storings = (exchange-unfit, exchange-crowded, exchange-roomy, room-given)
