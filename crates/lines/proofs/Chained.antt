-- Each form of line as the calls that write it, one behind the other, in the words of the code: t is the text before, u the text after.
-- Assumes nothing.
use Prim.Native.Nat.{ℕ, ◌+◌, ◌≤◌}
use mathlib.Core.Path.{◌≡◌, ap, ◌∙◌}
use mathlib.Core.List.{List, [], ◌∷◌}
use lib.ListN.{length}
use lib.IntN.{ℤ}
use borrow.Author.Tests.{le-leb}
use mir.Syntax.{w32}
use mir.Val.{SFits, to_z, of_z}
use mir.Facts.{to_z-of_z}
use Rattle.octets.specs.Octets.{le, signed32}
use Rattle.vector.specs.declared.Vector.{Vector}
use Rattle.message.specs.Layout.{head_of, octet_vector, element_at, exchange_vector, checksum_vector}
use Rattle.message.specs.Show.{signed_in, checksum_type, error_code}
use Rattle.text.specs.Text.{quoted, decimal, decimal64, signed, id_text, Text, written}
use Rattle.text.proofs.Pieces.{then}
use Rattle.lines.specs.Lines.{lengths, message_line, scheme_line, span, extension_line, exchange_line, checksum_line, error_line, alert_line}
use Rattle.lines.specs.Lines.{end_line, refused_line}

-- a number or a vector that a call read
read : {A : Type 0} (f : A → List (List ℕ)) (x y : A) (t u : Text) → x ≡ y → u ≡ written (f x) t → u ≡ written (f y) t
read f x y t u e h = h ∙ ap (λ (z : _). written (f z) t) e

-- a signed number that a call read, as the machine holds it
signed-text : (z y : ℤ) (t u : Text) → SFits w32 z → z ≡ y → u ≡ written (signed (to_z w32 (of_z w32 z))) t → u ≡ written (signed y) t
signed-text z y t u f e h = read signed _ y t u (to_z-of_z {w = w32} f ∙ e) h

-- where there is room for the header, a field is the signed number in its octets
field_is : (n : ℕ) (m : List ℕ) (at : ℕ) (z : ℤ) → n ≤ length m → z ≡ signed_in n m at → z ≡ signed32 (le 4 m at)
unfolding signed_in
field_is n m at z h e = e ∙ simp (le-leb _ _ h)

abbrev field : List ℕ → ℕ → List (List ℕ)
field p n = p ∷ decimal n ∷ []

module _ (t u : Text) where
  pub lengths-text : (a b : Text) (m : List ℕ) (h l : ℕ) → h ≡ le 4 m 16 → l ≡ le 4 m 20
      → a ≡ written (quoted " header=" ∷ decimal h ∷ []) t
      → b ≡ written (quoted " length=" ∷ decimal l ∷ []) a
      → u ≡ written (quoted "\n" ∷ []) b
      → u ≡ written (lengths (head_of m)) t
  unfolding lengths head_of
  lengths-text a b m h l h-is l-is f₁ f₂ f₃ =
      then t b u _ _
      (then t a b _ _ (read (field (quoted " header=")) h _ t a h-is f₁) (read (field (quoted " length=")) l _ a b l-is f₂)) f₃

  pub message-text : (a b c : Text) (place : ℕ) (m : List ℕ) (q k : ℕ) → q ≡ le 4 m 12 → k ≡ le 4 m 8
      → a ≡ written (quoted "message at=" ∷ decimal64 place ∷ []) t
      → b ≡ written (quoted " seq=" ∷ decimal q ∷ []) a
      → c ≡ written (quoted " type=" ∷ decimal k ∷ []) b
      → u ≡ written (lengths (head_of m)) c
      → u ≡ written (message_line place (head_of m)) t
  unfolding message_line head_of
  message-text a b c place m q k q-is k-is f₁ f₂ f₃ f₄ =
      then t c u _ _
      (then t b c _ _
      (then t a b _ _ f₁ (read (field (quoted " seq=")) q _ a b q-is f₂))
      (read (field (quoted " type=")) k _ b c k-is f₃)) f₄

  pub scheme-text : (a b c : Text) (k : ℕ) (i : List ℕ) → a ≡ written (quoted "scheme " ∷ decimal64 k ∷ []) t → b ≡ written (quoted " " ∷ []) a
      → c ≡ written (id_text i) b → u ≡ written (quoted "\n" ∷ []) c → u ≡ written (scheme_line k i) t
  unfolding scheme_line
  scheme-text a b c k i f₁ f₂ f₃ f₄ = then t b u _ _ (then t a b _ _ f₁ f₂) (then b c u _ _ f₃ f₄)

  pub span-text : (a b : Text) (v : Vector) → a ≡ written (quoted " at=" ∷ decimal v.offset.0 ∷ []) t
      → b ≡ written (quoted " length=" ∷ decimal v.count ∷ []) a → u ≡ written (quoted "\n" ∷ []) b → u ≡ written (span v) t
  unfolding span
  span-text a b v f₁ f₂ f₃ = then t b u _ _ (then t a b _ _ f₁ f₂) f₃

  pub extension-text : (a b c : Text) (k at : ℕ) (array : List ℕ) (z : ℤ) (f : SFits w32 z) (v : Vector) → z ≡ signed32 (le 4 array at)
      → v ≡ octet_vector array (at + 4)
      → a ≡ written (quoted "extension " ∷ decimal64 k ∷ []) t
      → b ≡ written (quoted " type=" ∷ []) a
      → c ≡ written (signed (to_z w32 (of_z w32 z))) b
      → u ≡ written (span v) c
      → u ≡ written (extension_line k (element_at array at)) t
  unfolding extension_line
  extension-text a b c k at array z f v z-is v-is f₁ f₂ f₃ f₄ =
      then t b u _ _ (then t a b _ _ f₁ f₂)
      (then b c u _ _ (signed-text z _ b c f z-is f₃) (read span v _ c u v-is f₄))

  pub alert-text : (a b : Text) (k at : ℕ) (array : List ℕ) (x : ℕ) (v : Vector) → x ≡ le 4 array at → v ≡ octet_vector array (at + 4)
      → a ≡ written (quoted "alert " ∷ decimal64 k ∷ []) t
      → b ≡ written (quoted " type=" ∷ decimal x ∷ []) a
      → u ≡ written (span v) b
      → u ≡ written (alert_line k (element_at array at)) t
  unfolding alert_line
  alert-text a b k at array x v x-is v-is f₁ f₂ f₃ =
      then t b u _ _ (then t a b _ _ f₁ (read (field (quoted " type=")) x _ a b x-is f₂)) (read span v _ b u v-is f₃)

  module _ (a : Text) (m : List ℕ) where
    pub exchange-text : (v : Vector) → v ≡ exchange_vector m → a ≡ written (quoted "exchange" ∷ []) t → u ≡ written (span v) a
        → u ≡ written (exchange_line (exchange_vector m)) t
    unfolding exchange_line
    exchange-text v v-is f₁ f₂ = then t a u _ _ f₁ (read span v _ a u v-is f₂)

    module _ (b : Text) (z : ℤ) (f : SFits w32 z) where
      pub checksum-text : 80 ≤ length m → (v : Vector) → z ≡ checksum_type m → v ≡ checksum_vector m → a ≡ written (quoted "checksum type=" ∷ []) t
          → b ≡ written (signed (to_z w32 (of_z w32 z))) a → u ≡ written (span v) b → u ≡ written (checksum_line (le 4 m 64) (checksum_vector m)) t
      unfolding checksum_line
      checksum-text h v z-is v-is f₁ f₂ f₃ =
          then t a u _ _ f₁ (then a b u _ _ (signed-text z _ a b f (field_is 80 m 64 z h z-is) f₂) (read span v _ b u v-is f₃))

      pub error-text : 72 ≤ length m → z ≡ error_code m → a ≡ written (quoted "error code=" ∷ []) t → b ≡ written (signed (to_z w32 (of_z w32 z))) a
          → u ≡ written (quoted "\n" ∷ []) b → u ≡ written (error_line (le 4 m 56)) t
      unfolding error_line
      error-text h z-is f₁ f₂ f₃ = then t a u _ _ f₁ (then a b u _ _ (signed-text z _ a b f (field_is 72 m 56 z h z-is) f₂) f₃)

  module _ (a b : Text) (n k : ℕ) where
    pub end-text : a ≡ written (quoted "end messages=" ∷ decimal n ∷ []) t → b ≡ written (quoted " octets=" ∷ decimal64 k ∷ []) a
        → u ≡ written (quoted "\n" ∷ []) b → u ≡ written (end_line n k) t
    unfolding end_line
    end-text f₁ f₂ f₃ = then t b u _ _ (then t a b _ _ f₁ f₂) f₃

    pub refused-text : a ≡ written (quoted "refused " ∷ decimal n ∷ []) t → b ≡ written (quoted " at=" ∷ decimal64 k ∷ []) a
        → u ≡ written (quoted "\n" ∷ []) b → u ≡ written (refused_line n k) t
    unfolding refused_line
    refused-text f₁ f₂ f₃ = then t b u _ _ (then t a b _ _ f₁ f₂) f₃
