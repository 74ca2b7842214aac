-- Every line of a listing has one line end.
-- Assumes nothing.
use Prim.Native.Nat.{ℕ, zero, suc, ◌+◌, ◌/◌, ◌%◌, ◌<◌}
use mathlib.Core.Path.{◌≡◌, refl, ◌∙◌}
use mathlib.Core.Logic.{inl, inr}
use mathlib.Core.List.{List, [], ◌∷◌, ◌++◌}
use native.Mathlib.Omega.{arith}
use lib.ListN.{length, get_or}
use lib.Dec.{ltb, eqb}
use lib.IntN.{ℤ, pos, negsuc}
use borrow.Author.Tests.{ne_eqb}
use Rattle.octets.specs.Octets.{signed32}
use Rattle.octets.proofs.Bools.{which}
use Rattle.vector.specs.declared.Vector.{Vector}
use Rattle.vector.specs.Vector.{part}
use Rattle.message.specs.Show.{ids_of}
use Rattle.message.specs.Layout.{Head, head_of, shape_of, Element, Content, Nego, Exchange, Verify, Alert, content_of}
use Rattle.token.specs.Token.{Placed, Reading, Accepted, Refused, token_of}
use Rattle.put.specs.Put.{joined}
use Rattle.text.specs.Text.{quoted, decimal_to, signed, hex_digit, hex_of, glyph_of, glyphs, id_order, id_text}
use Rattle.lines.specs.Lines.{lengths, message_line, scheme_line, span, extension_line, exchange_line, checksum_line, error_line, alert_line, numbered_from, numbered, content_lines, message_lines, end_line, refused_line}
use Rattle.windows.specs.Windows.{texts}
use Rattle.listing.specs.Listing.{all_lines, reading_lines, token_lines, lines_of}
use Rattle.host.specs.Following.{line_ends, ListingEnds}

pub ends-append : (xs ys : List ℕ) → line_ends (xs ++ ys) ≡ line_ends xs + line_ends ys
unfolding line_ends
ends-append [] ys = zero-front (line_ends ys) where
  zero-front : (n : ℕ) → n ≡ 0 + n
  zero-front n = omega arith
ends-append (x ∷ xs) ys = omega (arith, ends-append xs ys)

-- ---- pieces of text without a line end: digits, and what is made of them
none_in : (x : ℕ) → (x ≡ 10 → ⊥) → line_ends (x ∷ []) ≡ 0
unfolding line_ends
none_in x h = simp (ne_eqb x 10 h)

ends-decimal : (most n : ℕ) → line_ends (decimal_to most n) ≡ 0
unfolding decimal_to
ends-decimal zero n = unfold line_ends in refl
ends-decimal (suc most) n = elim (which (ltb n 10)) [
  | inl e ↦ rw e (none_in (48 + n) (λ z. omega arith))
  | inr e ↦ rw e
      (omega (
        arith,
        ends-append (decimal_to most (n / 10)) ((48 + n % 10) ∷ []),
        ends-decimal most (n / 10),
        none_in (48 + n % 10)
            (λ z. omega arith),
      ))
]

hex-is : (d : ℕ) → hex_digit d ≡ 10 → ⊥
hex-is d h = elim (which (ltb d 10)) [
  | inl e ↦ absurd (omega (arith, rw e at h))
  | inr e ↦ absurd (omega (arith, rw e at h))
]

ends-hex : (x : ℕ) → line_ends (hex_of x) ≡ 0
ends-hex x =
    omega (
      arith,
      ends-append (hex_digit (x / 16) ∷ []) (hex_digit (x % 16) ∷ []),
      none_in (hex_digit (x / 16)) (hex-is (x / 16)),
      none_in
          (hex_digit (x % 16)) (hex-is (x % 16)),
    )

ends-glyph : (i : List ℕ) (k : ℕ) → line_ends (glyph_of i k) ≡ 0
ends-glyph i k = elim (which (eqb k 16)) [
  | inl e ↦ rw e (unfold line_ends in refl)
  | inr e ↦ rw e (ends-hex (get_or i k 0))
]

-- ---- the line ends of a line in pieces
piece_ends : List (List ℕ) → ℕ
piece_ends [] = 0
piece_ends (p ∷ ps) = line_ends p + piece_ends ps

ends-pieces : (ps : List (List ℕ)) → line_ends (joined ps) ≡ piece_ends ps
unfolding piece_ends
ends-pieces [] = unfold line_ends in refl
ends-pieces (p ∷ ps) = omega (arith, ends-append p (joined ps), ends-pieces ps)

pieces-append : (ps qs : List (List ℕ)) → piece_ends (ps ++ qs) ≡ piece_ends ps + piece_ends qs
unfolding piece_ends
pieces-append [] qs = omega arith
pieces-append (p ∷ ps) qs = omega (arith, pieces-append ps qs)

ends-glyphs : (i ks : List ℕ) → piece_ends (glyphs i ks) ≡ 0
unfolding piece_ends glyphs
ends-glyphs i [] = refl
ends-glyphs i (k ∷ ks) = omega (arith, ends-glyph i k, ends-glyphs i ks)

ends-signed : (z : ℤ) → piece_ends (signed z) ≡ 0
unfolding piece_ends line_ends
ends-signed (pos n) = omega (arith, ends-decimal 10 n)
ends-signed (negsuc n) = omega (arith, ends-decimal 10 (n + 1))

-- ---- each line
abbrev One : List (List ℕ) → Type 0
One l = piece_ends l ≡ 1

one-lengths : (h : Head) → One (lengths h)
unfolding lengths piece_ends line_ends
one-lengths h = omega (arith, ends-decimal 10 h.header, ends-decimal 10 h.length)

one-message : (place : ℕ) (h : Head) → One (message_line place h)
unfolding message_line piece_ends line_ends
one-message place h = omega (arith, ends-decimal 20 place, ends-decimal 10 h.sequence, ends-decimal 10 h.kind, one-lengths h)

one_span : (v : Vector) → One (span v)
unfolding span piece_ends line_ends
one_span v = omega (arith, ends-decimal 10 v.offset.0, ends-decimal 10 v.count)

one-scheme : (k : ℕ) (i : List ℕ) → One (scheme_line k i)
unfolding scheme_line piece_ends line_ends
one-scheme k i = omega (arith, ends-decimal 20 k, pieces-append (id_text i) (quoted "\n" ∷ []), ends-glyphs i id_order)

one-extension : (k : ℕ) (e : Element) → One (extension_line k e)
unfolding extension_line piece_ends line_ends
one-extension k e =
    omega (
      arith,
      ends-decimal 20 k,
      pieces-append (signed (signed32 e.type)) (span e.value),
      ends-signed (signed32 e.type),
      one_span
          e.value,
    )

one-exchange : (v : Vector) → One (exchange_line v)
unfolding exchange_line piece_ends line_ends
one-exchange v = omega (arith, one_span v)

one-checksum : (type : ℕ) (v : Vector) → One (checksum_line type v)
unfolding checksum_line piece_ends line_ends
one-checksum type v = omega (arith, pieces-append (signed (signed32 type)) (span v), ends-signed (signed32 type), one_span v)

one-error : (code : ℕ) → One (error_line code)
unfolding error_line piece_ends line_ends
one-error code = omega (arith, pieces-append (signed (signed32 code)) (quoted "\n" ∷ []), ends-signed (signed32 code))

one-alert : (k : ℕ) (e : Element) → One (alert_line k e)
unfolding alert_line piece_ends line_ends
one-alert k e = omega (arith, ends-decimal 20 k, ends-decimal 10 e.type, one_span e.value)

one_end : (n octets : ℕ) → One (end_line n octets)
unfolding end_line piece_ends line_ends
one_end n octets = omega (arith, ends-decimal 10 n, ends-decimal 20 octets)

one-refused : (n place : ℕ) → One (refused_line n place)
unfolding refused_line piece_ends line_ends
one-refused n place = omega (arith, ends-decimal 10 n, ends-decimal 20 place)

-- ---- every line of a listing
abbrev Ones : List (List (List ℕ)) → Type 0
Ones [] = Unit {0}
Ones (l ∷ ls) = One l × Ones ls

ones-append : (xs ys : List (List (List ℕ))) → Ones xs → Ones ys → Ones (xs ++ ys)
ones-append [] ys h g = g
ones-append (x ∷ xs) ys h g = (h.0, ones-append xs ys h.1 g)

ones-numbered : {A : Type 0} (f : ℕ → A → List (List ℕ)) (k : ℕ) (xs : List A) → ((i : ℕ) (x : A) → One (f i x)) → Ones (numbered_from f k xs)
unfolding numbered_from
ones-numbered f k [] h = tt
ones-numbered f k (x ∷ xs) h = (h k x, ones-numbered f (k + 1) xs h)

ones-content : (m : List ℕ) (c : Content) → Ones (content_lines m c)
ones-content m (Nego random version schemes extensions elements) =
    ones-append (numbered scheme_line (ids_of (part m schemes))) (numbered extension_line elements)
    (ones-numbered scheme_line 0 (ids_of (part m schemes)) one-scheme) (ones-numbered extension_line 0 elements one-extension)
ones-content m (Exchange scheme value) = (one-scheme 0 scheme, (one-exchange value, tt))
ones-content m (Verify scheme headerLength checksumScheme type value) = (one-scheme 0 scheme, (one-checksum type value, tt))
ones-content m (Alert scheme code alerts elements) = (one-scheme 0 scheme, (one-error code, ones-numbered alert_line 0 elements one-alert))

ones-messages : (ms : List Placed) → Ones (all_lines ms)
unfolding all_lines message_lines
ones-messages [] = tt
ones-messages (m ∷ ms) =
    ones-append (message_lines m.place m.octets) (all_lines ms)
    (one-message m.place (head_of m.octets), ones-content m.octets (content_of (shape_of (head_of m.octets).kind) m.octets))
    (ones-messages ms)

ones-reading : (r : Reading) (octets : ℕ) → Ones (reading_lines r octets)
unfolding reading_lines
ones-reading (Accepted ms) octets = ones-append (all_lines ms) (end_line (length ms) octets ∷ []) (ones-messages ms) (one_end (length ms) octets, tt)
ones-reading (Refused n place) octets = (one-refused n place, tt)

-- the same of texts
abbrev pub OneEach : List (List ℕ) → Type 0
OneEach [] = Unit {0}
OneEach (t ∷ ts) = (line_ends t ≡ 1) × OneEach ts

one_each : (ls : List (List (List ℕ))) → Ones ls → OneEach (texts ls)
unfolding texts
one_each [] h = tt
one_each (l ∷ ls) h = (ends-pieces l ∙ h.0, one_each ls h.1)

pub lines-ends : (s : List ℕ) → OneEach (lines_of s)
unfolding lines_of
lines-ends s = one_each (token_lines s) (ones-reading (token_of s) (length s))

-- as many line ends as lines
pub ends-joined : (ts : List (List ℕ)) → OneEach ts → line_ends (joined ts) ≡ length ts
ends-joined [] h = unfold line_ends in refl
ends-joined (t ∷ ts) h = omega (arith, ends-append t (joined ts), h.0, ends-joined ts h.1)

one_at : (ts : List (List ℕ)) → OneEach ts → (k : ℕ) → k < length ts → line_ends (get_or ts k []) ≡ 1
one_at [] h k i = absurd (omega arith)
one_at (t ∷ ts) h zero i = h.0
one_at (t ∷ ts) h (suc k) i = one_at ts h.1 k (omega arith)

pub listing-ends : ListingEnds
listing-ends s k i = one_at (lines_of s) (lines-ends s) k i
