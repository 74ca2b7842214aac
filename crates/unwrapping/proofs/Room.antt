-- The text of an envelope has room.
-- Assumes nothing.
use Prim.Native.Nat.{ℕ, ◌+◌, ◌*◌, ◌≤◌}
use mathlib.Core.Path.{◌≡◌, refl, ap}
use mathlib.Core.Bool.{Bool, true, false}
use mathlib.Core.List.{List, [], ◌∷◌, ◌++◌}
use mathlib.Core.Option.{Option, none, some}
use native.Mathlib.Omega.{arith}
use lib.ListN.{length, get_or, length-append}
use borrow.Author.Tests.{leb-true}
use Rattle.put.specs.Put.{joined}
use Rattle.text.specs.Text.{quoted, decimal64, decimal_to, hex_of, digits_of}
use Rattle.text.proofs.Pieces.{length-joined}
use Rattle.text.proofs.Digits.{length-decimal}
use Rattle.der.specs.Got.{Got, ok, no}
use Rattle.der.specs.Element.{element}
use Rattle.der.specs.Grammar.{field_octets}
use Rattle.der.proofs.Nesting.{longer}
use Rattle.envelope.specs.Envelope.{Envelope, Init, Resp, spnego, identifiers, tail_octets, encoded, few}
use Rattle.envelope.specs.Reading.{envelope_of}
use Rattle.envelope.specs.Claims.{OneReading}
use Rattle.envelope.proofs.RoundTrip.{read-encoded}
use Rattle.envelope_parts.specs.Parts.{is_negoex}
use Rattle.envelope_lines.specs.Lines.{octets_text, mark, mechanism_line, mechanism_lines, octets_line, named_lines, state_line, token_place, token_line, last_lines, head_line, refused_text, text_of}
use Rattle.unwrapping.specs.Claims.{TextFits}

abbrev size : List (List ℕ) → ℕ
size ps = length (joined ps)

-- a piece in front
one_more_lem : (p : List ℕ) (ps : List (List ℕ)) → size (p ∷ ps) ≡ length p + size ps
one_more_lem p ps = length-append p (joined ps)

digits-size : (v : List ℕ) → size (digits_of v) ≤ 2 * length v
unfolding digits_of
digits-size [] = omega arith
digits-size (x ∷ v) = omega (arith, one_more_lem (hex_of x) (digits_of v), digits-size v)

octets-size : (v : List ℕ) → size (octets_text v) ≤ 2 * length v + 1
unfolding octets_text
octets-size [] = omega arith
octets-size (x ∷ v) = omega (arith, digits-size (x ∷ v))

-- octets behind a number of other octets, and a piece behind them
around : (v z : List ℕ) → size (octets_text v ++ (z ∷ [])) ≤ 2 * length v + (length z + 1)
around v z = omega (arith, length-joined (octets_text v) (z ∷ []), one_more_lem z [], octets-size v)

mark-size : (b : Bool) → length (mark b) ≤ 8
mark-size true = omega arith
mark-size false = omega arith

mechanism-size : (k : ℕ) (v : List ℕ) → size (mechanism_line k v) ≤ 2 * length v + 48
unfolding mechanism_line
mechanism-size k v =
    let r = octets_text v ++ (mark (is_negoex v) ∷ []) in
    omega (
      arith,
      one_more_lem (quoted "mechanism ") (decimal64 k ∷ quoted " " ∷ r),
      one_more_lem (decimal64 k) (quoted " " ∷ r),
      one_more_lem
          (quoted " ") r,
      length-decimal 20 k,
      around v (mark (is_negoex v)),
      mark-size (is_negoex v),
    )

mechanisms-size : (k : ℕ) (ms : List (List ℕ)) → size (mechanism_lines k ms) ≤ 2 * length (identifiers ms) + 48 * length ms
unfolding mechanism_lines identifiers
mechanisms-size k [] = omega arith
mechanisms-size k (m ∷ ms) =
    omega (
      arith,
      length-joined (mechanism_line k m) (mechanism_lines (k + 1) ms),
      mechanism-size k m,
      mechanisms-size
          (k + 1) ms,
      longer 0x06 m,
      length-append (element 0x06 m) (identifiers ms),
    )

octets-line-size : (t u : ℕ) (w : List ℕ) (o : Option (List ℕ)) → size (octets_line w o) ≤ 2 * length (field_octets t u o) + (length w + 2)
unfolding octets_line field_octets
octets-line-size t u w none = omega arith
octets-line-size t u w (some v) =
    omega (arith, one_more_lem w (octets_text v ++ (quoted "\n" ∷ [])), around v (quoted "\n"), longer u v, longer t (element u v))

named-size : (o : Option (List ℕ)) → size (named_lines o) ≤ 2 * length (field_octets 0xA1 0x06 o) + 48
unfolding named_lines field_octets
named-size none = omega arith
named-size (some v) = omega (arith, mechanism-size 0 v, longer 0x06 v, longer 0xA1 (element 0x06 v))

number-line : (w : List ℕ) (n k : ℕ) (z : List ℕ) → size (w ∷ decimal_to k n ∷ z ∷ []) ≤ length w + (k + length z)
number-line w n k z = omega (arith, one_more_lem w (decimal_to k n ∷ z ∷ []), one_more_lem (decimal_to k n) (z ∷ []), one_more_lem z [], length-decimal k n)

state-size : (o : Option (List ℕ)) → size (state_line o) ≤ 20
unfolding state_line
state-size none = omega arith
state-size (some v) = omega (arith, number-line (quoted "state ") (get_or v 0 0) 10 (quoted "\n"))

token-size : (s : List ℕ) (o k : Option (List ℕ)) → size (token_line s o k) ≤ 60
unfolding token_line
token-size s none k = omega arith
token-size s (some v) k =
    let a = decimal64 (token_place s v k) in
    let r = quoted " length=" ∷ decimal64 (length v) ∷ quoted "\n" ∷ [] in
    omega (
      arith,
      one_more_lem (quoted "token at=") (a ∷ r),
      one_more_lem a r,
      length-decimal 20 (token_place s v k),
      number-line (quoted " length=")
          (length v) 20 (quoted "\n"),
    )

last-size : (s : List ℕ) (t k : Option (List ℕ)) → size (last_lines s t k) ≤ 2 * length (field_octets 0xA3 0x04 k) + 72
unfolding last_lines
last-size s t k =
    omega (
      arith,
      length-joined (token_line s t k) (octets_line (quoted "checksum ") k),
      token-size s t k,
      octets-line-size 0xA3 0x04
          (quoted "checksum ") k,
    )

head-size : (w s : List ℕ) → size (head_line w s) ≤ length w + 21
unfolding head_line
head-size w s = omega (arith, number-line w (length s) 20 (quoted "\n"))

-- the fields are part of the envelope
tail-holds : (v : ℕ) (y t k : Option (List ℕ)) → length (field_octets 0xA1 v y) + length (field_octets 0xA3 0x04 k) ≤ length (tail_octets v y t k)
tail-holds v y t k =
    omega (
      arith,
      length-append (field_octets 0xA1 v y) (field_octets 0xA2 0x04 t ++ (field_octets 0xA3 0x04 k ++ [])),
      length-append
          (field_octets 0xA2 0x04 t) (field_octets 0xA3 0x04 k ++ []),
      length-append (field_octets 0xA3 0x04 k) [],
    )

init-holds : (ms : List (List ℕ)) (f t k : Option (List ℕ))
    → length (identifiers ms) + (length (field_octets 0xA1 0x03 f) + length (field_octets 0xA3 0x04 k)) ≤ length (encoded (Init ms f t k))
unfolding encoded field_octets
init-holds ms f t k =
    let tl = tail_octets 0x03 f t k in
    let l = element 0xA0 (element 0x30 (identifiers ms)) in
    omega (
      arith,
      tail-holds 0x03 f t k,
      longer 0x30 (identifiers ms),
      longer 0xA0 (element 0x30 (identifiers ms)),
      length-append l tl,
      longer 0x30 (l ++ tl),
      longer 0xA0 (element 0x30 (l ++ tl)),
      length-append (element 0x06 spnego) (element 0xA0 (element 0x30 (l ++ tl))),
      longer 0x60 (element 0x06 spnego ++ element 0xA0 (element 0x30 (l ++ tl))),
    )

resp-holds : (x m t k : Option (List ℕ)) → length (field_octets 0xA1 0x06 m) + length (field_octets 0xA3 0x04 k) ≤ length (encoded (Resp x m t k))
unfolding encoded
resp-holds x m t k =
    let tl = tail_octets 0x06 m t k in
    let l = field_octets 0xA0 0x0A x in
    omega (arith, tail-holds 0x06 m t k, length-append l tl, longer 0x30 (l ++ tl), longer 0xA1 (element 0x30 (l ++ tl)))

pub text-fits : TextFits
unfolding text_of few refused_text
text-fits s = go (envelope_of s) refl where
  read : (e : Envelope) → envelope_of s ≡ ok e → OneReading s e → size (text_of s (ok e)) ≤ 262144
  read (Init ms f t k) h w =
      let a =
      head_line (quoted "envelope init length=") s in let b =
      mechanism_lines 0 ms in let c = octets_line (quoted "flags ") f in let d = last_lines s t k in
      let n : length s ≡ length (encoded (Init ms f t k)) = ap length w.same in
      let few : length ms ≤ 16 = leb-true _ _ w.is_few in
      let short = w.short in
      omega (
        arith,
        length-joined a (b ++ (c ++ d)),
        length-joined b (c ++ d),
        length-joined c d,
        head-size
            (quoted "envelope init length=") s,
        mechanisms-size 0 ms,
        octets-line-size 0xA1 0x03
            (quoted "flags ") f,
        last-size s t k,
        init-holds ms f t k,
      )
  read (Resp x m t k) h w =
      let a = head_line (quoted "envelope resp length=") s in let b = state_line x in let c = named_lines m in let d = last_lines s t k in
      let n : length s ≡ length (encoded (Resp x m t k)) = ap length w.same in
      let short = w.short in
      omega (
        arith,
        length-joined a (b ++ (c ++ d)),
        length-joined b (c ++ d),
        length-joined c d,
        head-size
            (quoted "envelope resp length=") s,
        state-size x,
        named-size m,
        last-size s t k,
        resp-holds x m t k,
      )

  go : (g : Got Envelope) → envelope_of s ≡ g → size (text_of s (envelope_of s)) ≤ 262144
  go (ok e) h = rw h (read e h (read-encoded s e h))
  go (no n) h = rw h (omega (arith, number-line (quoted "refused ") n 10 (quoted " at=0\n")))
