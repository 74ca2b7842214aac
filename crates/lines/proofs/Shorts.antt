-- Every line of a message has fewer than 128 octets, and so have the last line and that of a refusal.
-- Assumes nothing.
use Prim.Native.Nat.{ℕ, zero, suc, ◌+◌, ◌<◌, ◌≤◌}
use mathlib.Core.Path.{◌≡◌, sym, ap, ◌∙◌}
use mathlib.Core.List.{List, [], ◌∷◌, ◌++◌}
use native.Mathlib.Omega.{arith}
use lib.ListN.{length, get_or, length-append}
use Rattle.octets.specs.Octets.{signed32}
use Rattle.vector.specs.declared.Vector.{Vector}
use Rattle.vector.specs.Vector.{part}
use Rattle.message.specs.Show.{ids_of}
use Rattle.message.specs.Layout.{Head, head_of, shape_of, Element, Content, Nego, Exchange, Verify, Alert, content_of}
use Rattle.put.specs.Put.{joined}
use Rattle.text.specs.Text.{id_order, text, written}
use Rattle.text.proofs.Pieces.{length-glyphs, length-joined, front-is, front-put, same-room}
use Rattle.text.proofs.Digits.{length-decimal, length-signed}
use Rattle.lines.specs.Lines.{lengths, message_line, scheme_line, span, extension_line, exchange_line, checksum_line, error_line, alert_line, numbered_from, numbered, content_lines, message_lines, end_line, refused_line}
use Rattle.lines.specs.Fit.{LineIs}

abbrev pub Short : List (List ℕ) → Type 0
Short l = length (joined l) < 128

length-lengths : (h : Head) → length (joined (lengths h)) ≤ 37
unfolding lengths
length-lengths h = simp length-append (omega (arith, length-decimal 10 h.header, length-decimal 10 h.length))

short-message : (place : ℕ) (h : Head) → Short (message_line place h)
unfolding message_line
short-message place h =
    simp length-append (omega (arith, length-decimal 20 place, length-decimal 10 h.sequence, length-decimal 10 h.kind, length-lengths h))

length-span : (v : Vector) → length (joined (span v)) ≤ 33
unfolding span
length-span v = simp length-append (omega (arith, length-decimal 10 v.offset.0, length-decimal 10 v.count))

short-scheme : (k : ℕ) (i : List ℕ) → Short (scheme_line k i)
unfolding scheme_line
short-scheme k i = simp (length-append, length-joined) (omega (arith, length-decimal 20 k, length-glyphs i id_order))

short-extension : (k : ℕ) (e : Element) → Short (extension_line k e)
unfolding extension_line
short-extension k e =
    simp (length-append, length-joined) (omega (arith, length-decimal 20 k, length-signed (signed32 e.type), length-span e.value))

short-exchange : (v : Vector) → Short (exchange_line v)
unfolding exchange_line
short-exchange v = simp length-append (omega (arith, length-span v))

short-checksum : (type : ℕ) (v : Vector) → Short (checksum_line type v)
unfolding checksum_line
short-checksum type v = simp length-joined (omega (arith, length-signed (signed32 type), length-span v))

short-error : (code : ℕ) → Short (error_line code)
unfolding error_line
short-error code = simp (length-append, length-joined) (omega (arith, length-signed (signed32 code)))

short-alert : (k : ℕ) (e : Element) → Short (alert_line k e)
unfolding alert_line
short-alert k e = simp length-append (omega (arith, length-decimal 20 k, length-decimal 10 e.type, length-span e.value))

pub short-end : (n octets : ℕ) → Short (end_line n octets)
unfolding end_line
short-end n octets = simp length-append (omega (arith, length-decimal 10 n, length-decimal 20 octets))

pub short-refused : (n place : ℕ) → Short (refused_line n place)
unfolding refused_line
short-refused n place = simp length-append (omega (arith, length-decimal 10 n, length-decimal 20 place))

-- every line of a list
abbrev pub Shorts : List (List (List ℕ)) → Type 0
Shorts [] = Unit {0}
Shorts (l ∷ ls) = Short l × Shorts ls

pub shorts-append : (xs ys : List (List (List ℕ))) → Shorts xs → Shorts ys → Shorts (xs ++ ys)
shorts-append [] ys h g = g
shorts-append (x ∷ xs) ys h g = (h.0, shorts-append xs ys h.1 g)

shorts-numbered : {A : Type 0} (f : ℕ → A → List (List ℕ)) (k : ℕ) (xs : List A) → ((i : ℕ) (x : A) → Short (f i x)) → Shorts (numbered_from f k xs)
unfolding numbered_from
shorts-numbered f k [] h = tt
shorts-numbered f k (x ∷ xs) h = (h k x, shorts-numbered f (k + 1) xs h)

shorts-content : (m : List ℕ) (c : Content) → Shorts (content_lines m c)
shorts-content m (Nego random version schemes extensions elements) =
    shorts-append (numbered scheme_line (ids_of (part m schemes))) (numbered extension_line elements)
    (shorts-numbered scheme_line 0 (ids_of (part m schemes)) short-scheme) (shorts-numbered extension_line 0 elements short-extension)
shorts-content m (Exchange scheme value) = (short-scheme 0 scheme, (short-exchange value, tt))
shorts-content m (Verify scheme headerLength checksumScheme type value) = (short-scheme 0 scheme, (short-checksum type value, tt))
shorts-content m (Alert scheme code alerts elements) = (short-scheme 0 scheme, (short-error code, shorts-numbered alert_line 0 elements short-alert))

pub shorts-message : (place : ℕ) (m : List ℕ) → Shorts (message_lines place m)
unfolding message_lines
shorts-message place m = (short-message place (head_of m), shorts-content m (content_of (shape_of (head_of m).kind) m))

pub short-at : (ls : List (List (List ℕ))) (i : ℕ) → Shorts ls → Short (get_or ls i [])
short-at [] i h = omega arith
short-at (l ∷ ls) zero h = h.0
short-at (l ∷ ls) (suc i) h = short-at ls i h.1

-- a line in an array of 128 octets
line-is : (l : List (List ℕ)) (d d' : List ℕ) (r : ℕ) → Short l → length d ≡ 128 → text d' r ≡ written l (text d 0) → LineIs r d d' l
line-is l d d' r s h e =
    let f = front-is l d d' r (omega arith) e in
    let n = same-room d d' 0 r l e in
    record { counts = (omega (arith, f, n), f.0 ∙ sym (ap length f.1)); is = f.1; holds = front-put l d d' r (omega arith) e }

module _ (d d' : List ℕ) (r : ℕ) (h : length d ≡ 128) where
  pub message-line : (place : ℕ) (m : List ℕ) (index : ℕ) → text d' r ≡ written (get_or (message_lines place m) index []) (text d 0)
      → LineIs r d d' (get_or (message_lines place m) index [])
  message-line place m index e = line-is _ d d' r (short-at (message_lines place m) index (shorts-message place m)) h e

  pub end_line_lem : (n k : ℕ) → text d' r ≡ written (end_line n k) (text d 0) → LineIs r d d' (end_line n k)
  end_line_lem n k e = line-is _ d d' r (short-end n k) h e

  pub refused-line : (n k : ℕ) → text d' r ≡ written (refused_line n k) (text d 0) → LineIs r d d' (refused_line n k)
  refused-line n k e = line-is _ d d' r (short-refused n k) h e
