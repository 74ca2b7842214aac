-- A listing has at most one line more than its token has octets.
-- Assumes nothing.
use Prim.Native.Nat.{ℕ, ◌+◌, ◌≤◌}
use mathlib.Core.Path.{◌≡◌, refl, sym, ap}
use mathlib.Core.Bool.{Bool, true, false, cond}
use mathlib.Core.List.{List, [], ◌∷◌}
use native.Mathlib.Omega.{arith}
use lib.ListN.{length, drop, length-append, length-take, length-drop}
use Rattle.vector.specs.declared.Vector.{Vector}
use Rattle.vector.specs.Vector.{extent, keeps_rule, part, shown}
use Rattle.message.specs.Layout.{head_of, Shape, nego, exchange, verify, alert, content_of, scheme_vector, extension_vector, alert_vector}
use Rattle.token.specs.Token.{Placed, Reading, Accepted, Refused, token_of}
use Rattle.token.specs.Split.{Message, Numbered, join, placed_from}
use Rattle.token.proofs.Splits.{accepted-splits}
use Rattle.lines.specs.Lines.{message_lines, end_line}
use Rattle.listing.specs.Listing.{all_lines, reading_lines, token_lines, lines_of, FewLines}
use Rattle.lines.specs.Fit.{Fit, shape_in, lines_in}
use Rattle.lines.proofs.Contents.{nego-count, alert-count}
use Rattle.windows.proofs.Stepping.{length-texts}
use Rattle.listing.proofs.Turns.{message-fit}

length-shown : (header : ℕ) (m : List ℕ) (v : Vector) → length (shown header m v) ≤ length m
unfolding shown
length-shown header m v = go (keeps_rule header (length m) v) where
  go : (b : Bool) → length (cond b (part m v) []) ≤ length m
  go true = omega (arith, length-take (extent v) (drop v.offset.0 m), length-drop v.offset.0 m)
  go false = omega arith

content-few : (shape : Shape) (m : List ℕ) → Fit shape m → 1 + length (lines_in shape m) ≤ length m
unfolding content_of
content-few nego m f =
    let a = shown 96 m (scheme_vector m) in
    let b = shown 96 m (extension_vector m) in
    omega (arith, nego-count m f a refl b refl, length-shown 96 m (scheme_vector m), length-shown 96 m (extension_vector m), f.room)
content-few exchange m f = omega (arith, f.room)
content-few verify m f = omega (arith, f.room)
content-few alert m f = omega (arith, alert-count m f (shown 72 m (alert_vector m)) refl, length-shown 72 m (alert_vector m), f.room)

pub message-few : (place q : ℕ) (v m : List ℕ) → Message q v m → length (message_lines place m) ≤ length m
unfolding message_lines
message-few place q v m e = omega (arith, content-few (shape_in m) m (message-fit q v m e))

all-few : (ms : List (List ℕ)) (place q : ℕ) (v : List ℕ) → Numbered q v ms → length (all_lines (placed_from place ms)) ≤ length (join ms)
unfolding all_lines
all-few [] place q v e = omega arith
all-few (m ∷ ms) place q v e =
    omega (
      arith,
      length-append (message_lines place m) (all_lines (placed_from (place + length m) ms)),
      length-append m
          (join ms),
      message-few place q v m e.0,
      all-few ms (place + length m) (q + 1) v e.1,
    )

reading-few : (s : List ℕ) (r : Reading) → token_of s ≡ r → length (reading_lines r (length s)) ≤ length s + 1
unfolding reading_lines
reading-few s (Accepted ps) e =
    let (ms, (split, places)) = accepted-splits s ps e in
    let n : length (all_lines ps) ≡ length (all_lines (placed_from 0 ms)) = ap (λ (l : List Placed). length (all_lines l)) (sym places) in
    omega (
      arith,
      length-append (all_lines ps) (end_line (length ps) (length s) ∷ []),
      n,
      all-few ms 0 (head_of s).sequence (head_of s).conversation
          split.numbered,
      ap length split.joins,
    )
reading-few s (Refused n p) e = omega arith

pub few-lines : FewLines
unfolding lines_of
few-lines s = omega (arith, length-texts (token_lines s), reading-few s (token_of s) refl)
