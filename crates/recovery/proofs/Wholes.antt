-- A token that the structural reading accepts is recovered whole.
-- Assumes nothing.
use Prim.Native.Nat.{ℕ, ◌+◌, ◌≤◌}
use mathlib.Core.Path.{◌≡◌, refl, sym, ap, ◌∙◌}
use mathlib.Core.List.{List, [], ◌∷◌, ◌++◌, map}
use native.Mathlib.Omega.{arith}
use lib.ListN.{length, length-append}
use Rattle.message.specs.Layout.{head_of}
use Rattle.token.specs.Token.{Placed, Reading}
use Rattle.token.specs.Split.{Numbered, join, placed_from}
use Rattle.token.proofs.Cuts.{placed}
use Rattle.token.proofs.Splits.{accepted-splits}
use Rattle.put.specs.Put.{joined}
use Rattle.lines.specs.Lines.{message_lines, end_line}
use Rattle.windows.specs.Windows.{texts}
use Rattle.windows.proofs.Stepping.{texts-append}
use Rattle.listing.specs.Listing.{all_lines, reading_lines, lines_of}
use Rattle.recovery.specs.Recovery.{taken_from, taken_of, Piece, taken, pieces_from, pieces_of, all_piece_lines, recovered_lines}
use Rattle.recovery.specs.Pieces.{WholeToken}
use Rattle.recovery.proofs.Turns.{take-message}
use Rattle.recovery.proofs.Firsts.{skip-none}
use Rattle.recovery.proofs.Tails.{lines-short}

-- messages, one behind the other, are taken one by one
take-messages : (ms : List (List ℕ)) (p q : ℕ) (v : List ℕ) → Numbered q v ms → taken_from (join ms) 0 p ≡ placed_from p ms
unfolding taken_from
take-messages [] p q v e = refl
take-messages (m ∷ ms) p q v e =
    take-message q v m (join ms) p e.0 ∙ ap (λ (l : List Placed). placed p m ∷ l) (take-messages ms (p + length m) (q + 1) v e.1)

-- and nothing between them is skipped
nothing-skipped : (ms : List (List ℕ)) (p end : ℕ) → p + length (join ms) ≡ end → pieces_from p (placed_from p ms) end ≡ map taken (placed_from p ms)
unfolding pieces_from
nothing-skipped [] p end h = skip-none p end [] (omega arith)
nothing-skipped (m ∷ ms) p end h =
    skip-none p p (taken (placed p m) ∷ pieces_from (p + length m) (placed_from (p + length m) ms) end) (omega arith)
    ∙ ap (λ (l : List Piece). taken (placed p m) ∷ l) (nothing-skipped ms (p + length m) end (omega (arith, length-append m (join ms))))

taken-lines : (ps : List Placed) → all_piece_lines (map taken ps) ≡ all_lines ps
unfolding all_piece_lines all_lines
taken-lines [] = refl
taken-lines (p ∷ ps) = ap (λ (l : List (List (List ℕ))). message_lines p.place p.octets ++ l) (taken-lines ps)

pub whole-token : WholeToken
unfolding lines_of reading_lines texts
whole-token s ps e =
    let (ms, (split, places)) = accepted-splits s ps e in
    let all : taken_of s ≡ ps =
    ap (λ (l : List ℕ). taken_from l 0 0) (sym split.joins) ∙ take-messages ms 0 (head_of s).sequence (head_of s).conversation split.numbered
    ∙ places in
    let pieces : pieces_of s ≡ map taken ps =
    ap (λ (l : List Placed). pieces_from 0 l (length s)) (all ∙ sym places)
    ∙ nothing-skipped ms 0 (length s) (omega (arith, ap length split.joins))
    ∙ ap (map taken) places in
    (pieces, lines all pieces split.short) where
      lines : taken_of s ≡ ps → pieces_of s ≡ map taken ps → length s ≤ 65535 → recovered_lines s ≡ lines_of s
      lines all pieces short =
          lines-short s short
          ∙ ap (λ (l : List Piece). texts (all_piece_lines l) ++ (joined (end_line (length (taken_of s)) (length s)) ∷ [])) pieces
          ∙ ap (λ (l : List (List (List ℕ))). texts l ++ (joined (end_line (length (taken_of s)) (length s)) ∷ [])) (taken-lines ps)
          ∙ ap (λ (l : List Placed). texts (all_lines ps) ++ (joined (end_line (length l) (length s)) ∷ [])) all
          ∙ sym (ap (λ (r : Reading). texts (reading_lines r (length s))) e ∙ texts-append (all_lines ps) (end_line (length ps) (length s) ∷ []))
