-- Every line has fewer than 128 octets, and there is at most one line more than the file has octets.
-- Assumes nothing.
use Prim.Native.Nat.{ℕ, ◌+◌, ◌<◌, ◌≤◌}
use mathlib.Core.Path.{refl, ap}
use mathlib.Core.Bool.{Bool, true, false, cond}
use mathlib.Core.List.{List, [], ◌∷◌, ◌++◌, Memᴰ}
use native.Mathlib.Omega.{arith}
use lib.ListN.{length, drop, length-append}
use lib.Dec.{leb}
use Rattle.message.specs.Layout.{head_of, front}
use Rattle.text.proofs.Digits.{length-decimal}
use Rattle.lines.specs.Lines.{message_lines, end_line, refused_line}
use Rattle.lines.proofs.Shorts.{Short, Shorts, short-end, short-refused, shorts-append, shorts-message, short-at}
use Rattle.windows.proofs.Stepping.{get_or-texts, length-texts}
use Rattle.listing.proofs.Bounds.{message-few}
use Rattle.recovery.specs.Recovery.{Piece, taken, skipped, taken_of, pieces_of, skipped_line, piece_lines, all_piece_lines, recovery_lines, recovered_lines}
use Rattle.recovery.specs.Pieces.{extent, FollowOn, ShortRecovered, FewRecovered}
use Rattle.recovery.proofs.Turns.{readable-message}
use Rattle.recovery.proofs.Firsts.{pieces-cover, taken-readable}

pub short-skipped : (place n : ℕ) → Short (skipped_line place n)
unfolding skipped_line
short-skipped place n = simp length-append (omega (arith, length-decimal 20 place, length-decimal 20 n))

shorts-piece : (p : Piece) → Shorts (piece_lines p)
shorts-piece (taken m) = shorts-message m.place m.octets
shorts-piece (skipped place n) = (short-skipped place n, tt)

shorts-pieces : (ps : List Piece) → Shorts (all_piece_lines ps)
unfolding all_piece_lines
shorts-pieces [] = tt
shorts-pieces (p ∷ ps) = shorts-append (piece_lines p) (all_piece_lines ps) (shorts-piece p) (shorts-pieces ps)

shorts-recovery : (s : List ℕ) → Shorts (recovery_lines s)
unfolding recovery_lines
shorts-recovery s = go (leb (length s) 65535) where
  go : (b : Bool) → Shorts (cond b (all_piece_lines (pieces_of s) ++ (end_line (length (taken_of s)) (length s) ∷ [])) (refused_line 1 0 ∷ []))
  go true =
      shorts-append (all_piece_lines (pieces_of s)) (end_line (length (taken_of s)) (length s) ∷ []) (shorts-pieces (pieces_of s))
      (short-end (length (taken_of s)) (length s), tt)
  go false = (short-refused 1 0, tt)

pub short-recovered : ShortRecovered
unfolding recovered_lines
short-recovered s k = rw (get_or-texts (recovery_lines s) k) (short-at (recovery_lines s) k (shorts-recovery s))

-- a piece has no more lines than octets
piece-few : (s : List ℕ) (p : Piece) → Memᴰ p (pieces_of s) → 0 < extent p → length (piece_lines p) ≤ extent p
piece-few s (taken m) i h =
    let (reads, is) = taken-readable s m i in
    let r = drop m.place s in
    omega (
      arith,
      message-few m.place (head_of r).sequence (head_of r).conversation (front r)
          (readable-message r reads),
      ap (λ (l : List ℕ). length (message_lines m.place l)) is,
      ap length is,
    )
piece-few s (skipped place n) i h = omega arith

pieces-few : (s : List ℕ) (ps : List Piece) (a end : ℕ) → ((p : Piece) → Memᴰ p ps → Memᴰ p (pieces_of s)) → FollowOn a ps end
    → a + length (all_piece_lines ps) ≤ end
unfolding all_piece_lines
pieces-few s [] a end all f = omega arith
pieces-few s (p ∷ ps) a end all (first, (some, rest)) =
    omega (
      arith,
      length-append (piece_lines p) (all_piece_lines ps),
      piece-few s p (all p (Memᴰ.head refl)) some,
      pieces-few s ps
          (a + extent p) end (λ q i. all q (Memᴰ.tail i)) rest,
    )

pub few-recovered : FewRecovered
unfolding recovered_lines recovery_lines
few-recovered s = omega (arith, length-texts (recovery_lines s), go (leb (length s) 65535)) where
  go : (b : Bool)
      → length (cond b (all_piece_lines (pieces_of s) ++ (end_line (length (taken_of s)) (length s) ∷ [])) (refused_line 1 0 ∷ [])) ≤ length s + 1
  go true =
      omega (
        arith,
        length-append (all_piece_lines (pieces_of s)) (end_line (length (taken_of s)) (length s) ∷ []),
        pieces-few s (pieces_of s) 0 (length s)
            (λ p i. i) (pieces-cover s).0,
      )
  go false = omega arith
