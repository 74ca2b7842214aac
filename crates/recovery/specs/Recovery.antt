-- Reading a damaged capture: the messages that can still be read, and the stretches between them. Document 02, C-13.
--
-- Glossary
--   readable s          the octets s begin with a message that passes every check of a message by itself
--   taken_from s k p    the messages taken of the octets s, which begin at the place p and with k octets of the message taken before
--   taken_of s          the messages taken of the file s
--   Piece               a stretch of a file: a message that is taken, or octets that are skipped, from a place on and as many
--   skip_to a b ps      the pieces ps, behind the stretch that is skipped from a up to, not including, b, where there is one
--   pieces_from a ms e  the pieces from the place a up to the end e, the messages taken there being ms; pieces_of s: those of the file s
--   skipped_line p n    the line of a skipped stretch; piece_lines: the lines of a piece; all_piece_lines: of pieces
--   recovery_lines s    the lines of the file s; recovered_lines s: their texts
use Rattle.std.specs.Prelude.{ℕ, zero, suc, ◌+◌, ◌-◌, Bool, cond, List, [], ◌∷◌, ◌++◌, length, leb, ltb}
use Rattle.message.specs.Layout.{size, front}
use Rattle.message.specs.Check.{all_pass, message_rows}
use Rattle.token.specs.Token.{Placed}
use Rattle.text.specs.Text.{quoted, decimal64}
use Rattle.lines.specs.Lines.{message_lines, end_line, refused_line}
use Rattle.windows.specs.Windows.{texts}

-- "where a message passes checks 2 to 6 and 10 to 13 by itself"
unfoldable pub readable : List ℕ → Bool
readable s = all_pass (message_rows s)

-- "that message is taken and reading goes on behind it; elsewhere one octet is skipped"
unfoldable pub taken_from : List ℕ → ℕ → ℕ → List Placed
taken_from [] k place = []
taken_from (x ∷ xs) (suc k) place = taken_from xs k (place + 1)
taken_from (x ∷ xs) zero place =
    cond (readable (x ∷ xs))
    (record { place = place; octets = front (x ∷ xs) } ∷ taken_from xs (size (x ∷ xs) - 1) (place + 1))
    (taken_from xs 0 (place + 1))

abbrev pub taken_of : List ℕ → List Placed
taken_of s = taken_from s 0 0

pub data Piece : Type 0 where
  taken : Placed → Piece
  skipped : (place octets : ℕ) → Piece

-- "each longest skipped stretch": all octets between one message taken and the next
unfoldable pub skip_to : ℕ → ℕ → List Piece → List Piece
skip_to a b ps = cond (ltb a b) (skipped a (b - a) ∷ ps) ps

unfoldable pub pieces_from : ℕ → List Placed → ℕ → List Piece
pieces_from a [] end = skip_to a end []
pieces_from a (m ∷ ms) end = skip_to a m.place (taken m ∷ pieces_from (m.place + length m.octets) ms end)

abbrev pub pieces_of : List ℕ → List Piece
pieces_of s = pieces_from 0 (taken_of s) (length s)

-- "as `skipped at=P length=L`"
unfoldable pub skipped_line : ℕ → ℕ → List (List ℕ)
skipped_line place n = quoted "skipped at=" ∷ decimal64 place ∷ quoted " length=" ∷ decimal64 n ∷ quoted "\n" ∷ []

-- "lists in its lines": those of the listing
abbrev pub piece_lines : Piece → List (List (List ℕ))
piece_lines (taken m) = message_lines m.place m.octets
piece_lines (skipped place n) = skipped_line place n ∷ []

-- "in file order"
unfoldable pub all_piece_lines : List Piece → List (List (List ℕ))
all_piece_lines [] = []
all_piece_lines (p ∷ ps) = piece_lines p ++ all_piece_lines ps

-- "Refusals: 1; an empty file gives the last line only."
unfoldable pub recovery_lines : List ℕ → List (List (List ℕ))
recovery_lines s =
    cond (leb (length s) 65535)
    (all_piece_lines (pieces_of s) ++ (end_line (length (taken_of s)) (length s) ∷ []))
    (refused_line 1 0 ∷ [])

unfoldable pub recovered_lines : List ℕ → List (List ℕ)
recovered_lines s = texts (recovery_lines s)
