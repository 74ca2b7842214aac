-- What holds of the pieces of a damaged capture. Document 02, C-13.
--
-- Glossary
--   start, extent      where a piece begins, and how many octets it has
--   FollowOn a ps e    the pieces ps follow on from the place a up to e: each has octets, and begins where the one before it ends
--   octets_in s p      the octets of the piece p of the file s; joined_in s ps: those of pieces, one behind the other
--   Apart ps           no two skipped stretches stand side by side
--   moved_piece n p    a piece with its place moved by n; moved_pieces: pieces
--   PiecesCover        the pieces of a file follow on from its first octet to its end, and their octets, joined, are the file's
--   PiecesApart        no two skipped stretches of a file stand side by side
--   TakenReadable      where a message is taken, a message can be read, and it is that one
--   SkippedUnreadable  at no place of a skipped stretch can a message be read
--   TailAlone          from a message that is taken on, the pieces are those of the tail read alone, with places moved
--   TailLines          and so are the lines, the last aside
--   DamageBefore       two files that differ only before a place where each takes a message have, from there on, the same pieces but for their places
--   WholeToken         a token that the structural reading accepts is recovered whole: its messages, nothing skipped, and the lines of its listing
--   ShortRecovered     every line has fewer than 128 octets; FewRecovered: there is at most one line more than the file has octets
use Rattle.std.specs.Prelude.{ℕ, ◌+◌, ◌<◌, ◌≤◌, ◌≡◌, true, false, length, take, drop, get_or}
use mathlib.Core.List.{List, [], ◌∷◌, ◌++◌, map, Memᴰ}
use Rattle.message.specs.Layout.{front}
use Rattle.token.specs.Token.{Placed, Accepted, token_of}
use Rattle.put.specs.Put.{joined}
use Rattle.lines.specs.Lines.{end_line}
use Rattle.windows.specs.Windows.{texts}
use Rattle.listing.specs.Listing.{lines_of}
use Rattle.recovery.specs.Recovery.{readable, taken_of, Piece, taken, skipped, pieces_of, all_piece_lines, recovered_lines}

abbrev pub start : Piece → ℕ
start (taken m) = m.place
start (skipped place n) = place

abbrev pub extent : Piece → ℕ
extent (taken m) = length m.octets
extent (skipped place n) = n

-- "Skipped and taken stretches must cover the file, each octet once."
abbrev pub FollowOn : ℕ → List Piece → ℕ → Type 0
FollowOn a [] end = a ≡ end
FollowOn a (p ∷ ps) end = (start p ≡ a) × ((0 < extent p) × FollowOn (a + extent p) ps end)

abbrev pub octets_in : List ℕ → Piece → List ℕ
octets_in s p = take (extent p) (drop (start p) s)

abbrev pub joined_in : List ℕ → List Piece → List ℕ
joined_in s [] = []
joined_in s (p ∷ ps) = octets_in s p ++ joined_in s ps

abbrev pub PiecesCover : Type 0
PiecesCover = (s : List ℕ) → FollowOn 0 (pieces_of s) (length s) × (joined_in s (pieces_of s) ≡ s)

-- "each longest skipped stretch"
abbrev pub Apart : List Piece → Type 0
Apart [] = Unit {0}
Apart (taken m ∷ ps) = Apart ps
Apart (skipped place n ∷ []) = Unit {0}
Apart (skipped place n ∷ taken m ∷ ps) = Apart ps
Apart (skipped place n ∷ skipped place' n' ∷ ps) = ⊥

abbrev pub PiecesApart : Type 0
PiecesApart = (s : List ℕ) → Apart (pieces_of s)

-- "At a place where a message passes .. that message is taken"
abbrev pub TakenReadable : Type 0
TakenReadable =
    (s : List ℕ) (m : Placed) → Memᴰ (taken m) (pieces_of s)
    → (readable (drop m.place s) ≡ true) × (m.octets ≡ front (drop m.place s))

-- "elsewhere one octet is skipped"
abbrev pub SkippedUnreadable : Type 0
SkippedUnreadable =
    (s : List ℕ) (place n : ℕ) → Memᴰ (skipped place n) (pieces_of s)
    → (i : ℕ) → place ≤ i → i < place + n → readable (drop i s) ≡ false

abbrev pub moved_piece : ℕ → Piece → Piece
moved_piece n (taken m) = taken (record { place = n + m.place; octets = m.octets })
moved_piece n (skipped place k) = skipped (n + place) k

abbrev pub moved_pieces : ℕ → List Piece → List Piece
moved_pieces n ps = map (moved_piece n) ps

-- "If damage lies wholly before a place where the tool takes a message in the damaged file": the file is x, with the damage, and then the tail t
abbrev pub TailAlone : Type 0
TailAlone =
    (x t : List ℕ) (ps : List Piece) (m : Placed) (qs : List Piece)
    → pieces_of (x ++ t) ≡ ps ++ (taken m ∷ qs) → m.place ≡ length x
    → taken m ∷ qs ≡ moved_pieces (length x) (pieces_of t)

-- "then from there on, last line aside, the list is that of the undamaged tail read alone, with places shifted"
abbrev pub TailLines : Type 0
TailLines =
    (x t : List ℕ) (ps : List Piece) (m : Placed) (qs : List Piece)
    → pieces_of (x ++ t) ≡ ps ++ (taken m ∷ qs) → m.place ≡ length x → length (x ++ t) ≤ 65535
    → (recovered_lines (x ++ t)
    ≡ texts (all_piece_lines ps)
    ++ (texts (all_piece_lines (moved_pieces (length x) (pieces_of t))) ++ (joined (end_line (length (taken_of (x ++ t))) (length (x ++ t))) ∷ [])))
    × (recovered_lines t ≡ texts (all_piece_lines (moved_pieces 0 (pieces_of t))) ++ (joined (end_line (length (taken_of t)) (length t)) ∷ []))

-- the damage may also have changed how many octets stand before the place
abbrev pub DamageBefore : Type 0
DamageBefore =
    (x y t : List ℕ) (ps ps' : List Piece) (m m' : Placed) (qs qs' : List Piece)
    → pieces_of (x ++ t) ≡ ps ++ (taken m ∷ qs) → m.place ≡ length x
    → pieces_of (y ++ t) ≡ ps' ++ (taken m' ∷ qs') → m'.place ≡ length y
    → moved_pieces (length y) (taken m ∷ qs) ≡ moved_pieces (length x) (taken m' ∷ qs')

abbrev pub WholeToken : Type 0
WholeToken =
    (s : List ℕ) (ps : List Placed) → token_of s ≡ Accepted ps
    → (pieces_of s ≡ map taken ps) × (recovered_lines s ≡ lines_of s)

abbrev pub ShortRecovered : Type 0
ShortRecovered = (s : List ℕ) (k : ℕ) → length (get_or (recovered_lines s) k []) < 128

abbrev pub FewRecovered : Type 0
FewRecovered = (s : List ℕ) → length (recovered_lines s) ≤ length s + 1
