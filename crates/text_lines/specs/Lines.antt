-- The lines of a text.
--
-- Glossary
--   behind x ls  the lines ls with the octet x in front of the first
--   lines s      the lines of a text, without their line ends; the last may lack its line end
--   first_line s  the first of them; first_of ls: of lines
--   CallsAt      a call of a closure with a reference to octets, that takes one state of it to another
--   CallsEach    the calls of a closure, from a state of it on, one for each of some lines, in order
use Rattle.std.specs.Prelude.{ℕ, ◌≡◌, ◌==◌, cond, List, [], ◌∷◌}
use Rattle.std.specs.List.{FoldsTo}
use Rattle.std.specs.Fn.{Mut, Called}
use denote.Ref.{Bor}

unfoldable pub behind : ℕ → List (List ℕ) → List (List ℕ)
behind x [] = (x ∷ []) ∷ []
behind x (l ∷ ls) = (x ∷ l) ∷ ls

unfoldable pub lines : List ℕ → List (List ℕ)
lines [] = []
lines (x ∷ s) = cond (x == 10) ([] ∷ lines s) (behind x (lines s))

-- none of a text without lines
abbrev pub first_of : List (List ℕ) → List ℕ
first_of [] = []
first_of (l ∷ ls) = l

abbrev pub first_line : List ℕ → List ℕ
first_line s = first_of (lines s)

module _ {F : Type 0} (g : Mut F (Bor (List ℕ) × Unit {0}) (Unit {0})) where
  pub record CallsAt (f : F) (line : List ℕ) (f' : F) : Type 0 where
    pub shown : Bor (List ℕ)
    pub shows : shown.now ≡ line
    pub called : Called g f (shown, tt) tt f'

  abbrev pub CallsEach : F → List (List ℕ) → Type 0
  CallsEach f ls = (last : F) × FoldsTo CallsAt f ls last
