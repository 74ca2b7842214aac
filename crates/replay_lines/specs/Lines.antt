-- What `replay` prints beside the listings of its turns. A line is the list of its pieces of text, in order. Document 02, C-19.
--
-- Glossary
--   side_text w    the word for a side, with its line's end
--   turn_line k a  the line of the turn k, of the acceptor or not
--   choice_line c  the line of a choice, or of none; choice_as: the choice that an answer of src/ stands for
--   refused_line   the line of a refusal
--   end_lines e    the line of an ending: none at the last turn
use Rattle.std.specs.Prelude.{ℕ, Bool, List, [], ◌∷◌, ◌++◌}
use Rattle.std.specs.Prelude as std
use Rattle.std.proofs.Math.Option.{Option, none, some}
use Rattle.text.specs.Text.{quoted, decimal, decimal64, id_text}
use Rattle.schemes.specs.Lists.{Id}
use Rattle.sides.specs.Replay.{Whose, initiator, acceptor, neither, by, Ending, finished, refused, unopened}

abbrev pub side_text : Whose → List ℕ
side_text initiator = quoted " initiator\n"
side_text acceptor = quoted " acceptor\n"
side_text neither = quoted " neither\n"

-- "`turn K initiator` or `turn K acceptor` (K from 0)"
unfoldable pub turn_line : ℕ → Bool → List (List ℕ)
turn_line k a = quoted "turn " ∷ decimal k ∷ side_text (by a) ∷ []

abbrev pub choice_as : std.Option Id → Option Id
choice_as std.None = none
choice_as (std.Some i) = some i

-- "`choice ID` or `choice none`"
unfoldable pub choice_line : Option Id → List (List ℕ)
choice_line none = quoted "choice none\n" ∷ []
choice_line (some i) = quoted "choice " ∷ (id_text i ++ (quoted "\n" ∷ []))

-- "`refused N at=P END`"
unfoldable pub refused_line : ℕ → ℕ → Whose → List (List ℕ)
refused_line n p w = quoted "refused " ∷ decimal n ∷ quoted " at=" ∷ decimal64 p ∷ side_text w ∷ []

-- "one that can't be opened `no file`"
unfoldable pub end_lines : Ending → List (List ℕ)
end_lines finished = []
end_lines (refused n p w) = refused_line n p w
end_lines unopened = quoted "no file\n" ∷ []
