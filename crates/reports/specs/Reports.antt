-- What a script's calls answer: it "prints one line for each". A line is the list of its pieces of text, in order. Quotations are README.md's, "What a
-- conversation looks like".
--
-- Glossary
--   wrote_text v     a written message: its octets in upper-case digits
--   choice_text i n  a choice, after a written message: its id, and how many were left
--   names_choice v   the verb v is that of a call that answers one
--   numbers_line     a line of two numbers, each after its words
--   used_line i a    the last line
--   report_of c a m  the line of the command c, whose call answered a and wrote the message m
use Rattle.std.specs.Prelude.{ℕ, Bool, cond, ◌||◌, List, [], ◌∷◌, ◌++◌, length, eqb}
use Rattle.text.specs.Text.{quoted, decimal, decimal64, digits_of, id_text}
use Rattle.conversation.specs.declared.Answer.{Answer}
use Rattle.script.specs.declared.Command.{Command}
use Rattle.script.specs.Grammar.{REPLY, READ, OPEN, CHOOSE-EXCHANGE, CHOOSE-VERIFY, CHOOSE-ALERT, number_of_verb}

-- "wrote LENGTH OCTETS"
unfoldable pub wrote_text : List ℕ → List (List ℕ)
wrote_text message = quoted "wrote " ∷ decimal64 (length message) ∷ quoted " " ∷ digits_of message

-- "choice=ID left=N"
unfoldable pub choice_text : List ℕ → ℕ → List (List ℕ)
choice_text id left = quoted " choice=" ∷ (id_text id ++ (quoted " left=" ∷ decimal left ∷ quoted "\n" ∷ []))

-- "behind an accepted reply, and a choice"
abbrev pub names_choice : ℕ → Bool
names_choice verb = eqb verb REPLY || (eqb verb CHOOSE-EXCHANGE || (eqb verb CHOOSE-VERIFY || eqb verb CHOOSE-ALERT))

abbrev pub numbers_line : List ℕ → ℕ → List ℕ → ℕ → List (List ℕ)
numbers_line words n further k = words ∷ decimal n ∷ further ∷ decimal64 k ∷ quoted "\n" ∷ []

-- "last: what each end has read and written"
unfoldable pub used_line : ℕ → ℕ → List (List ℕ)
used_line i a = quoted "used i=" ∷ decimal64 i ∷ quoted " a=" ∷ decimal64 a ∷ quoted "\n" ∷ []

-- "read messages=N length=L"; "wrote LENGTH OCTETS"; "refused N at=P"
unfoldable pub report_of : Command → Answer → List ℕ → List (List ℕ)
report_of c a message =
    cond (eqb a.refusal 0)
    (cond (eqb (number_of_verb c.verb) OPEN) (quoted "opened\n" ∷ [])
    (cond (eqb (number_of_verb c.verb) READ) (numbers_line (quoted "read messages=") a.messages (quoted " length=") c.length)
    (cond (names_choice (number_of_verb c.verb)) (wrote_text message ++ choice_text a.choice a.left)
    (wrote_text message ++ (quoted "\n" ∷ [])))))
    (numbers_line (quoted "refused ") a.refusal (quoted " at=") a.place.0)
