-- What the functions of src/ answer, beside the definitions of a turn.
--
-- Glossary
--   owed_before r a  the answer of a reader that has no room, with 28 in the place of what comes after the first message
use Rattle.std.specs.Prelude.{cond, ◌||◌, eqb, ltb}
use Rattle.conversation.specs.declared.Record.{Record}
use Rattle.conversation.specs.declared.Answer.{Answer}
use Rattle.conversation.specs.Outcomes.{answered}

-- 16 comes after all messages, and a place above 0 is a later message's
unfoldable pub owed_before : Record → Answer → Answer
owed_before r a = cond (eqb a.refusal 16 || ltb 0 a.place.0) (answered 28 0 r) a
