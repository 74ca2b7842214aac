-- What the choice, once it is not refused, relies on, and the answer after its message.
--
-- Glossary
--   ChoiceReady         a choice may be made: some scheme is left, and the kept places are the list's
--   named_choice r m a  the answer a of the writer, with the choice of the record r; a refusal with this record
--   Writes g f s        a call of f, of which g says what it asks and gives, writes the content s as the writers do
use Rattle.std.specs.Prelude.{ℕ, ◌≡◌, true, cond, eqb, List}
use Rattle.std.specs.Fn.{Once}
use denote.Ref.{MutBor}
use Rattle.schemes.specs.Sets.{kept_below, named}
use Rattle.conversation.specs.declared.Record.{Record}
use Rattle.conversation.specs.declared.Answer.{Answer}
use Rattle.conversation.specs.State.{own_of}
use Rattle.conversation.specs.Outcomes.{answered, leaving}
use Rattle.conversation.specs.Writing.{some_left, chosen_by, Speech, speaking}
use Rattle.conversation.specs.Choosing.{open_to}
use Rattle.calls.specs.Calls.{Inside}

pub record ChoiceReady (r : Record) (m : ℕ) : Type 0 where
  pub inside : Inside r
  pub kept : kept_below r.count r.kept r.common ≡ true
  pub some : some_left (named (own_of r) (open_to r m)) ≡ true

abbrev pub named_choice : Record → ℕ → Answer → Answer
named_choice r m a = cond (eqb a.refusal 0) (chosen_by (answered 0 0 a.next) (named (own_of r) (open_to r m))) (answered a.refusal 0 r)

abbrev pub Writes : {F : Type 0} → Once F (Record × (MutBor (List ℕ) × Unit {0})) (Answer × (MutBor (List ℕ) × Unit {0})) → F → Speech → Type 0
Writes g f s =
    (q : Record) (d d' : MutBor (List ℕ)) (a : Answer) → g.post f (q, (d, tt)) (a, (d', tt)) → leaving a d'.now ≡ speaking q d.now s
