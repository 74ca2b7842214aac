-- The message of an accepted choosing call names the choice that it answers.
-- Assumes nothing.
use mathlib.Core.Path.{◌≡◌, refl, ap}
use Rattle.schemes.specs.Lists.{Id}
use Rattle.conversation.specs.Writing.{message_of, class_in, contents_in, spoken}
use Rattle.conversation.specs.Choosing.{chose, choosing}
use Rattle.conversation.specs.Claims.{ChoiceSpoken}
use Rattle.conversation.proofs.Rows.{accepted-out}
use Rattle.conversation.proofs.Chosen.{choice_table, choice-passed}
use Rattle.conversation.proofs.Inside.{scheme-chosen}

pub choice-spoken : ChoiceSpoken
unfolding choosing
choice-spoken r d m s =
    accepted-out (λ out. spoken (chose r m) s ≡ message_of r (class_in s) (contents_in out.answer.choice s))
    (choice_table r d m s) r d _ refl
    (λ g a. ap (λ (id : Id). message_of r (class_in s) (contents_in id s)) (scheme-chosen r m (choice-passed r d m s g).left))
