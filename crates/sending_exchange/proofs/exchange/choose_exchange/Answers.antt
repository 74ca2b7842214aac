use borrow.Author.Rules.{rules}
use mathlib.Core.Path.{refl}
use Rattle.conversation.specs.Writing.{request}
use Rattle.sending_exchange.proofs.exchange.choose_exchange.Goals as goal

pub returns : goal.returns
returns c = c.choose_and.ensures (request c.args.value.now) refl refl (λ q d e a w. search rules)
