use native.Mathlib.Omega.{arith}
use Rattle.receiving.proofs.Takes.{token-small}
use Rattle.receiving.proofs.taken.moved.Goals as goal

pub overflow_add-next : goal.overflow_add-next
overflow_add-next c = omega (arith, token-small c.args.r _ c.reading_token-token.ensures)

pub returns : goal.returns
returns c = rw (
  c.reading_token-token.ensures,
  c.conversation_of-conversation.ensures,
  c.counts_after-attested.ensures,
)
