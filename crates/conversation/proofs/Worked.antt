-- Document 01's examples P1 to P13, computed over the definitions.
-- Assumes nothing.
use mathlib.Core.Path.{refl}
use Rattle.token.specs.Token.{reading_of, token_of}
use Rattle.conversation.specs.Worked.{Worked}
use Rattle.conversation.proofs.Computes.{computing}

pub worked : Worked
unfolding computing reading_of token_of
worked = (refl, (refl, (refl, (refl, (refl, (refl, (refl, (refl, (refl, (refl, (refl, (refl, (refl, (refl, tt))))))))))))))
