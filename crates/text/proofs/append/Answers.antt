use native.Mathlib.Omega.{arith}
use Rattle.text.proofs.Pieces.{append-out, append-put}
use Rattle.text.proofs.append.Goals as goal
use Rattle.text.proofs.append.Goals.{then-d-v-via-then-d-v, then-d-v-via-else-d-v+then-d-v-2}

pub returns-then-d-v : goal.returns-then-d-v
returns-then-d-v c = append-out _ _ _ (λ h.
    elim c.then-d-v.branch [ then-d-v-via-then-d-v w ↦ omega arith | then-d-v-via-else-d-v+then-d-v-2 w ↦ omega arith ])

pub returns : goal.returns
returns c = append-put _ _ _ (omega arith) _ _ c.put_octets.ensures
