-- No reading into a record is refused with 9.
-- Assumes nothing.
use Prim.Native.Nat.{ℕ, ◌+◌}
use mathlib.Core.Path.{◌≡◌, refl}
use mathlib.Core.Logic.{inl, inr}
use mathlib.Core.List.{List, ◌++◌}
use native.Mathlib.Omega.{arith}
use lib.ListN.{length}
use lib.Dec.{leb}
use Rattle.octets.proofs.Bools.{which}
use Rattle.message.proofs.Tables.{fails-other}
use Rattle.conversation.specs.declared.Record.{Record}
use Rattle.conversation.specs.State.{limit_rows}
use Rattle.conversation.specs.Outcomes.{room}
use Rattle.conversation.specs.Reading.{Judged, whole, halted, judged, finish, token_rows, reading_token}
use Rattle.conversation.specs.Claims.{NineNeverRead}
use Rattle.conversation.proofs.Rows.{decide-out}
use Rattle.conversation.proofs.Tokens.{judged-number}

finished : (r : Record) (d t : List ℕ) (j : Judged) → judged r t ≡ j → (finish r d t j).answer.refusal ≡ 9 → ⊥
unfolding finish
finished r d t (halted n p) e nine = (judged-number r t n p e).1.1 nine
finished r d t (whole n c) e nine =
    elim (which (leb (r.used + length t) (room d)))
    [ inl b ↦ (let z : ◌≡◌ {A = ℕ} 0 9 = rw b at nine in omega arith) | inr b ↦ (let z : ◌≡◌ {A = ℕ} 16 9 = rw b at nine in omega arith) ]

pub nine-never-read : NineNeverRead
unfolding reading_token
nine-never-read r d t =
    decide-out (λ o. o.answer.refusal ≡ 9 → ⊥) (limit_rows r ++ token_rows r (length t)) r d (finish r d t (judged r t))
    (λ n f. fails-other 9 (limit_rows r ++ token_rows r (length t)) n refl f)
    (λ g. finished r d t (judged r t) refl)
