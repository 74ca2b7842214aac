-- A written message with a critical extension closes the record that may read it.
-- Assumes nothing.
use Prim.Native.Nat.{ℕ, ◌<◌}
use mathlib.Core.Path.{◌≡◌, refl, sym, ap, subst, ◌∙◌}
use mathlib.Core.Bool.{false}
use mathlib.Core.List.{List, ◌++◌}
use native.Mathlib.Omega.{arith}
use lib.ListN.{length}
use borrow.Author.Tests.{le-leb, ne_eqb}
use Rattle.message.specs.Check.{first_failing}
use Rattle.message.proofs.Tables.{AllTrue}
use Rattle.token.specs.Token.{passes, next_rows, refused as cut_at}
use Rattle.token.proofs.Cuts.{turn-fail}
use Rattle.encode.specs.Encode.{encoded}
use Rattle.roundtrip.proofs.RoundTrip.{critical-stops, some-octets}
use Rattle.conversation.specs.State.{limit_rows}
use Rattle.conversation.specs.Reading.{conversation_of, start_of, halted, judge, chain_for, judged, token_rows, finish, reading_token}
use Rattle.conversation.specs.Claims.{CriticalCloses}
use Rattle.conversation.proofs.Decides.{first-none, decide-passed}
use Rattle.conversation.proofs.Rows.{both_true}

pub critical-closes : CriticalCloses
unfolding reading_token judged judge finish
critical-closes r d h c rest s range o limits may short number talk =
    let t : List ℕ = encoded h c ++ rest in
    let some : 0 < length t = some-octets h c s rest in
    let none : length t ≡ 0 → ⊥ = λ z. omega arith in
    let k = critical-stops h c s range o rest in
    let stop : (passes t r.sequence (conversation_of r t) ≡ false) × (first_failing (next_rows t r.sequence (conversation_of r t)) ≡ 12) =
    subst (λ (v : List ℕ). (passes t r.sequence v ≡ false) × (first_failing (next_rows t r.sequence v) ≡ 12)) talk
    (subst (λ (q : ℕ). (passes t q h.conversation ≡ false) × (first_failing (next_rows t q h.conversation) ≡ 12)) number k) in
    let chain : chain_for r t ≡ cut_at 12 0 =
    rw (ne_eqb _ _ none) (turn-fail 0 r.sequence (conversation_of r t) t some stop.0 ∙ ap (λ (n : ℕ). cut_at n 0) stop.1) in
    let halts : judged r t ≡ halted 12 0 = ap (judge r t 0 (start_of r)) chain in
    let rows : AllTrue (limit_rows r ++ token_rows r (length t)) =
    both_true (limit_rows r) (token_rows r (length t)) (first-none (limit_rows r) refl limits) (may, (le-leb _ _ short, tt)) in
    sym (decide-passed (limit_rows r ++ token_rows r (length t)) r d (finish r d t (judged r t)) rows) ∙ ap (finish r d t) halts
