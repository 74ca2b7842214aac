-- The promises about runs are not empty: a whole conversation, computed; two runs that meet demand 3's premises; choosing
-- calls; and a record that closes.
-- Assumes nothing.
use Prim.Native.Nat.{ℕ}
use mathlib.Core.Path.{◌≡◌, refl, ap, subst, ◌∙◌}
use mathlib.Core.Bool.{Bool, true, false, ◌&&◌}
use mathlib.Core.Logic.{inl, inr}
use mathlib.Core.List.Memᴰ
use mathlib.Core.List.{List, [], ◌∷◌, Memᴰ}
use lib.ListN.{length, get_or}
use native.Mathlib.Omega.{arith}
use lib.Dec.{eqb}
use borrow.Author.Tests.{eqb-true}
use Rattle.octets.proofs.Bools.{which, no_true, and_l, and_r}
use Rattle.octets.specs.Octets.{same_octets}
use Rattle.octets.proofs.Same.{same-eq}
use Rattle.schemes.specs.Lists.{Id, mem, marked}
use Rattle.schemes.specs.Longer.{none_left, kept, gained, Longer}
use Rattle.schemes.proofs.Offers.{bit-zero}
use Rattle.conversation.specs.State.{fresh}
use Rattle.conversation.specs.Outcomes.{answered}
use Rattle.conversation.specs.Writing.{request}
use Rattle.conversation.specs.Runs.{Call, offer, reply, metadata, speak, read, choose, Opening, world, Entry, run, MarksKept, NotLost}
use Rattle.conversation.specs.Logs.{messages_in}
use Rattle.conversation.specs.Worked.{scheme, ordinary, critical, too_many, opened, negotiation, Says, says_of, names, longer_lists, LongerRun, LongerChoice, WholeConversation, WholeLogs, AtOnce, EarlyVerify, Extended, StaysRejected}
use Rattle.conversation.proofs.Demand.{demand3, run-calls}
use Rattle.conversation.proofs.Computes.{computing}

pub whole-conversation : WholeConversation
unfolding computing
whole-conversation = refl

pub whole-logs : WholeLogs
unfolding computing messages_in
whole-logs = (refl, refl)

-- two runs without marks, the second with longer lists

abbrev unmarked : Call → Bool
unmarked (offer nego) = true
unmarked (reply m nego) = eqb m 0
unmarked (metadata id value) = true
unmarked (speak s) = true
unmarked read = true
unmarked (choose m s) = eqb m 0

abbrev no_marks : List (Bool × Call) → Bool
no_marks [] = true
no_marks (c ∷ cs) = unmarked c.1 && no_marks cs

no-marks : (cs : List (Bool × Call)) → no_marks cs ≡ true → (c : Bool × Call) → Memᴰ c cs → unmarked c.1 ≡ true
no-marks [] h c i = absurd (Memᴰ.not-nil i)
no-marks (x ∷ cs) h c i = elim (Memᴰ.cases_cons i) [
  | inl q ↦ ap (λ (y : Bool × Call). unmarked y.1) q ∙ and_l (unmarked x.1) (no_marks cs) h
  | inr j ↦ no-marks cs (and_r (unmarked x.1) (no_marks cs) h) c j
]

no_bits : (own own' : List Id) (m m' : ℕ) (s : Id) → eqb m 0 ≡ true → eqb m' 0 ≡ true → marked own' m' s ≡ marked own m s
no_bits own own' m m' s e e' = rw (eqb-true m 0 e, eqb-true m' 0 e') (simp bit-zero)

none_kept : (o : Opening) (cs : List (Bool × Call)) (o' : Opening) (cs' : List (Bool × Call)) → no_marks cs ≡ true → no_marks cs' ≡ true
    → MarksKept o cs o' cs'
none_kept o cs o' cs' h h' = record {
  acceptor_marks =
      λ m m' nego x j s a b. no_bits o.acceptor o'.acceptor m m' s
      (no-marks cs h (true, reply m x.content) (run-calls (world o) cs _ x.entry)) (no-marks cs' h' (true, reply m' nego) j);
  initiator_marks =
      λ m m' s' x j s a b. no_bits o.initiator o'.initiator m m' s
      (no-marks cs h (false, choose m x.spoke) (run-calls (world o) cs _ x.entry)) (no-marks cs' h' (false, choose m' s') j);
}

offered : Longer opened.acceptor opened.initiator longer_lists.acceptor longer_lists.initiator
unfolding opened longer_lists mem same_octets
offered = record {
  in_order = gained (kept (gained (kept (kept (gained none_left)))));
  gains =
      λ s m. elim (which (same_octets s (scheme 3)))
      [ inl e ↦ rw (same-eq s (scheme 3) e) | inr e ↦ elim (which (same_octets s (scheme 2))) [ inl f ↦ rw f | inr f ↦ no_true (rw (e, f) at m) ] ];
}

-- the first run's last call is the choice
abbrev fifth : List Entry → Entry → Entry
fifth xs x = get_or xs 4 x

abbrev none-such : Entry
none-such = record { acceptor = true; call = read; said = answered 0 0 (fresh true [] []) }

at-fifth : (xs : List Entry) (x : Entry) → length xs ≡ 5 → Memᴰ (fifth xs x) xs
at-fifth (a ∷ b ∷ c ∷ d ∷ e ∷ []) x h = Memᴰ.tail (Memᴰ.tail (Memᴰ.tail (Memᴰ.tail (Memᴰ.head refl))))
at-fifth [] x h = absurd (omega arith)
at-fifth (a ∷ []) x h = absurd (omega arith)
at-fifth (a ∷ b ∷ []) x h = absurd (omega arith)
at-fifth (a ∷ b ∷ c ∷ []) x h = absurd (omega arith)
at-fifth (a ∷ b ∷ c ∷ d ∷ []) x h = absurd (omega arith)
at-fifth (a ∷ b ∷ c ∷ d ∷ e ∷ f ∷ xs) x h = absurd (omega arith)

abbrev chosen : Entry
chosen = fifth (run (world opened) (negotiation 0 0)) none-such

first-choice : says_of chosen ≡ names (scheme 2) 2
unfolding computing
first-choice = refl

-- so no call of the second run is refused with 17, and its choice, by rule 2, stands no later
pub longer-run : LongerRun
longer-run y h =
    let c = first-choice in
    subst (λ (id : Id). NotLost opened longer_lists (negotiation 0 0) id y) (ap (λ (a : Says). a.choice) c)
    (demand3 opened (negotiation 0 0) longer_lists (negotiation 0 0) chosen 0 (request [])
    (at-fifth (run (world opened) (negotiation 0 0)) none-such refl) refl (ap (λ (a : Says). eqb a.number 0) c) offered
    (none_kept opened (negotiation 0 0) longer_lists (negotiation 0 0) refl refl) y h)

-- the second run, computed
pub choices : LongerChoice
unfolding computing longer_lists
choices = refl

-- the choosing call, by each of its refusals

pub at_once : AtOnce
unfolding computing
at_once = refl

-- early VERIFYs, that count and that do not

pub early-verify : EarlyVerify
unfolding computing longer_lists
early-verify = (refl, refl)

-- extensions and several alerts, by each of their refusals, and test calls

pub extended : Extended
unfolding computing ordinary critical too_many
extended = (refl, refl)

-- a critical extension, and then a good token

pub stays-rejected : StaysRejected
unfolding computing
stays-rejected = (refl, refl)
