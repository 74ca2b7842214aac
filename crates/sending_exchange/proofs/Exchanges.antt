-- AP_REQUEST and CHALLENGE, in the words of the code.
-- Assumes nothing.
use Prim.Native.Nat.{ℕ, ◌+◌}
use mathlib.Core.Path.{◌≡◌, refl, ◌∙◌}
use mathlib.Core.Bool.{true}
use mathlib.Core.List.{List}
use lib.ListN.{length}
use Rattle.encode.specs.Encode.{Contents, of_exchange}
use Rattle.refusal.specs.declared.Refusal.{Refusal}
use Rattle.refusal.specs.Refusals.{number_of}
use Rattle.conversation.specs.declared.Record.{Record}
use Rattle.conversation.specs.declared.Answer.{Answer}
use Rattle.conversation.specs.State.{scheme_at}
use Rattle.conversation.specs.Turns.{type_of}
use Rattle.conversation.specs.Outcomes.{Outcome, answered}
use Rattle.conversation.specs.Writing.{scheme_now, named_rows, request, requested_by, speaking}
use Rattle.calls.specs.Calls.{write_refusal, Ready, Appended}
use Rattle.conversation.specs.Claims.{Arrays}
use Rattle.calls.proofs.Writes.{changed, write-ready}
use Rattle.sending.proofs.Named.{named-refused, named-written}

-- ---- the call, by its refusal
module _ (r : Record) (arrays : Arrays r) (d value : List ℕ) where
  abbrev exchange : List ℕ → Contents
  exchange s = of_exchange (record { scheme = s; value = value })

  pub exchange-refused : (e : Refusal) → number_of e ≡ write_refusal r 3 (named_rows r true) (64 + length value) (length d) → (a : Answer)
      → a ≡ answered (number_of e) 0 r
      → ◌≡◌ {A = Outcome} (record { answer = a; transcript = d }) (speaking r d (request value))
  unfolding speaking
  exchange-refused e e-is a a-is = named-refused r arrays d 3 true exchange (λ s l. l) (64 + length value) (λ t. refl) e e-is a a-is _

  module _ (z : 0 ≡ write_refusal r 3 (named_rows r true) (64 + length value) (length d)) where
    pub exchange-ready : (s : List ℕ) → Ready r d 3 (exchange s)
    unfolding type_of
    exchange-ready s = write-ready r d 3 (named_rows r true) (64 + length value) z refl (exchange s) refl tt refl refl

    module _ (s : List ℕ) (s-is : s ≡ scheme_at r (scheme_now r)) where
      pub exchange-written : (k : ℕ) → k ≡ requested_by r → (d' : List ℕ) (next : Record) → Appended r d 3 (exchange s) d' next → (a : Answer)
          → a ≡ answered 0 0 (changed next (record { marks = next.marks; metadata = next.metadata; requested = k; attested = next.attested }))
          → ◌≡◌ {A = Outcome} (record { answer = a; transcript = d' }) (speaking r d (request value))
      unfolding speaking
      exchange-written k k-is d' next y a a-is =
          named-written r arrays d 3 true exchange (λ s l. l) (64 + length value) (λ t. refl) z
          (λ q. record { marks = q.marks; metadata = q.metadata; requested = requested_by r; attested = q.attested }) s s-is
          (exchange s) refl d' next y a (a-is ∙ rw k-is)
