-- VERIFY, by its refusal, in the words of the code.
-- Assumes nothing.
use Prim.Native.Nat.{ℕ, ◌+◌}
use mathlib.Core.Path.{◌≡◌, refl}
use mathlib.Core.Bool.{true}
use mathlib.Core.List.{List}
use lib.ListN.{length}
use lib.IntN.{ℤ}
use Rattle.encode.specs.Encode.{Contents, of_verify}
use Rattle.refusal.specs.declared.Refusal.{Refusal}
use Rattle.refusal.specs.Refusals.{number_of}
use Rattle.conversation.specs.declared.Record.{Record}
use Rattle.conversation.specs.declared.Answer.{Answer}
use Rattle.conversation.specs.State.{scheme_at}
use Rattle.conversation.specs.Turns.{type_of}
use Rattle.conversation.specs.Outcomes.{Outcome, answered}
use Rattle.conversation.specs.Writing.{scheme_now, named_rows, checksum, speaking}
use Rattle.calls.specs.Calls.{write_refusal, Ready, Appended}
use Rattle.conversation.specs.Claims.{Arrays}
use Rattle.calls.proofs.Writes.{changed, write-ready}
use Rattle.sending.proofs.Named.{named-refused, named-written}

module _ (r : Record) (arrays : Arrays r) (d : List ℕ) (type : ℤ) (value : List ℕ) where
  abbrev verify : List ℕ → Contents
  verify s = of_verify (record { scheme = s; type = type; value = value })

  pub verify-refused : (e : Refusal) → number_of e ≡ write_refusal r 4 (named_rows r true) (80 + length value) (length d) → (a : Answer)
      → a ≡ answered (number_of e) 0 r
      → ◌≡◌ {A = Outcome} (record { answer = a; transcript = d }) (speaking r d (checksum type value))
  unfolding speaking
  verify-refused e e-is a a-is = named-refused r arrays d 4 true verify (λ s l. l) (80 + length value) (λ t. refl) e e-is a a-is _

  module _ (z : 0 ≡ write_refusal r 4 (named_rows r true) (80 + length value) (length d)) where
    pub verify-ready : (s : List ℕ) → Ready r d 4 (verify s)
    unfolding type_of
    verify-ready s = write-ready r d 4 (named_rows r true) (80 + length value) z refl (verify s) refl tt refl refl

    module _ (s : List ℕ) (s-is : s ≡ scheme_at r (scheme_now r)) (t : ℤ) (t-is : t ≡ type) where
      pub verify-written : (d' : List ℕ) (next : Record) → Appended r d 4 (of_verify (record { scheme = s; type = t; value = value })) d' next
          → (a : Answer)
          → a ≡ answered 0 0 (changed next (record { marks = next.marks; metadata = next.metadata; requested = next.requested; attested = true }))
          → ◌≡◌ {A = Outcome} (record { answer = a; transcript = d' }) (speaking r d (checksum type value))
      unfolding speaking
      verify-written =
          named-written r arrays d 4 true verify (λ s l. l) (80 + length value) (λ t. refl) z
          (λ q. record { marks = q.marks; metadata = q.metadata; requested = q.requested; attested = true }) s s-is _ (rw t-is)
