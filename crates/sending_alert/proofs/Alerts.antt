-- ALERT, by its refusal, in the words of the code: f says whether the alerts keep their limits, and k how many octets they are written as.
-- Assumes nothing.
use Prim.Native.Nat.{ℕ, ◌+◌, ◌≤◌}
use mathlib.Core.Path.{◌≡◌, refl, sym, ap, ◌∙◌}
use mathlib.Core.Bool.{Bool, true}
use mathlib.Core.List.{List}
use native.Mathlib.Omega.{arith}
use lib.ListN.{length}
use lib.IntN.{ℤ}
use Rattle.elements.specs.declared.Elements.{Elements}
use Rattle.elements.specs.Elements.{items_of, elements_fit, handed_size}
use Rattle.elements.proofs.Views.{handed, handed-size}
use Rattle.encode.specs.Encode.{Contents, alert_of, size_of}
use Rattle.refusal.specs.declared.Refusal.{Refusal}
use Rattle.refusal.specs.Refusals.{number_of}
use Rattle.conversation.specs.declared.Record.{Record}
use Rattle.conversation.specs.declared.Answer.{Answer}
use Rattle.conversation.specs.State.{scheme_at}
use Rattle.conversation.specs.Turns.{type_of}
use Rattle.conversation.specs.Outcomes.{Outcome, answered, unchanged}
use Rattle.conversation.specs.Writing.{AlertContent, scheme_now, named_rows, alarm, speaking}
use Rattle.calls.specs.Calls.{write_refusal, Ready, Appended}
use Rattle.conversation.specs.Claims.{Arrays}
use Rattle.calls.proofs.Writes.{write-ready}
use Rattle.sending.proofs.Named.{named-keeps, named-refused, named-written}

-- ---- the message at the transcript's end
module _ (r : Record) (d id : List ℕ) (code : ℤ) (e : Elements) (v : List ℕ)
    (y : (elements_fit e v ≡ true) × Ready r d 5 (alert_of id code (items_of e v))) (k : ℕ) (k-is : k ≡ handed_size e v) where
  pub alert-size : 72 + k ≡ size_of (alert_of id code (items_of e v))
  alert-size = ap (λ (i : ℕ). 72 + i) (k-is ∙ sym (handed-size e v y.0))

  pub alert-counted : (r.sequence ≤ 1023) × (r.used + (72 + k) ≤ 65535)
  alert-counted = (y.1.inside.sequence, omega (arith, y.1.room, alert-size))

-- ---- the call
module _ (r : Record) (arrays : Arrays r) (d : List ℕ) (g : AlertContent) (f : Bool) (f-is : f ≡ elements_fit g.alerts g.values) (k : ℕ)
    (k-is : k ≡ handed_size g.alerts g.values) where
  abbrev contents : List ℕ → Contents
  contents s = alert_of s g.code (items_of g.alerts g.values)

  abbrev keeps : Bool
  keeps = elements_fit g.alerts g.values

  abbrev refusal : ℕ
  refusal = write_refusal r 5 (named_rows r f) (72 + k) (length d)

  refusal_is : refusal ≡ write_refusal r 5 (named_rows r keeps) (72 + k) (length d)
  refusal_is = ap (λ (b : Bool). write_refusal r 5 (named_rows r b) (72 + k) (length d)) f-is

  sized : (s : List ℕ) → keeps ≡ true → size_of (contents s) ≡ 72 + k
  sized s t = ap (λ (i : ℕ). 72 + i) (handed-size g.alerts g.values t ∙ sym k-is)

  pub alert-refused : (e : Refusal) → number_of e ≡ refusal → (a : Answer) → a ≡ answered (number_of e) 0 r
      → ◌≡◌ {A = Outcome} (record { answer = a; transcript = d }) (speaking r d (alarm g))
  unfolding speaking
  alert-refused e e-is a a-is =
      named-refused r arrays d 5 keeps contents (λ s l. l) (72 + k) (sized (scheme_at r (scheme_now r))) e (e-is ∙ refusal_is) a a-is _

  module _ (z : 0 ≡ refusal) where
    pub alert-keeps : keeps ≡ true
    alert-keeps = named-keeps r 5 keeps (72 + k) (length d) (z ∙ refusal_is)

    -- whatever the scheme and the code are
    pub alert-ready : (s : List ℕ) (t : ℤ) → (keeps ≡ true) × Ready r d 5 (alert_of s t (items_of g.alerts g.values))
    unfolding type_of
    alert-ready s t = (
      alert-keeps,
      write-ready r d 5 (named_rows r keeps) (72 + k) (z ∙ refusal_is) refl (alert_of s t (items_of g.alerts g.values))
          (sized s alert-keeps) (handed g.alerts g.values alert-keeps).fit refl refl,
    )

    module _ (s : List ℕ) (s-is : s ≡ scheme_at r (scheme_now r)) (t : ℤ) (t-is : t ≡ g.code) where
      pub alert-written : (d' : List ℕ) (next : Record) → Appended r d 5 (alert_of s t (items_of g.alerts g.values)) d' next → (a : Answer)
          → a ≡ answered 0 0 next
          → ◌≡◌ {A = Outcome} (record { answer = a; transcript = d' }) (speaking r d (alarm g))
      unfolding speaking
      alert-written =
          named-written r arrays d 5 keeps contents (λ s l. l) (72 + k) (sized (scheme_at r (scheme_now r))) (z ∙ refusal_is) unchanged s s-is _ (rw t-is)
