-- The initiator's NEGO, in the words of the code.
-- Assumes nothing.
use Prim.Native.Nat.{ℕ, ◌+◌, ◌*◌, ◌%◌, ◌≤◌, ◌<◌}
use mathlib.Core.Path.{◌≡◌, refl, sym, ap, ◌∙◌}
use mathlib.Core.Bool.{Bool, true, false, not}
use mathlib.Core.List.{List, [], ◌∷◌, ◌++◌}
use native.Mathlib.Omega.{arith}
use lib.ListN.{length, take}
use lib.Seq.{length-take-le}
use Rattle.message.specs.Check.{first_failing}
use Rattle.message.proofs.Tables.{AllTrue}
use Rattle.elements.specs.Elements.{elements_fit, handed_size}
use Rattle.elements.proofs.Views.{handed, handed-size}
use Rattle.encode.specs.Encode.{Contents, Whole, size_of}
use Rattle.refusal.specs.declared.Refusal.{Refusal}
use Rattle.refusal.specs.Refusals.{number_of}
use Rattle.refusal.proofs.Numbers.{number_some}
use Rattle.conversation.specs.declared.Record.{Record}
use Rattle.conversation.specs.declared.Answer.{Answer}
use Rattle.conversation.specs.Turns.{type_of}
use Rattle.conversation.specs.Outcomes.{Outcome, answered, row, unchanged}
use Rattle.conversation.specs.Writing.{NegoContent, nego_in, extension_rows, offer_rows, offering}
use Rattle.conversation.specs.Claims.{Arrays}
use Rattle.conversation.proofs.Decides.{first-none, first-stop}
use Rattle.calls.specs.Calls.{room_for, stage_refusal, write_refusal, Inside, Appended}
use Rattle.calls.proofs.Refusals.{stage-inside, write-stage, write-on, passed-inside, passed-own}
use Rattle.calls.proofs.Writes.{write-refused, write-ready, write-written}
use Rattle.sending_nego.specs.Ready.{NegoReady}

-- the message's length, where the extensions keep their limits
abbrev offer_size : Record → NegoContent → ℕ
offer_size r g = 96 + 16 * r.count + handed_size g.extensions g.values

module _ (r : Record) (g : NegoContent) (len : ℕ) where
  abbrev refusal : ℕ
  refusal = write_refusal r 1 (offer_rows r g) (offer_size r g) len

  pub offer-stage : (e : Refusal) → number_of e ≡ stage_refusal r 1 → number_of e ≡ refusal
  offer-stage = write-stage r 1 (offer_rows r g) (offer_size r g) len

  module _ (z : 0 ≡ stage_refusal r 1) where
    pub offer-list-size : 16 * r.count < 18446744073709551616
    offer-list-size = omega (arith, (stage-inside r 1 z).few)

    pub offer-header-size : 96 + 16 * r.count < 18446744073709551616
    offer-header-size = omega (arith, (stage-inside r 1 z).few)

    behind : (x : ℕ) → x ≡ first_failing (row 18 (not r.acceptor) ∷ (extension_rows g ++ (row 16 (room_for r.used (offer_size r g) len) ∷ [])))
        → x ≡ refusal
    behind = write-on r 1 (offer_rows r g) (offer_size r g) len z

    pub offer-role : r.acceptor ≡ true → 18 ≡ refusal
    offer-role e = behind 18 (rw e)

    module _ (i : r.acceptor ≡ false) where
      pub offer-extensions : (e : Refusal) → number_of e ≡ first_failing (extension_rows g) → number_of e ≡ refusal
      offer-extensions e e-is =
          behind (number_of e)
          (rw i
          (e-is
          ∙ first-stop (extension_rows g) (row 16 (room_for r.used (offer_size r g) len) ∷ []) (λ w. omega (arith, number_some e, e-is ∙ w))))

      module _ (w : 0 ≡ first_failing (extension_rows g)) (k : ℕ) (k-is : k ≡ handed_size g.extensions g.values) (b : Bool)
          (b-is : b ≡ room_for r.used (96 + 16 * r.count + k) len) where
        passed : AllTrue (extension_rows g)
        passed = first-none (extension_rows g) refl (sym w)

        room : room_for r.used (offer_size r g) len ≡ b
        room = ap (λ (j : ℕ). room_for r.used (96 + 16 * r.count + j) len) (sym k-is) ∙ sym b-is

        pub offer-crowded : b ≡ false → 16 ≡ refusal
        offer-crowded e = behind 16 (rw (i, passed.0, passed.1.0, room, e))

        pub offer-fits : b ≡ true → 0 ≡ refusal
        offer-fits e = behind 0 (rw (i, passed.0, passed.1.0, room, e))

-- ---- the call, by its refusal
module _ (r : Record) (arrays : Arrays r) (d : List ℕ) (g : NegoContent) (full : length g.random ≡ 32) where
  abbrev offer : Contents
  offer = nego_in g (take (16 * r.count) r.list)

  own-part : r.count ≤ 16 → length (take (16 * r.count) r.list) ≡ 16 * r.count
  own-part few = length-take-le (16 * r.count) r.list (omega (arith, arrays.list))

  measure : r.count ≤ 16 → elements_fit g.extensions g.values ≡ true → size_of offer ≡ offer_size r g
  measure few t = let a = own-part few in let b = handed-size g.extensions g.values t in omega arith

  whole : Inside r → AllTrue (offer_rows r g) → Whole offer × (size_of offer ≡ offer_size r g)
  whole i t = (full, measure i.few t.1.0)

  pub offer-refused : (e : Refusal) → number_of e ≡ write_refusal r 1 (offer_rows r g) (offer_size r g) (length d) → (a : Answer)
      → a ≡ answered (number_of e) 0 r → ◌≡◌ {A = Outcome} (record { answer = a; transcript = d }) (offering r d g)
  unfolding offering
  offer-refused e e-is a a-is = write-refused r arrays d 1 (offer_rows r g) offer (offer_size r g) whole e e-is a a-is _

  module _ (z : 0 ≡ write_refusal r 1 (offer_rows r g) (offer_size r g) (length d)) where
    few : r.count ≤ 16
    few = (passed-inside r 1 (offer_rows r g) (offer_size r g) (length d) z refl).few

    keeps : elements_fit g.extensions g.values ≡ true
    keeps = (passed-own r 1 (offer_rows r g) (offer_size r g) (length d) z refl).1.0

    pub offer-end : 16 * r.count < 18446744073709551616
    offer-end = omega (arith, few)

    pub offer-list : 16 * r.count ≤ length r.list
    offer-list = omega (arith, few, arrays.list)

    pub offer-part : 16 * r.count ≡ length (take (16 * r.count) r.list)
    offer-part = sym (own-part few)

    pub offer-ready : NegoReady r d g.random (take (16 * r.count) r.list) g.extensions g.values
    unfolding type_of
    offer-ready =
        let p : length (take (16 * r.count) r.list) % 16 ≡ 0 = (let q = own-part few in omega arith) in
        record {
          ready =
              write-ready r d 1 (offer_rows r g) (offer_size r g) z refl offer (measure few keeps)
              (p, (handed g.extensions g.values keeps).fit) refl refl;
          keeps = keeps;
        }

    pub offer-written : (d' : List ℕ) (next : Record) → Appended r d 1 offer d' next → (a : Answer) → a ≡ answered 0 0 next
        → ◌≡◌ {A = Outcome} (record { answer = a; transcript = d' }) (offering r d g)
    unfolding offering
    offer-written = write-written r arrays d 1 (offer_rows r g) offer (offer_size r g) whole z refl unchanged offer refl
