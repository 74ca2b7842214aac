-- The acceptor's NEGO and its choice, in the words of the code.
-- Assumes nothing.
use Prim.Native.Nat.{ℕ, ◌+◌, ◌*◌, ◌-◌, ◌%◌, ◌≤◌, ◌<◌}
use mathlib.Core.Path.{◌≡◌, refl, sym, ap, ◌∙◌}
use mathlib.Core.Bool.{Bool, true, false, not}
use borrow.Author.Tests.{not-true, not-false}
use mathlib.Core.List.{List, [], ◌∷◌, ◌++◌}
use native.Mathlib.Omega.{arith}
use lib.ListN.{length, take, replicate, length-append}
use lib.Seq.{length-take-le}
use lib.Bits.{bit_and}
use Rattle.octets.specs.Octets.{octets}
use Rattle.message.specs.Check.{Row, first_failing}
use Rattle.message.proofs.Tables.{AllTrue}
use Rattle.message.proofs.Ids.{length_ids}
use Rattle.elements.specs.declared.Elements.{Elements}
use Rattle.elements.specs.Elements.{items_of, elements_fit, handed_size}
use Rattle.elements.proofs.Views.{handed, handed-size}
use Rattle.encode.specs.Encode.{Contents, Whole, nego_of, size_of}
use Rattle.schemes.specs.Lists.{Id, join_ids}
use Rattle.schemes.specs.Sets.{left, below, pad_to}
use Rattle.schemes.specs.Answers.{left_places, left_of, schemes_of}
use Rattle.schemes.specs.declared.Left.{Left}
use Rattle.schemes.specs.declared.Schemes.{Schemes}
use Rattle.schemes.proofs.Offers.{join-length, gathered-octets}
use Rattle.refusal.specs.declared.Refusal.{Refusal}
use Rattle.refusal.specs.Refusals.{number_of}
use Rattle.refusal.proofs.Numbers.{number_some}
use Rattle.conversation.specs.declared.Record.{Record}
use Rattle.conversation.specs.declared.Answer.{Answer}
use Rattle.conversation.specs.State.{own_of}
use Rattle.conversation.specs.Turns.{type_of, place_after}
use Rattle.conversation.specs.Outcomes.{Outcome, answered, row, appended}
use Rattle.conversation.specs.Writing.{NegoContent, nego_in, extension_rows, message_of, some_left, reply_rows, naming, replying}
use Rattle.conversation.proofs.Decides.{first-none, first-stop}
use Rattle.calls.specs.Calls.{room_for, stage_refusal, write_refusal, Inside, Appended}
use Rattle.calls.proofs.Refusals.{stage-inside, write-stage, write-on, passed-inside, passed-own}
use Rattle.conversation.specs.Claims.{Arrays}
use Rattle.calls.proofs.Writes.{changed, write-refused, write-ready, write-passed}
use Rattle.calls.proofs.Lefts.{own-count, own-none, own-some, own-place, own_first, left_less}
use Rattle.sending_nego.specs.Ready.{NegoReady, ReplyReady}

abbrev listed : Record → ℕ → List Id
listed r m = left (own_of r) r.common m

-- the message's length, where the extensions keep their limits
abbrev reply_size : Record → ℕ → NegoContent → ℕ
reply_size r m g = 96 + 16 * length (listed r m) + handed_size g.extensions g.values

pub reply-few : (r : Record) → 0 ≡ stage_refusal r 1 → r.count ≤ 16
reply-few r z = (stage-inside r 1 z).few

module _ (r : Record) (m : ℕ) (g : NegoContent) (len : ℕ) where
  abbrev refusal : ℕ
  refusal = write_refusal r 1 (reply_rows r m g) (reply_size r m g) len

  pub reply-stage : (e : Refusal) → number_of e ≡ stage_refusal r 1 → number_of e ≡ refusal
  reply-stage = write-stage r 1 (reply_rows r m g) (reply_size r m g) len

  module _ (z : 0 ≡ stage_refusal r 1) where
    abbrev last : List Row
    last = row 17 (some_left (listed r m)) ∷ row 16 (room_for r.used (reply_size r m g) len) ∷ []

    behind : (x : ℕ) → x ≡ first_failing (row 18 r.acceptor ∷ row 19 (below r.count m) ∷ (extension_rows g ++ last)) → x ≡ refusal
    behind = write-on r 1 (reply_rows r m g) (reply_size r m g) len z

    pub reply-role : not r.acceptor ≡ true → 18 ≡ refusal
    reply-role e = behind 18 (rw (not-true r.acceptor e))

    module _ (e : not r.acceptor ≡ false) (b : Bool) (b-is : b ≡ below r.count m) where
      i : r.acceptor ≡ true
      i = not-false r.acceptor e

      pub reply-marks : b ≡ false → 19 ≡ refusal
      reply-marks e = behind 19 (rw (i, ← b-is, e))

      module _ (t : b ≡ true) where
        pub reply-extensions : (e : Refusal) → number_of e ≡ first_failing (extension_rows g) → number_of e ≡ refusal
        reply-extensions e e-is =
            behind (number_of e) (rw (i, ← b-is, t) (e-is ∙ first-stop (extension_rows g) last (λ w. omega (arith, number_some e, e-is ∙ w))))

        module _ (w : 0 ≡ first_failing (extension_rows g)) (l : Left) (l-is : l ≡ left_of (left_places 16 r.common m)) where
          within : Inside r
          within = stage-inside r 1 z

          passed : AllTrue (extension_rows g)
          passed = first-none (extension_rows g) refl (sym w)

          pub reply-none : l.left ≡ 0 → 17 ≡ refusal
          reply-none e =
              behind 17
              (rw (i, ← b-is, t, passed.0, passed.1.0, ← own-none r.list r.count l within.few r.common m within.bound l-is e))

          module _ (s : l.left ≡ 0 → ⊥) (k : ℕ) (k-is : k ≡ handed_size g.extensions g.values) (f : Bool)
              (f-is : f ≡ room_for r.used (96 + 16 * l.left + k) len) where
            some : some_left (listed r m) ≡ true
            some = sym (own-some r.list r.count l within.few r.common m within.bound l-is s)

            room : room_for r.used (reply_size r m g) len ≡ f
            room =
                ap (λ (j : ℕ). room_for r.used (96 + 16 * j + handed_size g.extensions g.values) len)
                (sym (own-count r.list r.count l within.few r.common m within.bound l-is))
                ∙ ap (λ (j : ℕ). room_for r.used (96 + 16 * l.left + j) len) (sym k-is) ∙ sym f-is

            pub reply-crowded : f ≡ false → 16 ≡ refusal
            reply-crowded e = behind 16 (rw (i, ← b-is, t, passed.0, passed.1.0, some, room, e))

            pub reply-fits : f ≡ true → 0 ≡ refusal
            reply-fits e = behind 0 (rw (i, ← b-is, t, passed.0, passed.1.0, some, room, e))

-- ---- what is gathered of a set stands inside its array
module _ (r : Record) (arrays : Arrays r) (few : r.count ≤ 16) (set : ℕ) (s : Schemes) (s-is : s ≡ schemes_of (left (own_of r) set 0)) where
  gathered-joined : length (join_ids (left (own_of r) set 0)) ≡ 16 * s.count
  unfolding schemes_of
  gathered-joined = join-length r.count r.list set 0 (omega (arith, arrays.list)) ∙ ap (λ (x : Schemes). 16 * x.count) (sym s-is)

  pub reply-inside : 16 * s.count ≤ length s.octets
  unfolding schemes_of
  reply-inside =
      let l : List ℕ = join_ids (left (own_of r) set 0) in
      let e : length s.octets ≡ length (pad_to 256 l) = ap (λ (x : Schemes). length x.octets) s-is in
      omega (arith, e, length-append l (replicate (256 - length l) 0), gathered-joined)

  pub reply-part : 16 * s.count ≡ length (take (16 * s.count) s.octets)
  reply-part = sym (length-take-le (16 * s.count) s.octets reply-inside)

-- ---- the reply with its choice
module _ (r : Record) (d : List ℕ) (m : ℕ) (random : List ℕ) (e : Elements) (v : List ℕ) (y : ReplyReady r d m random e v) where
  inside : Inside r
  inside = y.nego.ready.inside

  pub reply-place : (l : Left) → l ≡ left_of (left_places 16 r.common m) → l.place < 16
  reply-place l l-is = omega (arith, own-place r.list r.count l inside.few r.common m inside.bound l-is y.some, inside.few)

  -- what is gathered of the common schemes less the marks is the list that the reply has
  module _ (arrays : Arrays r) (small : m < 65536) (s : Schemes) (s-is : s ≡ schemes_of (left (own_of r) (bit_and r.common (65535 - m)) 0)) where
    reply-octets : take (16 * s.count) s.octets ≡ join_ids (listed r m)
    reply-octets =
        let q : s ≡ schemes_of (listed r m) = s-is ∙ ap schemes_of (left_less 16 (own_of r) r.common m (rw length_ids inside.few) small) in
        rw q (gathered-octets r.count r.list r.common m (omega (arith, arrays.list, inside.few)))

    pub reply-nego : NegoReady r d random (take (16 * s.count) s.octets) e v
    reply-nego = rw reply-octets y.nego

    pub reply-named : (l : Left) → l ≡ left_of (left_places 16 r.common m) → (d' : List ℕ) (next : Record)
        → Appended r d 1 (nego_of random (take (16 * s.count) s.octets) (items_of e v)) d' next
        → (id : List ℕ) → id ≡ octets 16 r.list (16 * l.place) → (a : Answer)
        → a ≡ record {
          refusal = 0;
          place = record { 0 = 0 };
          messages = 0;
          choice = id;
          left = l.left;
          next = changed next (record { marks = m; metadata = next.metadata; requested = next.requested; attested = next.attested });
        }
        → ◌≡◌ {A = Outcome} (record { answer = a; transcript = d' })
        (naming (listed r m)
        (appended r d (place_after r 1) (message_of r 1 (nego_of random (join_ids (listed r m)) (items_of e v)))
        (record { marks = m; metadata = r.metadata; requested = r.requested; attested = r.attested })))
    reply-named l l-is d' next w id id-is a a-is =
        let x : Appended r d 1 (nego_of random (join_ids (listed r m)) (items_of e v)) d' next = rw reply-octets at w in
        rw (
          a-is,
          x.counted,
          x.holds,
          id-is,
          own_first r.list r.count l inside.few r.common m inside.bound l-is y.some,
          own-count
              r.list r.count l inside.few r.common m inside.bound l-is,
        )

-- ---- the call, by its refusal
module _ (r : Record) (arrays : Arrays r) (d : List ℕ) (m : ℕ) (g : NegoContent) (full : length g.random ≡ 32) where
  abbrev answer : Contents
  answer = nego_in g (join_ids (listed r m))

  joined : r.count ≤ 16 → length (join_ids (listed r m)) ≡ 16 * length (listed r m)
  joined few = join-length r.count r.list r.common m (omega (arith, arrays.list))

  measure : r.count ≤ 16 → elements_fit g.extensions g.values ≡ true → size_of answer ≡ reply_size r m g
  measure few t = let a = joined few in let b = handed-size g.extensions g.values t in omega arith

  whole : Inside r → AllTrue (reply_rows r m g) → Whole answer × (size_of answer ≡ reply_size r m g)
  whole i t = (full, measure i.few t.1.1.0)

  pub reply-refused : (e : Refusal) → number_of e ≡ write_refusal r 1 (reply_rows r m g) (reply_size r m g) (length d) → (a : Answer)
      → a ≡ answered (number_of e) 0 r → ◌≡◌ {A = Outcome} (record { answer = a; transcript = d }) (replying r d m g)
  unfolding replying
  reply-refused e e-is a a-is = write-refused r arrays d 1 (reply_rows r m g) answer (reply_size r m g) whole e e-is a a-is _

  module _ (z : 0 ≡ write_refusal r 1 (reply_rows r m g) (reply_size r m g) (length d)) where
    pub reply-ready : ReplyReady r d m g.random g.extensions g.values
    unfolding type_of
    reply-ready =
        let few = (passed-inside r 1 (reply_rows r m g) (reply_size r m g) (length d) z refl).few in
        let own = passed-own r 1 (reply_rows r m g) (reply_size r m g) (length d) z refl in
        let keeps : elements_fit g.extensions g.values ≡ true = own.1.1.0 in
        let p : length (join_ids (listed r m)) % 16 ≡ 0 = (let q = joined few in omega arith) in
        record {
          nego = record {
            ready =
                write-ready r d 1 (reply_rows r m g) (reply_size r m g) z refl answer (measure few keeps)
                (p, (handed g.extensions g.values keeps).fit) refl refl;
            keeps = keeps;
          };
          some = own.1.1.1.1.0;
        }

    pub reply-written : (o : Outcome) → o ≡ naming (listed r m)
        (appended r d (place_after r 1) (message_of r 1 answer)
        (record { marks = m; metadata = r.metadata; requested = r.requested; attested = r.attested })) → o ≡ replying r d m g
    unfolding replying
    reply-written o e = e ∙ write-passed r arrays d 1 (reply_rows r m g) answer (reply_size r m g) whole z refl _
