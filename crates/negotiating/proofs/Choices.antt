-- The initiator's choice, in the words of the code.
-- Assumes nothing.
use Prim.Native.Nat.{ℕ, ◌+◌, ◌*◌, ◌<◌}
use mathlib.Core.Path.{◌≡◌, refl, sym, ap, ◌∙◌}
use mathlib.Core.Bool.{Bool, true, false, cond, not, ◌&&◌, ◌||◌}
use mathlib.Core.List.{List, [], ◌∷◌, ◌++◌}
use native.Mathlib.Omega.{arith}
use lib.ListN.{length}
use lib.Dec.{eqb, leb}
use borrow.Author.Tests.{eq-eqb, ne_eqb, not-true}
use mathlib.Core.Logic.{◌⊎◌, inl, inr}
use Rattle.std.proofs.Common.{Option}
use Rattle.std.specs.Option.{is_some}
use Rattle.octets.proofs.Bools.{no_true, and_l}
use Rattle.refusal.specs.declared.Refusal.{Refusal}
use Rattle.refusal.specs.Refusals.{number_of}
use Rattle.refusal.proofs.Numbers.{number_some}
use Rattle.conversation.specs.Places.{allowed}
use Rattle.octets.specs.Octets.{octets}
use Rattle.message.specs.Check.{Row, first_failing}
use Rattle.message.proofs.Tables.{AllTrue}
use Rattle.schemes.specs.Sets.{named, open_places, below, kept_below}
use Rattle.schemes.specs.Answers.{left_of}
use Rattle.schemes.specs.declared.Left.{Left}
use Rattle.conversation.specs.declared.Record.{Record}
use Rattle.conversation.specs.declared.Answer.{Answer}
use Rattle.conversation.specs.State.{own_of, limit_rows}
use Rattle.conversation.specs.Turns.{writing, after, place_after}
use Rattle.conversation.specs.Outcomes.{Outcome, answered, refused, decide, room, fits, appended}
use Rattle.conversation.specs.Writing.{stage_rows, named_rows, first_or, naming, Speech, class_in, speech_fits, spoken, spoken_as, speaking}
use Rattle.conversation.specs.Choosing.{open_to, first_place, chose, may_choose, choice_rows, choosing}
use Rattle.conversation.proofs.Rows.{front-true, back-true}
use Rattle.conversation.proofs.Decides.{decide-refused, first-stop}
use Rattle.conversation.proofs.Inside.{limits-chose, chosen-allowed}
use Rattle.calls.specs.Calls.{call_refusal}
use Rattle.calls.proofs.Refusals.{limits-inside, limits-stop, limits-on, call-given, place-none, place-some}
use Rattle.calls.proofs.Lefts.{kept-inside, open_none, open-some, open-count, open-first}
use Rattle.negotiating.specs.Ready.{ChoiceReady, named_choice}

first-place : (ks : List ℕ) (l : Left) → l ≡ left_of ks → (l.left ≡ 0 → ⊥) → first_place ks ≡ l.place
unfolding left_of
first-place [] l e h = absurd (h (ap (λ (x : Left). x.left) e))
first-place (k ∷ ks) l e h = sym (ap (λ (x : Left). x.place) e)

-- ---- 18, 19, 25, 17 and 18
module _ (r : Record) (m : ℕ) (fit : Bool) (kind : ℕ) where
  pub choice-limits : (e : Refusal) → number_of e ≡ first_failing (limit_rows r) → number_of e ≡ call_refusal r (choice_rows r m fit kind)
  choice-limits = limits-stop r (choice_rows r m fit kind)

  module _ (z : 0 ≡ first_failing (limit_rows r)) where
    behind : (x : ℕ) → x ≡ first_failing (choice_rows r m fit kind) → x ≡ call_refusal r (choice_rows r m fit kind)
    behind = limits-on r (choice_rows r m fit kind) z

    pub choice-stage : (r.acceptor ≡ true) ⊎ ((r.acceptor ≡ false) × (r.stage ≡ 2 → ⊥)) → 18 ≡ call_refusal r (choice_rows r m fit kind)
    choice-stage (inl e) = behind 18 (rw e)
    choice-stage (inr h) = behind 18 (rw (h.0, ne_eqb r.stage 2 h.1))

    module _ (i : r.acceptor ≡ false) (s : r.stage ≡ 2) (b : Bool) (b-is : b ≡ below r.count m) where
      may : may_choose r ≡ true
      may = rw (i, eq-eqb r.stage 2 s)

      pub choice-marks : b ≡ false → 19 ≡ call_refusal r (choice_rows r m fit kind)
      choice-marks e = behind 19 (rw (may, ← b-is, e))

      module _ (t : b ≡ true) where
        pub choice-unfit : fit ≡ false → 25 ≡ call_refusal r (choice_rows r m fit kind)
        choice-unfit e = behind 25 (rw (may, ← b-is, t, e))

        module _ (keeps : fit ≡ true) (l : Left) (l-is : l ≡ left_of (open_places r.kept r.common m)) where
          pub choice-none : l.left ≡ 0 → 17 ≡ call_refusal r (choice_rows r m fit kind)
          choice-none e = behind 17 (rw (may, ← b-is, t, keeps, ← open_none r.list r.count l (open_to r m) l-is e))

          module _ (some : l.left ≡ 0 → ⊥) (v : Bool) (v-is : v ≡ (r.attested && eqb l.place r.requested)) (p : Option ℕ)
              (p-is : p ≡ allowed (after 2 0 v kind)) where
            place : place_after (chose r m) kind ≡ after 2 0 v kind
            unfolding writing
            place =
                ap (λ (a : Bool). after (writing a 3) 0 (r.attested && eqb (first_place (open_to r m)) r.requested) kind) i
                ∙ ap (λ (k : ℕ). after 2 0 (r.attested && eqb k r.requested) kind) (first-place (open_to r m) l l-is some)
                ∙ ap (λ (x : Bool). after 2 0 x kind) (sym v-is)

            pub choice-kind : is_some p ≡ false → 18 ≡ call_refusal r (choice_rows r m fit kind)
            choice-kind e =
                behind 18
                (rw (may, ← b-is, t, keeps, ← open-some r.list r.count l (open_to r m) l-is some, place, place-none (after 2 0 v kind) p p-is e))

            pub choice-some : is_some p ≡ true → 0 ≡ call_refusal r (choice_rows r m fit kind)
            choice-some e =
                behind 0
                (rw (may, ← b-is, t, keeps, ← open-some r.list r.count l (open_to r m) l-is some, place, place-some (after 2 0 v kind) p p-is e))

pub ruleset choice-refusals = (choice-marks, choice-unfit, choice-none, choice-kind, choice-some)

-- ---- the record after the choice, and the answer
module _ (r : Record) (m : ℕ) (y : ChoiceReady r m) (l : Left) (l-is : l ≡ left_of (open_places r.kept r.common m)) where
  found : (l.place < r.count)
      × ((octets 16 r.list (16 * l.place) ≡ first_or (named (own_of r) (open_to r m))) × (l.place ≡ first_place (open_to r m)))
  found = open-first r.list r.count l (open_to r m) l-is (kept-inside r.count r.kept r.common m y.kept) y.some

  pub choice-place : l.place < 16
  choice-place = omega (arith, found.0, y.inside.few)

  pub choice-made : (v : Bool) → v ≡ (r.attested && eqb l.place r.requested) → (h : Bool) → h ≡ (r.confirmed && eqb l.place r.requested)
      → record {
        acceptor = r.acceptor;
        stage = 3;
        position = 0;
        list = r.list;
        count = r.count;
        conversation = r.conversation;
        marks = m;
        common =
            r.common;
        kept =
            r.kept;
        metadata =
            r.metadata;
        requested = r.requested;
        chosen = l.place;
        attested = v;
        confirmed = h;
        sequence = r.sequence;
        used = r.used;
      } ≡ chose r m
  choice-made v v-is h h-is = rw (v-is, h-is) (rw found.1.1)

  pub choice-named : (a : Answer) → a.refusal ≡ 0 → (id : List ℕ) → id ≡ octets 16 r.list (16 * l.place) → (b : Answer)
      → b ≡ record { refusal = 0; place = record { 0 = 0 }; messages = 0; choice = id; left = l.left; next = a.next } → b ≡ named_choice r m a
  choice-named a z id id-is b b-is = b-is ∙ rw (eq-eqb a.refusal 0 z, id-is, found.1.0, open-count r.list r.count l (open_to r m) l-is)

pub choice-kept : (r : Record) (m : ℕ) (a : Answer) → (a.refusal ≡ 0 → ⊥) → (b : Answer) → b ≡ answered a.refusal 0 r → b ≡ named_choice r m a
choice-kept r m a h b b-is = b-is ∙ rw (ne_eqb a.refusal 0 h)

pub ruleset choices = (choice-place, choice-made, choice-named, choice-kept)

-- ---- the call, by its refusal: the message is that of the writer in the record after the choice
decide-last : (xs : List Row) (x : Row) (r : Record) (d : List ℕ) (action : Outcome) → AllTrue xs
    → decide (xs ++ (x ∷ [])) r d action ≡ cond x.test action (refused r d x.number 0)
decide-last [] x r d action h = refl
decide-last (y ∷ xs) x r d action h = rw h.0 (decide-last xs x r d action h.1)

module _ (r : Record) (m : ℕ) (fit : Bool) (kind : ℕ) (z : 0 ≡ call_refusal r (choice_rows r m fit kind)) where
  given : AllTrue (limit_rows r ++ choice_rows r m fit kind)
  given = call-given r (choice_rows r m fit kind) refl z

  role : r.acceptor ≡ false
  role = let (may, rest) =
      back-true (limit_rows r) (choice_rows r m fit kind) given in not-true r.acceptor (and_l (not r.acceptor) (eqb r.stage 2) may)

  kept : kept_below r.count r.kept r.common ≡ true
  kept = go r.acceptor role given.1.1.1.1.1.1.0 where
    go : (a : Bool) → a ≡ false → (a || kept_below r.count r.kept r.common) ≡ true → kept_below r.count r.kept r.common ≡ true
    go true e h = no_true (sym e)
    go false e h = h

  pub choose-ready : ChoiceReady r m
  choose-ready =
      let (may, (marks, (keeps, (some, (speaks, end))))) = back-true (limit_rows r) (choice_rows r m fit kind) given in
      record { inside = limits-inside r (choice_rows r m fit kind) given; kept = kept; some = some }

  -- the tests of the writer before 16 pass in the record after the choice
  passed : AllTrue (stage_rows (chose r m) kind ++ named_rows (chose r m) fit)
  passed =
      let (may, (marks, (keeps, (some, (speaks, end))))) = back-true (limit_rows r) (choice_rows r m fit kind) given in
      let (l1, (l2, (l3, (l4, (l5, (l6, (l7, (l8, (l9, (l10, (l11, tail))))))))))) =
      limits-chose r (front-true (limit_rows r) (choice_rows r m fit kind) given) m role marks in
      (l1, (l2, (l3, (l4, (l5, (l6, (l7, (l8, (l9, (l10, (l11, (speaks, (keeps, (chosen-allowed r m kept some, tt))))))))))))))

module _ (r : Record) (d : List ℕ) (m : ℕ) (s : Speech) where
  abbrev rows : List Row
  rows = limit_rows r ++ choice_rows r m (speech_fits s) (class_in s)

  abbrev last : Row
  last = fits (chose r m) d (length (spoken (chose r m) s))

  abbrev message : Outcome
  message = appended (chose r m) d (place_after (chose r m) (class_in s)) (spoken (chose r m) s) (spoken_as (chose r m) s)

  pub choose-refused : (e : Refusal) → number_of e ≡ call_refusal r (choice_rows r m (speech_fits s) (class_in s)) → (a : Answer)
      → a ≡ answered (number_of e) 0 r → ◌≡◌ {A = Outcome} (record { answer = a; transcript = d }) (choosing r d m s)
  unfolding choosing call_refusal
  choose-refused e e-is a a-is =
      let some : number_of e ≡ 0 → ⊥ = λ z. omega (arith, number_some e) in
      let is : number_of e ≡ first_failing (rows ++ (last ∷ [])) = e-is ∙ first-stop rows (last ∷ []) (λ z. some (e-is ∙ z)) in
      rw (a-is, is) (decide-refused (rows ++ (last ∷ [])) r d (naming (named (own_of r) (open_to r m)) message) (λ z. some (is ∙ z)))

  module _ (z : 0 ≡ call_refusal r (choice_rows r m (speech_fits s) (class_in s))) where
    said : speaking (chose r m) d s ≡ cond (leb (r.used + length (spoken (chose r m) s)) (room d)) message (refused (chose r m) d 16 0)
    unfolding speaking
    said = decide-last (stage_rows (chose r m) (class_in s) ++ named_rows (chose r m) (speech_fits s)) last (chose r m) d message
        (passed r m (speech_fits s) (class_in s) z)

    chosen : choosing r d m s ≡ cond (leb (r.used + length (spoken (chose r m) s)) (room d)) (naming (named (own_of r) (open_to r m)) message)
        (refused r d 16 0)
    unfolding choosing
    chosen = decide-last rows last r d (naming (named (own_of r) (open_to r m)) message) (given r m (speech_fits s) (class_in s) z)

    pub choose-made : (q : Record) → q ≡ chose r m → (o : Answer) (d' : List ℕ)
        → ◌≡◌ {A = Outcome} (record { answer = o; transcript = d' }) (speaking q d s) → (a : Answer) → a ≡ named_choice r m o
        → ◌≡◌ {A = Outcome} (record { answer = a; transcript = d' }) (choosing r d m s)
    choose-made q q-is o d' o_is a a-is =
        let w : ◌≡◌ {A = Outcome} (record { answer = o; transcript = d' }) (speaking (chose r m) d s) =
        o_is ∙ ap (λ (x : Record). speaking x d s) q-is in
        let e : ◌≡◌ {A = Outcome} (record { answer = a; transcript = d' }) (record { answer = named_choice r m o; transcript = d' }) =
        ap (λ (x : Answer). record { answer = x; transcript = d' }) a-is in
        e ∙ ap then (w ∙ said) ∙ (by-room (leb (r.used + length (spoken (chose r m) s)) (room d)) ∙ sym chosen) where
          then : Outcome → Outcome
          then x = record { answer = named_choice r m x.answer; transcript = x.transcript }

          by-room : (b : Bool)
              → then (cond b message (refused (chose r m) d 16 0)) ≡ cond b (naming (named (own_of r) (open_to r m)) message) (refused r d 16 0)
          by-room true = refl
          by-room false = refl
