-- A call of a run that writes: its message, and the writer's record after it, are what a replay makes of the message.
-- Assumes nothing.
use Prim.Native.Nat.{ℕ, ◌+◌, ◌*◌, ◌^◌, ◌≤◌}
use mathlib.Core.Path.{◌≡◌, refl, sym, ap, subst, ◌∙◌}
use mathlib.Core.Bool.{Bool, true, false, not, ◌&&◌}
use mathlib.Core.Logic.{inl, inr}
use mathlib.Core.List.{List, [], ◌∷◌, ◌++◌}
use native.Mathlib.Omega.{arith}
use lib.ListN.{length, take}
use lib.Dec.{eqb, leb}
use borrow.Author.Tests.{eqb-true, eq-eqb, leb-true, lt-ltb, not-true}
use Rattle.octets.proofs.Bools.{which, no_true, and_l, and_r}
use Rattle.octets.proofs.Same.{same_refl}
use Rattle.message.specs.Layout.{head_of}
use Rattle.message.specs.Check.{Row}
use Rattle.message.proofs.Tables.{AllTrue}
use Rattle.encode.specs.Encode.{Whole, Contents, of_exchange}
use Rattle.schemes.specs.Lists.{Id, place, join_ids}
use Rattle.schemes.specs.Sets.{left, named, below}
use Rattle.schemes.specs.Answers.{with_bit}
use Rattle.conversation.specs.declared.Record.{Record}
use Rattle.conversation.specs.State.{own_of, scheme_at, limit_rows}
use Rattle.conversation.specs.Turns.{FIRST, ANSWER, NEGO, METADATA, writing, class_of, type_of, after, after_opening, after_further, writes, place_after, may_write}
use Rattle.conversation.specs.Outcomes.{Outcome, decide, row, room, fits, WrittenAs, unchanged, wrote, appended}
use Rattle.conversation.specs.Writing.{nego_in, extension_rows, speech_fits, message_of, stage_rows, then_fits, offered, offer_rows, offering, some_left, first_or, reply_message, naming, reply_rows, replying, metadata_allowed, metadata_message, metadata_rows, writing_metadata, scheme_now, scheme_allowed, named_rows, Speech, request, checksum, alarm, class_in, contents_in, spoken, spoken_as, speaking}
use Rattle.conversation.specs.Admitting.{scheme_in, listed_by}
use Rattle.conversation.specs.Choosing.{open_to, chose, may_choose, choosing}
use Rattle.conversation.specs.Runs.{NegoCall, Sized, Call, offer, reply, metadata, speak, read, choose, End, act, turn_after, is_accepted}
use Rattle.conversation.specs.Logs.{added}
use Rattle.conversation.proofs.Decides.{decide-passed}
use Rattle.conversation.proofs.Rows.{back-true, passed-by, true-behind}
use Rattle.conversation.proofs.Chosen.{choice_table, choice-passed}
use Rattle.conversation.proofs.Tokens.{Heads}
use Rattle.conversation.proofs.Goals.{positive, no-after, nego-start}
use Rattle.conversation.proofs.Ends.{left-sized}
use Rattle.conversation.proofs.Inside.{own-length, place-own, allowed-own, allowed-untold, now-below, chosen-below, now-chosen, scheme-chosen, limits-counts}
use Rattle.conversation.proofs.Demand.{heads-written}
use Rattle.conversation.proofs.Early.{writes-some}
use Rattle.conversation.proofs.Logs.{whole-speech, Sound}
use Rattle.sides.specs.Turning.{with_marks, begun, owed, said_as, said}
use Rattle.replayed.proofs.Messages.{Headed, headed, scheme-exchange, scheme-spoken, scheme-front, own-sized, own-joined}

-- 1. stages and places

and-false : (a : Bool) {b : Bool} → b ≡ false → a && b ≡ false
and-false true e = e
and-false false e = refl

-- the initiator's NEGO is written in the first token
initiator-first : (a : Bool) (st : ℕ) → not a ≡ true → leb (writing a st) 1 ≡ true → (writing a st ≡ 0) × (eqb st 2 ≡ false)
unfolding writing
initiator-first true st n h = no_true n
initiator-first false st n h = elim (which (eqb st 0)) [
  | inl e ↦ let z : st ≡ 0 = eqb-true _ _ e in (rw e, rw z)
  | inr e ↦ elim (which (eqb st 3)) [ inl f ↦ no_true (rw (e, f) at h) | inr f ↦ no_true (rw (e, f) at h) ]
]

-- the acceptor's in the reply
acceptor-answers : (a : Bool) (st : ℕ) → a ≡ true → leb (writing a st) 1 ≡ true → writing a st ≡ 1
unfolding writing
acceptor-answers false st n h = no_true n
acceptor-answers true st n h = elim (which (eqb st 1)) [
  | inl e ↦ rw e
  | inr e ↦ elim (which (eqb st 3)) [ inl f ↦ no_true (rw (e, f) at h) | inr f ↦ no_true (rw (e, f) at h) ]
]

-- where one chooses, none is written
choosing-none : (a : Bool) (st : ℕ) → not a ≡ true → eqb st 2 ≡ true → writing a st ≡ 3
unfolding writing
choosing-none true st n h = no_true n
choosing-none false st n h = let z : st ≡ 2 = eqb-true _ _ h in rw z

-- metadata begins no turn
no-metadata-first : (token : ℕ) (v : Bool) → after token 0 v METADATA ≡ 0
unfolding after after_opening after_further
no-metadata-first token v = elim (which (leb token 1)) [ inl e ↦ rw e | inr e ↦ elim (which (eqb token 2)) [ inl f ↦ rw (e, f) | inr f ↦ rw (e, f) ] ]

-- a turn that begins with an exchange, a VERIFY or an ALERT is a later one
speech-first : (s : Speech) (token : ℕ) (v : Bool) → not (eqb (after token 0 v (class_in s)) 0) ≡ true → token ≡ 2
unfolding after after_opening after_further
speech-first (request value) token v h =
    elim (which (leb token 1))
    [ inl f ↦ no_true (rw f at h) | inr f ↦ elim (which (eqb token 2)) [ inl e ↦ eqb-true _ _ e | inr e ↦ no_true (rw (f, e) at h) ] ]
speech-first (checksum type value) token true h = no_true h
speech-first (checksum type value) token false h =
    elim (which (leb token 1))
    [ inl f ↦ no_true (rw f at h) | inr f ↦ elim (which (eqb token 2)) [ inl e ↦ eqb-true _ _ e | inr e ↦ no_true (rw (f, e) at h) ] ]
speech-first (alarm code) token v h =
    elim (which (leb token 1))
    [ inl f ↦ no_true (rw f at h) | inr f ↦ elim (which (eqb token 2)) [ inl e ↦ eqb-true _ _ e | inr e ↦ no_true (rw (f, e) at h) ] ]

-- and whoever writes a later one does not choose
later-unchosen : (a : Bool) (st : ℕ) → writing a st ≡ 2 → not a && eqb st 2 ≡ false
unfolding writing
later-unchosen true st h = refl
later-unchosen false st h = elim (which (eqb st 2)) [
  | inl e ↦ absurd (let z : st ≡ 2 = eqb-true _ _ e in let w : ◌≡◌ {A = ℕ} 3 2 = rw z at h in omega arith)
  | inr e ↦ rw e
]

kind-type : (a : Bool) (kind : ℕ) → class_of true (type_of true kind) ≡ kind → class_of false (type_of false kind) ≡ kind
    → class_of a (type_of a kind) ≡ kind
kind-type true kind e f = e
kind-type false kind e f = f

kind-speech : (a : Bool) (s : Speech) → class_of a (type_of a (class_in s)) ≡ class_in s
unfolding class_of type_of
kind-speech true (request value) = refl
kind-speech true (checksum type value) = refl
kind-speech true (alarm code) = refl
kind-speech false (request value) = refl
kind-speech false (checksum type value) = refl
kind-speech false (alarm code) = refl

said-spoken : (r : Record) (s : Speech) (id : Id) → said_as r (class_in s) id ≡ spoken_as r s
said-spoken r (request value) id = refl
said-spoken r (checksum type value) id = refl
said-spoken r (alarm code) id = refl

-- 2. a call at an end

-- its marks, where it has some: an acceptor's reply, an initiator's choice
abbrev pub Marked : Bool → ℕ → Call → Type 0
Marked role marks (offer nego) = Unit {0}
Marked role marks (reply m nego) = role ≡ true → m ≡ marks
Marked role marks (metadata id value) = Unit {0}
Marked role marks (speak s) = Unit {0}
Marked role marks read = Unit {0}
Marked role marks (choose m s) = role ≡ false → m ≡ marks

-- its own marks
abbrev pub marks_in : Call → ℕ
marks_in (offer nego) = 0
marks_in (reply m nego) = m
marks_in (metadata id value) = 0
marks_in (speak s) = 0
marks_in read = 0
marks_in (choose m s) = m

pub marked-in : (role : Bool) (k : Call) → Marked role (marks_in k) k
marked-in role (offer nego) = tt
marked-in role (reply m nego) = λ z. refl
marked-in role (metadata id value) = tt
marked-in role (speak s) = tt
marked-in role read = tt
marked-in role (choose m s) = λ z. refl

module _ (marks : ℕ) (r : Record) where
  begun-same : may_choose r ≡ false → eqb (writes r) ANSWER ≡ false → begun marks r ≡ r
  unfolding begun
  begun-same c a = rw (c, a)

  begun-answer : may_choose r ≡ false → eqb (writes r) ANSWER ≡ true → begun marks r ≡ with_marks marks r
  unfolding begun
  begun-answer c a = rw (c, a)

  begun-choice : may_choose r ≡ true → begun marks r ≡ chose r marks
  unfolding begun
  begun-choice c = rw c

  owed_none : eqb (writes r) FIRST ≡ false → eqb (writes r) ANSWER ≡ false → may_choose r ≡ false → (t : List ℕ) → owed marks r t ≡ true
  unfolding owed
  owed_none f a c t = rw (f, a, c)

  owed-first : (t : List ℕ) → eqb (writes r) FIRST ≡ true → listed_by t ≡ own_of r → owed marks r t ≡ true
  unfolding owed
  owed-first t f l = rw (f, l) (same_refl (join_ids (own_of r)))

  owed-answer : (t : List ℕ) → eqb (writes r) FIRST ≡ false → eqb (writes r) ANSWER ≡ true → some_left (left (own_of r) r.common marks) ≡ true
      → listed_by t ≡ left (own_of r) r.common marks → owed marks r t ≡ true
  unfolding owed
  owed-answer t f a s l = rw (f, a, s, l) (same_refl (join_ids (left (own_of r) r.common marks)))

  owed-choice : (t : List ℕ) → eqb (writes r) FIRST ≡ false → eqb (writes r) ANSWER ≡ false → may_choose r ≡ true
      → some_left (named (own_of r) (open_to r marks)) ≡ true → scheme_in t ≡ first_or (named (own_of r) (open_to r marks)) → owed marks r t ≡ true
  unfolding owed
  owed-choice t f a c s l = rw (f, a, c, s, l) (same_refl (first_or (named (own_of r) (open_to r marks))))

module _ (e : End) (peer : List ℕ) (log : List (List ℕ)) (ok : Sound e.record_of e.transcript log) (marks : ℕ) where
  abbrev r : Record
  r = e.record_of

  abbrev d : List ℕ
  d = e.transcript

  -- the message, and the record in which it is written: that of the turn's beginning, or the present one
  pub record Writes (k : Call) : Type 0 where
    pub message : List ℕ
    pub base : Record
    pub type : ℕ
    pub head : Headed type r.sequence r.conversation message
    pub adds : added e peer k ≡ message ∷ []
    pub turns : turn_after e k ≡ e.turn ++ message
    pub next : (act e peer k).answer.next ≡ said base message
    pub counts : (said base message).sequence ≡ r.sequence + 1
    pub role : (said base message).acceptor ≡ r.acceptor
    pub talk : (said base message).conversation ≡ r.conversation
    pub position : 1 ≤ (said base message).position
    pub on : writes (said base message) ≡ 3 → ⊥
    pub begins : r.position ≡ 0 → (base ≡ begun marks r) × ((rest : List ℕ) → owed marks r (message ++ rest) ≡ true)
    pub goes_on_lem : 1 ≤ r.position → (writes r ≡ 3 → ⊥) → base ≡ r

  record Start (base : Record) (x : List ℕ) : Type 0 where
    begins : r.position ≡ 0 → (base ≡ begun marks r) × ((rest : List ℕ) → owed marks r (x ++ rest) ≡ true)
    goes_on_lem : 1 ≤ r.position → (writes r ≡ 3 → ⊥) → base ≡ r

  made : (k : Call) (base : Record) (kind : ℕ) (c : Contents) (w : WrittenAs)
      → class_of base.acceptor (type_of base.acceptor kind) ≡ kind → base.acceptor ≡ r.acceptor → base.sequence ≡ r.sequence
      → base.conversation ≡ r.conversation → Whole c
      → leb (r.used + length (message_of base kind c)) (room d) ≡ true
      → said_as base kind (scheme_in (message_of base kind c)) ≡ w → may_write base kind ≡ true
      → added e peer k ≡ message_of base kind c ∷ [] → turn_after e k ≡ e.turn ++ message_of base kind c
      → (act e peer k).answer.next ≡ wrote base (place_after base kind) (length (message_of base kind c)) w
      → (Headed (type_of base.acceptor kind) r.sequence r.conversation (message_of base kind c) → Start base (message_of base kind c))
      → Writes k
  unfolding said
  made k base kind c w known role sequence talk whole fit says may adds turns next start =
      let x : List ℕ = message_of base kind c in
      let low : r.used + length x ≤ room d = leb-true _ _ fit in
      let counts = limits-counts r ok.limits in
      let h : Headed (type_of base.acceptor kind) base.sequence base.conversation x =
      headed base kind c (omega (arith, counts)) (ap length talk ∙ ok.talk) whole (omega arith) in
      let h' : Headed (type_of base.acceptor kind) r.sequence r.conversation x =
      subst (λ (v : List ℕ). Headed (type_of base.acceptor kind) r.sequence v x) talk
      (subst (λ (q : ℕ). Headed (type_of base.acceptor kind) q base.conversation x) sequence h) in
      let is : class_of base.acceptor (head_of x).kind ≡ kind = ap (class_of base.acceptor) h.kind ∙ known in
      let same : said base x ≡ wrote base (place_after base kind) (length x) w =
      ap (λ (j : ℕ). wrote base (place_after base j) (length x) (said_as base j (scheme_in x))) is
      ∙ ap (wrote base (place_after base kind) (length x)) says in
      let s = start h' in
      record {
        message = x;
        base = base;
        type = type_of base.acceptor kind;
        head = h';
        adds = adds;
        turns = turns;
        next = next ∙ sym same;
        counts = ap (λ (n : ℕ). n + 1) sequence;
        role = role;
        talk = talk;
        position = subst (λ (q : Record). 1 ≤ q.position) (sym same) (positive (place_after base kind) may);
        on = λ z. writes-some base kind may z;
        begins = s.begins;
        goes_on_lem = s.goes_on_lem;
      }

  next-is : (rows : List Row) (action : Outcome) → AllTrue rows → (decide rows r d action).answer.next ≡ action.answer.next
  next-is rows action g = ap (λ (o : Outcome). o.answer.next) (sym (decide-passed rows r d action g))

  writes-offer : (nego : NegoCall) → is_accepted (act e peer (offer nego)).answer ≡ true → Writes (offer nego)
  unfolding act offering class_of type_of
  writes-offer nego a =
      let x : List ℕ = offered r nego.0 in
      let c : Contents = nego_in nego.0 (take (16 * r.count) r.list) in
      let rows : List Row = stage_rows r NEGO ++ then_fits (offer_rows r nego.0) r d x in
      let action : Outcome = appended r d (place_after r NEGO) x (unchanged r) in
      let g = passed-by rows r d action refl a in
      let may : may_write r NEGO ≡ true = true-behind (limit_rows r) (row 18 (may_write r NEGO)) (then_fits (offer_rows r nego.0) r d x) g in
      let role : not r.acceptor ≡ true =
      true-behind (stage_rows r NEGO) (row 18 (not r.acceptor)) (extension_rows nego.0 ++ (fits r d (length x) ∷ [])) g in
      let (is-initiator, (x25, (x26, behind))) = back-true (stage_rows r NEGO) (then_fits (offer_rows r nego.0) r d x) g in
      let fit = true-behind (stage_rows r NEGO ++ offer_rows r nego.0) (fits r d (length x)) [] g in
      let start = nego-start (writes r) r.position r.attested may in
      let first = initiator-first r.acceptor r.stage role start.0 in
      let sized = own-sized r ok.ids in
      let (l1, (l2, rest)) = ok.limits in
      let few : length (own_of r) ≤ 16 = (let n : r.count ≤ 16 = leb-true _ _ l2 in omega (arith, own-length r)) in
      let heads : Heads (type_of r.acceptor NEGO) (own_of r) x =
      heads-written r nego (own_of r) sized few ok.talk ok.limits (x25, (x26, tt)) (take (16 * r.count) r.list)
      (own-joined r ok.ids) in
      let f : eqb (writes r) FIRST ≡ true = eq-eqb _ _ first.0 in
      let n : eqb (writes r) ANSWER ≡ false = rw first.0 in
      made (offer nego) r NEGO c (unchanged r) (kind-type r.acceptor NEGO refl refl) refl refl refl nego.1.random fit refl may refl refl
      (next-is rows action g)
      (λ h. record {
        begins =
            λ p. (sym (begun-same marks r (and-false (not r.acceptor) first.1) n), λ more. owed-first marks r (x ++ more) f (heads more).1);
        goes_on_lem = λ p q. absurd (let z = start.1 in omega arith);
      })

  writes-reply : (nego : NegoCall) → is_accepted (act e peer (reply marks nego)).answer ≡ true → Writes (reply marks nego)
  unfolding act replying class_of type_of
  writes-reply nego a =
      let l : List Id = left (own_of r) r.common marks in
      let x : List ℕ = reply_message r marks nego.0 in
      let c : Contents = nego_in nego.0 (join_ids l) in
      let w : WrittenAs = record { marks = marks; metadata = r.metadata; requested = r.requested; attested = r.attested } in
      let rows : List Row = stage_rows r NEGO ++ then_fits (reply_rows r marks nego.0) r d x in
      let action : Outcome = naming l (appended r d (place_after r NEGO) x w) in
      let g = passed-by rows r d action refl a in
      let may : may_write r NEGO ≡ true = true-behind (limit_rows r) (row 18 (may_write r NEGO)) (then_fits (reply_rows r marks nego.0) r d x) g in
      let role : r.acceptor ≡ true =
      true-behind (stage_rows r NEGO) (row 18 r.acceptor)
      (row 19 (below r.count marks) ∷ (extension_rows nego.0 ++ (row 17 (some_left l) ∷ fits r d (length x) ∷ []))) g in
      let (is-acceptor, (below-count, (x25, (x26, behind)))) = back-true (stage_rows r NEGO) (then_fits (reply_rows r marks nego.0) r d x) g in
      let some : some_left l ≡ true =
      true-behind (stage_rows r NEGO ++ (row 18 r.acceptor ∷ row 19 (below r.count marks) ∷ extension_rows nego.0)) (row 17 (some_left l))
      (fits r d (length x) ∷ []) g in
      let fit = true-behind (stage_rows r NEGO ++ reply_rows r marks nego.0) (fits r d (length x)) [] g in
      let start = nego-start (writes r) r.position r.attested may in
      let answers : writes r ≡ 1 = acceptor-answers r.acceptor r.stage role start.0 in
      let sized = left-sized (own_of r) r.common marks (own-sized r ok.ids) in
      let (l1, (l2, rest)) = ok.limits in
      let few : length l ≤ 16 = (let n : r.count ≤ 16 = leb-true _ _ l2 in omega (arith, own-length r, sized.1)) in
      let heads : Heads (type_of r.acceptor NEGO) l x =
      heads-written r nego l sized.0 few ok.talk ok.limits (x25, (x26, tt)) (join_ids l) refl in
      let f : eqb (writes r) FIRST ≡ false = rw answers in
      let n : eqb (writes r) ANSWER ≡ true = rw answers in
      let no : may_choose r ≡ false = rw role in
      made (reply marks nego) (with_marks marks r) NEGO c w (kind-type r.acceptor NEGO refl refl) refl refl refl
      nego.1.random fit refl may refl refl (next-is rows action g)
      (λ h. record {
        begins = λ p. (sym (begun-answer marks r no n), λ more. owed-answer marks r (x ++ more) f n some (heads more).1);
        goes_on_lem = λ p q. absurd (let z = start.1 in omega arith);
      })

  writes-metadata : (id : Sized 16) (value : List ℕ) → is_accepted (act e peer (metadata id value)).answer ≡ true → Writes (metadata id value)
  unfolding act writing_metadata class_of type_of
  writes-metadata id value a =
      let x : List ℕ = metadata_message r id.0 value in
      let c : Contents = of_exchange (record { scheme = id.0; value = value }) in
      let w : WrittenAs =
      record { marks = r.marks; metadata = r.metadata + 2 ^ place (own_of r) id.0; requested = r.requested; attested = r.attested } in
      let rows : List Row = stage_rows r METADATA ++ then_fits (metadata_rows r id.0 (length value)) r d x in
      let action : Outcome = appended r d (place_after r METADATA) x w in
      let g = passed-by rows r d action refl a in
      let may : may_write r METADATA ≡ true =
      true-behind (limit_rows r) (row 18 (may_write r METADATA)) (then_fits (metadata_rows r id.0 (length value)) r d x) g in
      let allowed : metadata_allowed r id.0 ≡ true =
      true-behind (stage_rows r METADATA ++ (row 19 (leb 1 (length value)) ∷ [])) (row 15 (metadata_allowed r id.0))
      (fits r d (length x) ∷ []) g in
      let fit = true-behind (stage_rows r METADATA ++ metadata_rows r id.0 (length value)) (fits r d (length x)) [] g in
      let scheme : scheme_in x ≡ id.0 = scheme-exchange r METADATA id.0 value ok.talk id.1 in
      made (metadata id value) r METADATA c w (kind-type r.acceptor METADATA refl refl) refl refl refl id.1 fit
      (ap (said_as r METADATA) scheme ∙ told_is id.0 allowed) may refl refl (next-is rows action g)
      (λ h. record {
        begins = λ p. absurd (none p may);
        goes_on_lem = λ p q. refl;
      }) where
        told_is : (s : Id) → metadata_allowed r s ≡ true → said_as r METADATA s
            ≡ record { marks = r.marks; metadata = r.metadata + 2 ^ place (own_of r) s; requested = r.requested; attested = r.attested }
        told_is s h = rw (lt-ltb _ _ (place-own r s (allowed-own r s h))) (unfold with_bit in rw (allowed-untold r s h))

        none : r.position ≡ 0 → may_write r METADATA ≡ true → ⊥
        none p h =
            let z : not (eqb (after (writes r) 0 r.attested METADATA) 0) ≡ true =
            rw p at h in no-after (after (writes r) 0 r.attested METADATA) (no-metadata-first (writes r) r.attested) z

  writes-speech : (s : Speech) → is_accepted (act e peer (speak s)).answer ≡ true → Writes (speak s)
  unfolding act speaking
  writes-speech s a =
      let x : List ℕ = spoken r s in
      let id : Id = scheme_at r (scheme_now r) in
      let c : Contents = contents_in id s in
      let rows : List Row = stage_rows r (class_in s) ++ then_fits (named_rows r (speech_fits s)) r d x in
      let action : Outcome = appended r d (place_after r (class_in s)) x (spoken_as r s) in
      let g = passed-by rows r d action refl a in
      let may : may_write r (class_in s) ≡ true =
      true-behind (limit_rows r) (row 18 (may_write r (class_in s))) (then_fits (named_rows r (speech_fits s)) r d x) g in
      let allowed : scheme_allowed r ≡ true =
      true-behind (stage_rows r (class_in s) ++ (row 25 (speech_fits s) ∷ [])) (row 15 (scheme_allowed r)) (fits r d (length x) ∷ []) g in
      let fit = true-behind (stage_rows r (class_in s) ++ named_rows r (speech_fits s)) (fits r d (length x)) [] g in
      let whole : length id ≡ 16 = ok.ids (scheme_now r) (now-below r allowed) in
      made (speak s) r (class_in s) c (spoken_as r s) (kind-speech r.acceptor s) refl refl refl (whole-speech s id whole) fit
      (said-spoken r s (scheme_in x)) may refl refl (next-is rows action g)
      (λ h. record {
        begins = λ p.
            let later : writes r ≡ 2 = speech-first s (writes r) r.attested (rw p at may) in
            let no : may_choose r ≡ false = later-unchosen r.acceptor r.stage later in
            let f : eqb (writes r) FIRST ≡ false = rw later in
            let n : eqb (writes r) ANSWER ≡ false = rw later in
            (sym (begun-same marks r no n), λ more. owed_none marks r f n no (x ++ more));
        goes_on_lem = λ p q. refl;
      })

  writes-choice : (s : Speech) → is_accepted (act e peer (choose marks s)).answer ≡ true → Writes (choose marks s)
  unfolding act choosing
  writes-choice s a =
      let q : Record = chose r marks in
      let x : List ℕ = spoken q s in
      let id : Id = scheme_at q (scheme_now q) in
      let l : List Id = named (own_of r) (open_to r marks) in
      let action : Outcome = naming l (appended q d (place_after q (class_in s)) x (spoken_as q s)) in
      let g = passed-by (choice_table r d marks s) r d action refl a in
      let p = choice-passed r d marks s g in
      let role : r.acceptor ≡ false = not-true _ (and_l (not r.acceptor) (eqb r.stage 2) p.may) in
      let none : writes r ≡ 3 =
      choosing-none r.acceptor r.stage (and_l (not r.acceptor) (eqb r.stage 2) p.may)
      (and_r (not r.acceptor) (eqb r.stage 2) p.may) in
      let (l1, (l2, (l3, (l4, (l5, (l6, (l7, rest))))))) = ok.limits in
      let whole : length id ≡ 16 =
      ap (λ (k : ℕ). length (scheme_at q k)) (now-chosen r marks) ∙ ok.ids _ (chosen-below r marks (rw role at l7) p.left) in
      let f : eqb (writes r) FIRST ≡ false = rw none in
      let n : eqb (writes r) ANSWER ≡ false = rw none in
      made (choose marks s) q (class_in s) (contents_in id s) (spoken_as q s) (kind-speech r.acceptor s) refl refl refl (whole-speech s id whole)
      p.fitting (said-spoken q s (scheme_in x)) p.speaks refl refl (next-is (choice_table r d marks s) action g)
      (λ h. record {
        begins =
            λ z. (
              sym (begun-choice marks r p.may),
              λ more. owed-choice marks r (x ++ more) f n p.may p.left
                  (scheme-front x more h.long ∙ scheme-spoken q id s ok.talk whole ∙ scheme-chosen r marks p.left),
            );
        goes_on_lem = λ z y. absurd (y none);
      })

  -- whose call it is
  reply-role : (m : ℕ) (nego : NegoCall) → is_accepted (act e peer (reply m nego)).answer ≡ true → r.acceptor ≡ true
  unfolding act replying
  reply-role m nego a =
      let x : List ℕ = reply_message r m nego.0 in
      let rest : List Row =
      row 19 (below r.count m) ∷ (extension_rows nego.0 ++ (row 17 (some_left (left (own_of r) r.common m)) ∷ fits r d (length x) ∷ [])) in
      true-behind (stage_rows r NEGO) (row 18 r.acceptor) rest (passed-by (stage_rows r NEGO ++ (row 18 r.acceptor ∷ rest)) r d _ refl a)

  choice-role : (m : ℕ) (s : Speech) → is_accepted (act e peer (choose m s)).answer ≡ true → r.acceptor ≡ false
  unfolding act choosing
  choice-role m s a =
      not-true _ (and_l (not r.acceptor) (eqb r.stage 2) (choice-passed r d m s (passed-by (choice_table r d m s) r d _ refl a)).may)

  pub writes-call : (k : Call) → Marked r.acceptor marks k → (k ≡ read → ⊥) → is_accepted (act e peer k).answer ≡ true → Writes k
  writes-call (offer nego) m z a = writes-offer nego a
  writes-call (reply n nego) m z a =
      subst (λ (j : ℕ). is_accepted (act e peer (reply j nego)).answer ≡ true → Writes (reply j nego)) (sym (m (reply-role n nego a)))
      (writes-reply nego) a
  writes-call (metadata id value) m z a = writes-metadata id value a
  writes-call (speak s) m z a = writes-speech s a
  writes-call read m z a = absurd (z refl)
  writes-call (choose n s) m z a =
      subst (λ (j : ℕ). is_accepted (act e peer (choose j s)).answer ≡ true → Writes (choose j s)) (sym (m (choice-role n s a))) (writes-choice s) a
