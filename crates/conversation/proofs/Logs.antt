-- What holds of both ends in every run: records inside their limits, used and sequence counted by the messages read and written, and logs in step.
-- Assumes nothing.
use Prim.Native.Nat.{ℕ, ◌+◌, ◌-◌, ◌*◌, ◌^◌, ◌/◌, ◌≤◌, ◌<◌}
use mathlib.Core.Path.{◌≡◌, refl, sym, ap, subst, ◌∙◌}
use mathlib.Core.Bool.{Bool, true, false, cond, not, ◌&&◌, ◌||◌}
use mathlib.Core.Logic.{inl, inr}
use mathlib.Core.List.Memᴰ
use mathlib.Core.List.{List, [], ◌∷◌, ◌++◌, Memᴰ, append_assoc, append-nil}
use native.Mathlib.Omega.{arith}
use lib.ListN.{length, take, drop, get_or, replicate, length-append, length-replicate, length-take, length-drop}
use lib.Seq.{take_at, length-take-le}
use lib.Pow.{pow_pos}
use lib.Dec.{eqb, leb}
use borrow.Author.Tests.{leb-true, lt-ltb, ne_eqb, not-true}
use Rattle.octets.proofs.Bools.{which, and_l, and_r}
use Rattle.message.specs.Layout.{shape_of, content_of}
use Rattle.message.specs.Check.{Row, FirstFails, critical_ok}
use Rattle.message.proofs.Tables.{AllTrue, without, fails-other}
use Rattle.token.specs.Split.{join}
use Rattle.token.proofs.Joins.{join-append}
use Rattle.put.specs.Put.{put}
use Rattle.encode.specs.Encode.{Whole, Contents, of_exchange}
use Rattle.schemes.specs.Lists.{Id, distinct, one_to16, join_ids, place}
use Rattle.schemes.specs.Sets.{left, named, below, kept_below}
use Rattle.conversation.specs.declared.Record.{Record}
use Rattle.conversation.specs.declared.Scan.{Scan}
use Rattle.conversation.specs.State.{own_of, scheme_at, limit_rows, fresh}
use Rattle.conversation.specs.Turns.{FIRST, NEGO, METADATA, type_of, reads, place_after, may_read}
use Rattle.conversation.specs.Outcomes.{Outcome, zero_id, refused, closed_by, decide, row, room, fits, WrittenAs, unchanged, wrote, appended}
use Rattle.conversation.specs.Writing.{nego_in, extension_rows, offered, heading, message_of, stage_rows, then_fits, offer_rows, offering, some_left, reply_message, naming, replying, metadata_allowed, metadata_message, metadata_rows, writing_metadata, scheme_now, scheme_allowed, named_rows, speaking, spoken, Speech, request, checksum, alarm, class_in, speech_fits, contents_in, spoken_as}
use Rattle.conversation.specs.Reading.{conversation_of, start_of, Judged, whole, halted, chain_for, judged, taken, finish, reading_token}
use Rattle.conversation.specs.Choosing.{open_to, chose, choosing}
use Rattle.conversation.specs.Runs.{Sized, NegoCall, Call, offer, reply, metadata, speak, read, choose, End, act, turn_after, moved, Opening, World, world, outcome_at, next, ends, Entry, run}
use Rattle.conversation.specs.Logs.{messages_in, added, logged, Logs, next_logs, logs_after, Counted, InStep, EveryRun}
use Rattle.conversation.specs.Claims.{Arrays, is_test, NoTest, TwelveNeverRun}
use Rattle.conversation.proofs.Decides.{all_first}
use Rattle.conversation.proofs.Rows.{decide-out, back-true, true-behind}
use Rattle.conversation.proofs.Chosen.{choice_table, choice-passed}
use Rattle.conversation.proofs.Tokens.{judged-first, judged-number}
use Rattle.conversation.proofs.Ends.{ok-distinct, each-whole, sized-at, own-opened, count-joined, length-joined}
use Rattle.conversation.proofs.Sends.{listed-whole, left-whole, plain-nego}
use Rattle.conversation.proofs.Inside.{told_below, ChosenBelow, admit-chosen, limits-wrote, limits-taken, limits-chose, limits-counts, now-below, chosen-below, now-chosen}
use Rattle.conversation.proofs.Messages.{FramedFrom, Framed, framed-more, framed-behind, framed-long, framed-order, join_one, same-messages, same_start, Plain, AllPlain, plain_more, plain-behind, written-framed, written-plain, plain-kind, Not12, turn-12, judge-keeps, Taken, token-taken}

-- 1. the invariant of an end

pub record Sound (r : Record) (d : List ℕ) (log : List (List ℕ)) : Type 0 where
  pub limits : AllTrue (limit_rows r)
  pub ids : (k : ℕ) → k < r.count → length (scheme_at r k) ≡ 16
  pub talk : length r.conversation ≡ 16
  pub list : length r.list ≡ 256
  framed : FramedFrom 0 log
  used : r.used ≡ length (join log)
  sequence : r.sequence ≡ length log
  transcript : take r.used d ≡ join log

-- the transcript's end
room-kept : (used n : ℕ) (d : List ℕ) → leb (used + n) (room d) ≡ true → (used + n ≤ length d) × (used + n ≤ 65535)
room-kept used n d h = let w : used + n ≤ room d = leb-true _ _ h in (omega arith, omega arith)

pub put-end : (d : List ℕ) (used : ℕ) (x : List ℕ) → used ≤ length d → take (used + length x) (put d used x) ≡ take used d ++ x
unfolding put
put-end d used x h =
    let n : length (take used d ++ x) ≡ used + length x = length-append (take used d) x ∙ ap (λ (k : ℕ). k + length x) (length-take-le used d h) in
    take_at (take used d ++ x) (drop (used + length x) d) (used + length x) n

small : (b : Bool) {x y : ℕ} → x ≤ 7 → y ≤ 7 → cond b x y ≤ 7
small true h g = h
small false h g = g

pub type-known : (a : Bool) (kind : ℕ) → type_of a kind ≤ 7
unfolding type_of
type-known true kind =
    small (eqb kind 1) (omega arith)
    (small (eqb kind 2) (omega arith) (small (eqb kind 3) (omega arith) (small (eqb kind 4) (omega arith) (omega arith))))
type-known false kind =
    small (eqb kind 1) (omega arith)
    (small (eqb kind 2) (omega arith) (small (eqb kind 3) (omega arith) (small (eqb kind 4) (omega arith) (omega arith))))

-- what is said names one scheme, and leaves marks and metadata as they were
pub whole-speech : (s : Speech) (id : List ℕ) → length id ≡ 16 → Whole (contents_in id s)
whole-speech (request value) id h = h
whole-speech (checksum type value) id h = h
whole-speech (alarm a) id h = h

spoken-marks : (r : Record) (s : Speech) → ((spoken_as r s).marks ≡ r.marks) × ((spoken_as r s).metadata ≡ r.metadata)
spoken-marks r (request value) = (refl, refl)
spoken-marks r (checksum type value) = (refl, refl)
spoken-marks r (alarm a) = (refl, refl)

-- and is no NEGO
speech-plain : (s : Speech) → eqb (class_in s) NEGO ≡ false
speech-plain (request value) = refl
speech-plain (checksum type value) = refl
speech-plain (alarm a) = refl

-- a message to write has no critical extension
abbrev PlainAs : Record → ℕ → Contents → Type 0
PlainAs r kind c = critical_ok (content_of (shape_of (type_of r.acceptor kind)) (message_of r kind c)) ≡ true

-- a message, written in any record inside its limits that counts its log: `said` is the end's turn so far
module _ (r : Record) (d said : List ℕ) (le lf : List (List ℕ)) (ok : Sound r d le) (here : InStep said le lf) where
  used-inside : r.used ≤ length d
  used-inside = let a = ok.used in let b = ap length ok.transcript in omega (arith, length-take r.used d)

  record Wrote (position : ℕ) (x : List ℕ) (w : WrittenAs) : Type 0 where
    sound : Sound (wrote r position (length x) w) (put d r.used x) (le ++ (x ∷ []))
    turn : InStep (said ++ x) (le ++ (x ∷ [])) lf

  -- the message that is written
  record Written (kind : ℕ) (c : Contents) : Type 0 where
    framed : Framed r.sequence (message_of r kind c)
    plain : PlainAs r kind c → Plain (message_of r kind c)

  message-written : (kind : ℕ) (c : Contents) → Whole c → leb (r.used + length (message_of r kind c)) (room d) ≡ true → Written kind c
  message-written kind c ids fit =
      let (inside, short) = room-kept r.used (length (message_of r kind c)) d fit in
      let (few, numbers) = limits-counts r ok.limits in
      record {
        framed = written-framed (heading r kind) c (type-known r.acceptor kind) (omega arith) ok.talk ids (omega arith);
        plain = written-plain (heading r kind) c (type-known r.acceptor kind) (omega arith) ok.talk ids (omega arith);
      }

  writes-message : (kind position : ℕ) (c : Contents) (w : WrittenAs) → Whole c → below r.count w.marks ≡ true
      → below r.count w.metadata ≡ true → leb (r.used + length (message_of r kind c)) (room d) ≡ true → Wrote position (message_of r kind c) w
  writes-message kind position c w ids marks told fit =
      let x : List ℕ = message_of r kind c in
      let (inside, short) = room-kept r.used (length x) d fit in
      let a : Framed r.sequence x = (message-written kind c ids fit).framed in
      let u = ok.used in
      let q : r.sequence ≡ 0 + length le = let s = ok.sequence in omega arith in
      let n = length-append (join le) x in
      let m = ap length (join_one le x) in
      record {
        sound = record {
          limits = limits-wrote r ok.limits position (length x) w marks told a.long short;
          ids = ok.ids;
          talk = ok.talk;
          list = ok.list;
          framed = framed-more 0 le (x ∷ []) ok.framed (subst (λ (k : ℕ). Framed k x) q a, tt);
          used = omega arith;
          sequence = let z = length-append le (x ∷ []) in omega arith;
          transcript = put-end d r.used x used-inside ∙ ap (λ (l : List ℕ). l ++ x) ok.transcript ∙ sym (join_one le x);
        };
        turn = record {
          shared = here.shared;
          own = here.own ++ (x ∷ []);
          beyond = here.beyond;
          parts = ap (λ (l : List (List ℕ)). l ++ (x ∷ [])) here.parts ∙ append_assoc here.shared here.own (x ∷ []);
          written = join_one here.own x ∙ ap (λ (l : List ℕ). l ++ x) here.written;
          begins = here.begins;
        };
      }

-- 2. a call at the end e, beside the end f

module _ (e f : End) (le lf : List (List ℕ)) (ok : Sound e.record_of e.transcript le) (ok' : Sound f.record_of f.transcript lf)
    (here : InStep e.turn le lf) (there : InStep f.turn lf le) where
  abbrev r : Record
  r = e.record_of

  abbrev d : List ℕ
  d = e.transcript

  record Goal (k : Call) (out : Outcome) : Type 0 where
    sound : Sound out.answer.next out.transcript (logged e f.turn k out le)
    here-then : InStep (moved e k out).turn (logged e f.turn k out le) lf
    there-then : InStep f.turn lf (logged e f.turn k out le)
    plain : is_test k ≡ false → AllPlain le → AllPlain (logged e f.turn k out le)
    unclosed : AllPlain lf → Not12 out.answer.refusal

  stays : (k : Call) (n p : ℕ) → (n ≡ 0 → ⊥) → Not12 n → Goal k (refused r d n p)
  stays k n p z w =
      record {
        sound = rw (ne_eqb n 0 z) ok;
        here-then = rw (ne_eqb n 0 z) here;
        there-then = rw (ne_eqb n 0 z) there;
        plain = λ t p. rw (ne_eqb n 0 z) p;
        unclosed = λ p. w;
      }

  stopped : (k : Call) (rows : List Row) → without 0 rows ≡ true → without 12 rows ≡ true → (n : ℕ) → FirstFails n rows → Goal k (refused r d n 0)
  stopped k rows z w n g = stays k n 0 (fails-other 0 rows n z g) (fails-other 12 rows n w g)

  -- the other end's log begins as before
  more-there : (ms : List (List ℕ)) → InStep f.turn lf (le ++ ms)
  more-there ms = record {
    shared = there.shared;
    own = there.own;
    beyond = there.beyond ++ ms;
    parts = there.parts;
    written = there.written;
    begins = ap (λ (l : List (List ℕ)). l ++ ms) there.begins ∙ append_assoc there.shared there.beyond ms;
  }

  -- what a writer's table has to give
  record Given (k : Call) (kind : ℕ) (c : Contents) (w : WrittenAs) : Type 0 where
    whole : Whole c
    marks : below r.count w.marks ≡ true
    metadata : below r.count w.metadata ≡ true
    plain : is_test k ≡ false → PlainAs r kind c

  -- the log after a message that is written
  more-plain : (kind : ℕ) (c : Contents) → Whole c → leb (r.used + length (message_of r kind c)) (room d) ≡ true → PlainAs r kind c → AllPlain le
      → AllPlain (le ++ (message_of r kind c ∷ []))
  more-plain kind c ids fit p u = plain_more le (message_of r kind c ∷ []) u ((message-written r d e.turn le lf ok here kind c ids fit).plain p, tt)

  writes-call : (k : Call) (kind : ℕ) (rows : List Row) (c : Contents) (w : WrittenAs)
      → added e f.turn k ≡ message_of r kind c ∷ [] → turn_after e k ≡ e.turn ++ message_of r kind c
      → without 0 (stage_rows r kind ++ then_fits rows r d (message_of r kind c)) ≡ true
      → without 12 (stage_rows r kind ++ then_fits rows r d (message_of r kind c)) ≡ true
      → (AllTrue (stage_rows r kind ++ then_fits rows r d (message_of r kind c)) → Given k kind c w)
      → Goal k (decide (stage_rows r kind ++ then_fits rows r d (message_of r kind c)) r d (appended r d (place_after r kind) (message_of r kind c) w))
  writes-call k kind rows c w adds turns z y given =
      let table : List Row = stage_rows r kind ++ then_fits rows r d (message_of r kind c) in
      decide-out (Goal k) table r d (appended r d (place_after r kind) (message_of r kind c) w) (stopped k table z y)
      (λ g.
      let v = given g in
      let fit = true-behind (stage_rows r kind ++ rows) (fits r d (length (message_of r kind c))) [] g in
      let a = writes-message r d e.turn le lf ok here kind (place_after r kind) c w v.whole v.marks v.metadata fit in
      record {
        sound = rw adds a.sound;
        here-then = rw (adds, turns) a.turn;
        there-then = rw adds (more-there (message_of r kind c ∷ []));
        plain = λ t u. rw adds (more-plain kind c v.whole fit (v.plain t) u);
        unclosed = λ p q. omega arith;
      })

  -- marks and metadata as they were
  marks-here : below r.count r.marks ≡ true
  marks-here = let (l1, (l2, (l3, (l4, rest)))) = ok.limits in l4

  told_here : below r.count r.metadata ≡ true
  told_here = let (l1, (l2, (l3, (l4, (l5, (l6, rest)))))) = ok.limits in l6

  arrays-here : Arrays r
  arrays-here = record { list = ok.list; conversation = ok.talk }

  offers : (nego : NegoCall) → Goal (offer nego) (offering r d nego.0)
  unfolding offering
  offers nego =
      writes-call (offer nego) NEGO (offer_rows r nego.0) (nego_in nego.0 (take (16 * r.count) r.list)) (unchanged r) refl refl refl refl
      (λ g.
      let more : List Row = then_fits (offer_rows r nego.0) r d (offered r nego.0) in
      let (is-initiator, (x25, (x26, (fit, end)))) = back-true (stage_rows r NEGO) more g in
      record {
        whole = nego.1.random;
        marks = marks-here;
        metadata = told_here;
        plain = λ t. plain-nego r d (arrays-here) ok.limits nego (x25, (x26, tt)) t _ (listed-whole r d arrays-here ok.limits) fit;
      })

  replies : (m : ℕ) (nego : NegoCall) → Goal (reply m nego) (replying r d m nego.0)
  unfolding replying
  replies m nego =
      let l : List Id = left (own_of r) r.common m in
      let x : List ℕ = reply_message r m nego.0 in
      let w : WrittenAs = record { marks = m; metadata = r.metadata; requested = r.requested; attested = r.attested } in
      let before : List Row = stage_rows r NEGO ++ (row 18 r.acceptor ∷ []) in
      let last : List Row = extension_rows nego.0 ++ (row 17 (some_left l) ∷ fits r d (length x) ∷ []) in
      decide-out (Goal (reply m nego)) (before ++ (row 19 (below r.count m) ∷ last)) r d (naming l (appended r d (place_after r NEGO) x w))
      (stopped (reply m nego) (before ++ (row 19 (below r.count m) ∷ last)) refl refl)
      (λ g.
      let (marks, (x25, (x26, (some_left_lem, (fit, end))))) = back-true before (row 19 (below r.count m) ∷ last) g in
      let c : Contents = nego_in nego.0 (join_ids l) in
      let a = writes-message r d e.turn le lf ok here NEGO (place_after r NEGO) c w nego.1.random marks told_here fit in
      record {
        sound = a.sound;
        here-then = a.turn;
        there-then = more-there (x ∷ []);
        plain =
            λ t u. more-plain NEGO c nego.1.random fit
            (plain-nego r d arrays-here ok.limits nego (x25, (x26, tt)) t (join_ids l) (left-whole r d arrays-here ok.limits m) fit) u;
        unclosed = λ p q. omega arith;
      })

  tells : (id : Sized 16) (value : List ℕ) → Goal (metadata id value) (writing_metadata r d id.0 value)
  unfolding writing_metadata
  tells id value =
      writes-call (metadata id value) METADATA (metadata_rows r id.0 (length value)) (of_exchange (record { scheme = id.0; value = value }))
      (record { marks = r.marks; metadata = r.metadata + 2 ^ place (own_of r) id.0; requested = r.requested; attested = r.attested }) refl refl
      refl refl
      (λ g. record {
        whole = id.1;
        marks = marks-here;
        metadata =
            told_below r id.0
            (true-behind (stage_rows r METADATA ++ (row 19 (leb 1 (length value)) ∷ [])) (row 15 (metadata_allowed r id.0))
            (fits r d (length (metadata_message r id.0 value)) ∷ []) g) told_here;
        plain = λ t. plain-kind r.acceptor METADATA _ refl;
      })

  -- the rule's scheme has 16 octets
  now-whole : (kind : ℕ) (fit : Bool) (more : List Row) → AllTrue (stage_rows r kind ++ (row 25 fit ∷ row 15 (scheme_allowed r) ∷ more))
      → length (scheme_at r (scheme_now r)) ≡ 16
  now-whole kind fit more g =
      ok.ids (scheme_now r) (now-below r (true-behind (stage_rows r kind ++ (row 25 fit ∷ [])) (row 15 (scheme_allowed r)) more g))

  speaks : (s : Speech) → Goal (speak s) (speaking r d s)
  unfolding speaking
  speaks s =
      writes-call (speak s) (class_in s) (named_rows r (speech_fits s)) (contents_in (scheme_at r (scheme_now r)) s) (spoken_as r s) refl refl refl refl
      (λ g. record {
        whole = whole-speech s (scheme_at r (scheme_now r)) (now-whole (class_in s) (speech_fits s) (fits r d (length (spoken r s)) ∷ []) g);
        marks = subst (λ (m : ℕ). below r.count m ≡ true) (sym (spoken-marks r s).0) marks-here;
        metadata = subst (λ (m : ℕ). below r.count m ≡ true) (sym (spoken-marks r s).1) told_here;
        plain = λ t. plain-kind r.acceptor (class_in s) _ (speech-plain s);
      })

  -- 3. a token, read

  abbrev t : List ℕ
  t = f.turn

  abbrev ms : List (List ℕ)
  ms = messages_in (chain_for r t)

  -- the token is the other end's turn, and starts where both logs end
  all_there : (n : ℕ) → Taken r t n → lf ≡ le ++ ms
  all_there n k =
      let own : FramedFrom (0 + length there.shared) there.own =
      framed-behind 0 there.shared there.own (subst (FramedFrom 0) there.parts ok'.framed) in
      let joins : join ms ≡ join there.own = k.joins ∙ sym there.written in
      let some : 0 < length (join there.own) = subst (λ (l : List ℕ). 0 < length l) (sym there.written) k.some in
      let start : r.sequence ≡ 0 + length there.shared = same_start r.sequence _ ms there.own k.framed own joins some in
      let same : ms ≡ there.own = same-messages r.sequence (0 + length there.shared) ms there.own k.framed own joins in
      let none : there.beyond ≡ [] =
      empty there.beyond
      (let a = ok.sequence in let b = ap length there.begins in omega (arith, length-append there.shared there.beyond)) in
      let all : le ≡ there.shared = there.begins ∙ ap (λ (l : List (List ℕ)). there.shared ++ l) none ∙ append-nil there.shared in
      there.parts ∙ ap (λ (l : List (List ℕ)). l ++ there.own) (sym all) ∙ ap (λ (l : List (List ℕ)). le ++ l) (sym same) where
        empty : (l : List (List ℕ)) → length l ≡ 0 → l ≡ []
        empty [] h = refl
        empty (x ∷ l) h = absurd (omega arith)

  talk-then : (n : ℕ) (c : Scan) → judged r t ≡ whole n c → length (conversation_of r t) ≡ 16
  unfolding conversation_of
  talk-then n c w = elim (which (eqb (reads r) FIRST)) [
    | inl h ↦ rw h (simp (length-take, length-drop) (omega (arith, (judged-first r t n c w).forty)))
    | inr h ↦ rw h ok.talk
  ]

  chosen-then : (n : ℕ) (c : Scan) → judged r t ≡ whole n c → ChosenBelow r c.chosen
  unfolding judged
  chosen-then n c w =
      let (l1, (l2, (l3, (l4, (l5, (l6, (l7, (l8, rest)))))))) = ok.limits in
      judge-keeps (λ s. ChosenBelow r s.chosen) r t (λ a b m p h. admit-chosen r t a b m p h) 0 (start_of r) (chain_for r t) n c l8 w

  reads-token : (n : ℕ) (c : Scan) → judged r t ≡ whole n c → leb (r.used + length t) (room d) ≡ true
      → Sound (taken r t n c) (put d r.used t) (le ++ ms)
  reads-token n c w fit =
      let k = token-taken r t n c w in
      let (inside, short) = room-kept r.used (length t) d fit in
      let count = k.count in
      let sizes : length (join ms) ≡ length t = ap length k.joins in
      let long : 64 * n ≤ length t = omega (arith, framed-long r.sequence ms k.framed) in
      let u = ok.used in
      let q : r.sequence ≡ 0 + length le = let s = ok.sequence in omega arith in
      record {
        limits = limits-taken r ok.limits t n c (chosen-then n c w) long short;
        ids = ok.ids;
        talk = talk-then n c w;
        list = ok.list;
        framed = framed-more 0 le ms ok.framed (subst (λ (j : ℕ). FramedFrom j ms) q k.framed);
        used = let z = length-append (join le) (join ms) in let y = ap length (join-append le ms) in omega arith;
        sequence = let z = length-append le ms in omega arith;
        transcript =
            put-end d r.used t (used-inside r d e.turn le lf ok here) ∙ ap (λ (l : List ℕ). l ++ t) ok.transcript
            ∙ ap (λ (l : List ℕ). join le ++ l) (sym k.joins) ∙ sym (join-append le ms);
      }

  -- after it, the two logs are the same
  read_here : (n : ℕ) (c : Scan) → judged r t ≡ whole n c → InStep [] (le ++ ms) lf
  read_here n c w = record {
    shared = le ++ ms;
    own = [];
    beyond = [];
    parts = sym (append-nil (le ++ ms));
    written = refl;
    begins = all_there n (token-taken r t n c w) ∙ sym (append-nil (le ++ ms));
  }

  -- no limit looks at the stage
  shut-sound : (n : ℕ) → Sound (closed_by n r) d le
  shut-sound n = elim (which (eqb n 12)) [
    | inl h ↦ rw h
        (record {
          limits = ok.limits;
          ids = ok.ids;
          talk = ok.talk;
          list = ok.list;
          framed = ok.framed;
          used = ok.used;
          sequence = ok.sequence;
          transcript = ok.transcript;
        })
    | inr h ↦ rw h ok
  ]

  reading-call : Goal read (reading_token r d t)
  unfolding reading_token
  reading-call =
      let rows : List Row = limit_rows r ++ (row 18 (may_read r) ∷ row 1 (leb (length t) 65535) ∷ []) in
      decide-out (Goal read) rows r d (finish r d t (judged r t))
      (stopped read rows refl refl)
      (λ g. token (judged r t) refl) where
        token : (j : Judged) → judged r t ≡ j → Goal read (finish r d t j)
        token (halted n p) w = unfold finish in (
            let y = ne_eqb n 0 (judged-number r t n p w).0 in
            record {
              sound = rw y (shut-sound n);
              here-then = rw y here;
              there-then = rw y there;
              plain = λ x u. rw y u;
              unclosed =
                  λ u. turn-12 r t (0 + length there.shared) there.own
                  (framed-behind 0 there.shared there.own (subst (FramedFrom 0) there.parts ok'.framed))
                  (plain-behind there.shared there.own (subst AllPlain there.parts u)) there.written n p w;
            })
        token (whole n c) w = unfold finish in elim (which (leb (r.used + length t) (room d))) [
          | inr b ↦ rw b (stays read 16 0 (λ z. omega arith) (λ z. omega arith))
          | inl b ↦ rw b
              (record {
                sound = reads-token n c w b;
                here-then = read_here n c w;
                there-then = more-there ms;
                plain = λ x u. plain_more le ms u (token-taken r t n c w).plain;
                unclosed = λ u z. omega arith;
              })
        ]

  -- 4. the choice

  chooses : (m : ℕ) (s : Speech) → Goal (choose m s) (choosing r d m s)
  unfolding choosing
  chooses m s =
      let q : Record = chose r m in
      let x : List ℕ = spoken q s in
      decide-out (Goal (choose m s)) (choice_table r d m s) r d
      (naming (named (own_of r) (open_to r m)) (appended q d (place_after q (class_in s)) x (spoken_as q s)))
      (stopped (choose m s) (choice_table r d m s) refl refl)
      (λ g.
      let p = choice-passed r d m s g in
      let role : r.acceptor ≡ false = not-true _ (and_l (not r.acceptor) (eqb r.stage 2) p.may) in
      let (l1, (l2, (l3, (l4, (l5, (l6, (l7, rest))))))) = ok.limits in
      let whole : length (scheme_at q (scheme_now q)) ≡ 16 =
      ap (λ (k : ℕ). length (scheme_at q k)) (now-chosen r m) ∙ ok.ids _ (chosen-below r m (rw role at l7) p.left) in
      let between : Sound q d le = record {
        limits = limits-chose r ok.limits m role p.marks;
        ids = ok.ids;
        talk = ok.talk;
        list = ok.list;
        framed = ok.framed;
        used = ok.used;
        sequence = ok.sequence;
        transcript = ok.transcript;
      } in
      let c : Contents = contents_in (scheme_at q (scheme_now q)) s in
      let a = writes-message q d e.turn le lf between here (class_in s) (place_after q (class_in s)) c (spoken_as q s)
      (whole-speech s _ whole) (rw (spoken-marks q s).0 p.marks) (rw (spoken-marks q s).1 told_here) p.fitting in
      record {
        sound = a.sound;
        here-then = a.turn;
        there-then = more-there (x ∷ []);
        plain =
            λ t u. plain_more le (x ∷ []) u (
              (message-written q d e.turn le lf between here (class_in s) c (whole-speech s _ whole) p.fitting).plain
                  (plain-kind q.acceptor (class_in s) _ (speech-plain s)),
              tt,
            );
        unclosed = λ u z. omega arith;
      })

  goal : (k : Call) → Goal k (act e f.turn k)
  unfolding act
  goal (offer nego) = offers nego
  goal (reply m nego) = replies m nego
  goal (metadata id value) = tells id value
  goal (speak s) = speaks s
  goal read = reading-call
  goal (choose m s) = chooses m s

-- 5. a run

pub record Both (w : World) (l : Logs) : Type 0 where
  pub i : Sound w.i.record_of w.i.transcript l.i
  pub a : Sound w.a.record_of w.a.transcript l.a
  i-steps : InStep w.i.turn l.i l.a
  a-steps : InStep w.a.turn l.a l.i

-- one call: both ends, and where it is no test their logs stay without a critical extension, so that it is not refused with 12
record Next (w : World) (l : Logs) (x : Bool) (k : Call) : Type 0 where
  both : Both (next w x k) (next_logs w x k l)
  plain : is_test k ≡ false → AllPlain l.i → AllPlain l.a → AllPlain (next_logs w x k l).i × AllPlain (next_logs w x k l).a
  unclosed : AllPlain l.i → AllPlain l.a → Not12 (outcome_at w x k).answer.refusal

goes_on_lem : (w : World) (l : Logs) → Both w l → (x : Bool) (k : Call) → Next w l x k
goes_on_lem w l b false k =
    let g = goal w.i w.a l.i l.a b.i b.a b.i-steps b.a-steps k in
    record {
      both = record { i = g.sound; a = b.a; i-steps = g.here-then; a-steps = g.there-then };
      plain = λ t u v. (g.plain t u, v);
      unclosed = λ u v. g.unclosed v;
    }
goes_on_lem w l b true k =
    let g = goal w.a w.i l.a l.i b.a b.i b.a-steps b.i-steps k in
    record {
      both = record { i = b.i; a = g.sound; i-steps = g.there-then; a-steps = g.here-then };
      plain = λ t u v. (u, g.plain t v);
      unclosed = λ u v. g.unclosed u;
    }

pub both-next : (w : World) (l : Logs) → Both w l → (x : Bool) (k : Call) → Both (next w x k) (next_logs w x k l)
both-next w l b x k = (goes_on_lem w l b x k).both

both_behind : (w : World) (l : Logs) → Both w l → (cs : List (Bool × Call)) → Both (ends w cs) (logs_after w l cs)
both_behind w l b [] = b
both_behind w l b (c ∷ cs) = both_behind (next w c.0 c.1) (next_logs w c.0 c.1 l) (both-next w l b c.0 c.1) cs

run-12 : (w : World) (l : Logs) → Both w l → AllPlain l.i → AllPlain l.a → (cs : List (Bool × Call)) → NoTest cs → (x : Entry)
    → Memᴰ x (run w cs) → Not12 x.said.refusal
run-12 w l b u v [] t x m = absurd (Memᴰ.not-nil m)
run-12 w l b u v (c ∷ cs) t x m =
    let n = goes_on_lem w l b c.0 c.1 in
    let p = n.plain (t c.0 c.1 (Memᴰ.head refl)) u v in
    elim (Memᴰ.cases_cons m) [
      | inl e ↦ subst (λ (y : Entry). Not12 y.said.refusal) (sym e) (n.unclosed u v)
      | inr i ↦ run-12 (next w c.0 c.1) (next_logs w c.0 c.1 l) n.both p.0 p.1 cs (λ y k h. t y k (Memᴰ.tail h)) x i
    ]

-- a fresh record
sound-fresh : (a : Bool) (l : List Id) (v d : List ℕ) → ((s : Id) → Memᴰ s l → length s ≡ 16) → one_to16 l ≡ true → length v ≡ 16
    → Sound (fresh a (join_ids l) v) d []
unfolding kept_below
sound-fresh a l v d sized ok talk =
    let n = count-joined l sized in
    let own = own-opened a l v sized in
    let few = and_l (leb 1 (length l) && leb (length l) 16) (distinct l) ok in
    record {
      limits = (
        ap (leb 1) n ∙ and_l (leb 1 (length l)) (leb (length l) 16) few,
        (
          ap (λ (k : ℕ). leb k 16) n ∙ and_r (leb 1 (length l)) (leb (length l) 16) few,
          (
            ap distinct own ∙ ok-distinct l ok,
            (none, (none, (none, (kept a, (refl, (refl, (refl, (refl, tt)))))))),
          ),
        ),
      );
      ids = λ k low. ap (λ (i : List Id). length (get_or i k [])) own ∙ sized-at l sized k (subst (λ (j : ℕ). k < j) n low);
      talk = talk;
      list = length-append (join_ids l) (replicate (256 - length (join_ids l)) 0)
          ∙ rw (length-replicate {A = ℕ} (256 - length (join_ids l)) 0)
          (let k = leb-true (length l) 16 (and_r (leb 1 (length l)) (leb (length l) 16) few) in omega (arith, length-joined l sized));
      framed = tt;
      used = refl;
      sequence = refl;
      transcript = refl;
    } where
      none : below (length (join_ids l) / 16) 0 ≡ true
      none = lt-ltb 0 (2 ^ (length (join_ids l) / 16)) (pow_pos (length (join_ids l) / 16))

      kept : (b : Bool) → (b || kept_below (length (join_ids l) / 16) (fresh a (join_ids l) v).kept 0) ≡ true
      kept true = refl
      kept false = refl

counted : (r : Record) (d : List ℕ) (log : List (List ℕ)) → Sound r d log → Counted r d log
counted r d log s = record {
  inside = all_first (limit_rows r) s.limits;
  used = s.used;
  sequence = s.sequence;
  next_number = (limits-counts r s.limits).1;
  numbers = framed-order 0 log s.framed;
  transcript = s.transcript;
}

pub both-opened : (o : Opening) → Both (world o) (record { i = []; a = [] })
both-opened o = record {
  i = sound-fresh false o.initiator o.conversation.0 o.initiator_buffer (each-whole o.initiator o.initiator_whole) o.initiator_ok
      o.conversation.1;
  a = sound-fresh true o.acceptor zero_id o.acceptor_buffer (each-whole o.acceptor o.acceptor_whole) o.acceptor_ok refl;
  i-steps = record { shared = []; own = []; beyond = []; parts = refl; written = refl; begins = refl };
  a-steps = record { shared = []; own = []; beyond = []; parts = refl; written = refl; begins = refl };
}

pub every-run : EveryRun
every-run o cs =
    let b = both_behind (world o) (record { i = []; a = [] }) (both-opened o) cs in
    record { initiator = counted _ _ _ b.i; acceptor = counted _ _ _ b.a; initiator_in_step = b.i-steps; acceptor_in_step = b.a-steps }

pub twelve-never-run : TwelveNeverRun
twelve-never-run o cs t x m = run-12 (world o) (record { i = []; a = [] }) (both-opened o) tt tt cs t x m
