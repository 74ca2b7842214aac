-- Demand 2's round trip for the calls: what an accepted writing call appended reads back, on every record.
-- Assumes nothing.
use Prim.Native.Nat.{ℕ, zero, suc, ◌+◌, ◌*◌, ◌%◌, ◌≤◌, ◌<◌}
use mathlib.Core.Path.{◌≡◌, refl, sym, ap, subst, ◌∙◌}
use mathlib.Core.Bool.{Bool, true, false, not}
use mathlib.Core.List.Memᴰ
use mathlib.Core.List.{List, [], ◌∷◌, ◌++◌, Memᴰ}
use mathlib.Core.Logic.{inl, inr}
use mathlib.Core.Option.{some, some-ne-none, some-injective}
use native.Mathlib.Omega.{arith}
use lib.ListN.{length, take, drop, length-drop}
use lib.Seq.{length-take-le}
use lib.Dec.{eqb, leb}
use borrow.Author.Tests.{leb-true, le-leb, eq-eqb, not-true}
use Rattle.octets.proofs.Bools.{and_i, and_l}
use Rattle.message.specs.Layout.{nego as nego-shape, shape_of, content_of}
use Rattle.message.specs.Check.{Row, critical_ok}
use Rattle.message.specs.Show.{ids_at}
use Rattle.message.proofs.Tables.{AllTrue, without}
use Rattle.message.proofs.Ids.{length_ids}
use Rattle.put.specs.Put.{put}
use Rattle.elements.specs.Elements.{items_fit, items_of, ordinary}
use Rattle.elements.proofs.Views.{handed, types-alone}
use Rattle.encode.specs.declared.Heading.{Heading}
use Rattle.encode.specs.Encode.{Whole, Contents, of_nego, of_exchange, of_verify, of_alert, size_of, has_kind, fits_fields, encodable, encoded, written, storing}
use Rattle.encode.proofs.Sizes.{length-encoded}
use Rattle.roundtrip.specs.ReadBack.{InRange, Sent, ReadsBack, Outgoing}
use Rattle.roundtrip.proofs.Arrays.{critical-read}
use Rattle.roundtrip.proofs.RoundTrip.{read-encode, stored-stands}
use Rattle.schemes.specs.Lists.{Id, join_ids}
use Rattle.schemes.specs.Sets.{left, named}
use Rattle.conversation.specs.declared.Record.{Record}
use Rattle.conversation.specs.State.{own_of, scheme_at, limit_rows}
use Rattle.conversation.specs.Turns.{NEGO, METADATA, type_of, place_after, may_write}
use Rattle.conversation.specs.Outcomes.{Outcome, decide, row, room, fits, appended}
use Rattle.conversation.specs.Writing.{nego_in, extension_rows, heading, message_of, stage_rows, then_fits, offer_rows, reply_rows, metadata_rows, named_rows, scheme_now, scheme_allowed, offering, replying, writing_metadata, speaking, Speech, request, checksum, alarm, class_in, speech_fits, contents_in, spoken, spoken_as, naming}
use Rattle.conversation.specs.Choosing.{open_to, chose, choosing}
use Rattle.conversation.specs.Runs.{NegoCall, Call, offer, reply, metadata, speak, read, choose, End, act, is_accepted}
use Rattle.conversation.specs.Claims.{Arrays, sent_by, ReadsAsSent, WrittenReads}
use Rattle.conversation.proofs.Rows.{accepted-out, true-behind, front-true, back-true}
use Rattle.conversation.proofs.Chosen.{choice_table, choice-passed}
use Rattle.conversation.proofs.Ends.{length-joined, left-sized, sized-at}
use Rattle.conversation.proofs.Inside.{now-below, limits-counts, limits-chose, chosen-allowed}

-- 1. a message that has passed 16 fits its fields

-- a scheme list is one of whole ids, and extensions and alerts keep their limits
abbrev pub WholeIds : Contents → Type 0
WholeIds (of_nego o) = (length o.schemes % 16 ≡ 0) × (items_fit o.extensions ≡ true)
WholeIds (of_exchange p) = Unit {0}
WholeIds (of_verify k) = Unit {0}
WholeIds (of_alert p) = items_fit p.alerts ≡ true

pub fields_fit : (c : Contents) → WholeIds c → size_of c ≤ 65535 → fits_fields c ≡ true
fields_fit (of_nego o) w h = simp (eq-eqb _ _ w.0, le-leb (length o.schemes) 1048560 (omega arith), w.1)
fields_fit (of_exchange p) w h = le-leb (length p.value) 4294967231 (omega arith)
fields_fit (of_verify k) w h = le-leb (length k.value) 4294967215 (omega arith)
fields_fit (of_alert p) w h = w

stored : (d : List ℕ) (at : ℕ) (h : Heading) (c : Contents) → encodable h c ≡ true → at + length (encoded h c) ≤ length d
    → storing d at h c ≡ written (at + length (encoded h c)) (put d at (encoded h c))
unfolding storing
stored d at h c can fit = rw (can, le-leb _ _ fit)

ids-sized : (n : ℕ) (a : List ℕ) → 16 * n ≤ length a → (s : Id) → Memᴰ s (ids_at n a) → length s ≡ 16
unfolding ids_at
ids-sized zero a h s m = absurd (Memᴰ.not-nil m)
ids-sized (suc n) a h s m = elim (Memᴰ.cases_cons m) [
  | inl e ↦ ap length e ∙ length-take-le 16 a (omega arith)
  | inr i ↦ ids-sized n (drop 16 a) (omega (arith, length-drop 16 a)) s i
]

either : (c : Contents) (kind : ℕ) (a : Bool) → has_kind c (type_of true kind) ≡ true → has_kind c (type_of false kind) ≡ true
    → has_kind c (type_of a kind) ≡ true
either c kind true e f = e
either c kind false e f = f

-- what is said is of its kind at both ends, and names one whole id
speech-kinds : (s : Speech) (id : Id)
    → (has_kind (contents_in id s) (type_of true (class_in s)) ≡ true) × (has_kind (contents_in id s) (type_of false (class_in s)) ≡ true)
unfolding type_of
speech-kinds (request value) id = (refl, refl)
speech-kinds (checksum type value) id = (refl, refl)
speech-kinds (alarm a) id = (refl, refl)

speech-whole : (s : Speech) (id : Id) → length id ≡ 16 → speech_fits s ≡ true → Whole (contents_in id s) × WholeIds (contents_in id s)
speech-whole (request value) id h f = (h, tt)
speech-whole (checksum type value) id h f = (h, tt)
speech-whole (alarm a) id h f = (h, (handed a.alerts a.values f).fit)

-- 2. one law for the six writers: what stands where the table passes reads back

module _ (r : Record) (d : List ℕ) (arrays : Arrays r) where
  -- a message that has room can be written, and reads back
  can-send : (kind : ℕ) (c : Contents) → has_kind c (type_of true kind) ≡ true → has_kind c (type_of false kind) ≡ true → AllTrue (limit_rows r) → Whole c
      → WholeIds c
      → leb (r.used + length (message_of r kind c)) (room d) ≡ true → Sent (heading r kind) c
  unfolding encodable
  can-send kind c of-acceptor of-initiator limits whole ids room-is =
      let n : length (message_of r kind c) ≡ size_of c = length-encoded (heading r kind) arrays.conversation c whole in
      let fit : r.used + length (message_of r kind c) ≤ room d = leb-true _ _ room-is in
      record {
        can = and_i (has_kind c (type_of r.acceptor kind)) (fits_fields c) (either c kind r.acceptor of-acceptor of-initiator)
            (fields_fit c ids (omega arith));
        number = omega (arith, (limits-counts r limits).1);
        id = arrays.conversation;
        whole = whole;
      }

  pub sent-reads : (kind : ℕ) (c : Contents) → has_kind c (type_of true kind) ≡ true → has_kind c (type_of false kind) ≡ true → InRange c
      → AllTrue (limit_rows r) → Whole c → WholeIds c
      → leb (r.used + length (message_of r kind c)) (room d) ≡ true → (rest : List ℕ) → ReadsBack (heading r kind) c rest
  sent-reads kind c of-acceptor of-initiator range limits whole ids room-is =
      read-encode (heading r kind) c (can-send kind c of-acceptor of-initiator limits whole ids room-is) range

  -- and, put at the transcript's end, stands there
  stands-sent : (kind : ℕ) (c : Contents) → has_kind c (type_of true kind) ≡ true → has_kind c (type_of false kind) ≡ true → InRange c
      → AllTrue (limit_rows r) → Whole c → WholeIds c
      → leb (r.used + length (message_of r kind c)) (room d) ≡ true
      → (o : Outcome) → o.answer.next.used ≡ r.used + length (message_of r kind c) → o.transcript ≡ put d r.used (message_of r kind c)
      → ReadsAsSent r d (record { heading = heading r kind; contents = c }) o
  stands-sent kind c of-acceptor of-initiator range limits whole ids room-is o used transcript =
      let h : Heading = heading r kind in
      let fit : r.used + length (message_of r kind c) ≤ room d = leb-true _ _ room-is in
      let can = (can-send kind c of-acceptor of-initiator limits whole ids room-is).can in
      record {
        stands =
            stored-stands d r.used h c o.answer.next.used o.transcript (rw (used, transcript) (stored d r.used h c can (omega arith)));
        reads = sent-reads kind c of-acceptor of-initiator range limits whole ids room-is;
      }

  pub sends : (kind : ℕ) (rows : List Row) (c : Contents) (action : Outcome)
      → without 0 (stage_rows r kind ++ then_fits rows r d (message_of r kind c)) ≡ true
      → has_kind c (type_of true kind) ≡ true → has_kind c (type_of false kind) ≡ true → InRange c
      → (AllTrue (limit_rows r) → AllTrue rows → Whole c × WholeIds c)
      → action.answer.next.used ≡ r.used + length (message_of r kind c) → action.transcript ≡ put d r.used (message_of r kind c)
      → is_accepted (decide (stage_rows r kind ++ then_fits rows r d (message_of r kind c)) r d action).answer ≡ true
      → ReadsAsSent r d (record { heading = heading r kind; contents = c })
      (decide (stage_rows r kind ++ then_fits rows r d (message_of r kind c)) r d action)
  sends kind rows c action z of-acceptor of-initiator range given used transcript =
      let m : List ℕ = message_of r kind c in
      let table : List Row = stage_rows r kind ++ then_fits rows r d m in
      accepted-out (ReadsAsSent r d (record { heading = heading r kind; contents = c })) table r d action z
      (λ g a.
      let limits : AllTrue (limit_rows r) = front-true (limit_rows r) (row 18 (may_write r kind) ∷ then_fits rows r d m) g in
      let v = given limits (front-true rows (fits r d (length m) ∷ []) (back-true (stage_rows r kind) (then_fits rows r d m) g)) in
      stands-sent kind c of-acceptor of-initiator range limits v.0 v.1
      (true-behind (stage_rows r kind ++ rows) (fits r d (length m)) [] g) action used transcript)

  -- the own ids have 16 octets
  own-sized : AllTrue (limit_rows r) → (s : Id) → Memᴰ s (own_of r) → length s ≡ 16
  own-sized limits =
      let (l1, (l2, rest)) = limits in
      let few : r.count ≤ 16 = leb-true _ _ l2 in
      ids-sized r.count r.list (omega (arith, arrays.list))

  now-sized : AllTrue (limit_rows r) → scheme_allowed r ≡ true → length (scheme_at r (scheme_now r)) ≡ 16
  now-sized limits allowed =
      let low : scheme_now r < r.count = now-below r allowed in
      sized-at (own_of r) (own-sized limits) (scheme_now r) (rw (length_ids r.count r.list) low)

  pub listed-whole : AllTrue (limit_rows r) → length (take (16 * r.count) r.list) % 16 ≡ 0
  listed-whole limits =
      let (l1, (l2, rest)) = limits in
      let few : r.count ≤ 16 = leb-true _ _ l2 in
      let n : length (take (16 * r.count) r.list) ≡ 16 * r.count = length-take-le (16 * r.count) r.list (omega (arith, arrays.list)) in
      omega arith

  pub left-whole : AllTrue (limit_rows r) → (m : ℕ) → length (join_ids (left (own_of r) r.common m)) % 16 ≡ 0
  left-whole limits m =
      let n = length-joined (left (own_of r) r.common m) (left-sized (own_of r) r.common m (own-sized limits)).0 in
      omega arith

-- a NEGO of a call that is no test has no critical extension
module _ (r : Record) (d : List ℕ) (arrays : Arrays r) (limits : AllTrue (limit_rows r)) (nego : NegoCall) (rows : AllTrue (extension_rows nego.0))
    (test : nego.0.test ≡ false) where
  abbrev contents : List ℕ → Contents
  contents schemes = nego_in nego.0 schemes

  nego-ordinary : ordinary (items_of nego.0.extensions nego.0.values) ≡ true
  nego-ordinary = sym (types-alone nego.0.extensions nego.0.values) ∙ rw test at rows.1.0

  pub plain-nego : (schemes : List ℕ) → length schemes % 16 ≡ 0 → leb (r.used + length (message_of r NEGO (contents schemes))) (room d) ≡ true
      → critical_ok (content_of (shape_of (type_of r.acceptor NEGO)) (message_of r NEGO (contents schemes))) ≡ true
  unfolding type_of shape_of
  plain-nego schemes ids fit =
      let q : ℕ = 96 + length schemes + 12 * length (items_of nego.0.extensions nego.0.values) in
      let read =
      sent-reads r d arrays NEGO (contents schemes) refl refl nego.1.types limits nego.1.random (ids, (handed _ _ rows.0).fit) fit [] in
      shaped r.acceptor (message_of r NEGO (contents schemes))
      (ap critical_ok read.content ∙ critical-read (items_of nego.0.extensions nego.0.values) q ∙ nego-ordinary)
    where
      shaped : (a : Bool) (m : List ℕ) → critical_ok (content_of nego-shape m) ≡ true → critical_ok (content_of (shape_of (type_of a NEGO)) m) ≡ true
      shaped true m e = e
      shaped false m e = e

-- 3. every call

module _ (e : End) (peer : List ℕ) (arrays : Arrays e.record_of) where
  abbrev r : Record
  r = e.record_of

  abbrev d : List ℕ
  d = e.transcript

  abbrev Reads : Call → Outgoing → Type 0
  Reads k m = InRange m.contents → is_accepted (act e peer k).answer ≡ true → ReadsAsSent r d m (act e peer k)

  said : (s : Speech) → Reads (speak s) (record { heading = heading r (class_in s); contents = contents_in (scheme_at r (scheme_now r)) s })
  unfolding act speaking
  said s = λ range.
      let c : Contents = contents_in (scheme_at r (scheme_now r)) s in
      let k = speech-kinds s (scheme_at r (scheme_now r)) in
      sends r d arrays (class_in s) (named_rows r (speech_fits s)) c _ refl k.0 k.1 range
      (λ l t. speech-whole s (scheme_at r (scheme_now r)) (now-sized r d arrays l t.1.0) t.0) refl refl

  -- a choosing call's message is written in the record after the choice
  chooses : (n : ℕ) (s : Speech)
      → Reads (choose n s) (record { heading = heading r (class_in s); contents = contents_in (scheme_at r (scheme_now (chose r n))) s })
  unfolding act choosing
  chooses n s = λ range.
      let q : Record = chose r n in
      let id : Id = scheme_at r (scheme_now q) in
      let table : List Row = choice_table r d n s in
      let action : Outcome = naming (named (own_of r) (open_to r n)) (appended q d (place_after q (class_in s)) (spoken q s) (spoken_as q s)) in
      let there : Arrays q = record { list = arrays.list; conversation = arrays.conversation } in
      accepted-out (ReadsAsSent r d (record { heading = heading r (class_in s); contents = contents_in id s })) table r d action refl
      (λ g a.
      let p = choice-passed r d n s g in
      let role : r.acceptor ≡ false = not-true _ (and_l (not r.acceptor) (eqb r.stage 2) p.may) in
      let (l1, (l2, (l3, (l4, (l5, (l6, (l7, rest))))))) = p.limits in
      let then : AllTrue (limit_rows q) = limits-chose r p.limits n role p.marks in
      let w = speech-whole s id (now-sized q d there then (chosen-allowed r n (rw role at l7) p.left)) p.keeps in
      let k = speech-kinds s id in
      let x = stands-sent q d there (class_in s) (contents_in id s) k.0 k.1 range then w.0 w.1 p.fitting action refl refl in
      record { stands = x.stands; reads = x.reads })

  sent : (k : Call) (m : Outgoing) → sent_by r k ≡ some m → Reads k m
  unfolding act offering replying writing_metadata type_of
  sent (offer nego) m is = subst (Reads (offer nego)) (some-injective _ _ is)
      (λ range. sends r d arrays NEGO (offer_rows r nego.0) (nego_in nego.0 (take (16 * r.count) r.list)) _ refl refl refl range
      (λ l t. (nego.1.random, (listed-whole r d arrays l, (handed _ _ t.1.0).fit))) refl refl)
  sent (reply m nego) o is = subst (Reads (reply m nego)) (some-injective _ _ is)
      (λ range. sends r d arrays NEGO (reply_rows r m nego.0) (nego_in nego.0 (join_ids (left (own_of r) r.common m))) _ refl refl refl range
      (λ l t. (nego.1.random, (left-whole r d arrays l m, (handed _ _ t.1.1.0).fit))) refl refl)
  sent (metadata id value) m is = subst (Reads (metadata id value)) (some-injective _ _ is)
      (λ range. sends r d arrays METADATA (metadata_rows r id.0 (length value))
      (of_exchange (record { scheme = id.0; value = value })) _ refl refl refl range
      (λ l t. (id.1, tt)) refl refl)
  sent (speak s) m is = subst (Reads (speak s)) (some-injective _ _ is) (said s)
  sent read m is = absurd (some-ne-none m (sym is))
  sent (choose n s) m is = subst (Reads (choose n s)) (some-injective _ _ is) (chooses n s)

pub written-reads : WrittenReads
written-reads e peer k m arrays is range accepted = sent e peer arrays k m is range accepted
