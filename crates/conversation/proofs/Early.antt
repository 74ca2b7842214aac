-- Calls that write a VERIFY for a scheme: after one there is no other, at either end.
-- Assumes nothing.
use Prim.Native.Nat.{ℕ, zero, suc, ◌+◌, ◌^◌, ◌≤◌, ◌<◌}
use mathlib.Core.Path.{◌≡◌, refl, sym, ap, subst, ◌∙◌}
use mathlib.Core.Bool.{Bool, true, false, cond, not, ◌&&◌}
use mathlib.Core.Logic.{◌⊎◌, inl, inr}
use mathlib.Core.List.{List, [], ◌∷◌, ◌++◌}
use native.Mathlib.Omega.{arith}
use lib.ListN.{length, get_or}
use lib.Dec.{eqb, leb, ltb}
use lib.IntN.{ℤ}
use borrow.Author.Tests.{eqb-true, eqb-false, eq-eqb, ne_eqb, leb-true, not-true}
use Rattle.octets.specs.Octets.{same_octets}
use Rattle.octets.proofs.Bools.{which, no_true, both, and_l, and_r}
use Rattle.octets.proofs.Same.{same-eq, same_refl}
use Rattle.message.specs.Layout.{head_of}
use Rattle.message.specs.Check.{Row}
use Rattle.message.proofs.Tables.{AllTrue, without, fails-other}
use Rattle.token.specs.Token.{passes, Chain, end, refused as cut_at, message, chain_of}
use Rattle.schemes.specs.Lists.{Id, mem, place, distinct}
use Rattle.schemes.proofs.Replies.{get_or-place}
use Rattle.conversation.specs.declared.Record.{Record}
use Rattle.conversation.specs.declared.Answer.{Answer}
use Rattle.conversation.specs.declared.Scan.{Scan}
use Rattle.conversation.specs.State.{NONE, own_of, scheme_at, limit_rows}
use Rattle.conversation.specs.Turns.{FURTHER, NEGO, METADATA, EXCHANGE, VERIFY, ALERT, writing, reading, class_of, after_opening, after, writes, reads, place_after, may_write}
use Rattle.conversation.specs.Outcomes.{Outcome, refused, closed_by, decide, row, room, fits, WrittenAs, unchanged, wrote}
use Rattle.conversation.specs.Writing.{stage_rows, then_fits, offered, offer_rows, offering, reply_message, reply_rows, replying, metadata_message, metadata_rows, writing_metadata, scheme_now, scheme_allowed, named_rows, Speech, request, checksum, alarm, class_in, speech_fits, spoken, requested_by, spoken_as, speaking}
use Rattle.conversation.specs.Admitting.{scheme_in, is_at, further_fits, scheme_fits, confirmed_for, passed, Admitted, on, stop, admit}
use Rattle.conversation.specs.Reading.{conversation_of, start_of, Judged, whole, halted, judge, chain_for, judged, taken, finish, token_rows, reading_token}
use Rattle.conversation.specs.Choosing.{open_to, first_place, chose, choice_rows, choosing}
use Rattle.conversation.specs.Runs.{Sized, NegoCall, Call, offer, reply, metadata, speak, read, choose, End, act, Opening, World, world, outcome_at, next, ends, is_accepted}
use Rattle.conversation.specs.Claims.{record_at}
use Rattle.conversation.proofs.Rows.{decide-out, true-behind, front-true}
use Rattle.conversation.proofs.Chosen.{choice_table, choice-passed}
use Rattle.conversation.proofs.Tokens.{not-stop, judged-number}
use Rattle.conversation.proofs.Goals.{none_written, no-after}
use Rattle.conversation.proofs.Messages.{judge-keeps}
use Rattle.conversation.proofs.Inside.{mem-at, own-length, place-own, further-mem, further-kind, now-below, now-chosen, chosen-below}

-- 1. places and schemes of a list

distinct-at : (l : List Id) (j k : ℕ) → distinct l ≡ true → j < length l → k < length l → get_or l j [] ≡ get_or l k [] → j ≡ k
unfolding distinct
distinct-at [] j k d a b e = absurd (omega arith)
distinct-at (x ∷ l) zero zero d a b e = refl
distinct-at (x ∷ l) zero (suc k) d a b e =
    no_true (let m : mem x l ≡ true = mem-at x l k (omega arith) (subst (λ (y : Id). same_octets x y ≡ true) e (same_refl x)) in rw m at d)
distinct-at (x ∷ l) (suc j) zero d a b e =
    no_true (let m : mem x l ≡ true = mem-at x l j (omega arith) (subst (λ (y : Id). same_octets x y ≡ true) (sym e) (same_refl x)) in rw m at d)
distinct-at (x ∷ l) (suc j) (suc k) d a b e = ap suc (distinct-at l j k (and_r (not (mem x l)) (distinct l) d) (omega arith) (omega arith) e)

module _ (r : Record) (limits : AllTrue (limit_rows r)) where
  -- two places of one scheme are one
  pub same_place : (j k : ℕ) → j < r.count → k < r.count → scheme_at r j ≡ scheme_at r k → j ≡ k
  same_place j k a b e =
      let (l1, (l2, (l3, rest))) = limits in
      distinct-at (own_of r) j k l3 (subst (λ (n : ℕ). j < n) (sym (own-length r)) a) (subst (λ (n : ℕ). k < n) (sym (own-length r)) b) e

-- 2. a later token: its messages are all for one scheme of the list, and if one was chosen, for that

module _ (r : Record) (t : List ℕ) (f : eqb (reads r) FURTHER ≡ true) where
  -- a message that is let through names the chosen scheme, which is one of the list
  record Fits (c d : Scan) : Type 0 where
    low : d.chosen < r.count
    fits : further_fits r c.chosen (scheme_at r d.chosen) ≡ true

  admit-fits : (c d : Scan) (m : List ℕ) → admit r t c m ≡ on d → Fits c d
  unfolding admit passed scheme_fits
  admit-fits c d m e =
      let kind : ℕ = class_of (not r.acceptor) (head_of m).kind in
      let a = not-stop (not (eqb (after (reads r) c.position (confirmed_for r c (scheme_in m)) kind) 0)) 14 _ d e in
      let b = not-stop (scheme_fits r t c kind (scheme_in m)) 15 _ d a.1 in
      let is : passed r c kind (after (reads r) c.position (confirmed_for r c (scheme_in m)) kind) (scheme_in m) ≡ d = cc in
      let k = further-kind r (reads r) c.position (confirmed_for r c (scheme_in m)) kind f a.0 in
      let g : further_fits r c.chosen (scheme_in m) ≡ true = rw (k.0, k.1, f) at b.0 in
      let own : mem (scheme_in m) (own_of r) ≡ true = further-mem r c.chosen (scheme_in m) g in
      let at : place (own_of r) (scheme_in m) ≡ d.chosen = sym (rw f) ∙ ap (λ (s : Scan). s.chosen) is in
      record {
        low = subst (λ (n : ℕ). n < r.count) at (place-own r (scheme_in m) own);
        fits = subst (λ (s : Id). further_fits r c.chosen s ≡ true) (sym (get_or-place (own_of r) (scheme_in m) own) ∙ ap (scheme_at r) at) g;
      }

  abbrev Some : Chain → Type 0
  Some end = ⊥
  Some (cut_at number place) = Unit {0}
  Some (message m ms) = Unit {0}

  judge-low : (n : ℕ) (c : Scan) (ch : Chain) (k : ℕ) (d : Scan) → Some ch → judge r t n c ch ≡ whole k d → d.chosen < r.count
  unfolding judge
  judge-low n c end k d s e = absurd s
  judge-low n c (cut_at m a) k d s e = let z : ◌≡◌ {A = ℕ} 0 1 = cc in absurd (omega arith)
  judge-low n c (message m ms) k d s e = go (admit r t c m.octets) refl where
    go : (a : Admitted) → admit r t c m.octets ≡ a → d.chosen < r.count
    go (on c') is =
        judge-keeps (λ x. x.chosen < r.count) r t (λ x y o p h. (admit-fits x y o h).low) (n + 1) c' ms k d (admit-fits c c' m.octets is).low
        (rw is at e)
    go (stop j) is = let w : halted j m.place ≡ whole k d = rw is at e in let z : ◌≡◌ {A = ℕ} 0 1 = cc in absurd (omega arith)

  chain-some : (xs : List ℕ) → Some (chain_for r xs)
  unfolding chain_of
  chain-some [] = tt
  chain-some (x ∷ xs) =
      let some : length (x ∷ xs) ≡ 0 → ⊥ = λ z. omega arith in
      rw (ne_eqb _ _ some) (elim (which (passes (x ∷ xs) r.sequence (conversation_of r (x ∷ xs)))) [ inl p ↦ rw p tt | inr p ↦ rw p tt ])

  pub judged-low : (n : ℕ) (c : Scan) → judged r t ≡ whole n c → c.chosen < r.count
  unfolding judged
  judged-low n c e = judge-low 0 (start_of r) (chain_for r t) n c (chain-some t) e

  -- where one was chosen, it stays
  module _ (limits : AllTrue (limit_rows r)) (low : r.chosen < r.count) where
    record Kept (c : Scan) : Type 0 where
      low' : c.chosen < r.count
      same : scheme_at r c.chosen ≡ scheme_at r r.chosen

    kept_on : (c d : Scan) (m : List ℕ) → Kept c → admit r t c m ≡ on d → Kept d
    kept_on c d m k e =
        let a = admit-fits c d m e in
        let (l1, (l2, rest)) = limits in
        let few : r.count ≤ 16 = leb-true _ _ l2 in
        let some : c.chosen ≡ NONE → ⊥ = λ z. (let h = k.low' in omega arith) in
        let g : is_at r c.chosen (scheme_at r d.chosen) ≡ true = rw (ne_eqb _ _ some) at a.fits in
        record {
          low' = a.low;
          same = same-eq _ _ (and_r (ltb c.chosen r.count) (same_octets (scheme_at r d.chosen) (scheme_at r c.chosen)) g) ∙ k.same;
        }

    pub judged-kept : (n : ℕ) (c : Scan) → judged r t ≡ whole n c → scheme_at r c.chosen ≡ scheme_at r r.chosen
    unfolding judged
    judged-kept n c e = (judge-keeps Kept r t kept_on 0 (start_of r) (chain_for r t) n c (record { low' = low; same = refl }) e).same

-- the AP_REQUEST that the record keeps is another after the first token alone
pub judged-requested : (r : Record) (t : List ℕ) (n : ℕ) (c : Scan) → eqb (reads r) 0 ≡ false → judged r t ≡ whole n c → c.requested ≡ r.requested
unfolding judged
judged-requested r t n c f e = judge-keeps (λ x. x.requested ≡ r.requested) r t step 0 (start_of r) (chain_for r t) n c refl e where
  step : (x y : Scan) (m : List ℕ) → x.requested ≡ r.requested → admit r t x m ≡ on y → y.requested ≡ r.requested
  step x y m p h = unfold admit passed in (
      let kind : ℕ = class_of (not r.acceptor) (head_of m).kind in
      let a = not-stop (not (eqb (after (reads r) x.position (confirmed_for r x (scheme_in m)) kind) 0)) 14 _ y h in
      let b = not-stop (scheme_fits r t x kind (scheme_in m)) 15 _ y a.1 in
      let is : passed r x kind (after (reads r) x.position (confirmed_for r x (scheme_in m)) kind) (scheme_in m) ≡ y = cc in
      let none : eqb kind EXCHANGE && eqb (reads r) 0 ≡ false = rw f (and_none (eqb kind EXCHANGE)) in
      sym (ap (λ (s : Scan). s.requested) is) ∙ (rw none p)) where
        and_none : (b : Bool) → b && false ≡ false
        and_none true = refl
        and_none false = refl

-- 3. the places of a VERIFY, and the stages in which one is written

nego-low : (p : ℕ) (v : Bool) → after 0 p v NEGO ≤ 1
unfolding after after_opening
nego-low p v = elim (which (eqb p 0)) [ inl e ↦ rw e (omega arith) | inr e ↦ rw e (omega arith) ]

metadata-low : (p : ℕ) (v : Bool) → after 0 p v METADATA ≤ 1
unfolding after after_opening
metadata-low p v = elim (which (eqb p 1)) [ inl e ↦ rw e (omega arith) | inr e ↦ rw e (omega arith) ]

alert-none : (p : ℕ) (v : Bool) → after 0 p v ALERT ≡ 0
unfolding after after_opening
alert-none p v = refl

-- a VERIFY stands directly behind the exchange, in the first token
pub verify-at : (p : ℕ) (v : Bool) → not (eqb (after 0 p v VERIFY) 0) ≡ true → p ≡ 2
unfolding after after_opening
verify-at p true h = no_true h
verify-at p false h = elim (which (eqb p 2)) [ inl e ↦ eqb-true _ _ e | inr e ↦ no_true (rw e at h) ]

pub writes-some : (r : Record) (kind : ℕ) → may_write r kind ≡ true → writes r ≡ 3 → ⊥
writes-some r kind h z =
    no-after _ (none_written r.position r.attested kind) (subst (λ (k : ℕ). not (eqb (after k r.position r.attested kind) 0) ≡ true) z h)

pub acceptor-stage : (st : ℕ) → (writing true st ≡ 3 → ⊥) → (st ≡ 1) ⊎ (st ≡ 3)
unfolding writing
acceptor-stage st h = elim (which (eqb st 1)) [
  | inl a ↦ inl (eqb-true _ _ a)
  | inr a ↦ elim (which (eqb st 3)) [ inl b ↦ inr (eqb-true _ _ b) | inr b ↦ absurd (h (rw (a, b))) ]
]

pub initiator-stage : (st : ℕ) → (writing false st ≡ 3 → ⊥) → (st ≡ 0) ⊎ (st ≡ 3)
unfolding writing
initiator-stage st h = elim (which (eqb st 0)) [
  | inl a ↦ inl (eqb-true _ _ a)
  | inr a ↦ elim (which (eqb st 3)) [ inl b ↦ inr (eqb-true _ _ b) | inr b ↦ absurd (h (rw (a, b))) ]
]

-- the rule's scheme, by the stage
pub later-now : (r : Record) → r.stage ≡ 3 → scheme_now r ≡ r.chosen
unfolding scheme_now writing
later-now r st = go r.acceptor where
  go : (a : Bool) → cond (eqb (writing a r.stage) 0) 0 (cond (eqb (writing a r.stage) 1) r.requested r.chosen) ≡ r.chosen
  go true = rw st
  go false = rw st

pub reply-now : (r : Record) → r.acceptor ≡ true → r.stage ≡ 1 → scheme_now r ≡ r.requested
unfolding scheme_now writing
reply-now r e st = rw (e, st)

pub first-now : (r : Record) → r.acceptor ≡ false → r.stage ≡ 0 → scheme_now r ≡ 0
unfolding scheme_now writing
first-now r e st = rw (e, st)

pub later-reads : (r : Record) → r.stage ≡ 3 → reads r ≡ 2
unfolding reading
later-reads r st = go r.acceptor where
  go : (a : Bool) → reading a r.stage ≡ 2
  go true = rw st
  go false = rw st

closed-reads : (r : Record) → r.stage ≡ 4 → reads r ≡ 3
unfolding reading
closed-reads r st = go r.acceptor where
  go : (a : Bool) → reading a r.stage ≡ 3
  go true = rw st
  go false = rw st

closed-writes : (r : Record) → r.stage ≡ 4 → writes r ≡ 3
unfolding writing
closed-writes r st = go r.acceptor where
  go : (a : Bool) → writing a r.stage ≡ 3
  go true = rw st
  go false = rw st

still-attested : (q : Record) (s : Speech) → q.attested ≡ true → (spoken_as q s).attested ≡ true
still-attested q (request value) h = h
still-attested q (checksum type value) h = refl
still-attested q (alarm code) h = h

-- an end that has written its VERIFY writes none
attested-bars : (r : Record) → may_write r VERIFY ≡ true → r.attested ≡ true → ⊥
unfolding after
attested-bars r h v = no_true (rw v at h)

-- 4. when no VERIFY for a scheme can be written any more

-- the content is a VERIFY's
abbrev pub is_checksum : Speech → Bool
is_checksum (request value) = false
is_checksum (checksum type value) = true
is_checksum (alarm code) = false

-- the call k in the record r writes a VERIFY for the scheme id
abbrev pub verifies : Id → Record → Call → Bool
verifies id r (offer nego) = false
verifies id r (reply m nego) = false
verifies id r (metadata scheme value) = false
verifies id r (speak s) = is_checksum s && same_octets id (scheme_at r (scheme_now r))
verifies id r read = false
verifies id r (choose m s) = is_checksum s && same_octets id (scheme_at (chose r m) (scheme_now (chose r m)))

abbrev pub same_end : Bool → Bool → Bool
same_end true y = y
same_end false y = not y

-- how many of the accepted calls at the end x do
abbrev pub verify_count : World → Bool → Id → List (Bool × Call) → ℕ
verify_count w x id [] = 0
verify_count w x id (c ∷ cs) =
    cond (same_end x c.0 && (is_accepted (outcome_at w c.0 c.1).answer && verifies id (record_at c.0 w) c.1))
    (suc (verify_count (next w c.0 c.1) x id cs)) (verify_count (next w c.0 c.1) x id cs)

-- the choice is a place of the list; the initiator's first token has its AP_REQUEST before its VERIFY
pub record Inv (r : Record) : Type 0 where
  pub low : r.stage ≡ 3 → r.chosen < r.count
  pub first : r.acceptor ≡ false → r.stage ≡ 0 → 2 ≤ r.position → r.requested ≡ 0

-- before the choice, in the stages in which an end that has written an early VERIFY can be
abbrev pub EarlyStage : Bool → ℕ → Type 0
EarlyStage true st = st ≡ 1
EarlyStage false st = (st ≡ 0) ⊎ (st ≡ 2)

module _ (id : Id) where
  pub record Early (r : Record) : Type 0 where
    pub early : EarlyStage r.acceptor r.stage
    spent : r.attested ≡ true
    requested-low : r.requested < r.count
    zero-requested : r.acceptor ≡ false → r.requested ≡ 0
    is : id ≡ scheme_at r r.requested

  abbrev pub Gone : Record → Type 0
  Gone r = Early r ⊎ (((r.stage ≡ 3) × ((r.attested ≡ true) ⊎ (id ≡ scheme_at r r.chosen → ⊥))) ⊎ (r.stage ≡ 4))

  record Step (r : Record) (k : Call) (a : Answer) : Type 0 where
    inv : Inv a.next
    stays : Gone r → Gone a.next
    spends : is_accepted a ≡ true → verifies id r k ≡ true → (Gone r → ⊥) × Gone a.next

  module _ (r : Record) (d : List ℕ) (ok : Inv r) where
    refusal : (k : Call) (n p : ℕ) → (n ≡ 0 → ⊥) → Step r k (refused r d n p).answer
    refusal k n p z = record { inv = ok; stays = λ g. g; spends = λ a v. no_true (sym (ne_eqb n 0 z) ∙ a) }

    step_by : (k : Call) (rows : List Row) (action : Outcome) → without 0 rows ≡ true → (AllTrue rows → Step r k action.answer)
        → Step r k (decide rows r d action).answer
    step_by k rows action z h = decide-out (λ out. Step r k out.answer) rows r d action (λ n g. refusal k n 0 (fails-other 0 rows n z g)) h

    wrote-stays : (position n : ℕ) (w : WrittenAs) → (r.attested ≡ true → w.attested ≡ true) → (Early r → w.requested ≡ r.requested) → Gone r
        → Gone (wrote r position n w)
    wrote-stays position n w hv ha (inl e) = inl (record {
      early = e.early;
      spent = hv e.spent;
      requested-low = subst (λ (k : ℕ). k < r.count) (sym (ha e)) e.requested-low;
      zero-requested = λ z. ha e ∙ e.zero-requested z;
      is = e.is ∙ ap (scheme_at r) (sym (ha e));
    })
    wrote-stays position n w hv ha (inr (inl s)) = inr (inl (s.0, elim s.1 [ inl v ↦ inl (hv v) | inr f ↦ inr f ]))
    wrote-stays position n w hv ha (inr (inr s)) = inr (inr s)

    -- a NEGO or metadata
    quiet : (kind n : ℕ) (w : WrittenAs) → ((p : ℕ) (v : Bool) → after 0 p v kind ≤ 1) → w.attested ≡ r.attested → w.requested ≡ r.requested
        → Inv (wrote r (place_after r kind) n w) × (Gone r → Gone (wrote r (place_after r kind) n w))
    unfolding writing
    quiet kind n w low hv ha = (
      record {
        low = ok.low;
        first =
            λ e st h. absurd
            (let h' : 2 ≤ after 0 r.position r.attested kind = rw (e, st) at h in let l = low r.position r.attested in omega arith);
      },
      wrote-stays (place_after r kind) n w (λ v. hv ∙ v) (λ e. ha),
    )

    requested-early : Early r → requested_by r ≡ r.requested
    unfolding writing
    requested-early e = go r.acceptor refl e.early where
      go : (a : Bool) → r.acceptor ≡ a → EarlyStage a r.stage → requested_by r ≡ r.requested
      go true q st = rw (q, st)
      go false q (inl st) = rw (q, st) (sym (e.zero-requested q))
      go false q (inr st) = rw (q, st)

    speech-requested : (s : Speech) → Early r → (spoken_as r s).requested ≡ r.requested
    speech-requested (request value) e = requested-early e
    speech-requested (checksum type value) e = refl
    speech-requested (alarm code) e = refl

    speech-first : (s : Speech) → r.acceptor ≡ false → r.stage ≡ 0 → 2 ≤ place_after r (class_in s) → (spoken_as r s).requested ≡ 0
    unfolding writing
    speech-first (request value) e st h = rw (e, st)
    speech-first (checksum type value) e st h =
        let h' : 2 ≤ after 0 r.position r.attested VERIFY = rw (e, st) at h in
        let z : after 0 r.position r.attested VERIFY ≡ 0 → ⊥ = λ q. omega arith in
        let p : r.position ≡ 2 = verify-at r.position r.attested (rw (ne_eqb _ _ z)) in
        ok.first e st (omega arith)
    speech-first (alarm code) e st h =
        let h' : 2 ≤ after 0 r.position r.attested ALERT = rw (e, st) at h in absurd (omega (arith, alert-none r.position r.attested))

    -- a VERIFY by its writer
    module _ (type : ℤ) (value : List ℕ) (position n : ℕ) (may : may_write r VERIFY ≡ true) (allowed : scheme_allowed r ≡ true)
        (is : id ≡ scheme_at r (scheme_now r)) where
      not-gone : Gone r → ⊥
      not-gone (inl e) = attested-bars r may e.spent
      not-gone (inr (inl s)) = elim s.1 [ inl v ↦ attested-bars r may v | inr f ↦ f (is ∙ ap (scheme_at r) (later-now r s.0)) ]
      not-gone (inr (inr s)) = writes-some r VERIFY may (closed-writes r s)

      abbrev then-record : Record
      then-record = wrote r position n (spoken_as r (checksum type value))

      late : r.stage ≡ 3 → Gone then-record
      late st = inr (inl (st, inl refl))

      then-gone : (a : Bool) → r.acceptor ≡ a → Gone then-record
      unfolding writing
      then-gone true q = elim (acceptor-stage r.stage (λ z. writes-some r VERIFY may (ap (λ (a : Bool). writing a r.stage) q ∙ z))) [
        | inr st ↦ late st
        | inl st ↦ inl (record {
          early = subst (λ (a : Bool). EarlyStage a r.stage) (sym q) st;
          spent = refl;
          requested-low = subst (λ (k : ℕ). k < r.count) (reply-now r q st) (now-below r allowed);
          zero-requested = λ z. no_true (sym z ∙ q);
          is = is ∙ ap (scheme_at r) (reply-now r q st);
        })
      ]
      then-gone false q = elim (initiator-stage r.stage (λ z. writes-some r VERIFY may (ap (λ (a : Bool). writing a r.stage) q ∙ z))) [
        | inr st ↦ late st
        | inl st ↦
            let p : r.position ≡ 2 = verify-at r.position r.attested (rw (q, st) at may) in
            let zero : r.requested ≡ 0 = ok.first q st (omega arith) in
            let now : scheme_now r ≡ r.requested = first-now r q st ∙ sym zero in
            inl (record {
              early = subst (λ (a : Bool). EarlyStage a r.stage) (sym q) (inl st);
              spent = refl;
              requested-low = subst (λ (k : ℕ). k < r.count) now (now-below r allowed);
              zero-requested = λ z. zero;
              is = is ∙ ap (scheme_at r) now;
            })
      ]

    speech-spends : (s : Speech) (position n : ℕ) → may_write r (class_in s) ≡ true → scheme_allowed r ≡ true
        → is_checksum s && same_octets id (scheme_at r (scheme_now r)) ≡ true → (Gone r → ⊥) × Gone (wrote r position n (spoken_as r s))
    speech-spends (request value) position n may allowed v = no_true v
    speech-spends (alarm code) position n may allowed v = no_true v
    speech-spends (checksum type value) position n may allowed v =
        let is : id ≡ scheme_at r (scheme_now r) = same-eq _ _ v in
        (not-gone type value position n may allowed is, then-gone type value position n may allowed is r.acceptor refl)

    speaks : (s : Speech) → Step r (speak s) (speaking r d s).answer
    unfolding speaking
    speaks s =
        let rest : List Row = then_fits (named_rows r (speech_fits s)) r d (spoken r s) in
        step_by (speak s) (stage_rows r (class_in s) ++ rest) _ refl
        (λ g. record {
          inv = record { low = ok.low; first = speech-first s };
          stays = wrote-stays (place_after r (class_in s)) (length (spoken r s)) (spoken_as r s) (still-attested r s) (speech-requested s);
          spends =
              λ a v. speech-spends s (place_after r (class_in s)) (length (spoken r s))
              (true-behind (limit_rows r) (row 18 (may_write r (class_in s))) rest g)
              (true-behind (stage_rows r (class_in s) ++ (row 25 (speech_fits s) ∷ [])) (row 15 (scheme_allowed r))
              (fits r d (length (spoken r s)) ∷ []) g) v;
        })

    offers : (nego : NegoCall) → Step r (offer nego) (offering r d nego.0).answer
    unfolding offering
    offers nego =
        step_by (offer nego) (stage_rows r NEGO ++ then_fits (offer_rows r nego.0) r d (offered r nego.0)) _ refl
        (λ g. let q = quiet NEGO (length (offered r nego.0)) (unchanged r) nego-low refl refl in
        record { inv = q.0; stays = q.1; spends = λ a v. no_true v })

    replies : (m : ℕ) (nego : NegoCall) → Step r (reply m nego) (replying r d m nego.0).answer
    unfolding replying
    replies m nego =
        step_by (reply m nego) (stage_rows r NEGO ++ then_fits (reply_rows r m nego.0) r d (reply_message r m nego.0)) _ refl
        (λ g.
        let w : WrittenAs = record { marks = m; metadata = r.metadata; requested = r.requested; attested = r.attested } in
        let q =
        quiet NEGO (length (reply_message r m nego.0)) w nego-low refl refl in record { inv = q.0; stays = q.1; spends = λ a v. no_true v })

    tells : (scheme : Sized 16) (value : List ℕ) → Step r (metadata scheme value) (writing_metadata r d scheme.0 value).answer
    unfolding writing_metadata
    tells scheme value =
        step_by (metadata scheme value)
        (stage_rows r METADATA ++ then_fits (metadata_rows r scheme.0 (length value)) r d (metadata_message r scheme.0 value)) _ refl
        (λ g.
        let w : WrittenAs =
        record { marks = r.marks; metadata = r.metadata + 2 ^ place (own_of r) scheme.0; requested = r.requested; attested = r.attested } in
        let q =
        quiet METADATA (length (metadata_message r scheme.0 value)) w metadata-low refl refl in
        record { inv = q.0; stays = q.1; spends = λ a v. no_true v })

    -- the choice: an early VERIFY is spent where it is for the chosen place, and else for another scheme
    module _ (m : ℕ) (limits : AllTrue (limit_rows r)) (at : r.stage ≡ 2) (low : first_place (open_to r m) < r.count) where
      chose-stays : (s : Speech) (position n : ℕ) → Gone r → Gone (wrote (chose r m) position n (spoken_as (chose r m) s))
      chose-stays s position n (inr (inl z)) = absurd (let y = z.0 in omega arith)
      chose-stays s position n (inr (inr z)) = absurd (omega arith)
      chose-stays s position n (inl e) = inr (inl (
        refl,
        elim (which (eqb (first_place (open_to r m)) r.requested)) [
          | inl h ↦ inl (still-attested (chose r m) s (rw (e.spent, h)))
          | inr h ↦ inr (λ q. eqb-false _ _ h (same_place r limits _ _ low e.requested-low (sym q ∙ e.is)))
        ],
      ))

      chose-spends : (s : Speech) (position n : ℕ) → may_write (chose r m) (class_in s) ≡ true
          → is_checksum s && same_octets id (scheme_at (chose r m) (scheme_now (chose r m))) ≡ true
          → (Gone r → ⊥) × Gone (wrote (chose r m) position n (spoken_as (chose r m) s))
      chose-spends (request value) position n may v = no_true v
      chose-spends (alarm code) position n may v = no_true v
      chose-spends (checksum type value) position n may v = (not_yet, inr (inl (refl, inl refl))) where
        not_yet : Gone r → ⊥
        not_yet (inr (inl z)) = let y = z.0 in omega arith
        not_yet (inr (inr z)) = omega arith
        not_yet (inl e) = elim (which (eqb (first_place (open_to r m)) r.requested)) [
          | inl h ↦ attested-bars (chose r m) may (rw (e.spent, h))
          | inr h ↦ eqb-false _ _ h (same_place r limits _ _ low e.requested-low (sym (same-eq _ _ v ∙ ap (scheme_at r) (now-chosen r m)) ∙ e.is))
        ]

    chooses : (m : ℕ) (s : Speech) → Step r (choose m s) (choosing r d m s).answer
    unfolding choosing
    chooses m s =
        step_by (choose m s) (choice_table r d m s) _ refl
        (λ g.
        let p = choice-passed r d m s g in
        let limits : AllTrue (limit_rows r) =
        front-true (limit_rows r) (then_fits (choice_rows r m (speech_fits s) (class_in s)) (chose r m) d (spoken (chose r m) s)) g in
        let role : r.acceptor ≡ false = not-true _ (and_l (not r.acceptor) (eqb r.stage 2) p.may) in
        let at : r.stage ≡ 2 = eqb-true _ _ (and_r (not r.acceptor) (eqb r.stage 2) p.may) in
        let (l1, (l2, (l3, (l4, (l5, (l6, (l7, rest))))))) = limits in
        let low : first_place (open_to r m) < r.count = chosen-below r m (rw role at l7) p.left in
        record {
          inv = record { low = λ z. low; first = λ a z. absurd (omega arith) };
          stays = chose-stays m limits at low s (place_after (chose r m) (class_in s)) (length (spoken (chose r m) s));
          spends = λ a v. chose-spends m limits at low s (place_after (chose r m) (class_in s)) (length (spoken (chose r m) s)) p.speaks v;
        })

    -- a token, read
    module _ (t : List ℕ) (limits : AllTrue (limit_rows r)) (n : ℕ) (c : Scan) (w : judged r t ≡ whole n c) where
      taken-inv : Inv (taken r t n c)
      taken-inv = record { low = λ z. judged-low r t (let q : reads r ≡ 2 = omega arith in eq-eqb _ _ q) n c w; first = λ a z. absurd (omega arith) }

      taken-early : Early r → (a : Bool) → r.acceptor ≡ a → EarlyStage a r.stage → Gone (taken r t n c)
      unfolding reading
      taken-early e true q st =
          let f : reads r ≡ 2 = rw (q, st) in
          let low : c.chosen < r.count = judged-low r t (eq-eqb _ _ f) n c w in
          let three : reads r + 1 ≡ 3 = omega arith in
          inr (inl (
            three,
            elim (which (eqb c.chosen r.requested)) [
              | inl h ↦ inl (rw (st, e.spent, h))
              | inr h ↦ inr (λ z. eqb-false _ _ h (same_place r limits _ _ low e.requested-low (sym z ∙ e.is)))
            ],
          ))
      taken-early e false q (inr st) = let f : reads r ≡ 3 = rw (q, st) in inr (inr (let z : reads r + 1 ≡ 4 = omega arith in z))
      taken-early e false q (inl st) =
          let f : reads r ≡ 1 = rw (q, st) in
          let same : c.requested ≡ r.requested = judged-requested r t n c (rw f) w in
          let two : reads r + 1 ≡ 2 = omega arith in
          inl (record {
            early = subst (λ (a : Bool). EarlyStage a (reads r + 1)) (sym q) (inr two);
            spent = rw st e.spent;
            requested-low = subst (λ (k : ℕ). k < r.count) (sym same) e.requested-low;
            zero-requested = λ z. same ∙ e.zero-requested z;
            is = e.is ∙ ap (scheme_at r) (sym same);
          })

      taken-stays : Gone r → Gone (taken r t n c)
      taken-stays (inl e) = taken-early e r.acceptor refl e.early
      taken-stays (inr (inl s)) =
          let f : reads r ≡ 2 = later-reads r s.0 in
          let three : reads r + 1 ≡ 3 = omega arith in
          inr (inl (
            three,
            elim s.1 [
              | inl v ↦ inl (rw s.0 v)
              | inr g ↦ inr (λ z. g (z ∙ judged-kept r t (eq-eqb _ _ f) limits (ok.low s.0) n c w))
            ],
          ))
      taken-stays (inr (inr s)) = let f = closed-reads r s in inr (inr (let z : reads r + 1 ≡ 4 = omega arith in z))

    halted-step : (n p : ℕ) → (n ≡ 0 → ⊥) → Step r read (refused (closed_by n r) d n p).answer
    halted-step n p z = elim (which (eqb n 12)) [
      | inl h ↦ rw h
          (record {
            inv = record { low = λ q. absurd (omega arith); first = λ a q. absurd (omega arith) };
            stays = λ s. inr (inr refl);
            spends = λ a v. no_true v;
          })
      | inr h ↦ rw h (refusal read n p z)
    ]

    reads-token : (t : List ℕ) → Step r read (reading_token r d t).answer
    unfolding reading_token
    reads-token t =
        let rows : List Row = limit_rows r ++ token_rows r (length t) in
        step_by read rows (finish r d t (judged r t)) refl (λ g. token (front-true (limit_rows r) (token_rows r (length t)) g) (judged r t) refl) where
          token : AllTrue (limit_rows r) → (j : Judged) → judged r t ≡ j → Step r read (finish r d t j).answer
          token limits (halted n p) w = unfold finish in halted-step n p (judged-number r t n p w).0
          token limits (whole n c) w = unfold finish in elim (which (leb (r.used + length t) (room d))) [
            | inl b ↦ rw b (record { inv = taken-inv t limits n c w; stays = taken-stays t limits n c w; spends = λ a v. no_true v })
            | inr b ↦ rw b (refusal read 16 0 (λ z. omega arith))
          ]

  step : (e : End) (peer : List ℕ) (k : Call) → Inv e.record_of → Step e.record_of k (act e peer k).answer
  unfolding act
  step e peer (offer nego) h = offers e.record_of e.transcript h nego
  step e peer (reply m nego) h = replies e.record_of e.transcript h m nego
  step e peer (metadata scheme value) h = tells e.record_of e.transcript h scheme value
  step e peer (speak s) h = speaks e.record_of e.transcript h s
  step e peer read h = reads-token e.record_of e.transcript h peer
  step e peer (choose m s) h = chooses e.record_of e.transcript h m s

  -- 5. a run

  abbrev pub Invs : World → Type 0
  Invs w = Inv w.i.record_of × Inv w.a.record_of

  pub invs-kept : (w : World) (y : Bool) (k : Call) → Invs w → Invs (next w y k)
  invs-kept w false k h = ((step w.i w.a.turn k h.0).inv, h.1)
  invs-kept w true k h = (h.0, (step w.a w.i.turn k h.1).inv)

  gone-kept : (w : World) (x y : Bool) (k : Call) → Invs w → Gone (record_at x w) → Gone (record_at x (next w y k))
  gone-kept w false false k h s = (step w.i w.a.turn k h.0).stays s
  gone-kept w false true k h s = s
  gone-kept w true false k h s = s
  gone-kept w true true k h s = (step w.a w.i.turn k h.1).stays s

  abbrev pub here : World → Bool → Bool → Call → Bool
  here w x y k = same_end x y && (is_accepted (outcome_at w y k).answer && verifies id (record_at y w) k)

  spends-at : (w : World) (x y : Bool) (k : Call) → Invs w → here w x y k ≡ true → (Gone (record_at x w) → ⊥) × Gone (record_at x (next w y k))
  spends-at w false false k h v =
      let p =
      both (is_accepted (outcome_at w false k).answer) (verifies id w.i.record_of k) v in
      (step w.i w.a.turn k h.0).spends p.0 p.1
  spends-at w false true k h v = no_true v
  spends-at w true false k h v = no_true v
  spends-at w true true k h v =
      let p =
      both (is_accepted (outcome_at w true k).answer) (verifies id w.a.record_of k) v in
      (step w.a w.i.turn k h.1).spends p.0 p.1

  none-behind : (w : World) (x : Bool) (cs : List (Bool × Call)) → Invs w → Gone (record_at x w) → verify_count w x id cs ≡ 0
  none-behind w x [] h s = refl
  none-behind w x (c ∷ cs) h s = elim (which (here w x c.0 c.1)) [
    | inl v ↦ absurd ((spends-at w x c.0 c.1 h v).0 s)
    | inr v ↦ rw v (none-behind (next w c.0 c.1) x cs (invs-kept w c.0 c.1 h) (gone-kept w x c.0 c.1 h s))
  ]

  pub once : (w : World) (x : Bool) (cs : List (Bool × Call)) → Invs w → verify_count w x id cs ≤ 1
  once w x [] h = omega arith
  once w x (c ∷ cs) h = elim (which (here w x c.0 c.1)) [
    | inl v ↦ rw v (let z = none-behind (next w c.0 c.1) x cs (invs-kept w c.0 c.1 h) (spends-at w x c.0 c.1 h v).1 in omega arith)
    | inr v ↦ rw v (once (next w c.0 c.1) x cs (invs-kept w c.0 c.1 h))
  ]

  -- after a VERIFY for the scheme the scheme is gone

  gone-behind : (w : World) (x : Bool) (cs : List (Bool × Call)) → Invs w → Gone (record_at x w) → Gone (record_at x (ends w cs))
  gone-behind w x [] h s = s
  gone-behind w x (c ∷ cs) h s = gone-behind (next w c.0 c.1) x cs (invs-kept w c.0 c.1 h) (gone-kept w x c.0 c.1 h s)

  pub written-gone : (w : World) (x : Bool) (cs : List (Bool × Call)) → Invs w → 1 ≤ verify_count w x id cs → Gone (record_at x (ends w cs))
  written-gone w x [] h s = absurd (omega arith)
  written-gone w x (c ∷ cs) h s = elim (which (here w x c.0 c.1)) [
    | inl v ↦ gone-behind (next w c.0 c.1) x cs (invs-kept w c.0 c.1 h) (spends-at w x c.0 c.1 h v).1
    | inr v ↦ written-gone (next w c.0 c.1) x cs (invs-kept w c.0 c.1 h) (rw v at s)
  ]

pub invs-start : (o : Opening) → Inv (world o).i.record_of × Inv (world o).a.record_of
invs-start o = (
  record { low = λ z. absurd (omega arith); first = λ a s p. absurd (omega arith) },
  record { low = λ z. absurd (omega arith); first = λ a s p. absurd (omega arith) },
)
