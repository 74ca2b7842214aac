-- Of what an end reads in a run at most one is a VERIFY for a scheme, and after the choice the record's flag says whether the one for the chosen
-- scheme is read.
-- Assumes nothing.
use Prim.Native.Nat.{ℕ, ◌+◌, ◌^◌, ◌≤◌, ◌<◌}
use mathlib.Core.Path.{◌≡◌, refl, sym, ap, subst, ◌∙◌}
use mathlib.Core.Bool.{Bool, true, false, cond, not, ◌&&◌}
use mathlib.Core.Logic.{◌⊎◌, inl, inr}
use mathlib.Core.List.{List, [], ◌∷◌, ◌++◌}
use native.Mathlib.Nat.{zero-add}
use native.Mathlib.Omega.{arith}
use lib.ListN.{length, length-append}
use lib.Dec.{eqb, leb, ltb}
use borrow.Author.Tests.{eqb-true, eqb-false, ne_eqb, leb-true, ltb-true, lt-ltb, not-true}
use Rattle.octets.specs.Octets.{same_octets}
use Rattle.octets.proofs.Bools.{which, no_true, and_l, and_r}
use Rattle.octets.proofs.Same.{same-eq, same_refl}
use Rattle.message.specs.Check.{Row}
use Rattle.message.proofs.Tables.{AllTrue, fails-other}
use Rattle.schemes.specs.Lists.{Id, mem, place, keep}
use Rattle.conversation.specs.declared.Record.{Record}
use Rattle.conversation.specs.declared.Scan.{Scan}
use Rattle.conversation.specs.State.{NONE, own_of, scheme_at, limit_rows}
use Rattle.conversation.specs.Turns.{NEGO, METADATA, writing, reading, reads, may_read}
use Rattle.conversation.specs.Outcomes.{Outcome, decide, row, room, WrittenAs, unchanged, wrote}
use Rattle.conversation.specs.Writing.{stage_rows, then_fits, offered, offer_rows, offering, reply_message, reply_rows, replying, metadata_message, metadata_rows, writing_metadata, named_rows, Speech, request, checksum, alarm, class_in, speech_fits, spoken, spoken_as, speaking}
use Rattle.conversation.specs.Admitting.{is_at, on, admit}
use Rattle.conversation.specs.Reading.{start_of, Judged, whole, halted, judged, chain_for, taken, finish, token_rows, reading_token}
use Rattle.conversation.specs.Choosing.{open_to, first_place, chose, choosing}
use Rattle.conversation.specs.Runs.{Call, offer, reply, metadata, speak, read, choose, End, act, Opening, World, world, next, ends, is_accepted}
use Rattle.conversation.specs.Logs.{messages_in}
use Rattle.conversation.specs.Claims.{added_by, added_at, added_in, read_in, is_reading, verify_for, record_at, chosen_in, HeardOnce, HeardSays}
use Rattle.conversation.proofs.Rows.{decide-out, front-true, true-behind}
use Rattle.conversation.proofs.Chosen.{choice_table, choice-passed}
use Rattle.conversation.proofs.Tokens.{judged-number}
use Rattle.conversation.proofs.Messages.{judge-keeps}
use Rattle.conversation.proofs.Inside.{mem-at, own-length, chosen-below}
use Rattle.conversation.proofs.Early.{Inv, Invs, invs-kept, invs-start, same_place, judged-low}
use Rattle.conversation.proofs.Heard.{chosen-then, judge-sums, Later, later-step, Chooses, chooses-step, Opens, opens-step, FirstLink, first-link, first-linked, AnswerLink, answer-link, answer-linked}
use Rattle.conversation.proofs.Verifies.{keep_append}

module _ (id : Id) where
  -- 1. what a record says of the n VERIFYs for the scheme that were read
  record Says (r : Record) (n : ℕ) : Type 0 where
    most : n ≤ 1
    start : r.stage ≡ 0 → (r.confirmed ≡ false) × (n ≡ 0)
    unchosen : r.acceptor ≡ true → r.stage ≤ 1 → r.chosen ≡ NONE
    early : (r.stage ≡ 1) ⊎ (r.stage ≡ 2) → mem id (own_of r) ≡ true → n ≡ cond (r.confirmed && is_at r r.requested id) 1 0
    later : r.stage ≡ 3 → id ≡ scheme_at r r.chosen → n ≡ cond r.confirmed 1 0

  -- 2. what is written leaves it
  wrote_says : (r : Record) (n position size : ℕ) (w : WrittenAs) → ((r.stage ≡ 0 → ⊥) → w.requested ≡ r.requested) → Says r n
      → Says (wrote r position size w) n
  wrote_says r n position size w same s = record {
    most = s.most;
    start = s.start;
    unchosen = s.unchosen;
    early =
        λ st own. s.early st own ∙ ap (λ (k : ℕ). cond (r.confirmed && is_at r k id) 1 0)
        (sym (same (λ z. elim st [ inl a ↦ omega arith | inr a ↦ omega arith ])));
    later = s.later;
  }

  speech-requested : (r : Record) (s : Speech) → (r.stage ≡ 0 → ⊥) → (spoken_as r s).requested ≡ r.requested
  unfolding writing
  speech-requested r (checksum type value) z = refl
  speech-requested r (alarm code) z = refl
  speech-requested r (request value) z = go r.acceptor where
    go : (a : Bool) → cond (eqb (writing a r.stage) 0) 0 r.requested ≡ r.requested
    go true = elim (which (eqb r.stage 1)) [ inl h ↦ rw h | inr h ↦ elim (which (eqb r.stage 3)) [ inl g ↦ rw (h, g) | inr g ↦ rw (h, g) ] ]
    go false = rw (ne_eqb _ _ z) (elim (which (eqb r.stage 3)) [ inl g ↦ rw g | inr g ↦ rw g ])

  -- 3. the choice
  module _ (r : Record) (m n : ℕ) (limits : AllTrue (limit_rows r)) (at : r.stage ≡ 2) (low : first_place (open_to r m) < r.count) (s : Says r n) where
    abbrev k : ℕ
    k = first_place (open_to r m)

    at-choice : id ≡ scheme_at r k → is_at r r.requested id ≡ eqb k r.requested
    at-choice z = elim (which (eqb k r.requested)) [
      | inl q ↦
          let is : k ≡ r.requested = eqb-true _ _ q in
          let low' : r.requested < r.count = subst (λ (j : ℕ). j < r.count) is low in
          let same : same_octets id (scheme_at r r.requested) ≡ true =
          subst (λ (i : Id). same_octets id i ≡ true) (z ∙ ap (scheme_at r) is) (same_refl id) in
          rw (lt-ltb _ _ low') (same ∙ sym q)
      | inr q ↦ elim (which (ltb r.requested r.count)) [
        | inr h ↦ rw h (sym q)
        | inl h ↦ elim (which (same_octets id (scheme_at r r.requested))) [
          | inl g ↦ absurd (eqb-false _ _ q (same_place r limits k r.requested low (ltb-true _ _ h) (sym z ∙ same-eq _ _ g)))
          | inr g ↦ rw h (g ∙ sym q)
        ]
      ]
    ]

    chose-says : (v : Speech) (position size : ℕ) → Says (wrote (chose r m) position size (spoken_as (chose r m) v)) n
    chose-says v position size = record {
      most = s.most;
      start = λ z. absurd (omega arith);
      unchosen = λ a z. absurd (omega arith);
      early = λ st own. elim st [ inl a ↦ absurd (omega arith) | inr a ↦ absurd (omega arith) ];
      later = λ st z.
          let own : mem id (own_of r) ≡ true =
          mem-at id (own_of r) k (subst (λ (j : ℕ). k < j) (sym (own-length r)) low)
          (subst (λ (i : Id). same_octets id i ≡ true) z (same_refl id)) in
          s.early (inr at) own ∙ ap (λ (b : Bool). cond (r.confirmed && b) 1 0) (at-choice z);
    }

  -- 4. a token
  module _ (r : Record) (t : List ℕ) (n : ℕ) (limits : AllTrue (limit_rows r)) (ok : Inv r) (s : Says r n) (j : ℕ) (c : Scan)
      (w : judged r t ≡ whole j c) where
    abbrev count : ℕ
    count = n + length (keep (verify_for id) (messages_in (chain_for r t)))

    sums : (P : Scan → ℕ → Type 0) → ((x y : Scan) (m : List ℕ) (i : ℕ) → P x i → admit r t x m ≡ on y → P y (i + cond (verify_for id m) 1 0))
        → P (start_of r) n → P c count
    unfolding judged
    sums P f p = judge-sums id P r t f 0 (start_of r) (chain_for r t) j c n p w

    -- no scheme is chosen before the later tokens
    none-chosen : eqb (reads r) 2 ≡ false → r.chosen ≡ NONE → c.chosen ≡ NONE
    unfolding judged
    none-chosen f z =
        judge-keeps (λ x. x.chosen ≡ NONE) r t (λ x y m p h. sym (sym (rw f) ∙ chosen-then r t x y m h) ∙ p) 0 (start_of r) (chain_for r t) j c z w

    early-says : reads r ≤ 1 → (r.acceptor ≡ true → c.chosen ≡ NONE)
        → ((c.confirmed ≡ false) × (count ≡ 0))
        ⊎ ((c.confirmed ≡ true) × ((count ≤ 1) × (mem id (own_of r) ≡ true → count ≡ cond (is_at r c.requested id) 1 0)))
        → Says (taken r t j c) count
    early-says low none (inl (quiet, zero)) = record {
      most = omega arith;
      start = λ z. absurd (omega arith);
      unchosen = λ a z. none a;
      early = λ st own. zero ∙ sym (rw quiet);
      later = λ st z. absurd (omega arith);
    }
    early-says low none (inr (confirmed, (most, says))) = record {
      most = most;
      start = λ z. absurd (omega arith);
      unchosen = λ a z. none a;
      early = λ st own. says own ∙ sym (rw confirmed);
      later = λ st z. absurd (omega arith);
    }

    later-says : (f : eqb (reads r) 2 ≡ true) → Later id r t f c count → Says (taken r t j c) count
    later-says f x =
        let two : reads r ≡ 2 = eqb-true _ _ f in
        record {
          most = x.most;
          start = λ z. absurd (omega arith);
          unchosen = λ a z. absurd (omega arith);
          early = λ st own. elim st [ inl a ↦ absurd (omega arith) | inr a ↦ absurd (omega arith) ];
          later = λ st z. x.says z;
        }

    first-token : r.acceptor ≡ true → r.stage ≡ 0 → Says (taken r t j c) count
    unfolding reading
    first-token role st =
        let f : reads r ≡ 0 = rw (role, st) in
        let o : leb (reads r) 1 ≡ true = rw f in
        let other : eqb r.stage 1 ≡ false = rw st in
        let b = s.start st in
        let x =
        sums (Opens id r t o other (FirstLink id r t o f) (first-link id r t o f) (first-linked id r t o f))
        (opens-step id r t o other (FirstLink id r t o f) (first-link id r t o f) (first-linked id r t o f))
        (inl (record { quiet = b.0; zero = b.1; chain = λ z. absurd (omega arith) })) in
        early-says (omega arith) (λ a. none-chosen (rw f) (s.unchosen role (omega arith)))
        (elim x [ inl y ↦ inl (y.quiet, y.zero) | inr y ↦ inr (y.confirmed, (y.most, y.says)) ])

    answer-token : r.acceptor ≡ false → r.stage ≡ 0 → Says (taken r t j c) count
    unfolding reading
    answer-token role st =
        let f : reads r ≡ 1 = rw (role, st) in
        let o : leb (reads r) 1 ≡ true = rw f in
        let other : eqb r.stage 1 ≡ false = rw st in
        let b = s.start st in
        let x =
        sums (Opens id r t o other (AnswerLink id r t o f) (answer-link id r t o f) (answer-linked id r t o f))
        (opens-step id r t o other (AnswerLink id r t o f) (answer-link id r t o f) (answer-linked id r t o f))
        (inl (record { quiet = b.0; zero = b.1; chain = refl })) in
        early-says (omega arith) (λ a. no_true (sym role ∙ a))
        (elim x [ inl y ↦ inl (y.quiet, y.zero) | inr y ↦ inr (y.confirmed, (y.most, y.says)) ])

    -- the acceptor's first later token
    fixing-token : r.acceptor ≡ true → r.stage ≡ 1 → Says (taken r t j c) count
    unfolding reading
    fixing-token role st =
        let f : eqb (reads r) 2 ≡ true = rw (role, st) in
        let x =
        sums (Chooses id r t f limits st n s.most (s.early (inl st))) (chooses-step id r t f limits st n s.most (s.early (inl st)))
        (inl (s.unchosen role (omega arith), (refl, refl))) in
        let low : c.chosen < r.count = judged-low r t f j c w in
        let (l1, (l2, rest)) = limits in
        let few : r.count ≤ 16 = leb-true _ _ l2 in
        later-says f (elim x [ inl y ↦ absurd (let z = y.0 in omega arith) | inr y ↦ y ])

    later-token : r.stage ≡ 3 → eqb (reads r) 2 ≡ true → Says (taken r t j c) count
    later-token st f =
        later-says f (sums (Later id r t f) (later-step id r t f limits) (record { low = ok.low st; most = s.most; says = s.later st }))

    token-says : may_read r ≡ true → Says (taken r t j c) count
    token-says may = go r.acceptor refl where
      none : reads r ≡ 3 → ⊥
      none z = no_true (rw z at may)

      go : (a : Bool) → r.acceptor ≡ a → Says (taken r t j c) count
      go true q = elim (which (eqb r.stage 0)) [
        | inl h ↦ first-token q (eqb-true _ _ h)
        | inr h ↦ elim (which (eqb r.stage 1)) [
          | inl g ↦ fixing-token q (eqb-true _ _ g)
          | inr g ↦ elim (which (eqb r.stage 3)) [
            | inl f ↦ later-token (eqb-true _ _ f) (unfold reading in rw (q, h, g, f))
            | inr f ↦ absurd (none (unfold reading in rw (q, h, g, f)))
          ]
        ]
      ]
      go false q = elim (which (eqb r.stage 0)) [
        | inl h ↦ answer-token q (eqb-true _ _ h)
        | inr h ↦ elim (which (eqb r.stage 3)) [
          | inl f ↦ later-token (eqb-true _ _ f) (unfold reading in rw (q, h, f))
          | inr f ↦ absurd (none (unfold reading in rw (q, h, f)))
        ]
      ]

  -- 5. a call
  more : (r : Record) (n : ℕ) → Says r n → Says r (n + 0)
  more r n s = let z : n ≡ n + 0 = omega arith in subst (Says r) z s

  closed-says : (r : Record) (n : ℕ) → r.stage ≡ 4 → n ≤ 1 → Says r n
  closed-says r n st most = record {
    most = most;
    start = λ z. absurd (omega arith);
    unchosen = λ a z. absurd (omega arith);
    early = λ z own. elim z [ inl a ↦ absurd (omega arith) | inr a ↦ absurd (omega arith) ];
    later = λ z q. absurd (omega arith);
  }

  module _ (e : End) (peer : List ℕ) (n : ℕ) (ok : Inv e.record_of) (s : Says e.record_of n) where
    abbrev r : Record
    r = e.record_of

    abbrev d : List ℕ
    d = e.transcript

    -- a call that is no reading
    says-by : (rows : List Row) (action : Outcome) → (AllTrue rows → Says action.answer.next n) → Says (decide rows r d action).answer.next n
    says-by rows action h = decide-out (λ out. Says out.answer.next n) rows r d action (λ k f. s) h

    chooses : (m : ℕ) (v : Speech) → Says (choosing r d m v).answer.next n
    unfolding choosing
    chooses m v =
        says-by (choice_table r d m v) _
        (λ g.
        let p = choice-passed r d m v g in
        let role : r.acceptor ≡ false = not-true _ (and_l (not r.acceptor) (eqb r.stage 2) p.may) in
        let at : r.stage ≡ 2 = eqb-true _ _ (and_r (not r.acceptor) (eqb r.stage 2) p.may) in
        let (l1, (l2, (l3, (l4, (l5, (l6, (l7, rest))))))) = p.limits in
        chose-says r m n p.limits at (chosen-below r m (rw role at l7) p.left) s v _ _)

    reads-one : Says (reading_token r d peer).answer.next
        (n + length (keep (verify_for id) (cond (is_accepted (reading_token r d peer).answer) (messages_in (chain_for r peer)) [])))
    unfolding reading_token
    reads-one =
        let rows : List Row = limit_rows r ++ token_rows r (length peer) in
        decide-out
        (λ out. Says out.answer.next (n + length (keep (verify_for id) (cond (is_accepted out.answer) (messages_in (chain_for r peer)) []))))
        rows r d (finish r d peer (judged r peer))
        (λ k f. rw (ne_eqb k 0 (fails-other 0 rows k refl f)) (more r n s))
        (λ g. token (front-true (limit_rows r) (token_rows r (length peer)) g)
        (true-behind (limit_rows r) (row 18 (may_read r)) (row 1 (leb (length peer) 65535) ∷ []) g) (judged r peer) refl) where
          token : AllTrue (limit_rows r) → may_read r ≡ true → (j : Judged) → judged r peer ≡ j
              → Says (finish r d peer j).answer.next
              (n + length (keep (verify_for id) (cond (is_accepted (finish r d peer j).answer) (messages_in (chain_for r peer)) [])))
          token limits may (halted k p) w = unfold finish in (let z = (judged-number r peer k p w).0 in rw (ne_eqb k 0 z) (elim (which (eqb k 12)) [
            | inl h ↦ rw h (more _ n (closed-says _ n refl s.most))
            | inr h ↦ rw h (more r n s)
          ]))
          token limits may (whole k c) w = unfold finish in elim (which (leb (r.used + length peer) (room d))) [
            | inl b ↦ rw b (token-says r peer n limits ok s k c w may)
            | inr b ↦ rw b (more r n s)
          ]

    call-says : (k : Call) → Says (act e peer k).answer.next (n + length (keep (verify_for id) (added_by is_reading e peer k)))
    unfolding act offering replying writing_metadata speaking
    call-says (offer nego) =
        more _ n
        (says-by (stage_rows r NEGO ++ then_fits (offer_rows r nego.0) r d (offered r nego.0)) _
        (λ g. wrote_says r n _ _ (unchanged r) (λ z. refl) s))
    call-says (reply m nego) =
        more _ n (says-by (stage_rows r NEGO ++ then_fits (reply_rows r m nego.0) r d (reply_message r m nego.0)) _
        (λ g. wrote_says r n _ _ (record { marks = m; metadata = r.metadata; requested = r.requested; attested = r.attested }) (λ z. refl) s))
    call-says (metadata scheme value) =
        more _ n (says-by (stage_rows r METADATA ++ then_fits (metadata_rows r scheme.0 (length value)) r d (metadata_message r scheme.0 value)) _
        (λ g. wrote_says r n _ _
        (record { marks = r.marks; metadata = r.metadata + 2 ^ place (own_of r) scheme.0; requested = r.requested; attested = r.attested })
        (λ z. refl) s))
    call-says (speak v) =
        more _ n
        (says-by (stage_rows r (class_in v) ++ then_fits (named_rows r (speech_fits v)) r d (spoken r v)) _
        (λ g. wrote_says r n _ _ (spoken_as r v) (speech-requested r v) s))
    call-says read = reads-one
    call-says (choose m v) = more _ n (chooses m v)

  -- 6. a run
  says-next : (w : World) (x y : Bool) (k : Call) → Invs id w → (n : ℕ) → Says (record_at x w) n
      → Says (record_at x (next w y k)) (n + length (keep (verify_for id) (added_at is_reading x w y k)))
  says-next w false false k h n s = call-says w.i w.a.turn n h.0 s k
  says-next w false true k h n s = more w.i.record_of n s
  says-next w true false k h n s = more w.a.record_of n s
  says-next w true true k h n s = call-says w.a w.i.turn n h.1 s k

  says-behind : (w : World) (x : Bool) (cs : List (Bool × Call)) → Invs id w → (n : ℕ) → Says (record_at x w) n
      → Says (record_at x (ends w cs)) (n + length (keep (verify_for id) (added_in is_reading x w cs)))
  says-behind w x [] h n s = more (record_at x w) n s
  says-behind w x (c ∷ cs) h n s =
      let here : List (List ℕ) = added_at is_reading x w c.0 c.1 in
      let there : List (List ℕ) = added_in is_reading x (next w c.0 c.1) cs in
      let i =
      says-behind (next w c.0 c.1) x cs (invs-kept id w c.0 c.1 h) (n + length (keep (verify_for id) here))
      (says-next w x c.0 c.1 h n s) in
      let apart : length (keep (verify_for id) (here ++ there)) ≡ length (keep (verify_for id) here) + length (keep (verify_for id) there) =
      ap length (keep_append (verify_for id) here there) ∙ length-append (keep (verify_for id) here) (keep (verify_for id) there) in
      let is : n + length (keep (verify_for id) here) + length (keep (verify_for id) there) ≡ n + length (keep (verify_for id) (here ++ there)) =
      omega arith in
      subst (Says (record_at x (ends (next w c.0 c.1) cs))) is i

  says-start : (o : Opening) (x : Bool) → Says (record_at x (world o)) 0
  says-start o false =
      record {
        most = omega arith;
        start = λ z. (refl, refl);
        unchosen = λ a z. refl;
        early = λ st own. elim st [ inl a ↦ absurd (omega arith) | inr a ↦ absurd (omega arith) ];
        later = λ st z. absurd (omega arith);
      }
  says-start o true =
      record {
        most = omega arith;
        start = λ z. (refl, refl);
        unchosen = λ a z. refl;
        early = λ st own. elim st [ inl a ↦ absurd (omega arith) | inr a ↦ absurd (omega arith) ];
        later = λ st z. absurd (omega arith);
      }

-- 7. the two claims

from-opening : (o : Opening) (cs : List (Bool × Call)) (x : Bool) (id : Id)
    → Says id (record_at x (ends (world o) cs)) (length (keep (verify_for id) (read_in x (world o) cs)))
from-opening o cs x id =
    let z : 0 + length (keep (verify_for id) (read_in x (world o) cs)) ≡ length (keep (verify_for id) (read_in x (world o) cs)) =
    zero-add (length (keep (verify_for id) (read_in x (world o) cs))) in
    subst (Says id (record_at x (ends (world o) cs))) z (says-behind id (world o) x cs (invs-start o) 0 (says-start id o x))

pub heard-once : HeardOnce
heard-once o cs x id = (from-opening o cs x id).most

pub heard-says : HeardSays
heard-says o cs x st = (from-opening o cs x (chosen_in (record_at x (ends (world o) cs)))).later st refl
