-- Where the flag of a record is set, the VERIFY that it speaks of was written.
-- Assumes nothing.
use Prim.Native.Nat.{ℕ, suc, ◌+◌, ◌^◌, ◌≤◌}
use mathlib.Core.Path.{◌≡◌, refl, sym, ap, subst, ◌∙◌}
use mathlib.Core.Bool.{Bool, true, false, cond, not, ◌&&◌}
use mathlib.Core.Logic.{inl, inr}
use mathlib.Core.List.{List, [], ◌∷◌, ◌++◌}
use native.Mathlib.Omega.{arith}
use lib.ListN.{length}
use lib.Dec.{eqb, leb}
use borrow.Author.Tests.{eqb-true, eq-eqb, ne_eqb}
use Rattle.octets.specs.Octets.{same_octets}
use Rattle.octets.proofs.Bools.{which, no_true, both, and_r}
use Rattle.octets.proofs.Same.{same_refl}
use Rattle.message.specs.Layout.{size}
use Rattle.message.specs.Check.{Row}
use Rattle.message.proofs.Tables.{AllTrue, without, fails-other}
use Rattle.schemes.specs.Lists.{Id, place}
use Rattle.conversation.specs.declared.Record.{Record}
use Rattle.conversation.specs.declared.Scan.{Scan}
use Rattle.conversation.specs.State.{own_of, scheme_at, limit_rows}
use Rattle.conversation.specs.Turns.{NEGO, METADATA, VERIFY, writing, reading, reads, place_after, may_write}
use Rattle.conversation.specs.Outcomes.{Outcome, refused, decide, row, room, WrittenAs, unchanged, wrote}
use Rattle.conversation.specs.Writing.{stage_rows, then_fits, offered, offer_rows, offering, reply_message, reply_rows, replying, metadata_message, metadata_rows, writing_metadata, scheme_now, named_rows, Speech, request, checksum, alarm, class_in, speech_fits, spoken, requested_by, spoken_as, speaking}
use Rattle.conversation.specs.Reading.{Judged, whole, halted, judged, counts_after, finish, token_rows, reading_token}
use Rattle.conversation.specs.Choosing.{open_to, first_place, chose, choosing}
use Rattle.conversation.specs.Runs.{Sized, NegoCall, Call, offer, reply, metadata, speak, read, choose, End, act, Opening, World, world, next, ends, is_accepted}
use Rattle.conversation.specs.Claims.{record_at}
use Rattle.conversation.proofs.Early.{is_checksum, verifies, verify_count, Inv, Invs, here, invs-kept, judged-kept, judged-requested, verify-at, writes-some, acceptor-stage, initiator-stage, later-now, reply-now, first-now, later-reads}
use Rattle.conversation.proofs.Rows.{decide-out, true-behind, front-true}
use Rattle.conversation.proofs.Chosen.{choice_table, choice-passed}
use Rattle.conversation.proofs.Tokens.{judged-number}
use Rattle.conversation.proofs.Inside.{now-chosen}

module _ (id : Id) where
  -- where the flag is set, one was written: n is how many so far
  abbrev flag_place : Record → ℕ
  flag_place r = cond (eqb r.stage 3) r.chosen r.requested

  pub record Has (r : Record) (n : ℕ) : Type 0 where
    pub had : (r.stage ≡ 4 → ⊥) → r.attested ≡ true → id ≡ scheme_at r (flag_place r) → 1 ≤ n
    zero-first : r.acceptor ≡ false → r.stage ≡ 0 → r.attested ≡ true → r.requested ≡ 0
    none_first : r.acceptor ≡ true → r.stage ≡ 0 → r.attested ≡ true → ⊥

  abbrev more : Bool → ℕ → ℕ
  more b n = cond b (suc n) n

  abbrev Then : Record → Call → ℕ → Outcome → Type 0
  Then r k n out = Has out.answer.next (more (is_accepted out.answer && verifies id r k) n)

  module _ (r : Record) (d : List ℕ) (ok : Inv r) (n : ℕ) (has : Has r n) where
    has-refused : (k : Call) (j p : ℕ) → (j ≡ 0 → ⊥) → Then r k n (refused r d j p)
    has-refused k j p z = rw (ne_eqb j 0 z) has

    has-by : (k : Call) (rows : List Row) (action : Outcome) → without 0 rows ≡ true → (AllTrue rows → Then r k n action)
        → Then r k n (decide rows r d action)
    has-by k rows action z h = decide-out (Then r k n) rows r d action (λ j g. has-refused k j 0 (fails-other 0 rows j z g)) h

    -- a message that leaves flag and AP_REQUEST
    has_same : (position size : ℕ) (w : WrittenAs) → w.attested ≡ r.attested → w.requested ≡ r.requested → Has (wrote r position size w) n
    has_same position size w hv ha = record {
      had = λ z v q. has.had z (sym hv ∙ v) (q ∙ ap (λ (a : ℕ). scheme_at r (cond (eqb r.stage 3) r.chosen a)) ha);
      zero-first = λ e st v. ha ∙ has.zero-first e st (sym hv ∙ v);
      none_first = λ e st v. has.none_first e st (sym hv ∙ v);
    }

    requested-flag : r.attested ≡ true → requested_by r ≡ r.requested
    unfolding writing
    requested-flag v = go r.acceptor refl where
      go : (a : Bool) → r.acceptor ≡ a → requested_by r ≡ r.requested
      go true q =
          elim (which (eqb r.stage 1))
          [ inl h ↦ rw (q, h) | inr h ↦ elim (which (eqb r.stage 3)) [ inl g ↦ rw (q, h, g) | inr g ↦ rw (q, h, g) ] ]
      go false q = elim (which (eqb r.stage 0)) [
        | inl h ↦ rw (q, h) (sym (has.zero-first q (eqb-true _ _ h) v))
        | inr h ↦ elim (which (eqb r.stage 3)) [ inl g ↦ rw (q, h, g) | inr g ↦ rw (q, h, g) ]
      ]

    -- the scheme that is written is that of the flag
    flag-now : may_write r VERIFY ≡ true → scheme_now r ≡ flag_place r
    unfolding writing
    flag-now may = go r.acceptor refl where
      go : (a : Bool) → r.acceptor ≡ a → scheme_now r ≡ flag_place r
      go true q = elim (acceptor-stage r.stage (λ z. writes-some r VERIFY may (ap (λ (a : Bool). writing a r.stage) q ∙ z))) [
        | inl st ↦ reply-now r q st ∙ rw st
        | inr st ↦ later-now r st ∙ rw st
      ]
      go false q = elim (initiator-stage r.stage (λ z. writes-some r VERIFY may (ap (λ (a : Bool). writing a r.stage) q ∙ z))) [
        | inr st ↦ later-now r st ∙ rw st
        | inl st ↦
            let p : r.position ≡ 2 = verify-at r.position r.attested (rw (q, st) at may) in
            let zero : r.requested ≡ 0 = ok.first q st (omega arith) in
            first-now r q st ∙ (rw st (sym zero))
      ]

    has-speech : (s : Speech) (position size : ℕ) → may_write r (class_in s) ≡ true
        → Has (wrote r position size (spoken_as r s)) (more (is_checksum s && same_octets id (scheme_at r (scheme_now r))) n)
    unfolding writing
    has-speech (alarm code) position size may = has_same position size (spoken_as r (alarm code)) refl refl
    has-speech (request value) position size may = record {
      had = λ z v q. has.had z v (q ∙ ap (λ (a : ℕ). scheme_at r (cond (eqb r.stage 3) r.chosen a)) (requested-flag v));
      zero-first = λ e st v. requested-flag v ∙ has.zero-first e st v;
      none_first = has.none_first;
    }
    has-speech (checksum type value) position size may = record {
      had = λ z v q.
          let s : same_octets id (scheme_at r (scheme_now r)) ≡ true =
          subst (λ (l : Id). same_octets id l ≡ true) (q ∙ ap (scheme_at r) (sym (flag-now may))) (same_refl id) in
          rw s (omega arith);
      zero-first = λ e st v. ok.first e st (let p : r.position ≡ 2 = verify-at r.position r.attested (rw (e, st) at may) in omega arith);
      none_first = λ e st v. writes-some r VERIFY may (rw (e, st));
    }

    has-offer : (nego : NegoCall) → Then r (offer nego) n (offering r d nego.0)
    unfolding offering
    has-offer nego =
        has-by (offer nego) (stage_rows r NEGO ++ then_fits (offer_rows r nego.0) r d (offered r nego.0)) _ refl
        (λ g. has_same (place_after r NEGO) (length (offered r nego.0)) (unchanged r) refl refl)

    has-reply : (m : ℕ) (nego : NegoCall) → Then r (reply m nego) n (replying r d m nego.0)
    unfolding replying
    has-reply m nego =
        has-by (reply m nego) (stage_rows r NEGO ++ then_fits (reply_rows r m nego.0) r d (reply_message r m nego.0)) _ refl
        (λ g. has_same (place_after r NEGO) (length (reply_message r m nego.0))
        (record { marks = m; metadata = r.metadata; requested = r.requested; attested = r.attested }) refl refl)

    has-metadata : (scheme : Sized 16) (value : List ℕ) → Then r (metadata scheme value) n (writing_metadata r d scheme.0 value)
    unfolding writing_metadata
    has-metadata scheme value =
        has-by (metadata scheme value)
        (stage_rows r METADATA ++ then_fits (metadata_rows r scheme.0 (length value)) r d (metadata_message r scheme.0 value)) _ refl
        (λ g. has_same (place_after r METADATA) (length (metadata_message r scheme.0 value))
        (record { marks = r.marks; metadata = r.metadata + 2 ^ place (own_of r) scheme.0; requested = r.requested; attested = r.attested })
        refl refl)

    has-speak : (s : Speech) → Then r (speak s) n (speaking r d s)
    unfolding speaking
    has-speak s =
        let rest : List Row = then_fits (named_rows r (speech_fits s)) r d (spoken r s) in
        has-by (speak s) (stage_rows r (class_in s) ++ rest) _ refl
        (λ g. has-speech s (place_after r (class_in s)) (length (spoken r s)) (true-behind (limit_rows r) (row 18 (may_write r (class_in s))) rest g))

    -- an early one that counts is one of the chosen scheme
    early-flag : (k : ℕ) → (r.stage ≡ 3 → ⊥) → (r.stage ≡ 4 → ⊥) → r.attested && eqb k r.requested ≡ true → id ≡ scheme_at r k → 1 ≤ n
    early-flag k a b v q =
        let p = both r.attested (eqb k r.requested) v in
        has.had b p.0 (q ∙ ap (scheme_at r) (eqb-true _ _ p.1 ∙ sym (let z : eqb r.stage 3 ≡ false = ne_eqb _ _ a in rw z)))

    has-chose : (m : ℕ) (s : Speech) (position size : ℕ) → r.stage ≡ 2
        → Has (wrote (chose r m) position size (spoken_as (chose r m) s))
        (more (is_checksum s && same_octets id (scheme_at (chose r m) (scheme_now (chose r m)))) n)
    has-chose m (request value) position size at = record {
      had = λ z v q. early-flag (first_place (open_to r m)) (λ y. omega arith) (λ y. omega arith) v q;
      zero-first = λ e st v. absurd (omega arith);
      none_first = λ e st v. omega arith;
    }
    has-chose m (alarm code) position size at = record {
      had = λ z v q. early-flag (first_place (open_to r m)) (λ y. omega arith) (λ y. omega arith) v q;
      zero-first = λ e st v. absurd (omega arith);
      none_first = λ e st v. omega arith;
    }
    has-chose m (checksum type value) position size at = record {
      had = λ z v q.
          let s : same_octets id (scheme_at (chose r m) (scheme_now (chose r m))) ≡ true =
          subst (λ (l : Id). same_octets id l ≡ true) (q ∙ ap (scheme_at r) (sym (now-chosen r m))) (same_refl id) in
          rw s (omega arith);
      zero-first = λ e st v. absurd (omega arith);
      none_first = λ e st v. omega arith;
    }

    has-choose : (m : ℕ) (s : Speech) → Then r (choose m s) n (choosing r d m s)
    unfolding choosing
    has-choose m s =
        has-by (choose m s) (choice_table r d m s) _ refl
        (λ g.
        let at : r.stage ≡ 2 = eqb-true _ _ (and_r (not r.acceptor) (eqb r.stage 2) (choice-passed r d m s g).may) in
        has-chose m s (place_after (chose r m) (class_in s)) (length (spoken (chose r m) s)) at)

    -- a token, read
    module _ (t : List ℕ) (limits : AllTrue (limit_rows r)) (j : ℕ) (c : Scan) (w : judged r t ≡ whole j c) where
      later-flag : r.stage ≡ 3 → counts_after r c ≡ true → id ≡ scheme_at r (cond (eqb (reads r + 1) 3) c.chosen c.requested) → 1 ≤ n
      later-flag st v q =
          let f : reads r ≡ 2 = later-reads r st in
          let q' : id ≡ scheme_at r c.chosen = q ∙ ap (scheme_at r) (rw f) in
          has.had (λ y. omega arith) (rw st at v) (q' ∙ judged-kept r t (eq-eqb _ _ f) limits (ok.low st) j c w ∙ ap (scheme_at r) (rw st))

      -- by the role and the stage
      flag-taken : (a : Bool) → r.acceptor ≡ a → (reads r + 1 ≡ 4 → ⊥) → counts_after r c ≡ true
          → id ≡ scheme_at r (cond (eqb (reads r + 1) 3) c.chosen c.requested) → 1 ≤ n
      unfolding reading
      flag-taken true e z v q = elim (which (eqb r.stage 0)) [
        | inl h ↦ absurd (has.none_first e (eqb-true _ _ h) (let st : r.stage ≡ 0 = eqb-true _ _ h in rw st at v))
        | inr h ↦ elim (which (eqb r.stage 1)) [
          | inl g ↦
              let st : r.stage ≡ 1 = eqb-true _ _ g in
              let q' : id ≡ scheme_at r c.chosen = q ∙ ap (scheme_at r) (rw (e, st)) in
              early-flag c.chosen (λ y. omega arith) (λ y. omega arith) (rw st at v) q'
          | inr g ↦ elim (which (eqb r.stage 3)) [
            | inl f ↦ later-flag (eqb-true _ _ f) v q
            | inr f ↦ absurd (z (rw (e, h, g, f)))
          ]
        ]
      ]
      flag-taken false e z v q = elim (which (eqb r.stage 0)) [
        | inl h ↦
            let st : r.stage ≡ 0 = eqb-true _ _ h in
            let f : reads r ≡ 1 = rw (e, st) in
            let same : c.requested ≡ r.requested = judged-requested r t j c (rw f) w in
            has.had (λ y. omega arith) (rw st at v) (q ∙ ap (scheme_at r) (rw (e, st) same))
        | inr h ↦ elim (which (eqb r.stage 3)) [
          | inl f ↦ later-flag (eqb-true _ _ f) v q
          | inr f ↦ absurd (z (rw (e, h, f)))
        ]
      ]

    has-read : (t : List ℕ) → Then r read n (reading_token r d t)
    unfolding reading_token
    has-read t =
        let rows : List Row = limit_rows r ++ token_rows r (length t) in
        has-by read rows (finish r d t (judged r t)) refl (λ g. token (front-true (limit_rows r) (token_rows r (length t)) g) (judged r t) refl) where
          token : AllTrue (limit_rows r) → (j : Judged) → judged r t ≡ j → Then r read n (finish r d t j)
          token limits (halted j p) w = unfold finish in (let z = (judged-number r t j p w).0 in rw (ne_eqb j 0 z) (elim (which (eqb j 12)) [
            | inl h ↦ rw h
                (record { had = λ z v q. absurd (z refl); zero-first = λ e st v. absurd (omega arith); none_first = λ e st v. omega arith })
            | inr h ↦ rw h has
          ]))
          token limits (whole j c) w = unfold finish in elim (which (leb (r.used + length t) (room d))) [
            | inl b ↦ rw b
                (record {
                  had = flag-taken t limits j c w r.acceptor refl;
                  zero-first = λ e st v. absurd (omega arith);
                  none_first = λ e st v. omega arith;
                })
            | inr b ↦ rw b has
          ]

  has-step : (e : End) (peer : List ℕ) (k : Call) → Inv e.record_of → (n : ℕ) → Has e.record_of n → Then e.record_of k n (act e peer k)
  unfolding act
  has-step e peer (offer nego) h n p = has-offer e.record_of e.transcript h n p nego
  has-step e peer (reply m nego) h n p = has-reply e.record_of e.transcript h n p m nego
  has-step e peer (metadata scheme value) h n p = has-metadata e.record_of e.transcript h n p scheme value
  has-step e peer (speak s) h n p = has-speak e.record_of e.transcript h n p s
  has-step e peer read h n p = has-read e.record_of e.transcript h n p peer
  has-step e peer (choose m s) h n p = has-choose e.record_of e.transcript h n p m s

  has-next : (w : World) (x y : Bool) (k : Call) → Invs id w → (n : ℕ) → Has (record_at x w) n
      → Has (record_at x (next w y k)) (more (here id w x y k) n)
  has-next w false false k h n p = has-step w.i w.a.turn k h.0 n p
  has-next w false true k h n p = p
  has-next w true false k h n p = p
  has-next w true true k h n p = has-step w.a w.i.turn k h.1 n p

  pub has-behind : (w : World) (x : Bool) (cs : List (Bool × Call)) → Invs id w → (n : ℕ) → Has (record_at x w) n
      → Has (record_at x (ends w cs)) (n + verify_count w x id cs)
  has-behind w x [] h n p = subst (Has (record_at x w)) (let z : n ≡ n + 0 = omega arith in z) p
  has-behind w x (c ∷ cs) h n p =
      let i =
      has-behind (next w c.0 c.1) x cs (invs-kept id w c.0 c.1 h) (more (here id w x c.0 c.1) n)
      (has-next w x c.0 c.1 h n p) in
      subst (Has (record_at x (ends (next w c.0 c.1) cs)))
      (sums (here id w x c.0 c.1) (verify_count (next w c.0 c.1) x id cs)) i where
        sums : (b : Bool) (k : ℕ) → more b n + k ≡ n + cond b (suc k) k
        sums true k = omega arith
        sums false k = refl

pub has-start : (o : Opening) (id : Id) (x : Bool) → Has id (record_at x (world o)) 0
has-start o id false = record { had = λ z v q. no_true v; zero-first = λ e st v. no_true v; none_first = λ e st v. no_true v }
has-start o id true = record { had = λ z v q. no_true v; zero-first = λ e st v. no_true v; none_first = λ e st v. no_true v }
