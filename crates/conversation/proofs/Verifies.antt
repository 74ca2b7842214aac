-- "Each end sends at most one VERIFY in a conversation.", as C-15 has it: of all that an end writes in a run, by the type and the scheme in the octets;
-- and what the record's flag says of it.
-- Assumes nothing.
use Prim.Native.Nat.{ℕ, suc, ◌+◌, ◌≤◌}
use mathlib.Core.Path.{◌≡◌, refl, sym, ap, ◌∙◌}
use mathlib.Core.Bool.{Bool, true, false, cond, not, ◌&&◌}
use mathlib.Core.Logic.{inl, inr}
use mathlib.Core.List.{List, [], ◌∷◌, ◌++◌}
use native.Mathlib.Omega.{arith}
use lib.ListN.{length, length-append}
use lib.Dec.{eqb}
use lib.IntN.{ℤ}
use borrow.Author.Tests.{eqb-true, eqb-false, not-true}
use Rattle.octets.specs.Octets.{same_octets}
use Rattle.octets.proofs.Bools.{which, no_true, and_l}
use Rattle.message.specs.Layout.{head_of}
use Rattle.message.specs.Check.{Row}
use Rattle.encode.specs.Encode.{Contents, of_verify, size_of, head_fields, body_fields, encoded}
use Rattle.roundtrip.proofs.Fields.{number_at, octets-at}
use Rattle.schemes.specs.Lists.{Id, keep}
use Rattle.conversation.specs.declared.Record.{Record}
use Rattle.conversation.specs.State.{LATER, scheme_at}
use Rattle.conversation.specs.Turns.{NEGO, METADATA, VERIFY, type_of}
use Rattle.conversation.specs.Outcomes.{row, fits}
use Rattle.conversation.specs.Writing.{heading, message_of, stage_rows, then_fits, scheme_now, scheme_allowed, named_rows, Speech, request, checksum, alarm, class_in, speech_fits, spoken, speaking}
use Rattle.conversation.specs.Admitting.{scheme_in}
use Rattle.conversation.specs.Choosing.{chose, choosing}
use Rattle.conversation.specs.Runs.{Call, offer, reply, metadata, speak, read, choose, End, act, Opening, World, world, next, ends, is_accepted}
use Rattle.conversation.specs.Logs.{Logs, next_logs}
use Rattle.conversation.specs.Claims.{added_by, added_at, written_in, is_reading, is_verify, verify_for, VerifyOnce, record_at, chosen_in, FlagSays}
use Rattle.conversation.proofs.Rows.{passed-by, true-behind}
use Rattle.conversation.proofs.Chosen.{choice_table, choice-passed}
use Rattle.conversation.proofs.Inside.{now-below, now-chosen, chosen-below}
use Rattle.conversation.proofs.Logs.{type-known, Sound, Both, both-next, both-opened}
use Rattle.conversation.proofs.Early.{verifies, verify_count, EarlyStage, Gone, here, once, written-gone, invs-start}
use Rattle.conversation.proofs.Flags.{has-behind, has-start}

-- 1. a written message's type is that of its kind, and a VERIFY's scheme stands at 40

type-written : (r : Record) (kind : ℕ) (c : Contents) → (head_of (message_of r kind c)).kind ≡ type_of r.acceptor kind
unfolding head_of encoded
type-written r kind c =
    number_at 1 8 (head_fields (heading r kind) (size_of c) ++ body_fields c) refl 4 (type_of r.acceptor kind) _ refl
    (let low : type_of r.acceptor kind ≤ 7 = type-known r.acceptor kind in omega arith)

-- a VERIFY is of no other kind
other-type : (a : Bool) (kind : ℕ) → eqb kind VERIFY ≡ false → eqb (type_of a kind) 6 ≡ false
unfolding type_of
other-type true kind e = rw e (go (eqb kind 1) (eqb kind 2) (eqb kind 3)) where
  go : (x y z : Bool) → eqb (cond x 1 (cond y 3 (cond z 4 7))) 6 ≡ false
  go true y z = refl
  go false true z = refl
  go false false true = refl
  go false false false = refl
other-type false kind e = rw e (go (eqb kind 1) (eqb kind 2) (eqb kind 3)) where
  go : (x y z : Bool) → eqb (cond x 0 (cond y 2 (cond z 5 7))) 6 ≡ false
  go true y z = refl
  go false true z = refl
  go false false true = refl
  go false false false = refl

verify-type : (a : Bool) → type_of a VERIFY ≡ 6
unfolding type_of
verify-type true = refl
verify-type false = refl

other-message : (id : Id) (r : Record) (kind : ℕ) (c : Contents) → eqb kind VERIFY ≡ false → verify_for id (message_of r kind c) ≡ false
other-message id r kind c e =
    let no : is_verify (message_of r kind c) ≡ false = ap (λ (k : ℕ). eqb k 6) (type-written r kind c) ∙ other-type r.acceptor kind e in
    rw no

scheme-written : (r : Record) (s : Id) (type : ℤ) (value : List ℕ) → length r.conversation ≡ 16 → length s ≡ 16
    → scheme_in (message_of r VERIFY (of_verify (record { scheme = s; type = type; value = value }))) ≡ s
unfolding encoded
scheme-written r s type value talk whole =
    let c : Contents = of_verify (record { scheme = s; type = type; value = value }) in
    octets-at 6 40 (head_fields (heading r VERIFY) (size_of c) ++ body_fields c) (simp (length-append, talk)) s _ refl 16 whole

verify-message : (id : Id) (r : Record) (s : Id) (type : ℤ) (value : List ℕ) → length r.conversation ≡ 16 → length s ≡ 16
    → verify_for id (message_of r VERIFY (of_verify (record { scheme = s; type = type; value = value }))) ≡ same_octets id s
verify-message id r s type value talk whole =
    let c : Contents = of_verify (record { scheme = s; type = type; value = value }) in
    let yes : is_verify (message_of r VERIFY c) ≡ true = ap (λ (k : ℕ). eqb k 6) (type-written r VERIFY c ∙ verify-type r.acceptor) in
    rw yes (ap (same_octets id) (scheme-written r s type value talk whole))

-- 2. what a call writes is a VERIFY for a scheme exactly where the call is one

abbrev is_writing : Call → Bool
is_writing k = not (is_reading k)

one_of : (p : List ℕ → Bool) (m : List ℕ) (b : Bool) → p m ≡ b → length (keep p (m ∷ [])) ≡ cond b 1 0
one_of p m true e = rw e
one_of p m false e = rw e

module _ (id : Id) (e : End) (peer : List ℕ) (log : List (List ℕ)) (ok : Sound e.record_of e.transcript log) where
  abbrev r : Record
  r = e.record_of

  abbrev d : List ℕ
  d = e.transcript

  speak-whole : (s : Speech) → is_accepted (speaking r d s).answer ≡ true → length (scheme_at r (scheme_now r)) ≡ 16
  unfolding speaking
  speak-whole s a =
      let rest : List Row = then_fits (named_rows r (speech_fits s)) r d (spoken r s) in
      let g = passed-by (stage_rows r (class_in s) ++ rest) r d _ refl a in
      ok.ids (scheme_now r)
      (now-below r
      (true-behind (stage_rows r (class_in s) ++ (row 25 (speech_fits s) ∷ [])) (row 15 (scheme_allowed r)) (fits r d (length (spoken r s)) ∷ []) g))

  choose-whole : (m : ℕ) (s : Speech) → is_accepted (choosing r d m s).answer ≡ true → length (scheme_at (chose r m) (scheme_now (chose r m))) ≡ 16
  unfolding choosing
  choose-whole m s a =
      let p = choice-passed r d m s (passed-by (choice_table r d m s) r d _ refl a) in
      let role : r.acceptor ≡ false = not-true _ (and_l (not r.acceptor) (eqb r.stage 2) p.may) in
      let (l1, (l2, (l3, (l4, (l5, (l6, (l7, rest))))))) = ok.limits in
      ap (λ (k : ℕ). length (scheme_at r k)) (now-chosen r m) ∙ ok.ids _ (chosen-below r m (rw role at l7) p.left)

  accepted-one : (k : Call) → is_accepted (act e peer k).answer ≡ true
      → length (keep (verify_for id) (added_by is_writing e peer k)) ≡ cond (verifies id r k) 1 0
  unfolding act
  accepted-one (offer nego) a = rw a (one_of (verify_for id) _ false (other-message id r NEGO _ refl))
  accepted-one (reply m nego) a = rw a (one_of (verify_for id) _ false (other-message id r NEGO _ refl))
  accepted-one (metadata scheme value) a = rw a (one_of (verify_for id) _ false (other-message id r METADATA _ refl))
  accepted-one (speak (request value)) a = rw a (one_of (verify_for id) _ false (other-message id r (class_in (request value)) _ refl))
  accepted-one (speak (checksum type value)) a =
      rw a (one_of (verify_for id) _ _ (verify-message id r _ type value ok.talk (speak-whole (checksum type value) a)))
  accepted-one (speak (alarm code)) a = rw a (one_of (verify_for id) _ false (other-message id r (class_in (alarm code)) _ refl))
  accepted-one read a = refl
  accepted-one (choose m (request value)) a = rw a (one_of (verify_for id) _ false (other-message id (chose r m) (class_in (request value)) _ refl))
  accepted-one (choose m (checksum type value)) a =
      rw a (one_of (verify_for id) _ _ (verify-message id (chose r m) _ type value ok.talk (choose-whole m (checksum type value) a)))
  accepted-one (choose m (alarm code)) a = rw a (one_of (verify_for id) _ false (other-message id (chose r m) (class_in (alarm code)) _ refl))

  one-call : (k : Call) → length (keep (verify_for id) (added_by is_writing e peer k)) ≡ cond (is_accepted (act e peer k).answer && verifies id r k) 1 0
  one-call k =
      elim (which (is_accepted (act e peer k).answer)) [ inl a ↦ rw a (rw a at (accepted-one k a)) | inr a ↦ rw a (rw a at (none k a)) ] where
        none : (k : Call) → is_accepted (act e peer k).answer ≡ false → length (keep (verify_for id) (added_by is_writing e peer k)) ≡ 0
        none (offer nego) a = rw a
        none (reply m nego) a = rw a
        none (metadata scheme value) a = rw a
        none (speak s) a = rw a
        none read a = refl
        none (choose m s) a = rw a

-- 3. a run: the calls are counted as their messages

pub keep_append : {A : Type 0} (p : A → Bool) (xs ys : List A) → keep p (xs ++ ys) ≡ keep p xs ++ keep p ys
keep_append p [] ys = refl
keep_append p (x ∷ xs) ys = elim (which (p x)) [ inl b ↦ rw (b, keep_append p xs ys) | inr b ↦ rw (b, keep_append p xs ys) ]

one_at : (id : Id) (x : Bool) (w : World) (l : Logs) → Both w l → (y : Bool) (k : Call)
    → length (keep (verify_for id) (added_at is_writing x w y k)) ≡ cond (here id w x y k) 1 0
one_at id false w l b false k = one-call id w.i w.a.turn l.i b.i k
one_at id false w l b true k = refl
one_at id true w l b false k = refl
one_at id true w l b true k = one-call id w.a w.i.turn l.a b.a k

counted : (id : Id) (x : Bool) (w : World) (l : Logs) → Both w l → (cs : List (Bool × Call))
    → length (keep (verify_for id) (written_in x w cs)) ≡ verify_count w x id cs
counted id x w l b [] = refl
counted id x w l b (c ∷ cs) =
    let here-is : List (List ℕ) = added_at is_writing x w c.0 c.1 in
    let there : List (List ℕ) = written_in x (next w c.0 c.1) cs in
    let rest = counted id x (next w c.0 c.1) (next_logs w c.0 c.1 l) (both-next w l b c.0 c.1) cs in
    ap length (keep_append (verify_for id) here-is there) ∙ length-append (keep (verify_for id) here-is) (keep (verify_for id) there)
    ∙ sum (here id w x c.0 c.1) (one_at id x w l b c.0 c.1) rest where
      sum : (v : Bool) {m n k : ℕ} → m ≡ cond v 1 0 → n ≡ k → m + n ≡ cond v (suc k) k
      sum true e f = omega arith
      sum false e f = omega arith

-- 4. the two claims

few : (o : Opening) (cs : List (Bool × Call)) (x : Bool) (id : Id)
    → length (keep (verify_for id) (written_in x (world o) cs)) ≡ verify_count (world o) x id cs
few o cs x id = counted id x (world o) (record { i = []; a = [] }) (both-opened o) cs

pub verify-once : VerifyOnce
verify-once o cs x id = let e = few o cs x id in let h = once id (world o) x cs (invs-start o) in omega arith

-- the flag is set exactly where the call that writes the one for the chosen scheme is in the run
flagged : (o : Opening) (cs : List (Bool × Call)) (x : Bool) → (record_at x (ends (world o) cs)).stage ≡ LATER
    → verify_count (world o) x (chosen_in (record_at x (ends (world o) cs))) cs ≡ cond (record_at x (ends (world o) cs)).attested 1 0
flagged o cs x st = go r.attested refl where
  r : Record
  r = record_at x (ends (world o) cs)

  id : Id
  id = scheme_at r r.chosen

  count : ℕ
  count = verify_count (world o) x id cs

  low : count ≤ 1
  low = once id (world o) x cs (invs-start o)

  go : (b : Bool) → r.attested ≡ b → count ≡ cond b 1 0
  go true v =
      let some : 1 ≤ 0 + count =
      (has-behind id (world o) x cs (invs-start o) 0 (has-start o id x)).had (λ z. omega arith) v (ap (scheme_at r) (sym (rw st))) in
      omega (arith, low)
  go false v = elim (which (eqb count 0)) [
    | inl h ↦ eqb-true _ _ h
    | inr h ↦
        let z : count ≡ 0 → ⊥ = eqb-false _ _ h in
        let some : 1 ≤ count = omega arith in
        absurd (none (written-gone id (world o) x cs (invs-start o) some))
  ] where
    none : Gone id r → ⊥
    none (inl e) = late r.acceptor e.early where
      late : (a : Bool) → EarlyStage a r.stage → ⊥
      late true q = omega arith
      late false (inl q) = omega arith
      late false (inr q) = omega arith
    none (inr (inl s)) = elim s.1 [ inl u ↦ no_true (sym v ∙ u) | inr f ↦ f refl ]
    none (inr (inr s)) = omega arith

pub flag-says : FlagSays
flag-says o cs x st = few o cs x (chosen_in (record_at x (ends (world o) cs))) ∙ flagged o cs x st
