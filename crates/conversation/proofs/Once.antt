-- An end has at most one accepted call with marks in a run, so that "its end's accepted call" names one.
-- Assumes nothing.
use Prim.Native.Nat.{ℕ, ◌+◌, ◌≤◌}
use mathlib.Core.Path.{◌≡◌, refl, sym, subst, ◌∙◌}
use mathlib.Core.Bool.{Bool, true, false, not, ◌&&◌}
use mathlib.Core.Logic.{◌⊎◌, inl, inr}
use mathlib.Core.List.Memᴰ
use mathlib.Core.List.{List, [], ◌∷◌, ◌++◌, Memᴰ}
use native.Mathlib.Omega.{arith}
use lib.ListN.{length}
use lib.Dec.{eqb, leb}
use borrow.Author.Tests.{eqb-true, ne_eqb, not-true}
use Rattle.octets.proofs.Bools.{which, no_true, and_l, and_r}
use Rattle.message.specs.Check.{Row, FirstFails}
use Rattle.schemes.specs.Lists.{Id, keep}
use Rattle.schemes.specs.Sets.{left, below}
use Rattle.conversation.specs.declared.Record.{Record}
use Rattle.conversation.specs.declared.Answer.{Answer}
use Rattle.conversation.specs.declared.Scan.{Scan}
use Rattle.conversation.specs.State.{closed, own_of, limit_rows}
use Rattle.conversation.specs.Turns.{NEGO, METADATA, writing, reading, writes, place_after, may_write}
use Rattle.conversation.specs.Outcomes.{Outcome, refused, closed_by, decide, row, room, fits, WrittenAs, appended, wrote}
use Rattle.conversation.specs.Writing.{extension_rows, stage_rows, then_fits, offered, offer_rows, offering, some_left, reply_message, reply_rows, naming, replying, metadata_message, metadata_rows, writing_metadata, named_rows, speaking, spoken, Speech, class_in, speech_fits, spoken_as}
use Rattle.conversation.specs.Reading.{Judged, whole, halted, judged, taken, finish, token_rows, reading_token}
use Rattle.conversation.specs.Choosing.{may_choose, chose, choosing}
use Rattle.conversation.specs.Runs.{NegoCall, Call, offer, reply, metadata, speak, read, choose, End, act, World, world, outcome_at, next, Entry, run, is_accepted}
use Rattle.conversation.specs.Claims.{at_end, accepted_at, with_marks, MarksOnce}
use Rattle.message.proofs.Tables.{without, fails-other}
use Rattle.conversation.proofs.Rows.{decide-out, true-behind}
use Rattle.conversation.proofs.Chosen.{choice_table, choice-passed}
use Rattle.conversation.proofs.Goals.{positive, nego-start}
use Rattle.conversation.proofs.Tokens.{judged-number}

-- 1. a call with marks

-- the acceptor's NEGO is written; the initiator has chosen; or the record is closed
abbrev Spent : Bool → Record → Type 0
Spent true r = ((r.stage ≡ 1) × (1 ≤ r.position)) ⊎ ((r.stage ≡ 3) ⊎ (r.stage ≡ 4))
Spent false r = (r.stage ≡ 3) ⊎ (r.stage ≡ 4)

-- after the call k at an end of the role x: the role is kept, what is spent stays so, and an accepted call with marks spends
record Behind (x : Bool) (r : Record) (k : Call) (a : Answer) : Type 0 where
  role : a.next.acceptor ≡ x
  stays : Spent x r → Spent x a.next
  spends : with_marks k ≡ true → is_accepted a ≡ true → (Spent x r → ⊥) × Spent x a.next

-- the acceptor writes its NEGO at stage 1 only
reply-stage : (stage : ℕ) → leb (writing true stage) 1 ≡ true → stage ≡ 1
unfolding writing
reply-stage stage h = elim (which (eqb stage 1)) [
  | inl a ↦ eqb-true _ _ a
  | inr a ↦ elim (which (eqb stage 3)) [ inl b ↦ no_true (rw (a, b) at h) | inr b ↦ no_true (rw (a, b) at h) ]
]

module _ (x : Bool) (r : Record) (d : List ℕ) (role : r.acceptor ≡ x) where
  refusal : (k : Call) (n p : ℕ) → (n ≡ 0 → ⊥) → Behind x r k (refused r d n p).answer
  refusal k n p z = record { role = role; stays = λ s. s; spends = λ m a. no_true (sym (ne_eqb n 0 z) ∙ a) }

  abbrev Goes : Call → Outcome → Type 0
  Goes k out = Behind x r k out.answer

  stopped : (k : Call) (rows : List Row) → without 0 rows ≡ true → (n : ℕ) → FirstFails n rows → Goes k (refused r d n 0)
  stopped k rows z n g = refusal k n 0 (fails-other 0 rows n z g)

  -- a written message leaves the stage, and stands at a place after the turn's start
  wrote-stays : (b : Bool) (kind n : ℕ) (w : WrittenAs) → may_write r kind ≡ true → Spent b r → Spent b (wrote r (place_after r kind) n w)
  wrote-stays true kind n w h (inl s) = inl (s.0, positive (place_after r kind) h)
  wrote-stays true kind n w h (inr s) = inr s
  wrote-stays false kind n w h s = s

  write : (k : Call) (kind : ℕ) (rows : List Row) (m : List ℕ) (w : WrittenAs) → with_marks k ≡ false → without 0 (then_fits rows r d m) ≡ true
      → Goes k (decide (stage_rows r kind ++ then_fits rows r d m) r d (appended r d (place_after r kind) m w))
  write k kind rows m w plain z =
      let table : List Row = stage_rows r kind ++ then_fits rows r d m in
      decide-out (Goes k) table r d (appended r d (place_after r kind) m w) (stopped k table z)
      (λ g. record {
        role = role;
        stays = wrote-stays x kind (length m) w (true-behind (limit_rows r) (row 18 (may_write r kind)) (then_fits rows r d m) g);
        spends = λ m a. no_true (sym plain ∙ m);
      })

  replied : (b : Bool) → r.acceptor ≡ b → r.acceptor ≡ true → may_write r NEGO ≡ true → (n : ℕ) (w : WrittenAs)
      → (Spent b r → ⊥) × Spent b (wrote r (place_after r NEGO) n w)
  unfolding writing
  replied false e f h n w = no_true (sym e ∙ f)
  replied true e f h n w =
      let z = nego-start (writes r) r.position r.attested h in
      let st : r.stage ≡ 1 = reply-stage r.stage (rw e at z.0) in
      (spent st z.1, inl (st, positive (place_after r NEGO) h)) where
        spent : r.stage ≡ 1 → r.position ≡ 0 → Spent true r → ⊥
        spent st p (inl s) = omega (arith, s.1)
        spent st p (inr (inl s)) = omega arith
        spent st p (inr (inr s)) = omega arith

  write-reply : (m : ℕ) (nego : NegoCall) → Goes (reply m nego) (replying r d m nego.0)
  unfolding replying
  write-reply m nego =
      let l : List Id = left (own_of r) r.common m in
      let rest : List Row =
      row 19 (below r.count m) ∷ (extension_rows nego.0 ++ (row 17 (some_left l) ∷ fits r d (length (reply_message r m nego.0)) ∷ [])) in
      let w : WrittenAs = record { marks = m; metadata = r.metadata; requested = r.requested; attested = r.attested } in
      decide-out (Goes (reply m nego)) (stage_rows r NEGO ++ then_fits (reply_rows r m nego.0) r d (reply_message r m nego.0)) r d
      (naming l (appended r d (place_after r NEGO) (reply_message r m nego.0) w))
      (stopped (reply m nego) (stage_rows r NEGO ++ then_fits (reply_rows r m nego.0) r d (reply_message r m nego.0)) refl)
      (λ g.
      let h = true-behind (limit_rows r) (row 18 (may_write r NEGO)) (then_fits (reply_rows r m nego.0) r d (reply_message r m nego.0)) g in
      record {
        role = role;
        stays = wrote-stays x NEGO (length (reply_message r m nego.0)) w h;
        spends = λ k a. replied x role (true-behind (stage_rows r NEGO) (row 18 r.acceptor) rest g) h (length (reply_message r m nego.0)) w;
      })

  chosen : (b : Bool) → r.acceptor ≡ b → may_choose r ≡ true → (m position n : ℕ) (w : WrittenAs)
      → (Spent b r → ⊥) × Spent b (wrote (chose r m) position n w)
  chosen true e h m position n w = no_true (rw e at h)
  chosen false e h m position n w =
      let st : r.stage ≡ 2 = eqb-true _ _ (and_r (not r.acceptor) (eqb r.stage 2) h) in
      ((λ s. elim s [ inl a ↦ omega arith | inr a ↦ omega arith ]), inl refl)

  choose-goes : (m : ℕ) (s : Speech) → Goes (choose m s) (choosing r d m s)
  unfolding choosing
  choose-goes m s =
      decide-out (Goes (choose m s)) (choice_table r d m s) r d _
      (stopped (choose m s) (choice_table r d m s) refl)
      (λ g.
      let c =
      chosen x role (choice-passed r d m s g).may m (place_after (chose r m) (class_in s)) (length (spoken (chose r m) s))
      (spoken_as (chose r m) s) in
      record { role = role; stays = λ h. absurd (c.0 h); spends = λ k a. c })

  -- a later token is read into stage 3
  taken-stays : (b : Bool) → r.acceptor ≡ b → (t : List ℕ) (n : ℕ) (c : Scan) → Spent b r → Spent b (taken r t n c)
  unfolding reading
  taken-stays true e t n c (inl s) = inr (inl (rw (e, s.0)))
  taken-stays true e t n c (inr (inl s)) = inr (inl (rw (e, s)))
  taken-stays true e t n c (inr (inr s)) = inr (inr (rw (e, s)))
  taken-stays false e t n c (inl s) = inl (rw (e, s))
  taken-stays false e t n c (inr s) = inr (rw (e, s))

  -- a record that closes is spent
  shut : (b : Bool) → Spent b (closed r)
  shut true = inr (inr refl)
  shut false = inr refl

  halted-goes : (n p : ℕ) → (n ≡ 0 → ⊥) → Goes read (refused (closed_by n r) d n p)
  halted-goes n p z = elim (which (eqb n 12)) [
    | inl h ↦ rw h (record { role = role; stays = λ s. shut x; spends = λ m a. no_true m })
    | inr h ↦ rw h (refusal read n p z)
  ]

  read_goes : (t : List ℕ) → Goes read (reading_token r d t)
  unfolding reading_token
  read_goes t =
      let rows : List Row = limit_rows r ++ token_rows r (length t) in
      decide-out (Goes read) rows r d (finish r d t (judged r t)) (stopped read rows refl) (λ g. token (judged r t) refl) where
        token : (j : Judged) → judged r t ≡ j → Goes read (finish r d t j)
        token (halted n p) w = unfold finish in halted-goes n p (judged-number r t n p w).0
        token (whole n c) w = unfold finish in elim (which (leb (r.used + length t) (room d))) [
          | inl b ↦ rw b (record { role = role; stays = taken-stays x role t n c; spends = λ m a. no_true m })
          | inr b ↦ rw b (refusal read 16 0 (λ z. omega arith))
        ]

behind : (x : Bool) (e : End) (peer : List ℕ) (k : Call) → e.record_of.acceptor ≡ x → Behind x e.record_of k (act e peer k).answer
unfolding act offering writing_metadata speaking
behind x e peer (offer nego) h =
    write x e.record_of e.transcript h (offer nego) NEGO
    (offer_rows e.record_of nego.0) (offered e.record_of nego.0) _ refl refl
behind x e peer (reply m nego) h = write-reply x e.record_of e.transcript h m nego
behind x e peer (metadata id value) h =
    write x e.record_of e.transcript h (metadata id value) METADATA
    (metadata_rows e.record_of id.0 (length value)) (metadata_message e.record_of id.0 value) _ refl refl
behind x e peer (speak s) h =
    write x e.record_of e.transcript h (speak s) (class_in s)
    (named_rows e.record_of (speech_fits s)) (spoken e.record_of s) (spoken_as e.record_of s) refl refl
behind x e peer read h = read_goes x e.record_of e.transcript h peer
behind x e peer (choose m s) h = choose-goes x e.record_of e.transcript h m s

-- 2. a run: calls that are accepted at most once at an end, since the first one spends what they need

abbrev end_of : Bool → World → End
end_of false w = w.i
end_of true w = w.a

-- both ends keep their roles
abbrev Roles : World → Type 0
Roles w = (w.i.record_of.acceptor ≡ false) × (w.a.record_of.acceptor ≡ true)

roles-kept : (w : World) (y : Bool) (k : Call) → Roles w → Roles (next w y k)
roles-kept w false k h = ((behind false w.i w.a.turn k h.0).role, h.1)
roles-kept w true k h = (h.0, (behind true w.a w.i.turn k h.1).role)

at-end : (x : Bool) (y : Entry) → at_end x y ≡ true → y.acceptor ≡ x
at-end true y e = e
at-end false y e = not-true y.acceptor e

module _ (Gone : Bool → Record → Type 0) (sort : Call → Bool)
    (stays : (x : Bool) (e : End) (peer : List ℕ) (k : Call) → e.record_of.acceptor ≡ x → Gone x e.record_of
    → Gone x (act e peer k).answer.next)
    (spends : (x : Bool) (e : End) (peer : List ℕ) (k : Call) → e.record_of.acceptor ≡ x → sort k ≡ true → is_accepted (act e peer k).answer ≡ true
    → (Gone x e.record_of → ⊥) × Gone x (act e peer k).answer.next) where
  -- what is gone at the end x stays so, whichever end the call is at
  gone-kept : (w : World) (x y : Bool) (k : Call) → Roles w → Gone x (end_of x w).record_of → Gone x (end_of x (next w y k)).record_of
  gone-kept w false false k h s = stays false w.i w.a.turn k h.0 s
  gone-kept w false true k h s = s
  gone-kept w true false k h s = s
  gone-kept w true true k h s = stays true w.a w.i.turn k h.1 s

  spends-at : (w : World) (x : Bool) (k : Call) → Roles w → sort k ≡ true → is_accepted (outcome_at w x k).answer ≡ true
      → (Gone x (end_of x w).record_of → ⊥) × Gone x (end_of x (next w x k)).record_of
  spends-at w false k h c a = spends false w.i w.a.turn k h.0 c a
  spends-at w true k h c a = spends true w.a w.i.turn k h.1 c a

  -- the first call of a list, where it is one of them: not before, and then gone
  first-spends : (x : Bool) (w : World) (y : Bool) (k : Call) → Roles w
      → accepted_at x sort (record { acceptor = y; call = k; said = (outcome_at w y k).answer }) ≡ true
      → (Gone x (end_of x w).record_of → ⊥) × Gone x (end_of x (next w y k)).record_of
  first-spends x w y k h e =
      let first : Entry = record { acceptor = y; call = k; said = (outcome_at w y k).answer } in
      let rest = and_r (at_end x first) (is_accepted first.said && sort k) e in
      let g = spends-at w y k h (and_r (is_accepted first.said) (sort k) rest) (and_l (is_accepted first.said) (sort k) rest) in
      subst (λ (z : Bool). (Gone z (end_of z w).record_of → ⊥) × Gone z (end_of z (next w y k)).record_of)
      (at-end x first (and_l (at_end x first) (is_accepted first.said && sort k) e)) g

  none-behind : (x : Bool) (w : World) (cs : List (Bool × Call)) → Roles w → Gone x (end_of x w).record_of → keep (accepted_at x sort) (run w cs) ≡ []
  none-behind x w [] h s = refl
  none-behind x w (c ∷ cs) h s =
      elim (which (accepted_at x sort (record { acceptor = c.0; call = c.1; said = (outcome_at w c.0 c.1).answer }))) [
        | inl e ↦ absurd ((first-spends x w c.0 c.1 h e).0 s)
        | inr e ↦ rw e (none-behind x (next w c.0 c.1) cs (roles-kept w c.0 c.1 h) (gone-kept w x c.0 c.1 h s))
      ]

  once : (x : Bool) (w : World) (cs : List (Bool × Call)) → Roles w → length (keep (accepted_at x sort) (run w cs)) ≤ 1
  once x w [] h = omega arith
  once x w (c ∷ cs) h =
      let roles = roles-kept w c.0 c.1 h in
      elim (which (accepted_at x sort (record { acceptor = c.0; call = c.1; said = (outcome_at w c.0 c.1).answer }))) [
        | inl e ↦ rw (e, none-behind x (next w c.0 c.1) cs roles (first-spends x w c.0 c.1 h e).1) (omega arith)
        | inr e ↦ rw e (once x (next w c.0 c.1) cs roles)
      ]

-- 3. an end's accepted call with marks is one

pub marks-once : MarksOnce
marks-once o cs x =
    once Spent with_marks (λ b e p c h. (behind b e p c h).stays) (λ b e p c h. (behind b e p c h).spends) x (world o) cs (refl, refl)

-- two that are kept, where at most one is, are the same
kept_in : {A : Type 0} (p : A → Bool) (l : List A) (y : A) → Memᴰ y l → p y ≡ true → Memᴰ y (keep p l)
kept_in p [] y m h = absurd (Memᴰ.not-nil m)
kept_in p (x ∷ l) y m h = elim (Memᴰ.cases_cons m) [
  | inl e ↦ let k : p x ≡ true = subst (λ z. p z ≡ true) e h in rw k (Memᴰ.head e)
  | inr i ↦ elim (which (p x)) [ inl k ↦ rw k (Memᴰ.tail (kept_in p l y i h)) | inr k ↦ rw k (kept_in p l y i h) ]
]

only : {A : Type 0} (a u : A) → Memᴰ u (a ∷ []) → u ≡ a
only a u m = elim (Memᴰ.cases_cons m) [ inl e ↦ e | inr i ↦ absurd (Memᴰ.not-nil i) ]

same-one : {A : Type 0} (l : List A) (y z : A) → length l ≤ 1 → Memᴰ y l → Memᴰ z l → y ≡ z
same-one [] y z n i j = absurd (Memᴰ.not-nil i)
same-one (a ∷ []) y z n i j = only a y i ∙ sym (only a z j)
same-one (a ∷ b ∷ l) y z n i j = absurd (omega arith)

pub same_kept : {A : Type 0} (p : A → Bool) (l : List A) (y z : A) → length (keep p l) ≤ 1 → Memᴰ y l → Memᴰ z l → p y ≡ true → p z ≡ true
    → y ≡ z
same_kept p l y z n i j g h = same-one (keep p l) y z n (kept_in p l y i g) (kept_in p l z j h)
