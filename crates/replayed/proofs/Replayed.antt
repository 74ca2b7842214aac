-- A run whose messages are all read is replayed to the same ends.
-- Assumes nothing.
use Prim.Native.Nat.{ℕ, ◌+◌, ◌/◌, ◌%◌, ◌<◌, ◌≤◌}
use mathlib.Core.Path.{◌≡◌, refl, sym, ap, subst, ◌∙◌}
use mathlib.Core.Bool.{Bool, true, false, cond, not, ◌&&◌}
use mathlib.Core.Logic.{◌⊎◌, inl, inr}
use mathlib.Core.List.{List, [], ◌∷◌, ◌++◌, append_assoc, append-nil, Memᴰ}
use mathlib.Core.Option.{some}
use native.Mathlib.Omega.{arith}
use lib.ListN.{length, take, length-append}
use lib.Dec.{eqb}
use borrow.Author.Tests.{eq-eqb, eqb-true, le-leb}
use Rattle.octets.proofs.Bools.{which, no_true}
use Rattle.message.specs.Layout.{head_of}
use Rattle.message.specs.Show.{ids_of}
use Rattle.token.specs.Split.{join}
use Rattle.token.proofs.Joins.{join-append}
use Rattle.roundtrip.proofs.RoundTrip.{ids-joined}
use Rattle.schemes.specs.Lists.{Id, one_to16, whole_ids, list_ok, join_ids}
use Rattle.schemes.specs.Sets.{below}
use Rattle.conversation.specs.declared.Record.{Record}
use Rattle.conversation.specs.declared.Answer.{Answer}
use Rattle.conversation.specs.State.{limit_rows, fresh}
use Rattle.conversation.specs.Outcomes.{zero_id}
use Rattle.conversation.specs.Runs.{Call, offer, reply, metadata, speak, read, choose, End, act, moved, Opening, World, world, outcome_at, next, ends, Entry, run, is_accepted}
use Rattle.conversation.specs.Logs.{InOrder, Logs, next_logs, logs_after, logs_of, added, Counted}
use Rattle.conversation.specs.Claims.{is_reading, added_at, written_in, read_in}
use Rattle.conversation.proofs.Decides.{first-none}
use Rattle.conversation.proofs.Accepted.{refused-stays}
use Rattle.conversation.proofs.Ends.{each-whole, length-joined, count-joined, opening-fresh}
use Rattle.conversation.proofs.Inside.{limits-counts}
use Rattle.conversation.proofs.Demand.{all-sized}
use Rattle.conversation.proofs.Logs.{Both, both-next, both-opened, every-run}
use Rattle.sides.specs.Merging.{Turn, token, messages_of, turns_of}
use Rattle.sides.specs.Replay.{Case, Sides, Played, Whose, finished, initiator, acceptor, side_of, marks_of, file_ending, before, choice_of, play_from, conversation_in, opened, turns_in, replay_of}
use Rattle.sides.proofs.Cutting.{Pieces, messages-join, ends_join}
use Rattle.sides.proofs.Turns.{all_of, of_side, turns-of-sides, sides-in-row}
use Rattle.replayed.specs.Claims.{AllRead, MarksAre, case_of, SameTranscript, SameEnds, ReplaysRun}
use Rattle.replayed.proofs.Writes.{Marked}
use Rattle.replayed.proofs.Played.{Level, Holds, sides_after, AllHeard, played-all, AlternateTo, alternates}
use Rattle.replayed.proofs.Shut.{Shut, shuts, writer-12, reader-12, parted-12, shut-initiator, shut-acceptor}
use Rattle.conversation.proofs.Closed.{only-reading-12}
use Rattle.replayed.proofs.Steps.{Talks, spoken_by, Parted, parted-swap, parted-on, parted-unread, fresh-reader, Good, good-unread, good-writes, good-parts, good-reads}

-- 1. one call of a run

abbrev is_writing : Call → Bool
is_writing k = not (is_reading k)

reading-or : (k : Call) → (k ≡ read) ⊎ (is_reading k ≡ false)
reading-or (offer nego) = inr refl
reading-or (reply m nego) = inr refl
reading-or (metadata id value) = inr refl
reading-or (speak s) = inr refl
reading-or read = inl refl
reading-or (choose m s) = inr refl

unlike-read : (k : Call) → is_reading k ≡ false → k ≡ read → ⊥
unlike-read k e q = no_true (sym e ∙ ap is_reading q)

module _ (c : Case) (s₀ : Sides) (v : List ℕ) where
  -- the initiator's turn, the acceptor's, or parted
  abbrev Inv : World → Logs → List (List ℕ) → List (List ℕ) → List (List ℕ) → List (List ℕ) → Type 0
  Inv w l wi wa ri ra =
      Good c s₀ v false w.i w.a l.i l.a wi wa ri ra
      ⊎ (Good c s₀ v true w.a w.i l.a l.i wa wi ra ri ⊎ Parted w.i w.a wi wa ri ra)

  move : (w : World) (l : Logs) {wi wa ri ra wi' wa' ri' ra' : List (List ℕ)} → wi ≡ wi' → wa ≡ wa' → ri ≡ ri' → ra ≡ ra' → Inv w l wi wa ri ra
      → Inv w l wi' wa' ri' ra'
  move w l {wi} {wa} {ri} {ra} {wi'} {wa'} {ri'} {ra'} a b d e h =
      subst (λ (x : List (List ℕ)). Inv w l x wa' ri' ra') a
      (subst (λ (x : List (List ℕ)). Inv w l wi x ri' ra') b
      (subst (λ (x : List (List ℕ)). Inv w l wi wa x ra') d (subst (λ (x : List (List ℕ)). Inv w l wi wa ri x) e h)))

  nil : (l : List (List ℕ)) → l ≡ l ++ []
  nil l = sym (append-nil l)

  -- an accepted call of the initiator
  i-writes : (w : World) (l : Logs) (wi wa ri ra : List (List ℕ)) → Both w l → Inv w l wi wa ri ra → (k : Call) → Marked false (marks_of false c) k
      → is_reading k ≡ false
      → is_accepted (act w.i w.a.turn k).answer ≡ true
      → Inv (next w false k) (record { i = l.i ++ added w.i w.a.turn k; a = l.a }) (wi ++ added w.i w.a.turn k) wa ri ra
  i-writes w l wi wa ri ra b (inl g) k m n a = inl (good-writes c s₀ v false w.i w.a l.i l.a wi wa ri ra g b.i k m (unlike-read k n) a)
  i-writes w l wi wa ri ra b (inr (inl g)) k m n a =
      inr (inr (good-parts c s₀ v true w.a w.i l.a l.i wa wi ra ri g b.i k (unlike-read k n) a))
  i-writes w l wi wa ri ra b (inr (inr p)) k m n a = inr (inr (parted-on w.i w.a l.i wi wa ri ra b.i p k (unlike-read k n) a))

  i-reads : (w : World) (l : Logs) (wi wa ri ra : List (List ℕ)) → Inv w l wi wa ri ra → is_accepted (act w.i w.a.turn read).answer ≡ true
      → Inv (next w false read) (record { i = l.i ++ added w.i w.a.turn read; a = l.a }) wi wa (ri ++ added w.i w.a.turn read) ra
  i-reads w l wi wa ri ra (inl g) a = absurd (good-unread c s₀ v false w.i w.a l.i l.a wi wa ri ra g a)
  i-reads w l wi wa ri ra (inr (inl g)) a = inl (good-reads c s₀ v true w.a w.i l.a l.i wa wi ra ri g a)
  i-reads w l wi wa ri ra (inr (inr p)) a = absurd (parted-unread w.i w.a wi wa ri ra p a)

  -- and of the acceptor
  a-writes : (w : World) (l : Logs) (wi wa ri ra : List (List ℕ)) → Both w l → Inv w l wi wa ri ra → (k : Call) → Marked true (marks_of true c) k
      → is_reading k ≡ false
      → is_accepted (act w.a w.i.turn k).answer ≡ true
      → Inv (next w true k) (record { i = l.i; a = l.a ++ added w.a w.i.turn k }) wi (wa ++ added w.a w.i.turn k) ri ra
  a-writes w l wi wa ri ra b (inl g) k m n a =
      inr (inr (parted-swap _ _ _ _ _ _ (good-parts c s₀ v false w.i w.a l.i l.a wi wa ri ra g b.a k (unlike-read k n) a)))
  a-writes w l wi wa ri ra b (inr (inl g)) k m n a =
      inr (inl (good-writes c s₀ v true w.a w.i l.a l.i wa wi ra ri g b.a k m (unlike-read k n) a))
  a-writes w l wi wa ri ra b (inr (inr p)) k m n a =
      inr (inr (parted-swap _ _ _ _ _ _ (parted-on w.a w.i l.a wa wi ra ri b.a (parted-swap _ _ _ _ _ _ p) k (unlike-read k n) a)))

  a-reads : (w : World) (l : Logs) (wi wa ri ra : List (List ℕ)) → Inv w l wi wa ri ra → is_accepted (act w.a w.i.turn read).answer ≡ true
      → Inv (next w true read) (record { i = l.i; a = l.a ++ added w.a w.i.turn read }) wi wa ri (ra ++ added w.a w.i.turn read)
  a-reads w l wi wa ri ra (inl g) a = inr (inl (good-reads c s₀ v false w.i w.a l.i l.a wi wa ri ra g a))
  a-reads w l wi wa ri ra (inr (inl g)) a = absurd (good-unread c s₀ v true w.a w.i l.a l.i wa wi ra ri g a)
  a-reads w l wi wa ri ra (inr (inr p)) a = absurd (parted-unread w.a w.i wa wi ra ri (parted-swap _ _ _ _ _ _ p) a)

  -- any call
  module _ (w : World) (l : Logs) (wi wa ri ra : List (List ℕ)) (b : Both w l) (h : Inv w l wi wa ri ra) where
    abbrev Then : Bool → Call → Type 0
    Then y k =
        Inv (next w y k) (next_logs w y k l)
        (wi ++ added_at is_writing false w y k) (wa ++ added_at is_writing true w y k)
        (ri ++ added_at is_reading false w y k) (ra ++ added_at is_reading true w y k)

    off : (a b : Bool) (x : List (List ℕ)) → b ≡ false → cond (a && b) x [] ≡ []
    off true true x e = no_true (sym e)
    off true false x e = refl
    off false b x e = refl

    pick : (b : Bool) (x y : List (List ℕ)) → b ≡ true → x ≡ cond b x y
    pick true x y e = refl
    pick false x y e = no_true e

    none_of : (b c : Bool) (x : List (List ℕ)) → b ≡ false → cond (b && c) x [] ≡ []
    none_of true c x e = no_true (sym e)
    none_of false c x e = refl

    all-of : (b c : Bool) (x : List (List ℕ)) → b ≡ true → c ≡ true → cond (b && c) x [] ≡ x
    all-of true true x e f = refl
    all-of true false x e f = no_true f
    all-of false c x e f = no_true e

    by : (l a : List (List ℕ)) {b : List (List ℕ)} → b ≡ a → l ++ a ≡ l ++ b
    by l a e = ap (λ (k : List (List ℕ)). l ++ k) (sym e)

    nothing : (l : List (List ℕ)) {b : List (List ℕ)} → b ≡ [] → l ≡ l ++ b
    nothing l e = sym (append-nil l) ∙ ap (λ (k : List (List ℕ)). l ++ k) (sym e)

    i-accepted : (k : Call) → Marked false (marks_of false c) k → is_accepted (act w.i w.a.turn k).answer ≡ true
        → (k ≡ read) ⊎ (is_reading k ≡ false) → Then false k
    i-accepted k m a d =
        let logs : record { i = l.i ++ added w.i w.a.turn k; a = l.a } ≡ next_logs w false k l =
        ap (λ (x : List (List ℕ)). record { i = x; a = l.a })
        (pick (is_accepted (outcome_at w false k).answer) (l.i ++ added w.i w.a.turn k) l.i a) in
        subst (λ (n : Logs). Inv (next w false k) n (wi ++ added_at is_writing false w false k) (wa ++ []) (ri ++ added_at is_reading false w false k)
        (ra ++ [])) logs (go d) where
          acc : Bool
          acc = is_accepted (act w.i w.a.turn k).answer

          go : (k ≡ read) ⊎ (is_reading k ≡ false) → Inv (next w false k) (record { i = l.i ++ added w.i w.a.turn k; a = l.a })
              (wi ++ added_at is_writing false w false k) (wa ++ []) (ri ++ added_at is_reading false w false k) (ra ++ [])
          go (inr e) =
              move (next w false k) _ (by wi (added w.i w.a.turn k) (all-of (is_writing k) acc (added w.i w.a.turn k) (ap not e) a))
              (nil wa) (nothing ri (none_of (is_reading k) acc (added w.i w.a.turn k) e)) (nil ra) (i-writes w l wi wa ri ra b h k m e a)
          go (inl e) =
              let r : is_reading k ≡ true = ap is_reading e in
              move (next w false k) _ (nothing wi (none_of (is_writing k) acc (added w.i w.a.turn k) (ap not r))) (nil wa)
              (by ri (added w.i w.a.turn k) (all-of (is_reading k) acc (added w.i w.a.turn k) r a)) (nil ra)
              (subst (λ (j : Call). is_accepted (act w.i w.a.turn j).answer ≡ true
              → Inv (next w false j) (record { i = l.i ++ added w.i w.a.turn j; a = l.a }) wi wa (ri ++ added w.i w.a.turn j) ra)
              (sym e) (i-reads w l wi wa ri ra h) a)

    a-accepted : (k : Call) → Marked true (marks_of true c) k → is_accepted (act w.a w.i.turn k).answer ≡ true
        → (k ≡ read) ⊎ (is_reading k ≡ false) → Then true k
    a-accepted k m a d =
        let logs : record { i = l.i; a = l.a ++ added w.a w.i.turn k } ≡ next_logs w true k l =
        ap (λ (x : List (List ℕ)). record { i = l.i; a = x })
        (pick (is_accepted (outcome_at w true k).answer) (l.a ++ added w.a w.i.turn k) l.a a) in
        subst (λ (n : Logs). Inv (next w true k) n (wi ++ []) (wa ++ added_at is_writing true w true k) (ri ++ [])
        (ra ++ added_at is_reading true w true k)) logs (go d) where
          acc : Bool
          acc = is_accepted (act w.a w.i.turn k).answer

          go : (k ≡ read) ⊎ (is_reading k ≡ false) → Inv (next w true k) (record { i = l.i; a = l.a ++ added w.a w.i.turn k }) (wi ++ [])
              (wa ++ added_at is_writing true w true k) (ri ++ []) (ra ++ added_at is_reading true w true k)
          go (inr e) =
              move (next w true k) _ (nil wi)
              (by wa (added w.a w.i.turn k) (all-of (is_writing k) acc (added w.a w.i.turn k) (ap not e) a)) (nil ri)
              (nothing ra (none_of (is_reading k) acc (added w.a w.i.turn k) e)) (a-writes w l wi wa ri ra b h k m e a)
          go (inl e) =
              let r : is_reading k ≡ true = ap is_reading e in
              move (next w true k) _ (nil wi) (nothing wa (none_of (is_writing k) acc (added w.a w.i.turn k) (ap not r))) (nil ri)
              (by ra (added w.a w.i.turn k) (all-of (is_reading k) acc (added w.a w.i.turn k) r a))
              (subst (λ (j : Call). is_accepted (act w.a w.i.turn j).answer ≡ true
              → Inv (next w true j) (record { i = l.i; a = l.a ++ added w.a w.i.turn j }) wi wa ri (ra ++ added w.a w.i.turn j))
              (sym e) (a-reads w l wi wa ri ra h) a)

    -- a refused call changes nothing, and adds nothing
    none-added : (sort : Call → Bool) (x y : Bool) (k : Call) → is_accepted (outcome_at w y k).answer ≡ false → added_at sort x w y k ≡ []
    none-added sort false false k a = off (sort k) (is_accepted (outcome_at w false k).answer) (added w.i w.a.turn k) a
    none-added sort false true k a = refl
    none-added sort true false k a = refl
    none-added sort true true k a = off (sort k) (is_accepted (outcome_at w true k).answer) (added w.a w.i.turn k) a

    refused-then : (y : Bool) (k : Call) → is_accepted (outcome_at w y k).answer ≡ false → eqb (outcome_at w y k).answer.refusal 12 ≡ false → Then y k
    refused-then y k a n =
        let same : w ≡ next w y k = sym (refused-stays w y k (rw (a, n))) in
        let logs : l ≡ next_logs w y k l = kept y a in
        move (next w y k) (next_logs w y k l) (nothing wi (none-added is_writing false y k a)) (nothing wa (none-added is_writing true y k a))
        (nothing ri (none-added is_reading false y k a)) (nothing ra (none-added is_reading true y k a))
        (subst (λ (m : Logs). Inv (next w y k) m wi wa ri ra) logs (subst (λ (z : World). Inv z l wi wa ri ra) same h)) where
          kept : (z : Bool) → is_accepted (outcome_at w z k).answer ≡ false → l ≡ next_logs w z k l
          kept false e = rw e
          kept true e = rw e

    -- a reading that is refused with 12 closes its end, and what it was to read stays unread
    abbrev Closes : Bool → Call → Type 0
    Closes y k =
        Shut (next w y k).i (wa ++ added_at is_writing true w y k) (ri ++ added_at is_reading false w y k)
        ⊎ Shut (next w y k).a (wi ++ added_at is_writing false w y k) (ra ++ added_at is_reading true w y k)

    twelve : (y : Bool) (k : Call) → is_accepted (outcome_at w y k).answer ≡ false → (outcome_at w y k).answer.refusal ≡ 12 → Closes y k
    twelve false k a n =
        let is : k ≡ read = only-reading-12 w.i w.a.turn k n in
        inl (subst (λ (x : List (List ℕ)). Shut (next w false k).i x (ri ++ added_at is_reading false w false k))
        (nothing wa (none-added is_writing true false k a))
        (subst (Shut (next w false k).i wa) (nothing ri (none-added is_reading false false k a))
        (subst (λ (j : Call). (act w.i w.a.turn j).answer.refusal ≡ 12 → Shut (moved w.i j (act w.i w.a.turn j)) wa ri) (sym is)
        (λ z. shuts w.i w.a.turn wa ri z (low h z)) n))) where
          low : Inv w l wi wa ri ra → (act w.i w.a.turn read).answer.refusal ≡ 12 → length ri < length wa
          low (inl g) z = absurd (writer-12 c s₀ v false w.i w.a l.i l.a wi wa ri ra g z)
          low (inr (inl g)) z = reader-12 c s₀ v true w.a w.i l.a l.i wa wi ra ri g z
          low (inr (inr p)) z = absurd (parted-12 w.i w.a p.here z)
    twelve true k a n =
        let is : k ≡ read = only-reading-12 w.a w.i.turn k n in
        inr (subst (λ (x : List (List ℕ)). Shut (next w true k).a x (ra ++ added_at is_reading true w true k))
        (nothing wi (none-added is_writing false true k a))
        (subst (Shut (next w true k).a wi) (nothing ra (none-added is_reading true true k a))
        (subst (λ (j : Call). (act w.a w.i.turn j).answer.refusal ≡ 12 → Shut (moved w.a j (act w.a w.i.turn j)) wi ra) (sym is)
        (λ z. shuts w.a w.i.turn wi ra z (low h z)) n))) where
          low : Inv w l wi wa ri ra → (act w.a w.i.turn read).answer.refusal ≡ 12 → length ra < length wi
          low (inl g) z = reader-12 c s₀ v false w.i w.a l.i l.a wi wa ri ra g z
          low (inr (inl g)) z = absurd (writer-12 c s₀ v true w.a w.i l.a l.i wa wi ra ri g z)
          low (inr (inr p)) z = absurd (parted-12 w.a w.i p.there z)

    step : (y : Bool) (k : Call) → (is_accepted (outcome_at w y k).answer ≡ true → Marked y (marks_of y c) k) → Then y k ⊎ Closes y k
    step y k m = elim (which (is_accepted (outcome_at w y k).answer)) [
      | inl a ↦ inl (go y m a)
      | inr a ↦ elim (which (eqb (outcome_at w y k).answer.refusal 12))
          [ inl n ↦ inr (twelve y k a (eqb-true _ _ n)) | inr n ↦ inl (refused-then y k a n) ]
    ] where
      go : (z : Bool) → (is_accepted (outcome_at w z k).answer ≡ true → Marked z (marks_of z c) k) → is_accepted (outcome_at w z k).answer ≡ true
          → Then z k
      go false n a = i-accepted k (n a) a (reading-or k)
      go true n a = a-accepted k (n a) a (reading-or k)

  -- 2. a run

  -- in step, parted, or closed
  abbrev State : World → Logs → List (List ℕ) → List (List ℕ) → List (List ℕ) → List (List ℕ) → Type 0
  State w l wi wa ri ra = Inv w l wi wa ri ra ⊎ (Shut w.i wa ri ⊎ Shut w.a wi ra)

  moved_to : (w : World) (l : Logs) {wi wa ri ra wi' wa' ri' ra' : List (List ℕ)} → wi ≡ wi' → wa ≡ wa' → ri ≡ ri' → ra ≡ ra' → State w l wi wa ri ra
      → State w l wi' wa' ri' ra'
  moved_to w l {wi} {wa} {ri} {ra} {wi'} {wa'} {ri'} {ra'} a b d e h =
      subst (λ (x : List (List ℕ)). State w l x wa' ri' ra') a
      (subst (λ (x : List (List ℕ)). State w l wi x ri' ra') b
      (subst (λ (x : List (List ℕ)). State w l wi wa x ra') d (subst (λ (x : List (List ℕ)). State w l wi wa ri x) e h)))

  on : (w : World) (l : Logs) (wi wa ri ra : List (List ℕ)) → Both w l → State w l wi wa ri ra → (y : Bool) (k : Call)
      → (is_accepted (outcome_at w y k).answer ≡ true → Marked y (marks_of y c) k)
      → State (next w y k) (next_logs w y k l) (wi ++ added_at is_writing false w y k) (wa ++ added_at is_writing true w y k)
      (ri ++ added_at is_reading false w y k) (ra ++ added_at is_reading true w y k)
  on w l wi wa ri ra b (inl h) y k m = elim (step w l wi wa ri ra b h y k m) [ inl t ↦ inl t | inr t ↦ inr t ]
  on w l wi wa ri ra b (inr (inl s)) y k m = inr (inl (shut-initiator w y k is_writing wa ri s))
  on w l wi wa ri ra b (inr (inr s)) y k m = inr (inr (shut-acceptor w y k is_writing wi ra s))

  run-inv : (w : World) (l : Logs) (wi wa ri ra : List (List ℕ)) → Both w l → State w l wi wa ri ra → (cs : List (Bool × Call))
      → ((x : Entry) → Memᴰ x (run w cs) → is_accepted x.said ≡ true → Marked x.acceptor (marks_of x.acceptor c) x.call)
      → State (ends w cs) (logs_after w l cs) (wi ++ written_in false w cs) (wa ++ written_in true w cs) (ri ++ read_in false w cs)
      (ra ++ read_in true w cs)
  run-inv w l wi wa ri ra b h [] m = moved_to w l (nil wi) (nil wa) (nil ri) (nil ra) h
  run-inv w l wi wa ri ra b h (x ∷ cs) m =
      let y : Bool = x.0 in
      let k : Call = x.1 in
      let w' : World = next w y k in
      moved_to (ends w' cs) (logs_after w' (next_logs w y k l) cs)
      (append_assoc wi (added_at is_writing false w y k) (written_in false w' cs))
      (append_assoc wa (added_at is_writing true w y k) (written_in true w' cs))
      (append_assoc ri (added_at is_reading false w y k) (read_in false w' cs))
      (append_assoc ra (added_at is_reading true w y k) (read_in true w' cs))
      (run-inv w' (next_logs w y k l)
      (wi ++ added_at is_writing false w y k) (wa ++ added_at is_writing true w y k) (ri ++ added_at is_reading false w y k)
      (ra ++ added_at is_reading true w y k)
      (both-next w l b y k) (on w l wi wa ri ra b h y k (m (record { acceptor = y; call = k; said = (outcome_at w y k).answer }) (Memᴰ.head refl)))
      cs (λ z n. m z (Memᴰ.tail n)))

  -- 3. where all is read

  abbrev TalksOf : List Turn → Type 0
  TalksOf [] = Unit {0}
  TalksOf (t ∷ ts) = (head_of (token t)).conversation ≡ v

  record Done (w : World) (l : Logs) (wi wa : List (List ℕ)) : Type 0 where
    turns : List Turn
    last : Bool
    heard : AllHeard c s₀ turns
    alternate : AlternateTo false turns last
    pieces : (y : Bool) → Pieces (of_side y turns)
    levels : (y : Bool) → Level (side_of y (sides_after c s₀ turns)) (all_of turns)
    holds : Holds (sides_after c s₀ turns).transcript (all_of turns)
    i-record : w.i.record_of ≡ (sides_after c s₀ turns).i
    a-record : w.a.record_of ≡ (sides_after c s₀ turns).a
    i-file : wi ≡ of_side false turns
    a-file : wa ≡ of_side true turns
    i-log : l.i ≡ all_of turns
    a-log : l.a ≡ all_of turns
    talks : TalksOf turns

  module _ (x : Bool) (e f : End) (le lf we wf re rf : List (List ℕ)) (g : Good c s₀ v x e f le lf we wf re rf) (all : we ≡ rf) where
    none_left : g.own ≡ []
    none_left =
        empty g.own
        (let n = length-append (of_side x g.turns) g.own in omega (arith, ap length g.wrote-e, ap length g.read-f, ap length all)) where
          empty : (l : List (List ℕ)) → length l ≡ 0 → l ≡ []
          empty [] h = refl
          empty (m ∷ l) h = absurd (omega arith)

    no_own : (l : List (List ℕ)) → l ++ g.own ≡ l
    no_own l = ap (λ (k : List (List ℕ)). l ++ k) none_left ∙ append-nil l

    good-talks : TalksOf g.turns
    good-talks = go g.turns g.talks where
      go : (ts : List Turn) → Talks v e.record_of ts g.own → TalksOf ts
      go [] h = tt
      go (t ∷ ts) h = h

    good-record : e.record_of ≡ side_of x (sides_after c s₀ g.turns)
    good-record = go g.own none_left g.writer where
      go : (own : List (List ℕ)) → own ≡ [] → e.record_of ≡ spoken_by (marks_of x c) (side_of x (sides_after c s₀ g.turns)) own
          → e.record_of ≡ side_of x (sides_after c s₀ g.turns)
      go [] i h = h
      go (m ∷ ms) i h = absurd (omega (arith, ap length i))

  all_read : (w : World) (l : Logs) (wi wa ri ra : List (List ℕ)) → State w l wi wa ri ra → wi ≡ ra → wa ≡ ri → Done w l wi wa
  all_read w l wi wa ri ra (inl (inl g)) p q = record {
    turns = g.turns;
    last = false;
    heard = g.heard;
    alternate = g.alternate;
    pieces = g.pieces;
    levels = g.levels;
    holds = g.holds;
    i-record = good-record false w.i w.a l.i l.a wi wa ri ra g p;
    a-record = g.reader;
    i-file = g.wrote-e ∙ no_own false w.i w.a l.i l.a wi wa ri ra g p (of_side false g.turns);
    a-file = g.wrote-f;
    i-log = g.log-e ∙ no_own false w.i w.a l.i l.a wi wa ri ra g p (all_of g.turns);
    a-log = g.log-f;
    talks = good-talks false w.i w.a l.i l.a wi wa ri ra g p;
  }
  all_read w l wi wa ri ra (inl (inr (inl g))) p q = record {
    turns = g.turns;
    last = true;
    heard = g.heard;
    alternate = g.alternate;
    pieces = g.pieces;
    levels = g.levels;
    holds = g.holds;
    i-record = g.reader;
    a-record = good-record true w.a w.i l.a l.i wa wi ra ri g q;
    i-file = g.wrote-f;
    a-file = g.wrote-e ∙ no_own true w.a w.i l.a l.i wa wi ra ri g q (of_side true g.turns);
    i-log = g.log-f;
    a-log = g.log-e ∙ no_own true w.a w.i l.a l.i wa wi ra ri g q (all_of g.turns);
    talks = good-talks true w.a w.i l.a l.i wa wi ra ri g q;
  }
  all_read w l wi wa ri ra (inl (inr (inr k))) p q = elim k.unread [
    | inl h ↦ absurd (omega (arith, ap length p))
    | inr h ↦ absurd (omega (arith, ap length q))
  ]
  all_read w l wi wa ri ra (inr (inl s)) p q = absurd (omega (arith, s.unread, ap length q))
  all_read w l wi wa ri ra (inr (inr s)) p q = absurd (omega (arith, s.unread, ap length p))

-- 4. the case of a run

ids-back : (l : List Id) → ((s : Id) → Memᴰ s l → length s ≡ 16) → ids_of (join_ids l) ≡ l
ids-back l h = ids-joined l (all-sized l h)

list-ok : (l : List Id) → whole_ids l ≡ true → one_to16 l ≡ true → list_ok (join_ids l) ≡ true
unfolding list_ok
list-ok l whole ok =
    let h = each-whole l whole in
    let n = length-joined l h in
    let z : length (join_ids l) % 16 ≡ 0 = omega arith in
    rw (eq-eqb _ _ z, ids-back l h, ok)

shorter : (x : Bool) (ts : List Turn) → length (join (of_side x ts)) ≤ length (join (all_of ts))
shorter x [] = none x where
  none : (y : Bool) → length (join (of_side y [])) ≤ 0
  none true = omega arith
  none false = omega arith
shorter x (t ∷ ts) = go x t.acceptor refl (shorter x ts) where
  whole : length (join (t.messages ++ all_of ts)) ≡ length (join t.messages) + length (join (all_of ts))
  whole = ap length (join-append t.messages (all_of ts)) ∙ length-append (join t.messages) (join (all_of ts))

  part : (y : Bool) → length (join (t.messages ++ of_side y ts)) ≡ length (join t.messages) + length (join (of_side y ts))
  part y = ap length (join-append t.messages (of_side y ts)) ∙ length-append (join t.messages) (join (of_side y ts))

  go : (y b : Bool) → t.acceptor ≡ b → length (join (of_side y ts)) ≤ length (join (all_of ts))
      → length (join (of_side y (t ∷ ts))) ≤ length (join (t.messages ++ all_of ts))
  go true true e ih = rw e (omega (arith, whole, part true))
  go true false e ih = rw e (omega (arith, whole))
  go false true e ih = rw e (omega (arith, whole))
  go false false e ih = rw e (omega (arith, whole, part false))

module _ (o : Opening) (cs : List (Bool × Call)) (mi ma : ℕ) (all : AllRead o cs) (marks : MarksAre o cs mi ma) (d : List ℕ)
    (wide : 65535 ≤ length d) where
  abbrev c : Case
  c = case_of o cs mi ma

  -- the sides before the first turn, with the run's conversation
  abbrev s₀ : Sides
  s₀ = record { i = fresh false (join_ids o.initiator) o.conversation.0; a = fresh true (join_ids o.acceptor) zero_id; transcript = d }

  start : Inv c s₀ o.conversation.0 (world o) (record { i = []; a = [] }) [] [] [] []
  start = inl (record {
    turns = [];
    own = [];
    heard = tt;
    alternate = refl;
    pieces = none;
    levels = level;
    holds = record { begins = refl; wide = wide };
    writer = refl;
    reader = refl;
    role-e = refl;
    role-f = refl;
    talks = refl;
    turn = refl;
    exact = tt;
    begins = tt;
    underway = refl;
    stale = fresh-reader refl refl refl refl;
    log-e = refl;
    log-f = refl;
    wrote-e = refl;
    wrote-f = refl;
    read-e = refl;
    read-f = refl;
  }) where
    none : (y : Bool) → Pieces (of_side y [])
    none true = tt
    none false = tt

    level : (y : Bool) → Level (side_of y s₀) []
    level true = record { used = refl; sequence = refl }
    level false = record { used = refl; sequence = refl }

  its-marks : (y : Bool) (k : Call) (a : Answer) → Memᴰ (record { acceptor = y; call = k; said = a }) (run (world o) cs) → is_accepted a ≡ true
      → Marked y (marks_of y c) k
  its-marks y (offer nego) a m h = tt
  its-marks false (reply n nego) a m h = λ z. no_true z
  its-marks true (reply n nego) a m h = λ z. marks.replied n (record { content = nego; answered = a; accepted = h; entry = m })
  its-marks y (metadata id value) a m h = tt
  its-marks y (speak s) a m h = tt
  its-marks y read a m h = tt
  its-marks false (choose n s) a m h = λ z. marks.chosen n (record { answered = a; spoke = s; accepted = h; entry = m })
  its-marks true (choose n s) a m h = λ z. no_true (sym z)

  done : Done c s₀ o.conversation.0 (ends (world o) cs) (logs_of o cs) (written_in false (world o) cs) (written_in true (world o) cs)
  done =
      all_read c s₀ o.conversation.0 (ends (world o) cs) (logs_of o cs) (written_in false (world o) cs) (written_in true (world o) cs)
      (read_in false (world o) cs) (read_in true (world o) cs)
      (run-inv c s₀ o.conversation.0 (world o) (record { i = []; a = [] }) [] [] [] [] (both-opened o) (inl start) cs
      (λ x m h. its-marks x.acceptor x.call x.said m h))
      all.by_acceptor all.by_initiator

  abbrev ts : List Turn
  ts = done.turns

  -- what the two ends have, by their counts
  counted-i : Counted (ends (world o) cs).i.record_of (ends (world o) cs).i.transcript (logs_of o cs).i
  counted-i = (every-run o cs).initiator

  counted-a : Counted (ends (world o) cs).a.record_of (ends (world o) cs).a.transcript (logs_of o cs).a
  counted-a = (every-run o cs).acceptor

  ordered : InOrder 0 (all_of ts)
  ordered = subst (InOrder 0) done.i-log counted-i.numbers

  all_short : length (join (all_of ts)) ≤ 65535
  all_short =
      let u : length (join (logs_of o cs).i) ≤ 65535 =
      (let z = (limits-counts (ends (world o) cs).i.record_of
      (first-none (limit_rows (ends (world o) cs).i.record_of) refl counted-i.inside)).0 in omega (arith, counted-i.used)) in
      subst (λ (l : List (List ℕ)). length (join l) ≤ 65535) done.i-log u

  file-ends : (w : Whose) (x : Bool) (file : List (List ℕ)) → file ≡ of_side x ts → file_ending w (some (join file)) ≡ finished
  file-ends w x file is =
      let z : length (join (of_side x ts)) ≤ 65535 = omega (arith, shorter x ts, all_short) in
      ap (λ (l : List (List ℕ)). file_ending w (some (join l))) is ∙ rw (le-leb _ _ z) (ends_join w 0 (of_side x ts) (done.pieces x))

  file-messages : (x : Bool) (file : List (List ℕ)) → file ≡ of_side x ts → messages_of (join file) ≡ of_side x ts
  file-messages x file is = ap (λ (l : List (List ℕ)). messages_of (join l)) is ∙ messages-join (of_side x ts) (done.pieces x)

  given-ok : (l : List Id) (m : ℕ) → whole_ids l ≡ true → one_to16 l ≡ true → below (length l) m ≡ true
      → list_ok (join_ids l) && below (length (join_ids l) / 16) m ≡ true
  given-ok l m whole ok b = rw (list-ok l whole ok, count-joined l (each-whole l whole)) b

  nothing-before : before c ≡ finished
  unfolding before
  nothing-before =
      let gi = given-ok o.initiator mi o.initiator_whole o.initiator_ok marks.initiator_below in
      let ga = given-ok o.acceptor ma o.acceptor_whole o.acceptor_ok marks.acceptor_below in
      let fi = file-ends initiator false (written_in false (world o) cs) done.i-file in
      let fa = file-ends acceptor true (written_in true (world o) cs) done.a-file in
      let mi' = file-messages false (written_in false (world o) cs) done.i-file in
      let ma' = file-messages true (written_in true (world o) cs) done.a-file in
      rw (gi, ga, fi, fa, mi', ma') (rw (sides-in-row false ts (alternates false done.last ts done.alternate) ordered))

  turns-are : turns_in c ≡ ts
  turns-are =
      ap (λ (l : List (List ℕ)). turns_of l (messages_of (join (written_in true (world o) cs))))
      (file-messages false (written_in false (world o) cs) done.i-file)
      ∙ ap (turns_of (of_side false ts)) (file-messages true (written_in true (world o) cs) done.a-file)
      ∙ turns-of-sides false ts (alternates false done.last ts done.alternate) ordered

  -- the sides that the replay opens are those of before, but for a conversation that no message has
  opened-is : (us : List Turn) → opened c us d
      ≡ record { i = fresh false (join_ids o.initiator) (conversation_in us); a = fresh true (join_ids o.acceptor) zero_id; transcript = d }
  opened-is us =
      let i = opening-fresh false o.initiator (conversation_in us) o.initiator_whole o.initiator_ok in
      let a = opening-fresh true o.acceptor zero_id o.acceptor_whole o.acceptor_ok in
      rw (i, a)

  replay-is : replay_of c d ≡ play_from c (opened c ts d) ts
  unfolding replay_of
  replay-is = rw (nothing-before, turns-are)

  same-transcript : (r : Record) (t : List ℕ) (e : End) (log : List (List ℕ)) → Level r (all_of ts) → Holds t (all_of ts)
      → Counted e.record_of e.transcript log → log ≡ all_of ts → SameTranscript r t e
  same-transcript r t e log l h k is = ap (λ (n : ℕ). take n t) l.used ∙ h.begins ∙ ap join (sym is) ∙ sym k.transcript

  same_ends : (p : Played) → p.ending ≡ finished → choice_of p.sides.i ≡ choice_of (ends (world o) cs).i.record_of
      → Level p.sides.i (all_of ts) → Level p.sides.a (all_of ts) → Holds p.sides.transcript (all_of ts) → SameEnds o cs p
  same_ends p e ch i a h = record {
    unrefused = e;
    choice = ch;
    initiator = same-transcript p.sides.i p.sides.transcript (ends (world o) cs).i (logs_of o cs).i i h counted-i done.i-log;
    acceptor = same-transcript p.sides.a p.sides.transcript (ends (world o) cs).a (logs_of o cs).a a h counted-a done.a-log;
  }

  -- with a message, and without any
  ended : (us : List Turn) → ts ≡ us → TalksOf c s₀ o.conversation.0 us → SameEnds o cs (play_from c (opened c us d) us)
  unfolding head_of play_from choice_of
  ended (t ∷ us) is talk =
      let at-start : opened c (t ∷ us) d ≡ s₀ =
      opened-is (t ∷ us) ∙ ap (λ (v : List ℕ). record { i = fresh false (join_ids o.initiator) v; a = s₀.a; transcript = d }) talk in
      let k = played-all c s₀ (t ∷ us) (subst (AllHeard c s₀) is done.heard) in
      let sides : (play_from c (opened c (t ∷ us) d) (t ∷ us)).sides ≡ sides_after c s₀ ts =
      ap (λ (s : Sides). (play_from c s (t ∷ us)).sides) at-start ∙ k.1 ∙ ap (sides_after c s₀) (sym is) in
      same_ends (play_from c (opened c (t ∷ us) d) (t ∷ us))
      (ap (λ (s : Sides). (play_from c s (t ∷ us)).ending) at-start ∙ k.0)
      (ap (λ (s : Sides). choice_of s.i) sides ∙ ap choice_of (sym done.i-record))
      (subst (λ (s : Sides). Level s.i (all_of ts)) (sym sides) (done.levels false))
      (subst (λ (s : Sides). Level s.a (all_of ts)) (sym sides) (done.levels true))
      (subst (λ (s : Sides). Holds s.transcript (all_of ts)) (sym sides) done.holds)
  ended [] is talk =
      let at-start = opened-is [] in
      let run-i : (ends (world o) cs).i.record_of ≡ s₀.i = done.i-record ∙ ap (λ (us : List Turn). (sides_after c s₀ us).i) is in
      let none : (r : Record) → r.used ≡ 0 → r.sequence ≡ 0 → Level r (all_of ts) =
      λ r u q. subst (λ (us : List Turn). Level r (all_of us)) (sym is) (record { used = u; sequence = q }) in
      same_ends (play_from c (opened c [] d) []) refl
      (ap (λ (s : Sides). choice_of s.i) at-start ∙ ap choice_of (sym run-i))
      (none (opened c [] d).i (ap (λ (s : Sides). s.i.used) at-start) (ap (λ (s : Sides). s.i.sequence) at-start))
      (none (opened c [] d).a (ap (λ (s : Sides). s.a.used) at-start) (ap (λ (s : Sides). s.a.sequence) at-start))
      (subst (λ (us : List Turn). Holds d (all_of us)) (sym is) (record { begins = refl; wide = wide }))

pub replays-run : ReplaysRun
replays-run o cs mi ma all marks d wide =
    subst (SameEnds o cs) (sym (replay-is o cs mi ma all marks d wide))
    (ended o cs mi ma all marks d wide (ts o cs mi ma all marks d wide) refl (done o cs mi ma all marks d wide).talks)
