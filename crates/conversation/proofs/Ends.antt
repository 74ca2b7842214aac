-- Demand 3: an invariant of the two ends of a run, kept by every call, and what each call then answers.
-- Assumes nothing.
use Prim.Native.Nat.{ℕ, zero, suc, ◌+◌, ◌*◌, ◌≤◌, ◌<◌, ◌/◌, ◌%◌}
use mathlib.Core.Path.{◌≡◌, refl, sym, ap, subst, ◌∙◌}
use mathlib.Core.Bool.{Bool, true, false, cond, not, ◌&&◌, ◌||◌}
use mathlib.Core.Logic.{◌⊎◌, inl, inr}
use mathlib.Core.List.Memᴰ
use mathlib.Core.List.{List, [], ◌∷◌, ◌++◌, Memᴰ, append-nil, append_assoc}
use mathlib.Core.Option.{some}
use native.Mathlib.Omega.{arith}
use lib.ListN.{length, get_or, length-take, length-drop, length-append}
use lib.Seq.{take_at, drop_at}
use lib.Dec.{eqb, leb}
use borrow.Author.Tests.{eq-eqb, ne_eqb, eqb-true, eqb-false}
use Rattle.octets.proofs.Bools.{which, no_true, and_l, and_r}
use Rattle.octets.specs.Octets.{octets}
use Rattle.message.specs.Layout.{head_of}
use Rattle.message.specs.Show.{ids_at, ids_of}
use Rattle.message.specs.Check.{Row, FirstFails}
use Rattle.message.proofs.Tables.{AllTrue, without, fails-other}
use Rattle.schemes.specs.Lists.{Id, distinct, first, bit, left_over, rule2, reply_of, one_to16, whole_ids, list_ok, join_ids}
use Rattle.schemes.specs.Sets.{common_set, left, kept_places, ones, named, below, pad_to}
use Rattle.schemes.proofs.Replies.{left-keep, left-of-reply}
use Rattle.conversation.specs.declared.Record.{Record}
use Rattle.conversation.specs.declared.Answer.{Answer}
use Rattle.conversation.specs.declared.Scan.{Scan}
use Rattle.conversation.specs.State.{closed, own_of, limit_rows, fresh}
use Rattle.conversation.specs.Turns.{NEGO, writing, reading, class_of, after, writes, reads, place_after, may_write, may_read}
use Rattle.conversation.specs.Outcomes.{Outcome, answered, refused, row, fits, WrittenAs, unchanged, wrote, appended}
use Rattle.conversation.specs.Writing.{NegoContent, extension_rows, stage_rows, then_fits, offered, offer_rows, offering, some_left, first_or, reply_message, naming, replying, Speech, opening}
use Rattle.conversation.specs.Admitting.{listed_by}
use Rattle.conversation.specs.Reading.{conversation_of, whole, judged, common_after, kept_after, taken}
use Rattle.conversation.specs.Choosing.{open_to, may_choose, choosing}
use Rattle.conversation.specs.Runs.{NegoCall, Call, offer, reply, metadata, speak, read, choose, End, act, moved, Opening, World, world, outcome_at, next, Entry, run, is_accepted, is_lawful}
use Rattle.conversation.specs.Claims.{ReplyAnswer, OpeningFresh}
use Rattle.conversation.proofs.Unchanged.{refused-unchanged}
use Rattle.conversation.proofs.Closed.{only-reading-12, closed-refuses}
use Rattle.conversation.proofs.Rows.{decide-out, fails-one, fails-parts, fails-each, fails-until, back-true, true-behind, front-true}
use Rattle.conversation.proofs.Chosen.{choice_table, choice-passed, choice-17, choice-barred}
use Rattle.conversation.proofs.Tokens.{Heads, heads-more, heads-here, empty-judged, judged-first}
use Rattle.conversation.proofs.Goals.{positive, none_written, no-after, NotFirst, nego-start, No17, No12, not_some, Goal, refusal, stopped, metadata-goal, speak-goal, read-goal}

-- 1. the invariant

-- the stages in which the two ends can be at once
pub record Together (i a : ℕ) : Type 0 where
  first-stage : i ≡ 0 → a ≤ 1
  choosing' : i ≡ 2 → a ≡ 1
  later : i ≡ 3 → 1 ≤ a

-- an INITIATOR_NEGO's table that passes gives 25 and 26
extensions-true : (r : Record) (d : List ℕ) (g : NegoContent) → AllTrue (stage_rows r NEGO ++ then_fits (offer_rows r g) r d (offered r g))
    → AllTrue (extension_rows g)
extensions-true r d g t =
    let (is-initiator, (x25, (x26, rest))) = back-true (stage_rows r NEGO) (then_fits (offer_rows r g) r d (offered r g)) t in (x25, (x26, tt))

pub ok-distinct : (l : List Id) → one_to16 l ≡ true → distinct l ≡ true
ok-distinct l e = and_r (leb 1 (length l) && leb (length l) 16) (distinct l) e

some_first : (l : List Id) → some_left l ≡ true → first l ≡ some (first_or l)
some_first [] h = no_true h
some_first (x ∷ l) h = refl

module _ (o : Opening) (Q : ℕ → Type 0)
    (heads-offer : (r : Record) (nego : NegoCall) → r.acceptor ≡ false → r.list ≡ pad_to 256 (join_ids o.initiator)
    → r.count ≡ length o.initiator → r.conversation ≡ o.conversation.0 → AllTrue (limit_rows r) → AllTrue (extension_rows nego.0)
    → Heads 0 o.initiator (offered r nego.0))
    (heads-reply : (r : Record) (m : ℕ) (nego : NegoCall) → r.acceptor ≡ true → own_of r ≡ o.acceptor → length r.conversation ≡ 16
    → AllTrue (limit_rows r) → AllTrue (extension_rows nego.0) → Heads 1 (left o.acceptor r.common m) (reply_message r m nego.0))
  where
    abbrev pub reply-of : ℕ → List Id
    reply-of m = reply_of o.acceptor o.initiator m

    -- the initiator: nothing written; a turn that begins with its NEGO; the reply read, as the acceptor wrote it with the marks ma; chosen
    pub data IniAt (r : Record) (turn : List ℕ) : Type 0 where
      ini-fresh : r.stage ≡ 0 → r.position ≡ 0 → turn ≡ [] → IniAt r turn
      ini-open : r.stage ≡ 0 → 1 ≤ r.position → Heads 0 o.initiator turn → IniAt r turn
      ini-choosing : r.stage ≡ 2 → turn ≡ [] → (ma : ℕ) → Q ma → r.kept ≡ pad_to 16 (kept_places o.initiator (reply-of ma))
          → r.common ≡ ones (length (kept_places o.initiator (reply-of ma))) → IniAt r turn
      ini-later : r.stage ≡ 3 → IniAt r turn

    pub record IniOk (e : End) : Type 0 where
      role : e.record_of.acceptor ≡ false
      own : own_of e.record_of ≡ o.initiator
      bytes : e.record_of.list ≡ pad_to 256 (join_ids o.initiator)
      count : e.record_of.count ≡ length o.initiator
      talk : e.record_of.conversation ≡ o.conversation.0
      at : IniAt e.record_of e.turn

    -- the acceptor: nothing read; the first token read; a turn that begins with its NEGO, written with the marks ma; a later token read
    pub data AccAt (r : Record) (turn : List ℕ) : Type 0 where
      acc-fresh : r.stage ≡ 0 → turn ≡ [] → AccAt r turn
      acc-read : r.stage ≡ 1 → r.position ≡ 0 → r.common ≡ common_set o.acceptor o.initiator → length r.conversation ≡ 16 → turn ≡ []
          → AccAt r turn
      acc-open : r.stage ≡ 1 → 1 ≤ r.position → (ma : ℕ) → Q ma → Heads 1 (reply-of ma) turn → AccAt r turn
      acc-later : r.stage ≡ 3 → AccAt r turn

    pub record AccOk (e : End) : Type 0 where
      role : e.record_of.acceptor ≡ true
      own : own_of e.record_of ≡ o.acceptor
      at : AccAt e.record_of e.turn

    pub record Ok (w : World) : Type 0 where
      ini-ok : IniOk w.i
      acc-ok : AccOk w.a
      stages : Together w.i.record_of.stage w.a.record_of.stage

    -- 2. what each call answers

    abbrev pub ChooseSays : ℕ → Answer → Type 0
    ChooseSays m a =
        (a.refusal ≡ 17 → (ma : ℕ) × (Q ma × (left_over o.acceptor o.initiator ma m ≡ [])))
        × (is_accepted a ≡ true → (ma : ℕ)
        × (Q ma
        × ((rule2 o.acceptor o.initiator ma m ≡ some a.choice) × (a.left ≡ length (left_over o.acceptor o.initiator ma m)))))
        × (is_lawful a ≡ true → (a.refusal ≡ 17) ⊎ (is_accepted a ≡ true))

    -- a call of the other end
    abbrev pub Barred : Answer → Type 0
    Barred a = a.refusal ≡ 18

    abbrev pub IniSays : Call → Answer → Type 0
    IniSays (offer nego) a = No17 a
    IniSays (reply m nego) a = Barred a
    IniSays (metadata id value) a = No17 a
    IniSays (speak s) a = No17 a
    IniSays read a = No17 a
    IniSays (choose m s) a = ChooseSays m a

    abbrev pub AccSays : Call → Answer → Type 0
    AccSays (offer nego) a = No17 a
    AccSays (reply m nego) a = ReplyAnswer o m a
    AccSays (metadata id value) a = No17 a
    AccSays (speak s) a = No17 a
    AccSays read a = No17 a
    AccSays (choose m s) a = Barred a

    abbrev pub Fair : Bool → Call → Answer → Type 0
    Fair false k a = IniSays k a
    Fair true k a = AccSays k a

    -- the marks of an acceptor's NEGO that is written have Q
    abbrev pub AskAcc : Call → Answer → Type 0
    AskAcc (offer nego) a = Unit {0}
    AskAcc (reply m nego) a = is_accepted a ≡ true → Q m
    AskAcc (metadata id value) a = Unit {0}
    AskAcc (speak s) a = Unit {0}
    AskAcc read a = Unit {0}
    AskAcc (choose m s) a = Unit {0}

    abbrev pub Ask : Bool → Call → Answer → Type 0
    Ask false k a = Unit {0}
    Ask true k a = AskAcc k a

    -- 3. the initiator's calls

    module _ (e f : End) (ok : IniOk e) (ok' : AccOk f) (tg : Together e.record_of.stage f.record_of.stage) where
      abbrev r : Record
      r = e.record_of

      abbrev d : List ℕ
      d = e.transcript

      abbrev beside : ℕ → Type 0
      beside k = Together k f.record_of.stage

      abbrev IniGoal : (k : Call) (P : Answer → Type 0) → Outcome → Type 0
      IniGoal = Goal e IniOk beside

      -- a message after the NEGO
      ini-more : (kind n : ℕ) (w : WrittenAs) (x : List ℕ) → NotFirst kind → may_write r kind ≡ true → IniAt r e.turn
          → IniAt (wrote r (place_after r kind) n w) (e.turn ++ x)
      unfolding writing
      ini-more kind n w x nf h (ini-fresh st p t) =
          absurd (no-after _ (nf 0 r.attested refl)
          (let h' : not (eqb (after (writing false 0) 0 r.attested kind) 0) ≡ true = rw (ok.role, st, p) at h in h'))
      ini-more kind n w x nf h (ini-open st p t) = ini-open st (positive (place_after r kind) h) (heads-more 0 o.initiator e.turn x t)
      ini-more kind n w x nf h (ini-choosing st t ma q ks c) =
          absurd (no-after _ (none_written r.position r.attested kind)
          (let h' : not (eqb (after (writing false 2) r.position r.attested kind) 0) ≡ true = rw (ok.role, st) at h in h'))
      ini-more kind n w x nf h (ini-later st) = ini-later st

      ini-on : (kind : ℕ) (w : WrittenAs) (x d' : List ℕ) → NotFirst kind → may_write r kind ≡ true
          → IniOk (record { record_of = wrote r (place_after r kind) (length x) w; transcript = d'; turn = e.turn ++ x })
      ini-on kind w x d' nf h =
          record {
            role = ok.role;
            own = ok.own;
            bytes = ok.bytes;
            count = ok.count;
            talk = ok.talk;
            at = ini-more kind (length x) w x nf h ok.at;
          }

      ini-nego : (nego : NegoCall) → may_write r NEGO ≡ true → AllTrue (limit_rows r) → AllTrue (extension_rows nego.0) → IniAt r e.turn
          → IniAt (wrote r (place_after r NEGO) (length (offered r nego.0)) (unchanged r)) (e.turn ++ offered r nego.0)
      unfolding writing
      ini-nego nego h l x (ini-fresh st p t) =
          ini-open st (positive (place_after r NEGO) h) (rw t (heads-offer r nego ok.role ok.bytes ok.count ok.talk l x))
      ini-nego nego h l x (ini-open st p t) = absurd (let z = nego-start (writes r) r.position r.attested h in omega (arith, z.1))
      ini-nego nego h l x (ini-choosing st t ma q ks c) =
          absurd (no-after _ (none_written r.position r.attested NEGO)
          (let h' : not (eqb (after (writing false 2) r.position r.attested NEGO) 0) ≡ true = rw (ok.role, st) at h in h'))
      ini-nego nego h l x (ini-later st) =
          no_true (let z : leb (writing false 3) 1 ≡ true = rw (ok.role, st) at (nego-start (writes r) r.position r.attested h).0 in z)

      ini-offer : (nego : NegoCall) → IniGoal (offer nego) No17 (offering r d nego.0)
      unfolding offering
      ini-offer nego =
          let more : List Row = then_fits (offer_rows r nego.0) r d (offered r nego.0) in
          decide-out (IniGoal (offer nego) No17) (stage_rows r NEGO ++ more) r d (appended r d (place_after r NEGO) (offered r nego.0) (unchanged r))
          (stopped e IniOk beside ok tg (offer nego) (stage_rows r NEGO ++ more) refl refl)
          (λ g. record {
            then_ok =
                record {
                  role = ok.role;
                  own = ok.own;
                  bytes = ok.bytes;
                  count = ok.count;
                  talk = ok.talk;
                  at =
                      ini-nego nego (true-behind (limit_rows r) (row 18 (may_write r NEGO)) more g)
                      (front-true (limit_rows r) (row 18 (may_write r NEGO) ∷ more) g) (extensions-true r d nego.0 g) ok.at;
                };
            then-together = tg;
            fair = λ q. omega arith;
          })

      ini-reply : (m : ℕ) (nego : NegoCall) → IniGoal (reply m nego) Barred (replying r d m nego.0)
      unfolding replying
      ini-reply m nego =
          let more : List Row =
          row 19 (below r.count m)
          ∷ (extension_rows nego.0
          ++ (row 17 (some_left (left (own_of r) r.common m)) ∷ fits r d (length (reply_message r m nego.0)) ∷ [])) in
          decide-out (IniGoal (reply m nego) Barred) (stage_rows r NEGO ++ (row 18 r.acceptor ∷ more)) r d _
          (λ n g.
          let h = fails-until (stage_rows r NEGO) (row 18 r.acceptor) more n ok.role g in
          let is : n ≡ 18 = eqb-true _ _ (fails-each (λ k. eqb k 18) (stage_rows r NEGO ++ (row 18 r.acceptor ∷ [])) n refl h) in
          refusal e IniOk beside ok tg (reply m nego) Barred n 0 (λ z. omega arith) is)
          (λ g. no_true (sym ok.role ∙ true-behind (stage_rows r NEGO) (row 18 r.acceptor) more g))

      -- the reply, read
      ini-conversation : (t : List ℕ) → conversation_of r t ≡ r.conversation
      unfolding conversation_of reading
      ini-conversation t = rw ok.role (go (eqb r.stage 0) (eqb r.stage 3)) where
        go : (a b : Bool) → cond (eqb (cond a 1 (cond b 2 3)) 0) (octets 16 t 24) r.conversation ≡ r.conversation
        go true b = refl
        go false true = refl
        go false false = refl

      ini-reads : (n : ℕ) (c : Scan) → may_read r ≡ true → judged r f.turn ≡ whole n c → IniAt r e.turn → AccAt f.record_of f.turn
          → IniAt (taken r f.turn n c) [] × Together (reads r + 1) f.record_of.stage
      unfolding reading common_after kept_after
      ini-reads n c h w (ini-fresh st p t) a = no_true (rw (ok.role, st, p) at h)
      ini-reads n c h w (ini-choosing st t ma q ks co) a = no_true (rw (ok.role, st) at h)
      ini-reads n c h w (ini-later st) a =
          let is : reads r + 1 ≡ 3 = rw (ok.role, st) in
          (ini-later is, subst (λ (k : ℕ). Together k f.record_of.stage) (st ∙ sym is) tg)
      ini-reads n c h w (ini-open st p t) (acc-fresh st' t') = absurd (empty-judged r n c (rw t' at w))
      ini-reads n c h w (ini-open st p t) (acc-read st' p' co lc t') = absurd (empty-judged r n c (rw t' at w))
      ini-reads n c h w (ini-open st p t) (acc-later st') = absurd (let z = tg.first-stage st in omega arith)
      ini-reads n c h w (ini-open st p t) (acc-open st' p' ma q t') =
          let is : reads r + 1 ≡ 2 = rw (ok.role, st) in
          let l : listed_by f.turn ≡ reply-of ma = (heads-here 1 (reply-of ma) f.turn t').1 in (
            ini-choosing is refl ma q (rw (ok.role, st, ok.own, l)) (rw (ok.role, st, ok.own, l)),
            record { first-stage = λ z. absurd (omega arith); choosing' = λ z. st'; later = λ z. absurd (omega arith) },
          )

      ini-reads-on : (n : ℕ) (c : Scan) (d' : List ℕ) → may_read r ≡ true → judged r f.turn ≡ whole n c
          → IniOk (record { record_of = taken r f.turn n c; transcript = d'; turn = [] }) × beside (reads r + 1)
      ini-reads-on n c d' h w =
          let g = ini-reads n c h w ok.at ok'.at in (
            record { role = ok.role; own = ok.own; bytes = ok.bytes; count = ok.count; talk = ini-conversation f.turn ∙ ok.talk; at = g.0 },
            g.1,
          )

      -- the choice
      ini-chooses : (m : ℕ) → eqb r.stage 2 ≡ true → IniAt r e.turn
          → (ma : ℕ) × (Q ma × (named (own_of r) (open_to r m) ≡ left_over o.acceptor o.initiator ma m))
      ini-chooses m h (ini-fresh st p t) = no_true (rw st at h)
      ini-chooses m h (ini-open st p t) = no_true (rw st at h)
      ini-chooses m h (ini-later st) = no_true (rw st at h)
      ini-chooses m h (ini-choosing st t ma q ks c) =
          (ma, (q, rw (ok.own, c, ks) (left-of-reply o.acceptor o.initiator ma (ok-distinct o.acceptor o.acceptor_ok) m)))

      abbrev lawful : ℕ → Bool
      lawful k = not (eqb k 15 || (eqb k 16 || (eqb k 18 || (eqb k 19 || (eqb k 25 || eqb k 26)))))

      only-17 : (n : ℕ) → eqb n 17 || not (lawful n) ≡ true → lawful n ≡ true → eqb n 17 ≡ true
      only-17 n e h = elim (which (eqb n 17)) [ inl a ↦ a | inr a ↦ no_true (rw (a, h) at e) ]

      stage-2 : may_choose r ≡ true → eqb r.stage 2 ≡ true
      stage-2 h = and_r (not r.acceptor) (eqb r.stage 2) h

      ini-choose : (m : ℕ) (s : Speech) → IniGoal (choose m s) (ChooseSays m) (choosing r d m s)
      unfolding choosing
      ini-choose m s =
          let l : List Id = named (own_of r) (open_to r m) in
          let rows : List Row = choice_table r d m s in
          decide-out (IniGoal (choose m s) (ChooseSays m)) rows r d _
          (λ n g. refusal e IniOk beside ok tg (choose m s) (ChooseSays m) n 0 (fails-other 0 rows n refl g) (
            (λ z.
                let w = choice-17 r d m s n g z in
                let c = ini-chooses m (stage-2 w.0) ok.at in
                (c.0, (c.1.0, sym c.1.1 ∙ not_some l w.1))),
            (λ z. absurd (fails-other 0 rows n refl g (eqb-true _ _ z))),
            (λ z. inl (eqb-true _ _ (only-17 n (fails-each (λ k. eqb k 17 || not (lawful k)) rows n refl g) z))),
          ))
          (λ g.
          let p = choice-passed r d m s g in
          let h = stage-2 p.may in
          let c = ini-chooses m h ok.at in
          record {
            then_ok = record { role = ok.role; own = ok.own; bytes = ok.bytes; count = ok.count; talk = ok.talk; at = ini-later refl };
            then-together =
                record {
                  first-stage = λ z. absurd (omega arith);
                  choosing' = λ z. absurd (omega arith);
                  later = λ z. (let w = tg.choosing' (eqb-true _ _ h) in omega arith);
                };
            fair = (
              (λ z. absurd (omega arith)),
              (λ z. (c.0, (c.1.0, (ap first (sym c.1.1) ∙ some_first l p.left, ap length c.1.1)))),
              (λ z. inr refl),
            );
          })

      ini-step : (k : Call) → No12 (act e f.turn k).answer → IniGoal k (IniSays k) (act e f.turn k)
      unfolding act
      ini-step (offer nego) z = ini-offer nego
      ini-step (reply m nego) z = ini-reply m nego
      ini-step (metadata id value) z = metadata-goal e IniOk beside ok tg ini-on id value
      ini-step (speak s) z = speak-goal e IniOk beside ok tg ini-on s
      ini-step read z = read-goal e IniOk beside ok tg f.turn ini-reads-on z
      ini-step (choose m s) z = ini-choose m s

    -- 4. the acceptor's calls

    module _ (e f : End) (ok : AccOk e) (ok' : IniOk f) (tg : Together f.record_of.stage e.record_of.stage) where
      abbrev s : Record
      s = e.record_of

      abbrev b : List ℕ
      b = e.transcript

      abbrev along : ℕ → Type 0
      along k = Together f.record_of.stage k

      abbrev AccGoal : (k : Call) (P : Answer → Type 0) → Outcome → Type 0
      AccGoal = Goal e AccOk along

      acc_more : (kind n : ℕ) (w : WrittenAs) (x : List ℕ) → NotFirst kind → may_write s kind ≡ true → AccAt s e.turn
          → AccAt (wrote s (place_after s kind) n w) (e.turn ++ x)
      unfolding writing
      acc_more kind n w x nf h (acc-fresh st t) =
          absurd (no-after _ (none_written s.position s.attested kind)
          (let h' : not (eqb (after (writing true 0) s.position s.attested kind) 0) ≡ true = rw (ok.role, st) at h in h'))
      acc_more kind n w x nf h (acc-read st p c lc t) =
          absurd (no-after _ (nf 1 s.attested refl)
          (let h' : not (eqb (after (writing true 1) 0 s.attested kind) 0) ≡ true = rw (ok.role, st, p) at h in h'))
      acc_more kind n w x nf h (acc-open st p ma q t) = acc-open st (positive (place_after s kind) h) ma q (heads-more 1 (reply-of ma) e.turn x t)
      acc_more kind n w x nf h (acc-later st) = acc-later st

      acc-on : (kind : ℕ) (w : WrittenAs) (x d' : List ℕ) → NotFirst kind → may_write s kind ≡ true
          → AccOk (record { record_of = wrote s (place_after s kind) (length x) w; transcript = d'; turn = e.turn ++ x })
      acc-on kind w x d' nf h = record { role = ok.role; own = ok.own; at = acc_more kind (length x) w x nf h ok.at }

      acc-offer : (nego : NegoCall) → AccGoal (offer nego) No17 (offering s b nego.0)
      unfolding offering
      acc-offer nego =
          let more : List Row = extension_rows nego.0 ++ (fits s b (length (offered s nego.0)) ∷ []) in
          let no : not s.acceptor ≡ false = rw ok.role in
          decide-out (AccGoal (offer nego) No17) (stage_rows s NEGO ++ (row 18 (not s.acceptor) ∷ more)) s b _
          (λ n g. stopped e AccOk along ok tg (offer nego) (stage_rows s NEGO ++ (row 18 (not s.acceptor) ∷ [])) refl refl n
          (fails-until (stage_rows s NEGO) (row 18 (not s.acceptor)) more n no g))
          (λ g. no_true (sym no ∙ true-behind (stage_rows s NEGO) (row 18 (not s.acceptor)) more g))

      -- the acceptor's NEGO: the rows before 17
      abbrev reply_before : ℕ → NegoCall → List Row
      reply_before m nego = stage_rows s NEGO ++ (row 18 s.acceptor ∷ row 19 (below s.count m) ∷ extension_rows nego.0)

      record Listing (m : ℕ) : Type 0 where
        stage : s.stage ≡ 1
        lists : left (own_of s) s.common m ≡ reply-of m
        common : s.common ≡ common_set o.acceptor o.initiator
        talk : length s.conversation ≡ 16
        none_yet : e.turn ≡ []

      acc-lists : (m : ℕ) → may_write s NEGO ≡ true → AccAt s e.turn → Listing m
      unfolding writing
      acc-lists m h (acc-fresh st t) =
          absurd (no-after _ (none_written s.position s.attested NEGO)
          (let h' : not (eqb (after (writing true 0) s.position s.attested NEGO) 0) ≡ true = rw (ok.role, st) at h in h'))
      acc-lists m h (acc-read st p c lc t) = record {
        stage = st;
        lists = rw (ok.own, c) (left-keep o.acceptor o.initiator m (ok-distinct o.acceptor o.acceptor_ok));
        common = c;
        talk = lc;
        none_yet = t;
      }
      acc-lists m h (acc-open st p ma q t) = absurd (let z = nego-start (writes s) s.position s.attested h in omega (arith, z.1))
      acc-lists m h (acc-later st) =
          no_true (let z : leb (writing true 3) 1 ≡ true = rw (ok.role, st) at (nego-start (writes s) s.position s.attested h).0 in z)

      -- refused by the table whose row 17 asks for a scheme left
      reply-refused : (m : ℕ) (nego : NegoCall) (n : ℕ) (last : List Row) → without 0 last ≡ true → without 17 last ≡ true
          → let l : List Id = left (own_of s) s.common m in
          FirstFails n (reply_before m nego ++ (row 17 (some_left l) ∷ last)) → ReplyAnswer o m (answered n 0 s)
      reply-refused m nego n last z0 z17 g = record {
        refuses = λ z. let w = fails-one 17 before (some_left l) last n refl z17 g z in sym (lists w.0) ∙ not_some l w.1;
        answers = λ z. absurd (fails-other 0 (before ++ (row 17 (some_left l) ∷ last)) n z0 g (eqb-true _ _ z));
        none_left = λ z x y v w. elim (fails-parts before (row 17 (some_left l) ∷ last) n g) [
          | inl f ↦ absurd (goes_before x y v w (fails-each first-numbers before n refl f))
          | inr f ↦ given f.1 (lists f.0 ∙ z)
        ];
      } where
        l : List Id
        l = left (own_of s) s.common m

        before : List Row
        before = reply_before m nego

        first-numbers : ℕ → Bool
        first-numbers k = eqb k 18 || (eqb k 19 || (eqb k 25 || eqb k 26))

        goes_before : (n ≡ 18 → ⊥) → (n ≡ 19 → ⊥) → (n ≡ 25 → ⊥) → (n ≡ 26 → ⊥) → first-numbers n ≡ true → ⊥
        goes_before x y v w h = no_true (rw (ne_eqb n 18 x, ne_eqb n 19 y, ne_eqb n 25 v, ne_eqb n 26 w) at h)

        lists : AllTrue before → l ≡ reply-of m
        lists t =
            (acc-lists m
            (true-behind (limit_rows s) (row 18 (may_write s NEGO)) (row 18 s.acceptor ∷ row 19 (below s.count m) ∷ extension_rows nego.0) t)
            ok.at).lists

        given : FirstFails n (row 17 (some_left l) ∷ last) → l ≡ [] → n ≡ 17
        given (inl f) none = sym f.1
        given (inr f) none = no_true (sym (ap some_left none) ∙ f.0)

      acc-reply : (m : ℕ) (nego : NegoCall) → (is_accepted (replying s b m nego.0).answer ≡ true → Q m)
          → AccGoal (reply m nego) (ReplyAnswer o m) (replying s b m nego.0)
      unfolding replying
      acc-reply m nego =
          let l : List Id = left (own_of s) s.common m in
          let last : List Row = fits s b (length (reply_message s m nego.0)) ∷ [] in
          let before : List Row = reply_before m nego in
          decide-out (λ out. (is_accepted out.answer ≡ true → Q m) → AccGoal (reply m nego) (ReplyAnswer o m) out)
          (before ++ (row 17 (some_left l) ∷ last)) s b
          (naming l
          (appended s b (place_after s NEGO) (reply_message s m nego.0)
          (record { marks = m; metadata = s.metadata; requested = s.requested; attested = s.attested })))
          (λ n g ask. refusal e AccOk along ok tg (reply m nego) (ReplyAnswer o m) n 0
          (fails-other 0 (before ++ (row 17 (some_left l) ∷ last)) n refl g) (reply-refused m nego n last refl refl g))
          (λ g ask.
          let more : List Row = row 18 s.acceptor ∷ row 19 (below s.count m) ∷ (extension_rows nego.0 ++ (row 17 (some_left l) ∷ last)) in
          let h = true-behind (limit_rows s) (row 18 (may_write s NEGO)) more g in
          let (is-acceptor, (marks, (x25, (x26, behind)))) = back-true (stage_rows s NEGO) more g in
          let some_left_lem = true-behind before (row 17 (some_left l)) last g in
          let a = acc-lists m h ok.at in
          let hd : Heads 1 (left o.acceptor s.common m) (reply_message s m nego.0) =
          heads-reply s m nego ok.role ok.own a.talk (front-true (limit_rows s) (row 18 (may_write s NEGO) ∷ more) g) (x25, (x26, tt)) in
          let same : left o.acceptor s.common m ≡ reply-of m = ap (λ (k : List Id). left k s.common m) (sym ok.own) ∙ a.lists in
          record {
            then_ok =
                record {
                  role = ok.role;
                  own = ok.own;
                  at = acc-open a.stage (positive (place_after s NEGO) h) m (ask refl)
                      (rw a.none_yet (subst (λ (k : List Id). Heads 1 k (reply_message s m nego.0)) same hd));
                };
            then-together = tg;
            fair = record {
              refuses = λ z. absurd (omega arith);
              answers = λ z. (ap first (sym a.lists) ∙ some_first l some_left_lem, ap length a.lists);
              none_left = λ z x y v w. no_true (sym (ap some_left (a.lists ∙ z)) ∙ some_left_lem);
            };
          })

      -- a NEGO is no message of a later token
      no-nego : (n : ℕ) (c : Scan) → judged s f.turn ≡ whole n c → s.stage ≡ 1 → Heads 0 o.initiator f.turn → ⊥
      unfolding reading class_of
      no-nego n c w st t =
          let k = judged-first s f.turn n c w in go k.spent k.allowed where
            go : (v : Bool) → not (eqb (after (reads s) 0 v (class_of (not s.acceptor) (head_of f.turn).kind)) 0) ≡ true → ⊥
            go v h =
                let h' : not (eqb (after 2 0 v NEGO) 0) ≡ true = rw (ok.role, st, (heads-here 0 o.initiator f.turn t).0) at h in
                no_true (nego-start 2 0 v h').0

      -- a token, read
      acc-reads : (n : ℕ) (c : Scan) → may_read s ≡ true → judged s f.turn ≡ whole n c → AccAt s e.turn → IniAt f.record_of f.turn
          → AccAt (taken s f.turn n c) [] × Together f.record_of.stage (reads s + 1)
      unfolding reading common_after conversation_of
      acc-reads n c h w (acc-fresh st t) (ini-fresh st' p' t') = absurd (empty-judged s n c (rw t' at w))
      acc-reads n c h w (acc-fresh st t) (ini-choosing st' t' ma q ks co) = absurd (empty-judged s n c (rw t' at w))
      acc-reads n c h w (acc-fresh st t) (ini-later st') = absurd (let z = tg.later st' in omega arith)
      acc-reads n c h w (acc-fresh st t) (ini-open st' p' t') =
          let is : reads s + 1 ≡ 1 = rw (ok.role, st) in
          let l : listed_by f.turn ≡ o.initiator = (heads-here 0 o.initiator f.turn t').1 in
          let k = judged-first s f.turn n c w in (
            acc-read is refl (rw (ok.role, st, ok.own, l)) (rw (ok.role, st) (simp (length-take, length-drop) (omega (arith, k.forty)))) refl,
            record { first-stage = λ z. omega arith; choosing' = λ z. absurd (omega arith); later = λ z. omega arith },
          )
      acc-reads n c h w (acc-read st p co lc t) i = no_true (rw (ok.role, st, p) at h)
      acc-reads n c h w (acc-open st p ma q t) (ini-fresh st' p' t') = absurd (empty-judged s n c (rw t' at w))
      acc-reads n c h w (acc-open st p ma q t) (ini-choosing st' t' ma' q' ks co) = absurd (empty-judged s n c (rw t' at w))
      acc-reads n c h w (acc-open st p ma q t) (ini-later st') =
          let is : reads s + 1 ≡ 3 = rw (ok.role, st) in
          (acc-later is, record { first-stage = λ z. absurd (omega arith); choosing' = λ z. absurd (omega arith); later = λ z. omega arith })
      acc-reads n c h w (acc-open st p ma q t) (ini-open st' p' t') = absurd (no-nego n c w st t')
      acc-reads n c h w (acc-later st) i =
          let is : reads s + 1 ≡ 3 = rw (ok.role, st) in
          (acc-later is, subst (λ (k : ℕ). Together f.record_of.stage k) (st ∙ sym is) tg)

      acc-reads-on : (n : ℕ) (c : Scan) (d' : List ℕ) → may_read s ≡ true → judged s f.turn ≡ whole n c
          → AccOk (record { record_of = taken s f.turn n c; transcript = d'; turn = [] }) × along (reads s + 1)
      acc-reads-on n c d' h w = let g = acc-reads n c h w ok.at ok'.at in (record { role = ok.role; own = ok.own; at = g.0 }, g.1)

      -- an acceptor never chooses
      acc-choose : (m : ℕ) (t : Speech) → AccGoal (choose m t) Barred (choosing s b m t)
      unfolding choosing
      acc-choose m t =
          let no : may_choose s ≡ false = rw ok.role in
          decide-out (AccGoal (choose m t) Barred) (choice_table s b m t) s b _
          (λ n g. let is : n ≡ 18 = choice-barred s b m t no n g in refusal e AccOk along ok tg (choose m t) Barred n 0 (λ z. omega arith) is)
          (λ g. no_true (sym no ∙ (choice-passed s b m t g).may))

      acc-step : (k : Call) → No12 (act e f.turn k).answer → AskAcc k (act e f.turn k).answer → AccGoal k (AccSays k) (act e f.turn k)
      unfolding act
      acc-step (offer nego) z q = acc-offer nego
      acc-step (reply m nego) z q = acc-reply m nego q
      acc-step (metadata id value) z q = metadata-goal e AccOk along ok tg acc-on id value
      acc-step (speak t) z q = speak-goal e AccOk along ok tg acc-on t
      acc-step read z q = read-goal e AccOk along ok tg f.turn acc-reads-on z
      acc-step (choose m t) z q = acc-choose m t

    -- 5. a run

    -- an end as it was, or closed since: the other end may still read its turn, and its own calls are all 18
    abbrev shut : End → End
    shut e = record { record_of = closed e.record_of; transcript = e.transcript; turn = e.turn }

    abbrev As : End → End → Type 0
    As e₀ e = (e ≡ e₀) ⊎ (e ≡ shut e₀)

    as-turn : (e₀ e : End) → As e₀ e → e.turn ≡ e₀.turn
    as-turn e₀ e (inl h) = ap (λ (x : End). x.turn) h
    as-turn e₀ e (inr h) = ap (λ (x : End). x.turn) h

    -- a call that closes
    shuts : (e : End) (peer : List ℕ) (k : Call) → (act e peer k).answer.refusal ≡ 12 → moved e k (act e peer k) ≡ shut e
    shuts e peer k h =
        let u = refused-unchanged e peer k (λ z. omega arith) in
        let n : (act e peer k).answer.next ≡ closed e.record_of = rw h at u.0 in
        rw (h, n, u.1)

    -- a call at a closed end
    stays-shut : (e₀ e : End) (peer : List ℕ) (k : Call) → e ≡ shut e₀ → act e peer k ≡ refused e.record_of e.transcript 18 0
    stays-shut e₀ e peer k h = closed-refuses e peer k (ap (λ (x : End). x.record_of.stage) h)

    -- 18 is no answer to what is asked
    fair-18 : (x : Bool) (k : Call) (a : Answer) → a.refusal ≡ 18 → Fair x k a
    fair-18 false (offer nego) a n = λ z. omega arith
    fair-18 false (reply m nego) a n = n
    fair-18 false (metadata id value) a n = λ z. omega arith
    fair-18 false (speak s) a n = λ z. omega arith
    fair-18 false read a n = λ z. omega arith
    fair-18 false (choose m s) a n = ((λ z. absurd (omega arith)), (λ z. no_true (rw n at z)), (λ z. no_true (rw n at z)))
    fair-18 true (offer nego) a n = λ z. omega arith
    fair-18 true (reply m nego) a n =
        record { refuses = λ z. absurd (omega arith); answers = λ z. no_true (rw n at z); none_left = λ z x y. absurd (x n) }
    fair-18 true (metadata id value) a n = λ z. omega arith
    fair-18 true (speak s) a n = λ z. omega arith
    fair-18 true read a n = λ z. omega arith
    fair-18 true (choose m s) a n = n

    -- nor is 12, of a reading, which alone gives it
    fair-12 : (x : Bool) (k : Call) (a : Answer) → k ≡ read → a.refusal ≡ 12 → Fair x k a
    fair-12 x k a is n = subst (λ (c : Call). Fair x c a) (sym is) (go x) where
      go : (b : Bool) → Fair b read a
      go false = λ z. omega arith
      go true = λ z. omega arith

    -- the two ends of a run, each as in an invariant world, or closed since
    pub record Okay (w : World) : Type 0 where
      was : World
      ok : Ok was
      i-as : As was.i w.i
      a-as : As was.a w.a

    moved_ok : (w : World) → Okay w → (x : Bool) (k : Call) → Ask x k (outcome_at w x k).answer
        → Okay (next w x k) × Fair x k (outcome_at w x k).answer
    moved_ok w h false k q = go h.i-as where
      go : As h.was.i w.i → Okay (next w false k) × Fair false k (outcome_at w false k).answer
      go (inr e) =
          let c = stays-shut h.was.i w.i w.a.turn k e in (
            record { was = h.was; ok = h.ok; i-as = inr (ap (moved w.i k) c ∙ e); a-as = h.a-as },
            fair-18 false k _
                (ap (λ (o : Outcome). o.answer.refusal) c),
          )
      go (inl e) =
          let t = as-turn h.was.a w.a h.a-as in
          let same : act w.i w.a.turn k ≡ act h.was.i h.was.a.turn k =
          ap (λ (x : End). act x w.a.turn k) e ∙ ap (λ (p : List ℕ). act h.was.i p k) t in
          let then : moved w.i k (act w.i w.a.turn k) ≡ moved h.was.i k (act h.was.i h.was.a.turn k) =
          ap (λ (x : End). moved x k (act w.i w.a.turn k)) e ∙ ap (moved h.was.i k) same in
          elim (which (eqb (act h.was.i h.was.a.turn k).answer.refusal 12)) [
            | inl n ↦ (
              record { was = h.was; ok = h.ok; i-as = inr (then ∙ shuts h.was.i h.was.a.turn k (eqb-true _ _ n)); a-as = h.a-as },
              subst (λ (o : Outcome). Fair false k o.answer) (sym same)
                  (fair-12 false k _ (only-reading-12 h.was.i h.was.a.turn k (eqb-true _ _ n)) (eqb-true _ _ n)),
            )
            | inr n ↦
                let g = ini-step h.was.i h.was.a h.ok.ini-ok h.ok.acc-ok h.ok.stages k (eqb-false _ _ n) in (
                  record {
                    was = next h.was false k;
                    ok = record { ini-ok = g.then_ok; acc-ok = h.ok.acc-ok; stages = g.then-together };
                    i-as = inl then;
                    a-as = h.a-as;
                  },
                  subst (λ (o : Outcome). Fair false k o.answer) (sym same) g.fair,
                )
          ]
    moved_ok w h true k q = go h.a-as where
      go : As h.was.a w.a → Okay (next w true k) × Fair true k (outcome_at w true k).answer
      go (inr e) =
          let c = stays-shut h.was.a w.a w.i.turn k e in (
            record { was = h.was; ok = h.ok; i-as = h.i-as; a-as = inr (ap (moved w.a k) c ∙ e) },
            fair-18 true k _
                (ap (λ (o : Outcome). o.answer.refusal) c),
          )
      go (inl e) =
          let t = as-turn h.was.i w.i h.i-as in
          let same : act w.a w.i.turn k ≡ act h.was.a h.was.i.turn k =
          ap (λ (x : End). act x w.i.turn k) e ∙ ap (λ (p : List ℕ). act h.was.a p k) t in
          let then : moved w.a k (act w.a w.i.turn k) ≡ moved h.was.a k (act h.was.a h.was.i.turn k) =
          ap (λ (x : End). moved x k (act w.a w.i.turn k)) e ∙ ap (moved h.was.a k) same in
          elim (which (eqb (act h.was.a h.was.i.turn k).answer.refusal 12)) [
            | inl n ↦ (
              record { was = h.was; ok = h.ok; i-as = h.i-as; a-as = inr (then ∙ shuts h.was.a h.was.i.turn k (eqb-true _ _ n)) },
              subst (λ (o : Outcome). Fair true k o.answer) (sym same)
                  (fair-12 true k _ (only-reading-12 h.was.a h.was.i.turn k (eqb-true _ _ n)) (eqb-true _ _ n)),
            )
            | inr n ↦
                let g =
                acc-step h.was.a h.was.i h.ok.acc-ok h.ok.ini-ok h.ok.stages k (eqb-false _ _ n)
                (subst (λ (o : Outcome). AskAcc k o.answer) same q) in (
                  record {
                    was = next h.was true k;
                    ok = record { ini-ok = h.ok.ini-ok; acc-ok = g.then_ok; stages = g.then-together };
                    i-as = h.i-as;
                    a-as = inl then;
                  },
                  subst (λ (o : Outcome). Fair true k o.answer) (sym same) g.fair,
                )
          ]

    pub run-fair : (w : World) → Okay w → (cs : List (Bool × Call)) → ((x : Entry) → Memᴰ x (run w cs) → Ask x.acceptor x.call x.said)
        → (x : Entry) → Memᴰ x (run w cs) → Fair x.acceptor x.call x.said
    run-fair w h [] ask x m = absurd (Memᴰ.not-nil m)
    run-fair w h (c ∷ cs) ask x m =
        let g = moved_ok w h c.0 c.1 (ask _ (Memᴰ.head refl)) in
        elim (Memᴰ.cases_cons m) [
          | inl e ↦ subst (λ (y : Entry). Fair y.acceptor y.call y.said) (sym e) g.1
          | inr m' ↦ run-fair (next w c.0 c.1) g.0 cs (λ y n. ask y (Memᴰ.tail n)) x m'
        ]

    pub world-ok : own_of (world o).i.record_of ≡ o.initiator → own_of (world o).a.record_of ≡ o.acceptor
        → (world o).i.record_of.count ≡ length o.initiator → Okay (world o)
    world-ok i a n = record {
      was = world o;
      ok = record {
        ini-ok = record { role = refl; own = i; bytes = refl; count = n; talk = refl; at = ini-fresh refl refl refl };
        acc-ok = record { role = refl; own = a; at = acc-fresh refl refl };
        stages = record { first-stage = λ z. omega arith; choosing' = λ z. absurd (omega arith); later = λ z. absurd (omega arith) };
      };
      i-as = inl refl;
      a-as = inl refl;
    }

-- 6. opened lists

pub each-whole : (l : List Id) → whole_ids l ≡ true → (s : Id) → Memᴰ s l → length s ≡ 16
each-whole [] e s m = absurd (Memᴰ.not-nil m)
each-whole (x ∷ l) e s m = elim (Memᴰ.cases_cons m) [
  | inl q ↦ ap length q ∙ eqb-true _ _ (and_l (eqb (length x) 16) (whole_ids l) e)
  | inr i ↦ each-whole l (and_r (eqb (length x) 16) (whole_ids l) e) s i
]

pub sized-at : (l : List Id) → ((s : Id) → Memᴰ s l → length s ≡ 16) → (k : ℕ) → k < length l → length (get_or l k []) ≡ 16
sized-at [] h k low = absurd (omega arith)
sized-at (x ∷ l) h zero low = h x (Memᴰ.head refl)
sized-at (x ∷ l) h (suc k) low = sized-at l (λ s m. h s (Memᴰ.tail m)) k (omega arith)

pub left-sized : (l : List Id) (c m : ℕ) → ((s : Id) → Memᴰ s l → length s ≡ 16)
    → ((s : Id) → Memᴰ s (left l c m) → length s ≡ 16) × (length (left l c m) ≤ length l)
unfolding left
left-sized [] c m h = (h, omega arith)
left-sized (x ∷ l) c m h =
    let i = left-sized l (c / 2) (m / 2) (λ s k. h s (Memᴰ.tail k)) in
    go (bit c 0 && not (bit m 0)) i where
      go : (b : Bool) → ((s : Id) → Memᴰ s (left l (c / 2) (m / 2)) → length s ≡ 16) × (length (left l (c / 2) (m / 2)) ≤ length l)
          → ((s : Id) → Memᴰ s (cond b (x ∷ left l (c / 2) (m / 2)) (left l (c / 2) (m / 2))) → length s ≡ 16)
          × (length (cond b (x ∷ left l (c / 2) (m / 2)) (left l (c / 2) (m / 2))) ≤ length (x ∷ l))
      go true i = (
        λ s k. elim (Memᴰ.cases_cons k) [ inl e ↦ ap length e ∙ h x (Memᴰ.head refl) | inr k' ↦ i.0 s k' ],
        omega (arith, i.1),
      )
      go false i = (i.0, omega (arith, i.1))

mem-one : (x : Id) (l : List Id) → Memᴰ x (x ∷ l)
mem-one x l = Memᴰ.head refl

cut-joined : (l : List Id) (rest : List ℕ) → ((s : Id) → Memᴰ s l → length s ≡ 16) → ids_at (length l) (join_ids l ++ rest) ≡ l
unfolding ids_at
cut-joined [] rest h = refl
cut-joined (x ∷ l) rest h =
    let n : length x ≡ 16 = h x (mem-one x l) in
    rw (
      append_assoc x (join_ids l) rest,
      take_at x (join_ids l ++ rest) 16 n,
      drop_at x (join_ids l ++ rest) 16 n,
      cut-joined l rest
          (λ s m. h s (Memᴰ.tail m)),
    )

pub length-joined : (l : List Id) → ((s : Id) → Memᴰ s l → length s ≡ 16) → length (join_ids l) ≡ 16 * length l
length-joined [] h = refl
length-joined (x ∷ l) h =
    length-append x (join_ids l)
    ∙ (let n : length x ≡ 16 = h x (mem-one x l) in let i = length-joined l (λ s m. h s (Memᴰ.tail m)) in omega arith)

pub count-joined : (l : List Id) → ((s : Id) → Memᴰ s l → length s ≡ 16) → length (join_ids l) / 16 ≡ length l
count-joined l h = let n = length-joined l h in omega arith

pub own-opened : (a : Bool) (l : List Id) (c : List ℕ) → ((s : Id) → Memᴰ s l → length s ≡ 16) → own_of (fresh a (join_ids l) c) ≡ l
own-opened a l c h = rw (count-joined l h) (cut-joined l _ h)

-- a run's records are those that opening answers
pub opening-fresh : OpeningFresh
unfolding opening list_ok
opening-fresh a l c sized ok =
    let h = each-whole l sized in
    let n = length-joined l h in
    let whole : length (join_ids l) % 16 ≡ 0 = omega arith in
    let ids : ids_of (join_ids l) ≡ l = rw (count-joined l h) (ap (ids_at (length l)) (sym (append-nil (join_ids l))) ∙ cut-joined l [] h) in
    rw (eq-eqb _ _ whole, ids, ok)
