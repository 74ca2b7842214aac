-- Demand 3, for any two runs.
-- Assumes nothing.
use Prim.Native.Nat.{ℕ, ◌*◌, ◌≤◌, ◌%◌}
use mathlib.Core.Path.{◌≡◌, refl, sym, ap, subst, ◌∙◌}
use mathlib.Core.Bool.{Bool, true, false, ◌&&◌}
use mathlib.Core.Logic.{inl, inr}
use mathlib.Core.List.{List, [], ◌∷◌, Memᴰ}
use mathlib.Core.Option.{some, some-ne-none}
use native.Mathlib.Omega.{arith}
use lib.ListN.{length, take}
use lib.Seq.{take_at}
use lib.Dec.{eqb, leb}
use borrow.Author.Tests.{eq-eqb, leb-true, le-leb}
use Rattle.octets.proofs.Bools.{no_true, and_l, and_r, and_i}
use Rattle.message.specs.Show.{ids_of}
use Rattle.message.proofs.Tables.{AllTrue}
use Rattle.encode.specs.Encode.{encodable}
use Rattle.roundtrip.specs.ReadBack.{Sent}
use Rattle.roundtrip.proofs.RoundTrip.{AllIds, ids-joined, nego-begins}
use Rattle.schemes.specs.Lists.{Id, mem, distinct, first, left_over, rule2, one_to16, join_ids}
use Rattle.schemes.specs.Sets.{left, pad_to}
use Rattle.schemes.specs.Longer.{Longer, SameMarks}
use Rattle.schemes.proofs.Choice.{still-usable, still-common, longer}
use Rattle.conversation.specs.declared.Record.{Record}
use Rattle.conversation.specs.declared.Answer.{Answer}
use Rattle.conversation.specs.State.{own_of, limit_rows}
use Rattle.conversation.specs.Turns.{NEGO, type_of}
use Rattle.conversation.specs.Outcomes.{zero_id}
use Rattle.elements.specs.Elements.{items_of}
use Rattle.elements.proofs.Views.{handed}
use Rattle.conversation.specs.Writing.{nego_in, extension_rows, heading, message_of, offered, reply_message, Speech}
use Rattle.conversation.specs.Runs.{NegoCall, Call, offer, reply, metadata, speak, read, choose, Opening, World, world, next, Entry, run, is_accepted, is_lawful, Replied, MarksKept, Choice, Demand3}
use Rattle.conversation.specs.Claims.{RuleTwoAnswer, ByRule2, NoneRefused, ReplyAnswer, ReplyByMarks, accepted_at, with_marks}
use Rattle.conversation.proofs.Tokens.{Heads}
use Rattle.conversation.proofs.Once.{marks-once, same_kept}
use Rattle.conversation.proofs.Ends.{ok-distinct, Ask, Fair, run-fair, world-ok, each-whole, left-sized, own-opened, count-joined, length-joined}

-- 1. a written NEGO, whatever follows it

pub all-sized : (l : List Id) → ((s : Id) → Memᴰ s l → length s ≡ 16) → AllIds l
all-sized [] h = tt
all-sized (x ∷ l) h = (h x (mathlib.Core.List.Memᴰ.head refl), all-sized l (λ s m. h s (mathlib.Core.List.Memᴰ.tail m)))

module _ (r : Record) (nego : NegoCall) (l : List Id) (sized : (s : Id) → Memᴰ s l → length s ≡ 16) (few : length l ≤ 16)
    (talk : length r.conversation ≡ 16) (limits : AllTrue (limit_rows r)) (extensions : AllTrue (extension_rows nego.0)) where
  written : (schemes : List ℕ) → schemes ≡ join_ids l → Sent (heading r NEGO) (nego_in nego.0 schemes)
  unfolding encodable type_of
  written schemes e =
      let n : length schemes ≡ 16 * length l = ap length e ∙ length-joined l sized in
      let (l1, (l2, (l3, (l4, (l5, (l6, (l7, (l8, (l9, (l10, rest)))))))))) = limits in
      let sq : r.sequence ≤ 1023 = leb-true _ _ l10 in
      record {
        can = kind r.acceptor (and_i (eqb (length schemes % 16) 0) _ (eq-eqb _ _ (let z : length schemes % 16 ≡ 0 = omega arith in z))
            (and_i (leb (length schemes) 1048560) _ (le-leb _ _ (let z : length schemes ≤ 1048560 = omega arith in z))
            (handed nego.0.extensions nego.0.values extensions.0).fit));
        number = omega arith;
        id = talk;
        whole = nego.1.random;
      } where
        kind : (a : Bool) {b : Bool} → b ≡ true → leb (type_of a NEGO) 1 && b ≡ true
        kind true e = e
        kind false e = e

  pub heads-written : (schemes : List ℕ) → schemes ≡ join_ids l → Heads (type_of r.acceptor NEGO) l (message_of r NEGO (nego_in nego.0 schemes))
  heads-written schemes e rest =
      let b =
      nego-begins (heading r NEGO)
      (record { random = nego.0.random; schemes = schemes; extensions = items_of nego.0.extensions nego.0.values })
      (written schemes e) rest in
      (b.0, b.1 ∙ ap ids_of e ∙ ids-joined l (all-sized l sized))

module _ (o : Opening) where
  abbrev initiator-sized : (s : Id) → Memᴰ s o.initiator → length s ≡ 16
  initiator-sized = each-whole o.initiator o.initiator_whole

  abbrev acceptor-sized : (s : Id) → Memᴰ s o.acceptor → length s ≡ 16
  acceptor-sized = each-whole o.acceptor o.acceptor_whole

  few : (l : List Id) → one_to16 l ≡ true → length l ≤ 16
  few l e = leb-true _ _ (and_r (leb 1 (length l)) (leb (length l) 16) (and_l (leb 1 (length l) && leb (length l) 16) (distinct l) e))

  heads-offer : (r : Record) (nego : NegoCall) → r.acceptor ≡ false → r.list ≡ pad_to 256 (join_ids o.initiator) → r.count ≡ length o.initiator
      → r.conversation ≡ o.conversation.0 → AllTrue (limit_rows r) → AllTrue (extension_rows nego.0)
      → Heads 0 o.initiator (offered r nego.0)
  unfolding type_of
  heads-offer r nego role bytes count talk limits extensions =
      let n = length-joined o.initiator initiator-sized in
      let e : take (16 * r.count) r.list ≡ join_ids o.initiator =
      rw (bytes, count) (take_at (join_ids o.initiator) _ (16 * length o.initiator) n) in
      subst (λ (a : Bool). Heads (type_of a NEGO) o.initiator (offered r nego.0)) role
      (heads-written r nego o.initiator initiator-sized (few o.initiator o.initiator_ok)
      (ap length talk ∙ o.conversation.1) limits extensions (take (16 * r.count) r.list) e)

  heads-reply : (r : Record) (m : ℕ) (nego : NegoCall) → r.acceptor ≡ true → own_of r ≡ o.acceptor → length r.conversation ≡ 16
      → AllTrue (limit_rows r) → AllTrue (extension_rows nego.0) → Heads 1 (left o.acceptor r.common m) (reply_message r m nego.0)
  unfolding type_of
  heads-reply r m nego role own talk limits extensions =
      let k = left-sized o.acceptor r.common m acceptor-sized in
      let f = few o.acceptor o.acceptor_ok in
      subst (λ (a : Bool). Heads (type_of a NEGO) (left o.acceptor r.common m) (reply_message r m nego.0)) role
      (heads-written r nego (left o.acceptor r.common m) k.0 (omega (arith, k.1)) talk limits extensions
      (join_ids (left (own_of r) r.common m)) (rw own))

-- 2. every run

pub run-calls : (w : World) (cs : List (Bool × Call)) (x : Entry) → Memᴰ x (run w cs) → Memᴰ (x.acceptor, x.call) cs
run-calls w [] x m = absurd (mathlib.Core.List.Memᴰ.not-nil m)
run-calls w (c ∷ cs) x m = elim (mathlib.Core.List.Memᴰ.cases_cons m) [
  | inl e ↦ mathlib.Core.List.Memᴰ.head (ap (λ (y : Entry). (y.acceptor, y.call)) e)
  | inr m' ↦ mathlib.Core.List.Memᴰ.tail (run-calls (next w c.0 c.1) cs x m')
]

abbrev FairIn : Opening → List (Bool × Call) → Bool → Call → Answer → Type 0
FairIn o cs x k a = Fair o (Replied o cs) (heads-offer o) (heads-reply o) x k a

-- in a run from the opening, Q is: an accepted call that writes the acceptor's NEGO had these marks
asks : (o : Opening) (cs : List (Bool × Call)) (x : Bool) (k : Call) (a : Answer)
    → Memᴰ (record { acceptor = x; call = k; said = a }) (run (world o) cs) → Ask o (Replied o cs) (heads-offer o) (heads-reply o) x k a
asks o cs false k a m = tt
asks o cs true (offer nego) a m = tt
asks o cs true (reply x nego) a m = λ h. record { content = nego; answered = a; accepted = h; entry = m }
asks o cs true (metadata id value) a m = tt
asks o cs true (speak s) a m = tt
asks o cs true read a m = tt
asks o cs true (choose x s) a m = tt

fair-run : (o : Opening) (cs : List (Bool × Call)) (x : Entry) → Memᴰ x (run (world o) cs) → FairIn o cs x.acceptor x.call x.said
fair-run o cs x m =
    run-fair o (Replied o cs) (heads-offer o) (heads-reply o) (world o)
    (world-ok o (Replied o cs) (heads-offer o) (heads-reply o)
    (own-opened false o.initiator o.conversation.0 (initiator-sized o))
    (own-opened true o.acceptor zero_id (acceptor-sized o))
    (count-joined o.initiator (initiator-sized o)))
    cs (λ y n. asks o cs y.acceptor y.call y.said n) x m

-- the first run: who chose, and by what
chose-facts : (o : Opening) (cs : List (Bool × Call)) (x : Bool) (m : ℕ) (s : Speech) (a : Answer) → is_accepted a ≡ true
    → FairIn o cs x (choose m s) a
    → (x ≡ false) × ((ma : ℕ) × (Replied o cs ma × (rule2 o.acceptor o.initiator ma m ≡ some a.choice)))
chose-facts o cs false m s a e h = let g = h.1 e in (refl, (g.0, (g.1.0, g.1.1.0)))
chose-facts o cs true m s a e h = no_true (rw h at e)

pub by-rule2 : ByRule2
by-rule2 o cs x m s h call = go x.acceptor (rw call at (fair-run o cs x h)) where
  go : (b : Bool) → FairIn o cs b (choose m s) x.said → RuleTwoAnswer o cs m x.said
  go false f = record { refuses = f.0; answers = f.1; lawful = f.2 }
  go true f = record { refuses = λ e. absurd (omega arith); answers = λ e. no_true (rw f at e); lawful = λ e. no_true (rw f at e) }

pub reply-by-marks : ReplyByMarks
reply-by-marks o cs x m nego h call = go x.acceptor (rw call at (fair-run o cs x h)) where
  go : (b : Bool) → FairIn o cs b (reply m nego) x.said → ReplyAnswer o m x.said
  go true f = f
  go false f = record { refuses = λ e. absurd (omega arith); answers = λ e. no_true (rw f at e); none_left = λ z a b. absurd (a f) }

-- the acceptor's marks are one set
pub replied-once : (o : Opening) (cs : List (Bool × Call)) (m n : ℕ) → Replied o cs m → Replied o cs n → m ≡ n
replied-once o cs m n r s =
    let e =
    same_kept (accepted_at true with_marks) (run (world o) cs) _ _ (marks-once o cs true) r.entry s.entry (rw r.accepted)
    (rw s.accepted) in
    marks-of (ap (λ (y : Entry). y.call) e) where
      marks-of : {a b : ℕ} {x y : NegoCall} → reply a x ≡ reply b y → a ≡ b
      marks-of e = cc

-- where rule 2 leaves nothing, a lawful choosing call is refused with 17, and only there (`refuses`)
pub none-refused : NoneRefused
none-refused o cs x m ma s h call l r none_left =
    let b = by-rule2 o cs x m s h call in
    elim (b.lawful l) [
      | inl e ↦ e
      | inr e ↦
          let g = b.answers e in
          let same : left_over o.acceptor o.initiator g.0 m ≡ [] =
          subst (λ (n : ℕ). left_over o.acceptor o.initiator n m ≡ []) (replied-once o cs ma g.0 r g.1.0) none_left in
          absurd (some-ne-none x.said.choice (sym g.1.1.0 ∙ ap first same))
    ]

no-mem-nil : (s : Id) (l : List Id) → l ≡ [] → mem s l ≡ true → ⊥
unfolding mem
no-mem-nil s l e m = no_true (rw e at m)

-- 3. a second run after a longer offer

module _ (o : Opening) (cs : List (Bool × Call)) (o' : Opening) (cs' : List (Bool × Call)) (m ma : ℕ) (s : Speech) (a : Answer)
    (ok : is_accepted a ≡ true)
    (chosen : Memᴰ (record { acceptor = false; call = choose m s; said = a }) (run (world o) cs))
    (rep : Replied o cs ma) (before : rule2 o.acceptor o.initiator ma m ≡ some a.choice)
    (up : Longer o.acceptor o.initiator o'.acceptor o'.initiator) (marks : MarksKept o cs o' cs') where
  ini-marks : (m' : ℕ) (s' : Speech) → Memᴰ (false, choose m' s') cs'
      → SameMarks o.acceptor o.initiator o.initiator m o'.initiator m'
  ini-marks m' s' h = marks.initiator_marks m m' s' (record { answered = a; spoke = s; accepted = ok; entry = chosen }) h

  acc-marks : (m' : ℕ) (nego : NegoCall) → Memᴰ (true, reply m' nego) cs'
      → SameMarks o.acceptor o.initiator o.acceptor ma o'.acceptor m'
  acc-marks m' nego h = marks.acceptor_marks ma m' nego rep h

  rep-marks : (m' : ℕ) → Replied o' cs' m' → SameMarks o.acceptor o.initiator o.acceptor ma o'.acceptor m'
  rep-marks m' h = acc-marks m' h.content (run-calls (world o') cs' _ h.entry)

  dist : distinct o'.acceptor ≡ true
  dist = ok-distinct o'.acceptor o'.acceptor_ok

  -- a choosing call has something left
  some_left_lem : (m' ma' : ℕ) (s' : Speech) → Memᴰ (false, choose m' s') cs' → Replied o' cs' ma'
      → left_over o'.acceptor o'.initiator ma' m' ≡ [] → ⊥
  some_left_lem m' ma' s' h r e =
      no-mem-nil a.choice _ e
      (still-usable o.acceptor o.initiator o'.acceptor o'.initiator up dist ma m a.choice before ma' m' (rep-marks ma' r)
      (ini-marks m' s' h))

  no-17 : (x : Bool) (k : Call) (b : Answer) → Memᴰ (x, k) cs' → FairIn o' cs' x k b → b.refusal ≡ 17 → ⊥
  no-17 false (offer nego) b h f = f
  no-17 false (reply y nego) b h f = λ e. omega arith
  no-17 false (metadata id value) b h f = f
  no-17 false (speak s) b h f = f
  no-17 false read b h f = f
  no-17 false (choose m' s') b h f = λ e. let g = f.0 e in some_left_lem m' g.0 s' h g.1.0 g.1.1
  no-17 true (offer nego) b h f = f
  no-17 true (reply m' nego) b h f =
      λ e. no-mem-nil a.choice _ (f.refuses e)
      (still-common o.acceptor o.initiator o'.acceptor o'.initiator up dist ma m a.choice before m' (acc-marks m' nego h))
  no-17 true (metadata id value) b h f = f
  no-17 true (speak s) b h f = f
  no-17 true read b h f = f
  no-17 true (choose m' s') b h f = λ e. omega arith

  choice-of : (x : Bool) (m' : ℕ) (s' : Speech) (b : Answer) → Memᴰ (x, choose m' s') cs' → FairIn o' cs' x (choose m' s') b → is_lawful b ≡ true
      → Choice o o' cs' m' a.choice b
  choice-of false m' s' b h f l = elim (f.2 l) [
    | inl e ↦ absurd (no-17 false (choose m' s') b h f e)
    | inr e ↦ let g = f.1 e in record {
      accepted = e;
      ma = g.0;
      replied = g.1.0;
      chosen = g.1.1.0;
      no_later =
          longer o.acceptor o.initiator o'.acceptor o'.initiator up dist ma m a.choice before g.0 m' (rep-marks g.0 g.1.0)
          (ini-marks m' s' h) b.choice g.1.1.0;
    }
  ]
  choice-of true m' s' b h f l = no_true (rw f at l)

pub demand3 : Demand3
demand3 o cs o' cs' x m s hx call ok up marks y hy =
    let cf = chose-facts o cs x.acceptor m s x.said ok (rw call at (fair-run o cs x hx)) in
    let hx' : Memᴰ (record { acceptor = x.acceptor; call = x.call; said = x.said }) (run (world o) cs) = hx in
    let chosen : Memᴰ (record { acceptor = false; call = choose m s; said = x.said }) (run (world o) cs) = rw (cf.0, call) at hx' in
    let g = cf.1 in
    let fy = fair-run o' cs' y hy in
    let cy : Memᴰ (y.acceptor, y.call) cs' = run-calls (world o') cs' y hy in (
      no-17 o cs o' cs' m g.0 s x.said ok chosen g.1.0 g.1.1 up marks y.acceptor y.call y.said cy fy,
      λ m' s' k l. choice-of o cs o' cs' m g.0 s x.said ok chosen g.1.0 g.1.1 up marks y.acceptor m' s' y.said (rw k at cy)
          (rw k at fy) l,
    )
