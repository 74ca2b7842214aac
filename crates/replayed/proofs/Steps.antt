-- A run beside the replay of what is written in it: the two are in step, or the two ends have parted and neither reads any more.
-- Assumes nothing.
use Prim.Native.Nat.{ℕ, ◌+◌, ◌<◌, ◌≤◌}
use mathlib.Core.Path.{◌≡◌, refl, sym, ap, subst, ◌∙◌}
use mathlib.Core.Bool.{Bool, true, false, not}
use mathlib.Core.Logic.{◌⊎◌, inl, inr}
use mathlib.Core.List.{List, [], ◌∷◌, ◌++◌, append_assoc, append-nil}
use native.Mathlib.Omega.{arith}
use lib.ListN.{length, length-append, get_or-append}
use Rattle.message.specs.Layout.{Head, head_of}
use Rattle.message.proofs.Local.{head-same}
use Rattle.token.specs.Split.{join}
use Rattle.put.specs.Put.{put}
use Rattle.conversation.specs.declared.Record.{Record}
use Rattle.conversation.specs.Turns.{writing, writes}
use Rattle.conversation.specs.Outcomes.{Outcome}
use Rattle.conversation.specs.Reading.{chain_for, taken, accepted, reading_token}
use Rattle.conversation.specs.Runs.{Call, read, End, act, moved, is_accepted}
use Rattle.conversation.specs.Logs.{messages_in, added}
use Rattle.conversation.proofs.Messages.{join_one}
use Rattle.conversation.proofs.Logs.{Sound}
use Rattle.sides.specs.Merging.{Turn, token}
use Rattle.sides.specs.Turning.{begun, owed, heard_turn, said, said_all, spoke}
use Rattle.sides.specs.Replay.{Case, Sides, side_of, marks_of, outcome_of, so_played}
use Rattle.sides.proofs.Cutting.{Pieces, pieces-append}
use Rattle.sides.proofs.Turns.{all_of, of_side}
use Rattle.replayed.proofs.Messages.{Headed}
use Rattle.replayed.proofs.Writes.{Marked, marks_in, marked-in, Writes, writes-call}
use Rattle.sides.proofs.Spoken.{said-snoc, spoke-counts}
use Rattle.sides.proofs.Heard.{Heard, heard-by, heard-again, AllExact, exact-append, Gone, gone-through, first-number}
use Rattle.replayed.proofs.Played.{Level, level-on, Holds, holds_on, sides_after, AllHeard, after-snoc, heard-snoc, AlternateTo, alternate-snoc, all_snoc, side-here, side-there, not-not, side-writer, side-reader, side-transcript}

-- 1. ends that have parted

-- the end e cannot read the other's turn: it begins, or will begin, before the number that e expects
pub data Past (e f : End) : Type 0 where
  none_yet : f.turn ≡ [] → f.record_of.sequence < e.record_of.sequence → Past e f
  begun-before : 40 ≤ length f.turn → (head_of f.turn).sequence < e.record_of.sequence → Past e f

head-kept : (t x : List ℕ) → 40 ≤ length t → head_of (t ++ x) ≡ head_of t
head-kept t x h = head-same t (t ++ x) h (omega (arith, length-append t x)) (λ i w. get_or-append t x 0 i (omega arith))

-- a token that begins before the number that is expected is not read
past-unread : (e f : End) → Past e f → is_accepted (reading_token e.record_of e.transcript f.turn).answer ≡ true → ⊥
past-unread e f (none_yet t n) a =
    let h = heard-by e.record_of e.transcript f.turn a in
    let g = first-number e.record_of f.turn h.n h.scan h.is in
    omega (arith, g.0, ap length t)
past-unread e f (begun-before l n) a =
    let h = heard-by e.record_of e.transcript f.turn a in
    let g = first-number e.record_of f.turn h.n h.scan h.is in
    omega (arith, g.1)

accepted-reads : (e : End) (peer : List ℕ) → is_accepted (act e peer read).answer ≡ true
    → is_accepted (reading_token e.record_of e.transcript peer).answer ≡ true
unfolding act
accepted-reads e peer a = a

-- an end after an accepted call that writes
record Wrote (e e' : End) (message : List ℕ) : Type 0 where
  type : ℕ
  head : Headed type e.record_of.sequence e.record_of.conversation message
  turn : e'.turn ≡ e.turn ++ message
  counts : e'.record_of.sequence ≡ e.record_of.sequence + 1

wrote_by : (marks : ℕ) (e : End) (peer : List ℕ) (log : List (List ℕ)) (ok : Sound e.record_of e.transcript log) (k : Call)
    (a : is_accepted (act e peer k).answer ≡ true)
    → (w : Writes e peer log ok marks k) → Wrote e (moved e k (act e peer k)) w.message
wrote_by marks e peer log ok k a w = record {
  type = w.type;
  head = w.head;
  turn = rw a w.turns;
  counts = ap (λ (r : Record). r.sequence) w.next ∙ w.counts;
}

past-longer : (e e' f : End) (m : List ℕ) → Wrote e e' m → Past e f → Past e' f
past-longer e e' f m w (none_yet t n) = none_yet t (omega (arith, w.counts))
past-longer e e' f m w (begun-before l n) = begun-before l (omega (arith, w.counts))

past_more : (e e' f : End) (m : List ℕ) → Wrote e e' m → Past f e → Past f e'
past_more e e' f m w (none_yet t n) =
    let is : e'.turn ≡ m = w.turn ∙ ap (λ (l : List ℕ). l ++ m) t in
    let long : 40 ≤ length m = (let z = w.head.long in omega arith) in
    let number : (head_of m).sequence ≡ e.record_of.sequence = ap (λ (l : List ℕ). (head_of l).sequence) (sym (append-nil m)) ∙ w.head.number [] in
    begun-before (omega (arith, ap length is)) (omega (arith, ap (λ (l : List ℕ). (head_of l).sequence) is))
past_more e e' f m w (begun-before l n) =
    let h : head_of e'.turn ≡ head_of e.turn = ap head_of w.turn ∙ head-kept e.turn m l in
    begun-before (omega (arith, ap length w.turn, length-append e.turn m)) (omega (arith, ap (λ (g : Head). g.sequence) h))

-- both have, and something that was written is not read: we, wf were written by e and f, re and rf read
pub record Parted (e f : End) (we wf re rf : List (List ℕ)) : Type 0 where
  pub here : Past e f
  pub there : Past f e
  pub unread : (length rf < length we) ⊎ (length re < length wf)

pub parted-swap : (e f : End) (we wf re rf : List (List ℕ)) → Parted e f we wf re rf → Parted f e wf we rf re
parted-swap e f we wf re rf p = record { here = p.there; there = p.here; unread = elim p.unread [ inl h ↦ inr h | inr h ↦ inl h ] }

pub parted-on : (e f : End) (log we wf re rf : List (List ℕ)) (ok : Sound e.record_of e.transcript log) → Parted e f we wf re rf
    → (k : Call) → (k ≡ read → ⊥) → is_accepted (act e f.turn k).answer ≡ true
    → Parted (moved e k (act e f.turn k)) f (we ++ added e f.turn k) wf re rf
parted-on e f log we wf re rf ok p k n a =
    let w = writes-call e f.turn log ok (marks_in k) k (marked-in _ k) n a in
    let v = wrote_by (marks_in k) e f.turn log ok k a w in
    let e' : End = moved e k (act e f.turn k) in
    record {
      here = past-longer e e' f w.message v p.here;
      there = past_more e e' f w.message v p.there;
      unread = elim p.unread [ inl h ↦ inl (omega (arith, length-append we (added e f.turn k))) | inr h ↦ inr h ];
    }

pub parted-unread : (e f : End) (we wf re rf : List (List ℕ)) → Parted e f we wf re rf → is_accepted (act e f.turn read).answer ≡ true → ⊥
parted-unread e f we wf re rf p a = past-unread e f p.here (accepted-reads e f.turn a)

-- 2. ends in step with a replay

abbrev pub spoken_by : ℕ → Record → List (List ℕ) → Record
spoken_by m w [] = w
spoken_by m w (k ∷ ks) = spoke m w (k ∷ ks)

-- the writer x has read the turn before, and what it wrote since is its turn so far
abbrev Underway : ℕ → Record → Record → List (List ℕ) → Type 0
Underway m w r [] = w.position ≡ 0
Underway m w r (k ∷ ks) = (1 ≤ r.position) × ((writes r ≡ 3 → ⊥) × ((rest : List ℕ) → owed m w (k ++ rest) ≡ true))

-- the reader's own turn is of before; or nothing is played yet, and it may not write
pub data Stale (e f : End) : Type 0 where
  fresh-reader : f.turn ≡ [] → f.record_of.acceptor ≡ true → f.record_of.stage ≡ 0 → f.record_of.position ≡ 0 → Stale e f
  had-turn : Past e f → Stale e f

fresh-barred : (marks : ℕ) (r base : Record) (m : List ℕ) → r.acceptor ≡ true → r.stage ≡ 0 → base ≡ begun marks r → (writes (said base m) ≡ 3 → ⊥)
    → ⊥
unfolding begun said writing
fresh-barred marks r base m role st b on =
    let same : begun marks r ≡ r = rw (role, st) in
    on (ap (λ (q : Record). writes q) (b ∙ same) ∙ rw (role, st))

-- a turn so far begins with the number after all that is played
abbrev Begins : ℕ → List (List ℕ) → Type 0
Begins q [] = Unit {0}
Begins q (m ∷ ms) = (rest : List ℕ) → (head_of (m ++ rest)).sequence ≡ q

-- the first message's conversation
abbrev pub Talks : List ℕ → Record → List Turn → List (List ℕ) → Type 0
Talks v r [] [] = r.conversation ≡ v
Talks v r [] (m ∷ ms) = (r.conversation ≡ v) × ((rest : List ℕ) → (head_of (m ++ rest)).conversation ≡ v)
Talks v r (t ∷ ts) ms = (head_of (token t)).conversation ≡ v

module _ (c : Case) (s₀ : Sides) (v : List ℕ) where
  pub record Good (x : Bool) (e f : End) (le lf we wf re rf : List (List ℕ)) : Type 0 where
    pub turns : List Turn
    pub own : List (List ℕ)
    pub heard : AllHeard c s₀ turns
    pub alternate : AlternateTo false turns x
    pub pieces : (y : Bool) → Pieces (of_side y turns)
    pub levels : (y : Bool) → Level (side_of y (sides_after c s₀ turns)) (all_of turns)
    pub holds : Holds (sides_after c s₀ turns).transcript (all_of turns)
    pub writer : e.record_of ≡ spoken_by (marks_of x c) (side_of x (sides_after c s₀ turns)) own
    pub reader : f.record_of ≡ side_of (not x) (sides_after c s₀ turns)
    pub role-e : e.record_of.acceptor ≡ x
    pub role-f : f.record_of.acceptor ≡ not x
    pub talks : Talks v e.record_of turns own
    pub turn : e.turn ≡ join own
    pub exact : AllExact own
    pub begins : Begins (length (all_of turns)) own
    pub underway : Underway (marks_of x c) (side_of x (sides_after c s₀ turns)) e.record_of own
    pub stale : Stale e f
    pub log-e : le ≡ all_of turns ++ own
    pub log-f : lf ≡ all_of turns
    pub wrote-e : we ≡ of_side x turns ++ own
    pub wrote-f : wf ≡ of_side (not x) turns
    pub read-e : re ≡ of_side (not x) turns
    pub read-f : rf ≡ of_side x turns

  module _ (x : Bool) (e f : End) (le lf we wf re rf : List (List ℕ)) (g : Good x e f le lf we wf re rf) where
    abbrev s : Sides
    s = sides_after c s₀ g.turns

    abbrev marks : ℕ
    marks = marks_of x c

    -- the writer does not read
    pub good-unread : is_accepted (act e f.turn read).answer ≡ true → ⊥
    good-unread a = go g.stale where
      go : Stale e f → ⊥
      go (had-turn p) = past-unread e f p (accepted-reads e f.turn a)
      go (fresh-reader t r st p) =
          let h = heard-by e.record_of e.transcript f.turn (accepted-reads e f.turn a) in
          let n = first-number e.record_of f.turn h.n h.scan h.is in
          omega (arith, n.0, ap length t)

    sequence-e : e.record_of.sequence ≡ length (all_of g.turns) + length g.own
    sequence-e = ap (λ (r : Record). r.sequence) g.writer ∙ go g.own where
      go : (own : List (List ℕ)) → (spoken_by marks (side_of x s) own).sequence ≡ length (all_of g.turns) + length own
      go [] = let z = (g.levels x).sequence in omega arith
      go (m ∷ ms) = let z = (g.levels x).sequence in let y = (spoke-counts marks (side_of x s) (m ∷ ms)).1 in omega arith

    -- 3. the writer writes

    pub good-writes : Sound e.record_of e.transcript le → (k : Call) → Marked x marks k → (k ≡ read → ⊥)
        → is_accepted (act e f.turn k).answer ≡ true
        → Good x (moved e k (act e f.turn k)) f (le ++ added e f.turn k) lf (we ++ added e f.turn k) wf re rf
    good-writes ok k m n a =
        let w = writes-call e f.turn le ok marks k (subst (λ (y : Bool). Marked y marks k) (sym g.role-e) m) n a in
        let z = wrote_by marks e f.turn le ok k a w in
        let e' : End = moved e k (act e f.turn k) in
        let there : added e f.turn k ≡ w.message ∷ [] = w.adds in
        record {
          turns = g.turns;
          own = g.own ++ (w.message ∷ []);
          heard = g.heard;
          alternate = g.alternate;
          pieces = g.pieces;
          levels = g.levels;
          holds = g.holds;
          writer = w.next ∙ then-said w g.own g.writer g.underway;
          reader = g.reader;
          role-e = ap (λ (r : Record). r.acceptor) w.next ∙ w.role ∙ g.role-e;
          role-f = g.role-f;
          talks = then-talks w g.turns g.own g.talks;
          turn = z.turn ∙ ap (λ (l : List ℕ). l ++ w.message) g.turn ∙ sym (join_one g.own w.message);
          exact = exact-append g.own (w.message ∷ []) g.exact (record { long = w.head.long; exact = w.head.exact }, tt);
          begins = then-begins w g.own refl g.begins;
          underway = then-underway w g.own g.writer g.underway;
          stale = then-stale e' w.message z g.stale;
          log-e = grown le (all_of g.turns) g.own w.message (added e f.turn k) g.log-e there;
          log-f = g.log-f;
          wrote-e = grown we (of_side x g.turns) g.own w.message (added e f.turn k) g.wrote-e there;
          wrote-f = g.wrote-f;
          read-e = g.read-e;
          read-f = g.read-f;
        } where
          grown : (l a own : List (List ℕ)) (m : List ℕ) (b : List (List ℕ)) → l ≡ a ++ own → b ≡ m ∷ [] → l ++ b ≡ a ++ (own ++ (m ∷ []))
          grown l a own m b i j = ap (λ (k : List (List ℕ)). k ++ b) i ∙ ap (λ (k : List (List ℕ)). (a ++ own) ++ k) j ∙ append_assoc a own (m ∷ [])

          then-said : (w : Writes e f.turn le ok marks k) (own : List (List ℕ)) → e.record_of ≡ spoken_by marks (side_of x s) own
              → Underway marks (side_of x s) e.record_of own
              → said w.base w.message ≡ spoken_by marks (side_of x s) (own ++ (w.message ∷ []))
          then-said w [] is u =
              let b = (w.begins (ap (λ (r : Record). r.position) is ∙ u)).0 in
              ap (λ (r : Record). said r w.message) (b ∙ ap (begun marks) is) ∙ (unfold said_all in refl)
          then-said w (h ∷ hs) is u =
              let b = w.goes_on_lem u.0 u.1.0 in
              ap (λ (r : Record). said r w.message) (b ∙ is) ∙ sym (said-snoc (begun marks (side_of x s)) (h ∷ hs) w.message)

          then-talks : (w : Writes e f.turn le ok marks k) (ts : List Turn) (own : List (List ℕ)) → Talks v e.record_of ts own
              → Talks v (moved e k (act e f.turn k)).record_of ts (own ++ (w.message ∷ []))
          then-talks w [] [] h = (ap (λ (r : Record). r.conversation) w.next ∙ w.talk ∙ h, λ rest. w.head.talk rest ∙ h)
          then-talks w [] (m ∷ ms) h = (ap (λ (r : Record). r.conversation) w.next ∙ w.talk ∙ h.0, h.1)
          then-talks w (t ∷ ts) own h = h

          then-begins : (w : Writes e f.turn le ok marks k) (own : List (List ℕ)) → g.own ≡ own → Begins (length (all_of g.turns)) own
              → Begins (length (all_of g.turns)) (own ++ (w.message ∷ []))
          then-begins w [] is b = λ rest. w.head.number rest ∙ sequence-e ∙ (let z : length g.own ≡ 0 = ap length is in omega arith)
          then-begins w (h ∷ hs) is b = b

          then-underway : (w : Writes e f.turn le ok marks k) (own : List (List ℕ)) → e.record_of ≡ spoken_by marks (side_of x s) own
              → Underway marks (side_of x s) e.record_of own
              → Underway marks (side_of x s) (moved e k (act e f.turn k)).record_of (own ++ (w.message ∷ []))
          then-underway w [] is u =
              let b = (w.begins (ap (λ (r : Record). r.position) is ∙ u)).1 in (
                subst (λ (r : Record). 1 ≤ r.position) (sym w.next) w.position,
                (
                  subst (λ (r : Record). writes r ≡ 3 → ⊥) (sym w.next) w.on,
                  λ rest. subst
                      (λ (r : Record). owed marks r (w.message ++ rest) ≡ true) is (b rest),
                ),
              )
          then-underway w (h ∷ hs) is u = (
            subst (λ (r : Record). 1 ≤ r.position) (sym w.next) w.position,
            (subst (λ (r : Record). writes r ≡ 3 → ⊥) (sym w.next) w.on, u.1.1),
          )

          then-stale : (e' : End) (m : List ℕ) → Wrote e e' m → Stale e f → Stale e' f
          then-stale e' m v (fresh-reader t r st p) = fresh-reader t r st p
          then-stale e' m v (had-turn p) = had-turn (past-longer e e' f m v p)

    -- 4. the reader writes

    sequence-f : f.record_of.sequence ≡ length (all_of g.turns)
    sequence-f = ap (λ (r : Record). r.sequence) g.reader ∙ (g.levels (not x)).sequence

    past-turn : (f' : End) → f'.record_of.sequence ≡ f.record_of.sequence + 1 → Past f' e
    past-turn f' n = go g.own refl g.turn g.exact g.begins where
      go : (own : List (List ℕ)) → g.own ≡ own → e.turn ≡ join own → AllExact own → Begins (length (all_of g.turns)) own → Past f' e
      go [] is t x b = none_yet t (let z : length g.own ≡ 0 = ap length is in omega (arith, sequence-e, sequence-f))
      go (m ∷ ms) is t x b =
          let l : length e.turn ≡ length (m ++ join ms) = ap length t in
          let q : (head_of e.turn).sequence ≡ length (all_of g.turns) = ap (λ (y : List ℕ). (head_of y).sequence) t ∙ b (join ms) in
          begun-before (let z = x.0.long in omega (arith, length-append m (join ms))) (omega (arith, sequence-f))

    pub good-parts : Sound f.record_of f.transcript lf → (k : Call) → (k ≡ read → ⊥) → is_accepted (act f e.turn k).answer ≡ true
        → Parted (moved f k (act f e.turn k)) e (wf ++ added f e.turn k) we rf re
    good-parts ok k n a =
        let w = writes-call f e.turn lf ok (marks_in k) k (marked-in _ k) n a in
        let v = wrote_by (marks_in k) f e.turn lf ok k a w in
        go w v g.stale where
          go : (w : Writes f e.turn lf ok (marks_in k) k) → Wrote f (moved f k (act f e.turn k)) w.message → Stale e f
              → Parted (moved f k (act f e.turn k)) e (wf ++ added f e.turn k) we rf re
          go w v (fresh-reader t r st p) = absurd (fresh-barred (marks_in k) f.record_of w.base w.message r st (w.begins p).0 w.on)
          go w v (had-turn p) = record {
            here = past-turn (moved f k (act f e.turn k)) v.counts;
            there = past_more f (moved f k (act f e.turn k)) e w.message v p;
            unread = inl (omega (arith, length-append wf (added f e.turn k), ap length w.adds, ap length g.wrote-f, ap length g.read-e));
          }

    -- 5. the reader reads

    own-owed : (own : List (List ℕ)) → 0 < length own → Underway marks (side_of x s) e.record_of own → owed marks (side_of x s) (join own) ≡ true
    own-owed [] some u = absurd (omega arith)
    own-owed (m ∷ ms) some u = u.1.1 (join ms)

    spoken-some : (own : List (List ℕ)) → 0 < length own → spoken_by marks (side_of x s) own ≡ spoke marks (side_of x s) own
    spoken-some [] some = absurd (omega arith)
    spoken-some (m ∷ ms) some = refl

    own-long : (own : List (List ℕ)) → 0 < length own → AllExact own → 40 ≤ length (join own)
    own-long [] some a = absurd (omega arith)
    own-long (m ∷ ms) some a = let z = a.0.long in omega (arith, length-append m (join ms))

    module _ (next : Record) (h : Heard (side_of (not x) s) (join g.own) next) where
      abbrev r : Record
      r = side_of (not x) s

      abbrev d : List ℕ
      d = s.transcript

      abbrev t : Turn
      t = record { acceptor = x; messages = g.own }

      through : Gone r g.own h.n
      through = gone-through r g.own h.n h.scan g.exact h.is

      out : outcome_of c s t ≡ accepted r d (join g.own) h.n h.scan
      out =
          ap (λ (b : Bool). heard_turn b r d (join g.own)) (own-owed g.own through.some g.underway)
          ∙ heard-again r (join g.own) next h d g.holds.wide

      abbrev s' : Sides
      s' = sides_after c s₀ (g.turns ++ (t ∷ []))

      after : s' ≡ so_played c s t
      after = after-snoc c s₀ g.turns t

      writer-side : side_of x s' ≡ spoke marks (side_of x s) g.own
      writer-side = ap (side_of x) after ∙ side-writer x _ _ _

      reader-side : side_of (not x) s' ≡ taken r (join g.own) h.n h.scan
      reader-side = ap (side_of (not x)) after ∙ side-reader x _ _ _ ∙ ap (λ (o : Outcome). o.answer.next) out

      transcript-is : s'.transcript ≡ put d r.used (join g.own)
      transcript-is = ap (λ (y : Sides). y.transcript) after ∙ side-transcript x _ _ _ ∙ ap (λ (o : Outcome). o.transcript) out

      all_then : all_of (g.turns ++ (t ∷ [])) ≡ all_of g.turns ++ g.own
      all_then = all_snoc g.turns t

      writer-level : Level (side_of x s') (all_of (g.turns ++ (t ∷ [])))
      writer-level =
          let n = spoke-counts marks (side_of x s) g.own in
          subst (λ (l : List (List ℕ)). Level (side_of x s') l) (sym all_then)
          (subst (λ (y : Record). Level y (all_of g.turns ++ g.own)) (sym writer-side)
          (level-on (side_of x s) (all_of g.turns) g.own (spoke marks (side_of x s) g.own) (g.levels x) n.0 n.1))

      reader-level : Level (side_of (not x) s') (all_of (g.turns ++ (t ∷ [])))
      reader-level =
          subst (λ (l : List (List ℕ)). Level (side_of (not x) s') l) (sym all_then)
          (subst (λ (y : Record). Level y (all_of g.turns ++ g.own)) (sym reader-side)
          (level-on r (all_of g.turns) g.own (taken r (join g.own) h.n h.scan) (g.levels (not x)) refl
          (ap (λ (k : ℕ). r.sequence + k) through.count)))

      then-holds : Holds s'.transcript (all_of (g.turns ++ (t ∷ [])))
      then-holds =
          subst (λ (l : List (List ℕ)). Holds s'.transcript l) (sym all_then)
          (subst (λ (y : List ℕ). Holds y (all_of g.turns ++ g.own)) (sym transcript-is)
          (holds_on d r.used (all_of g.turns) g.own g.holds (g.levels (not x)).used h.short))

      pub flipped : (f' : End) → f'.record_of ≡ next → f'.turn ≡ [] → (more : List (List ℕ)) → more ≡ g.own
          → Good (not x) f' e (lf ++ more) le wf we (rf ++ more) re
      flipped f' rec none more is =
          let then : f'.record_of ≡ side_of (not x) s' = rec ∙ h.next ∙ sym reader-side in
          let here : of_side x (g.turns ++ (t ∷ [])) ≡ of_side x g.turns ++ g.own = side-here x g.turns g.own in
          let there : of_side (not x) (g.turns ++ (t ∷ [])) ≡ of_side (not x) g.turns = side-there x g.turns g.own in
          let back : of_side (not (not x)) (g.turns ++ (t ∷ [])) ≡ of_side x g.turns ++ g.own =
          ap (λ (y : Bool). of_side y (g.turns ++ (t ∷ []))) (not-not x) ∙ here in
          record {
            turns = g.turns ++ (t ∷ []);
            own = [];
            heard = heard-snoc c s₀ g.turns t g.heard (ap (λ (o : Outcome). is_accepted o.answer) out);
            alternate = alternate-snoc false x g.turns g.own g.alternate through.some;
            pieces =
                either x (λ y. Pieces (of_side y (g.turns ++ (t ∷ []))))
                (subst Pieces (sym here) (pieces-append (of_side x g.turns) g.own (g.pieces x) through.pieces))
                (subst Pieces (sym there) (g.pieces (not x)));
            levels = either x (λ y. Level (side_of y s') (all_of (g.turns ++ (t ∷ [])))) writer-level reader-level;
            holds = then-holds;
            writer = then;
            reader = g.writer ∙ spoken-some g.own through.some ∙ sym writer-side ∙ ap (λ (y : Bool). side_of y s') (sym (not-not x));
            role-e = ap (λ (y : Record). y.acceptor) (rec ∙ h.next) ∙ sym (ap (λ (y : Record). y.acceptor) g.reader) ∙ g.role-f;
            role-f = g.role-e ∙ sym (not-not x);
            talks = then-talks g.turns g.own through.some f'.record_of g.talks;
            turn = none;
            exact = tt;
            begins = tt;
            underway = ap (λ (y : Record). y.position) reader-side;
            stale =
                had-turn
                (begun-before (omega (arith, ap length g.turn, own-long g.own through.some g.exact)) (first_below f' (rec ∙ h.next)));
            log-e =
                ap (λ (l : List (List ℕ)). l ++ more) g.log-f ∙ ap (λ (l : List (List ℕ)). all_of g.turns ++ l) is ∙ sym all_then
                ∙ sym (append-nil (all_of (g.turns ++ (t ∷ []))));
            log-f = g.log-e ∙ sym all_then;
            wrote-e = g.wrote-f ∙ sym there ∙ sym (append-nil (of_side (not x) (g.turns ++ (t ∷ []))));
            wrote-f = g.wrote-e ∙ sym back;
            read-e = ap (λ (l : List (List ℕ)). l ++ more) g.read-f ∙ ap (λ (l : List (List ℕ)). of_side x g.turns ++ l) is ∙ sym back;
            read-f = g.read-e ∙ sym there;
          } where
            then-talks : (ts : List Turn) (own : List (List ℕ)) → 0 < length own → (y : Record) → Talks v e.record_of ts own
                → Talks v y (ts ++ (record { acceptor = x; messages = own } ∷ [])) []
            then-talks [] [] some y q = absurd (omega arith)
            then-talks [] (m ∷ ms) some y q = q.1 (join ms)
            then-talks (u ∷ ts) own some y q = q

            first_below : (f' : End) → f'.record_of ≡ taken r (join g.own) h.n h.scan → (head_of e.turn).sequence < f'.record_of.sequence
            first_below f' is =
                let q : (head_of (join g.own)).sequence ≡ r.sequence = (first-number r (join g.own) h.n h.scan h.is).1 in
                let n : f'.record_of.sequence ≡ r.sequence + h.n = ap (λ (y : Record). y.sequence) is in
                omega (arith, ap (λ (l : List ℕ). (head_of l).sequence) g.turn, through.count, through.some)

            either : (y : Bool) (P : Bool → Type 0) → P y → P (not y) → (z : Bool) → P z
            either true P a b true = a
            either true P a b false = b
            either false P a b true = b
            either false P a b false = a

    pub good-reads : is_accepted (act f e.turn read).answer ≡ true
        → Good (not x) (moved f read (act f e.turn read)) e (lf ++ added f e.turn read) le wf we (rf ++ added f e.turn read) re
    unfolding act
    good-reads a =
        let raw = heard-by f.record_of f.transcript e.turn a in
        let then : Record = (reading_token f.record_of f.transcript e.turn).answer.next in
        let h : Heard (side_of (not x) s) (join g.own) then =
        subst (λ (l : List ℕ). Heard (side_of (not x) s) l then) g.turn (subst (λ (y : Record). Heard y e.turn then) g.reader raw) in
        let same : messages_in (chain_for f.record_of e.turn) ≡ g.own =
        ap (λ (y : Record). messages_in (chain_for y e.turn)) g.reader ∙ ap (λ (l : List ℕ). messages_in (chain_for (side_of (not x) s) l)) g.turn
        ∙ (through then h).same in
        flipped then h (moved f read (reading_token f.record_of f.transcript e.turn)) refl (rw a)
        (messages_in (chain_for f.record_of e.turn)) same
