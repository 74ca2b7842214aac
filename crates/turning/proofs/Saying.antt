-- The writer's record after its messages, in the words of the code.
-- Assumes nothing.
use Prim.Native.Nat.{ℕ, ◌+◌, ◌*◌, ◌-◌, ◌≤◌}
use mathlib.Core.Path.{◌≡◌, refl, sym, ap, ◌∙◌}
use mathlib.Core.Bool.{Bool, true, false, cond, ◌&&◌, ◌||◌}
use mathlib.Core.List.{List, [], ◌∷◌}
use native.Mathlib.Omega.{arith}
use lib.ListN.{length, take, drop}
use lib.Seq.{length-take-le}
use lib.Dec.{eqb, ltb}
use Rattle.octets.specs.Octets.{le}
use Rattle.octets.proofs.Slices.{tail_all}
use Rattle.message.specs.declared.Header.{Header}
use Rattle.std.proofs.Common.{Result, Ok, Err}
use Rattle.refusal.specs.declared.Refusal.{Refusal}
use Rattle.message.specs.Layout.{head_of, size, front}
use Rattle.message.specs.Show.{id_at}
use Rattle.message.specs.Check.{common_rows, said as answered, header_verdict}
use Rattle.schemes.specs.Lists.{place}
use Rattle.schemes.specs.Answers.{with_bit}
use Rattle.conversation.specs.declared.Record.{Record}
use Rattle.conversation.specs.State.{own_of}
use Rattle.conversation.specs.Turns.{ANSWER, class_of, writing, writes, place_after}
use Rattle.conversation.specs.Outcomes.{unchanged, wrote}
use Rattle.conversation.specs.Admitting.{scheme_in}
use Rattle.conversation.specs.Choosing.{chose, may_choose}
use Rattle.sides.specs.Merging.{messages_of}
use Rattle.sides.specs.Turning.{with_marks, begun, said_as, said, said_all, spoke}
use Rattle.merging.proofs.Cuts.{header-fits, header-size, header-long, header-left, header_refused}
use Rattle.merging.proofs.Runs.{messages-on, messages-none}
use Rattle.turning.proofs.Owing.{scheme-there}

-- 1. one message

abbrev said_by : Record → ℕ → ℕ → Bool → Record
said_by r told requested attested = record {
  acceptor = r.acceptor;
  stage = r.stage;
  position = r.position;
  list = r.list;
  count = r.count;
  conversation = r.conversation;
  marks = r.marks;
  common = r.common;
  kept = r.kept;
  metadata = told;
  requested = requested;
  chosen = r.chosen;
  attested = attested;
  confirmed = r.confirmed;
  sequence = r.sequence;
  used = r.used;
}

module _ (w : Record) (m : List ℕ) (type : ℕ) (type-is : type ≡ le 4 m 8) (kind : ℕ) (kind-is : kind ≡ class_of w.acceptor type) (token : ℕ)
    (token-is : token ≡ writing w.acceptor w.stage) (long : 64 ≤ length m) (id : List ℕ) (id-is : id ≡ id_at m 40) where
  pub say-is : (told : ℕ) → told ≡ cond (eqb kind 2 && ltb (place (own_of w) id) w.count) (with_bit w.metadata (place (own_of w) id)) w.metadata
      → (requested : ℕ) → requested ≡ cond (eqb kind 3 && eqb token 0) 0 w.requested → (attested : Bool) → attested ≡ (eqb kind 4 || w.attested)
      → (next : Record) → next ≡ wrote w (place_after w kind) (length m) (unchanged w) → said_by next told requested attested ≡ said w m
  unfolding said head_of
  say-is told told_is requested requested-is attested attested-is next next-is =
      let told_there = told_is
      ∙ ap (λ (x : List ℕ). cond (eqb kind 2 && ltb (place (own_of w) x) w.count) (with_bit w.metadata (place (own_of w) x)) w.metadata)
      (id-is ∙ scheme-there m (omega arith)) in
      let a : requested ≡ cond (eqb kind 3 && eqb (writes w) 0) 0 w.requested =
      requested-is ∙ ap (λ (k : ℕ). cond (eqb kind 3 && eqb k 0) 0 w.requested) token-is in
      ap (λ (r : Record). said_by r told requested attested) next-is
      ∙ ap (λ (k : ℕ). said_by (wrote w (place_after w kind) (length m) (unchanged w)) k requested attested) told_there
      ∙ ap (λ (k : ℕ). said_by (wrote w (place_after w kind) (length m) (unchanged w)) (said_as w kind (scheme_in m)).metadata k attested) a
      ∙ ap (λ (b : Bool). said_by (wrote w (place_after w kind) (length m) (unchanged w)) (said_as w kind (scheme_in m)).metadata
      (said_as w kind (scheme_in m)).requested b) attested-is
      ∙ ap (λ (k : ℕ). wrote w (place_after w k) (length m) (said_as w k (scheme_in m))) (kind-is ∙ ap (class_of w.acceptor) type-is)

-- 2. a turn

begun-keeps : (m : ℕ) (w : Record) → ((begun m w).count ≡ w.count) × (((begun m w).sequence ≡ w.sequence) × ((begun m w).used ≡ w.used))
unfolding begun
begun-keeps m w = go (may_choose w) (eqb (writes w) ANSWER) where
  go : (a b : Bool) → ((cond a (chose w m) (cond b (with_marks m w) w)).count ≡ w.count)
      × (((cond a (chose w m) (cond b (with_marks m w) w)).sequence ≡ w.sequence) × ((cond a (chose w m) (cond b (with_marks m w) w)).used ≡ w.used))
  go true b = (refl, (refl, refl))
  go false true = (refl, (refl, refl))
  go false false = (refl, (refl, refl))

pub record SpeakOn (t : List ℕ) (s₀ s : Record) (rest : List ℕ) : Type 0 where
  pub few : s.count ≤ 16
  pub numbers : 64 * s.sequence ≤ s.used
  pub room : s.used + length rest ≤ 65535
  pub come : said_all s₀ (messages_of t) ≡ said_all s (messages_of rest)

pub speak-begins : (w : Record) (m : ℕ) (t : List ℕ) → (w.count ≤ 16) × (64 * w.sequence ≤ w.used) × (w.used + length t ≤ 65535) → (s : Record)
    → s ≡ begun m w → SpeakOn t s s t
speak-begins w m t h s s-is =
    let k = begun-keeps m w in
    let a : s.count ≡ w.count = ap (λ (r : Record). r.count) s-is ∙ k.0 in
    let b : s.sequence ≡ w.sequence = ap (λ (r : Record). r.sequence) s-is ∙ k.1.0 in
    let c : s.used ≡ w.used = ap (λ (r : Record). r.used) s-is ∙ k.1.1 in
    record { few = omega (arith, h); numbers = omega (arith, h); room = omega (arith, h); come = refl }

one-said : (s : Record) (m : List ℕ) (ms : List (List ℕ)) → said_all s (m ∷ ms) ≡ said_all (said s m) ms
unfolding said_all
one-said s m ms = refl

-- what the last record is
spoken : (w : Record) (m : ℕ) (t : List ℕ) (s₀ : Record) → s₀ ≡ begun m w → (s : Record) → said_all s₀ (messages_of t) ≡ s
    → s ≡ spoke m w (messages_of t)
spoken w m t s₀ is s e = sym e ∙ ap (λ (r : Record). said_all r (messages_of t)) is

module _ (t : List ℕ) (s₀ s : Record) (rest : List ℕ) (on : SpeakOn t s₀ s rest) where
  module _ (w : Record) (marks : ℕ) (s₀-is : s₀ ≡ begun marks w) where
    none_left : messages_of rest ≡ [] → s ≡ spoke marks w (messages_of t)
    none_left e = spoken w marks t s₀ s₀-is s (on.come ∙ ap (said_all s) e ∙ (unfold said_all in refl))

    pub speak-ends : length rest ≤ 0 → s ≡ spoke marks w (messages_of t)
    unfolding common_rows
    speak-ends h = none_left (go rest h) where
      go : (l : List ℕ) → length l ≤ 0 → messages_of l ≡ []
      go [] z = messages-none [] refl
      go (x ∷ l) z = absurd (omega arith)

    pub speak-stops : (m : Result Header Refusal) → answered m ≡ header_verdict rest → (f : Refusal) → m ≡ Err f → s ≡ spoke marks w (messages_of t)
    speak-stops m m-is f e = none_left (messages-none rest (header_refused rest m m-is f e).0)

  module _ (m : Result Header Refusal) (m-is : answered m ≡ header_verdict rest) (h : Header) (m-reads : m ≡ Ok h) where
    long : (64 ≤ h.length) × (h.length ≤ length rest)
    long = header-long rest m m-is h m-reads

    pub speak-part : h.length ≡ length (take h.length rest)
    speak-part = sym (length-take-le h.length rest long.1)

    pub speak-few : s.count ≤ 16
    speak-few = on.few

    pub speak-number : s.sequence ≤ 1023
    speak-number = omega (arith, on.numbers, on.room, long)

    pub speak-room : s.used + length (take h.length rest) ≤ 65535
    speak-room = omega (arith, on.room, long, speak-part)

    pub speak-long : 64 ≤ length (take h.length rest)
    speak-long = omega (arith, long, speak-part)

    pub speak-on : (s' : Record) → s' ≡ said s (take h.length rest) → SpeakOn t s₀ s' (take (length rest - h.length) (drop h.length rest))
    unfolding said
    speak-on s' s'-is =
        let left = header-left rest m m-is h m-reads in
        let size_is = header-size rest m m-is h m-reads in
        let c : s'.count ≡ s.count = ap (λ (r : Record). r.count) s'-is in
        let q : s'.sequence ≡ s.sequence + 1 = ap (λ (r : Record). r.sequence) s'-is in
        let u : s'.used ≡ s.used + length (take h.length rest) = ap (λ (r : Record). r.used) s'-is in
        record {
          few = omega (arith, on.few);
          numbers = omega (arith, on.numbers, long, speak-part);
          room = omega (arith, on.room, long, speak-part);
          come =
              on.come
              ∙ ap (said_all s) (messages-on rest (header-fits rest m m-is h m-reads))
              ∙ one-said s (front rest) (messages_of (drop (size rest) rest))
              ∙ ap (λ (k : ℕ). said_all (said s (take k rest)) (messages_of (drop k rest))) size_is
              ∙ ap (λ (r : Record). said_all r (messages_of (drop h.length rest))) (sym s'-is)
              ∙ ap (λ (l : List ℕ). said_all s' (messages_of l)) (sym (tail_all rest h.length));
        }

pub ruleset sayings = (speak-begins, speak-ends, speak-stops, speak-part, speak-few, speak-number, speak-room, speak-long, speak-on)
