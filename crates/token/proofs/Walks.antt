-- A walk along an accepted token: the message at the front, and what is left. In the words of the code.
-- Assumes nothing.
use Prim.Native.Nat.{ℕ, zero, suc, ◌+◌, ◌-◌, ◌<◌, ◌≤◌, ◌^◌}
use mathlib.Core.Path.{◌≡◌, refl, sym, ap, subst, ◌∙◌}
use mathlib.Core.Bool.{Bool, true, false}
use mathlib.Core.List.{List, [], ◌∷◌, ◌++◌}
use native.Mathlib.Omega.{arith}
use lib.ListN.{length, take, drop, get_or, length-append, get_or-eq_default}
use lib.Seq.{take_at, drop_at, drop-append-add}
use lib.Dec.{ltb}
use borrow.Author.Tests.{le-leb, le-ltb, ltb-true, ltb-false}
use Rattle.octets.proofs.Slices.{tail_all}
use Rattle.std.proofs.Common.{Result, Ok, Err, MatchResult}
use Rattle.refusal.specs.Refusals.{number_of}
use Rattle.message.specs.Layout.{Head, head_of, size}
use Rattle.message.specs.Show.{first_of}
use Rattle.token.specs.declared.Refused.{Refused as D·Refused}
use Rattle.token.specs.Token.{Placed, Reading, Accepted, Refused, token_of, messages, refusal, outcome_of, told}
use Rattle.token.specs.Split.{Message, Numbered, join, placed_from}
use Rattle.token.specs.Walk.{messages_of, Accepts, has_message, message_at}
use Rattle.token.proofs.Cuts.{behind, behind-length}
use Rattle.token.proofs.Splits.{message-head, message-length, accepted-splits}

-- the messages that are left of a token, numbered on from q
pub record Left (rest : List ℕ) : Type 0 where
  pub q : ℕ
  pub v : List ℕ
  pub ms : List (List ℕ)
  pub joins : join ms ≡ rest
  pub numbered : Numbered q v ms

-- a message is what is found at the front of it and whatever follows
pub first-message : (q : ℕ) (v m r : List ℕ) → Message q v m → first_of (m ++ r) ≡ m
unfolding first_of
first-message q v m r e =
    let h : size (m ++ r) ≡ length m = ap (λ (g : Head). g.length) (message-head q v m r e) ∙ e.exact in
    let long : 40 ≤ length (m ++ r) = omega (arith, length-append m r, message-length q v m e) in
    let fits : length m ≤ length (m ++ r) = omega (arith, length-append m r) in
    simp (le-leb _ _ long, h, le-leb _ _ fits) (take_at m r (length m) refl)

-- nothing is left: no message is
pub none_left : (rest : List ℕ) (w : Left rest) → length rest ≤ 0 → w.ms ≡ []
none_left rest w h = go w.ms w.joins w.numbered where
  go : (ms : List (List ℕ)) → join ms ≡ rest → Numbered w.q w.v ms → ms ≡ []
  go [] j e = refl
  go (m ∷ ms) j e = absurd (omega (arith, ap length j, length-append m (join ms), message-length _ _ m e.0))

-- the message m at the front, and what is left behind it
pub record Turn (rest : List ℕ) (w : Left rest) (m : List ℕ) : Type 0 where
  pub left : Left (behind rest (length m))
  pub some : 64 ≤ length m
  pub fits : length m ≤ length rest
  pub first : Message w.q w.v m
  pub messages : w.ms ≡ m ∷ left.ms

module _ (rest : List ℕ) (w : Left rest) (more : 0 < length rest) (m : List ℕ) (m-is : m ≡ first_of rest) where
  pub turn : Turn rest w m
  turn = go w.ms w.joins w.numbered refl where
    go : (ms : List (List ℕ)) → join ms ≡ rest → Numbered w.q w.v ms → w.ms ≡ ms → Turn rest w m
    go [] j e is = absurd (omega (arith, ap length j))
    go (k ∷ ms) j e is =
        let own : m ≡ k = m-is ∙ ap first_of (sym j) ∙ first-message w.q w.v k (join ms) e.0 in
        let n : length m ≡ length k = ap length own in
        let rest-is : join ms ≡ behind rest (length m) =
        sym (tail_all rest (length m) ∙ ap (drop (length m)) (sym j) ∙ drop_at k (join ms) (length m) (sym n)) in
        record {
          left = record { q = w.q + 1; v = w.v; ms = ms; joins = rest-is; numbered = e.1 };
          some = omega (arith, message-length w.q w.v k e.0);
          fits = omega (arith, ap length j, length-append k (join ms));
          first = subst (Message w.q w.v) (sym own) e.0;
          messages = is ∙ ap (λ (x : List ℕ). x ∷ ms) (sym own);
        }

  pub turn-fits : length m ≤ length rest
  turn-fits = turn.fits

  pub turn-less : length (behind rest (length m)) < length rest
  turn-less = omega (arith, behind-length rest (length m), turn.some, turn.fits)

-- an accepted token is left whole
pub whole : (s : List ℕ) → Accepts s → (w : Left s) × (placed_from 0 w.ms ≡ messages_of (token_of s))
whole s a =
    let (ms, (split, places)) = accepted-splits s (messages_of (token_of s)) a in
    (record { q = (head_of s).sequence; v = (head_of s).conversation; ms = ms; joins = split.joins; numbered = split.numbered }, places)

pub accepted-short : (s : List ℕ) → Accepts s → length s ≤ 65535
accepted-short s a = let (ms, (split, places)) = accepted-splits s (messages_of (token_of s)) a in split.short

-- on the way through a token to x, which is what f says of the messages that are left
pub record Walk {X : Type 0} (x : X) (f : List Placed → X) (rest : List ℕ) (place : ℕ) : Type 0 where
  pub left : Left rest
  pub come : x ≡ f (placed_from place left.ms)

pub walk-begun : {X : Type 0} (f : List Placed → X) (s : List ℕ) → Accepts s → Walk (f (messages_of (token_of s))) f s 0
walk-begun f s a = let (w, places) = whole s a in record { left = w; come = ap f (sym places) }

module _ {X : Type 0} (x : X) (f : List Placed → X) (rest : List ℕ) (place : ℕ) (on : Walk x f rest place) where
  pub walk-ended : length rest ≤ 0 → x ≡ f []
  walk-ended h = on.come ∙ ap (λ (ms : List (List ℕ)). f (placed_from place ms)) (none_left rest on.left h)

  -- past the message m: g says of those behind it what f says of all
  pub walk-passed : 0 < length rest → (m : List ℕ) → m ≡ first_of rest → (g : List Placed → X)
      → ((ps : List Placed) → f (record { place = place; octets = m } ∷ ps) ≡ g ps) → Walk x g (behind rest (length m)) (place + length m)
  walk-passed more m m-is g step =
      let here : Turn rest on.left m = turn rest on.left more m m-is in
      record {
        left = here.left;
        come = on.come ∙ ap (λ (ms : List (List ℕ)). f (placed_from place ms)) here.messages ∙ step (placed_from (place + length m) here.left.ms);
      }

-- nothing, at place 0: what stands beyond a token's list
abbrev beyond : Placed
beyond = record { place = 0; octets = [] }

-- on the way to message k of s: n messages are passed over
pub record OnWay (s : List ℕ) (k : ℕ) (rest : List ℕ) (place n : ℕ) : Type 0 where
  pub walked : Walk (message_at s k) (λ ps. get_or ps (k - n) beyond) rest place
  pub short : length s ≤ 65535
  pub more : k - n < length walked.left.ms
  pub ends : place + length rest ≡ length s

length-placed : (p : ℕ) (ms : List (List ℕ)) → length (placed_from p ms) ≡ length ms
length-placed p [] = refl
length-placed p (m ∷ ms) = ap suc (length-placed (p + length m) ms)

module _ (s : List ℕ) (k : ℕ) (rest : List ℕ) (place n : ℕ) (on : OnWay s k rest place n) where
  some : 0 < length rest
  some = go on.walked.left.ms on.walked.left.joins on.walked.left.numbered on.more where
    go : (ms : List (List ℕ)) → join ms ≡ rest → Numbered on.walked.left.q on.walked.left.v ms → k - n < length ms → 0 < length rest
    go [] j e h = absurd (omega arith)
    go (m ∷ ms) j e h = omega (arith, ap length j, length-append m (join ms), message-length _ _ m e.0)

  pub way_end : k ≤ n → place ≡ (message_at s k).place
  way_end h =
      let z : k - n ≡ 0 = omega arith in
      let here : Turn rest on.walked.left (first_of rest) = turn rest on.walked.left some (first_of rest) refl in
      sym (ap (λ (m : Placed). m.place) (on.walked.come
      ∙ ap (λ (ms : List (List ℕ)). get_or (placed_from place ms) (k - n) beyond) here.messages
      ∙ ap (λ (j : ℕ). get_or (placed_from place (first_of rest ∷ here.left.ms)) j beyond) z))

  module _ (m : List ℕ) (m-is : m ≡ first_of rest) where
    here : Turn rest on.walked.left m
    here = turn rest on.walked.left some m m-is

    pub way-fits : length m ≤ length rest
    way-fits = here.fits

    pub way-small : length m < 2 ^ 32
    way-small = omega (arith, way-fits, on.ends, on.short)

    pub way-place : place + length m < 2 ^ 64
    way-place = omega (arith, way-fits, on.ends, on.short)

    pub way_on : n < k → (next : ℕ) → next ≡ place + length m → OnWay s k (behind rest (length m)) next (n + 1)
    way_on h next next-is =
        let one-more : k - n ≡ suc (k - (n + 1)) = omega arith in
        subst (λ (p : ℕ). OnWay s k (behind rest (length m)) p (n + 1)) (sym next-is)
        (record {
          walked = record {
            left = here.left;
            come = on.walked.come ∙ ap (λ (ms : List (List ℕ)). get_or (placed_from place ms) (k - n) beyond) here.messages
                ∙ ap (λ (j : ℕ). get_or (placed_from place (m ∷ here.left.ms)) j beyond) one-more;
          };
          short = on.short;
          more = omega (arith, on.more, ap length here.messages);
          ends = omega (arith, on.ends, here.fits, behind-length rest (length m));
        })

-- the two answers of the structural reading
module _ (s : List ℕ) where
  reads : (r : Reading) (n : ℕ) → token_of s ≡ r → messages n ≡ outcome_of r → Accepts s × (length (messages_of (token_of s)) ≡ n)
  unfolding outcome_of
  reads (Accepted ms) n e h =
      let k : n ≡ length ms = cc in
      (rw e refl, ap (λ (r : Reading). length (messages_of r)) e ∙ sym k)
  reads (Refused c p) n e h = let z : ◌≡◌ {A = ℕ} 0 1 = cc in absurd (omega arith)

  refuses : (r : Reading) (n p : ℕ) → token_of s ≡ r → refusal n p ≡ outcome_of r → token_of s ≡ Refused n p
  unfolding outcome_of
  refuses (Accepted ms) n p e h = let z : ◌≡◌ {A = ℕ} 0 1 = cc in absurd (omega arith)
  refuses (Refused c q) n p e h = cc

  module _ (r : Result ℕ D·Refused) (r-is : told r ≡ outcome_of (token_of s)) where
    pub answer-refuses : (e : D·Refused) → r ≡ Err e → token_of s ≡ Refused (number_of e.refusal) e.place.0
    answer-refuses e here = refuses (token_of s) (number_of e.refusal) e.place.0 refl (sym (ap told here) ∙ r-is)

    module _ (n : ℕ) (here : r ≡ Ok n) where
      both : Accepts s × (length (messages_of (token_of s)) ≡ n)
      both = reads (token_of s) n refl (sym (ap told here) ∙ r-is)

      pub answer-accepts : Accepts s
      answer-accepts = both.0

      pub answer-number : length (messages_of (token_of s)) ≡ n
      answer-number = both.1

-- message k where it stands
record Stands (r : List ℕ) (place : ℕ) (m : Placed) : Type 0 where
  after : place ≤ m.place
  within : m.place - place ≤ length r
  found : first_of (drop (m.place - place) r) ≡ m.octets

stands : (ms : List (List ℕ)) (place q : ℕ) (v : List ℕ) → Numbered q v ms → (k : ℕ) → k < length ms
    → Stands (join ms) place (get_or (placed_from place ms) k beyond)
stands [] place q v e k h = absurd (omega arith)
stands (m ∷ ms) place q v e zero h =
    let z : place - place ≡ 0 = omega arith in
    record {
      after = omega arith;
      within = omega arith;
      found = ap (λ (n : ℕ). first_of (drop n (m ++ join ms))) z ∙ first-message q v m (join ms) e.0;
    }
stands (m ∷ ms) place q v e (suc k) h =
    let w = stands ms (place + length m) (q + 1) v e.1 k (omega arith) in
    let there = (get_or (placed_from (place + length m) ms) k beyond).place in
    let n : length m + (there - (place + length m)) ≡ there - place = omega (arith, w.after) in
    record {
      after = omega (arith, w.after);
      within = omega (arith, w.within, length-append m (join ms));
      found =
          ap (λ (j : ℕ). first_of (drop j (m ++ join ms))) (sym n)
          ∙ ap first_of (drop-append-add m (join ms) (there - (place + length m)))
          ∙ w.found;
    }

-- the answer of `has_message`: P is what its closure says of the number of messages
pub has-is : (s : List ℕ) (k : ℕ) (r : Result ℕ D·Refused) → told r ≡ outcome_of (token_of s) → {P : ℕ → Type 0} (b : Bool)
    → ((n : ℕ) → P n → b ≡ ltb k n) → MatchResult r P (λ _. b ≡ false) → b ≡ has_message s k
has-is s k (Ok n) r-is b step h = step n h ∙ ap (ltb k) (sym (answer-number s (Ok n) r-is n refl))
has-is s k (Err e) r-is b step h =
    h ∙ sym (ap (λ (x : Reading). ltb k (length (messages_of x))) (answer-refuses s (Err e) r-is e refl) ∙ le-ltb k 0 (omega arith))

-- a token that has a message is accepted
accepts : (s : List ℕ) (k : ℕ) → has_message s k ≡ true → Accepts s
accepts s k h = go (token_of s) h where
  go : (r : Reading) → ltb k (length (messages_of r)) ≡ true → r ≡ Accepted (messages_of r)
  go (Accepted ms) e = refl
  go (Refused n p) e = let z : k < 0 = ltb-true _ _ e in absurd (omega arith)

-- the answers of `place_at` and `message_at`, and what their way asks for
module _ (s : List ℕ) (k : ℕ) (b : Bool) (b-is : b ≡ has_message s k) where
  module _ (t : b ≡ false) where
    none : message_at s k ≡ beyond
    none = get_or-eq_default (messages_of (token_of s)) beyond {n = k} (ltb-false _ _ (sym b-is ∙ t))

    pub place_none : 0 ≡ (message_at s k).place
    place_none = sym (ap (λ (m : Placed). m.place) none)

    pub message-none : [] ≡ (message_at s k).octets
    message-none = sym (ap (λ (m : Placed). m.octets) none)

  pub walk-has : b ≡ true → has_message s k ≡ true
  walk-has t = sym b-is ∙ t

  module _ (t : b ≡ true) (at : ℕ) (at-is : at ≡ (message_at s k).place) where
    there : Stands s 0 (message_at s k)
    there =
        let (w, places) = whole s (accepts s k (sym b-is ∙ t)) in
        let few : k < length (messages_of (token_of s)) = ltb-true _ _ (sym b-is ∙ t) in
        subst (λ (ps : List Placed). Stands s 0 (get_or ps k beyond)) places
        (subst (λ (l : List ℕ). Stands l 0 (get_or (placed_from 0 w.ms) k beyond)) w.joins
        (stands w.ms 0 w.q w.v w.numbered k (omega (arith, ap length places, length-placed 0 w.ms))))

    pub message-within : at ≤ length s
    message-within = omega (arith, there.within, at-is)

    pub message-there : (m : List ℕ) → m ≡ first_of (take (length s - at) (drop at s)) → m ≡ (message_at s k).octets
    message-there m m-is =
        let z : at ≡ (message_at s k).place - 0 = omega (arith, at-is) in
        m-is ∙ ap first_of (tail_all s at) ∙ ap (λ (j : ℕ). first_of (drop j s)) z ∙ there.found

pub way-start : (s : List ℕ) (k : ℕ) → has_message s k ≡ true → OnWay s k s 0 0
way-start s k h =
    let (w, places) = whole s (accepts s k h) in
    let few : k < length (messages_of (token_of s)) = ltb-true _ _ h in
    let all : k ≡ k - 0 = omega arith in
    record {
      walked = record {
        left = w;
        come = ap (λ (ps : List Placed). get_or ps k beyond) (sym places) ∙ ap (λ (j : ℕ). get_or (placed_from 0 w.ms) j beyond) all;
      };
      short = accepted-short s (accepts s k h);
      more = omega (arith, ap length places, length-placed 0 w.ms);
      ends = omega arith;
    }

pub ruleset walks = (walk-has, place_none, message-none, message-within, message-there)

pub ruleset ways = (way-start, way_end, way-fits, way-small, way-place, way_on)
