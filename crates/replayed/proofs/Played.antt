-- Turns played one after the other: what the sides have read and written, and one more turn at the end.
-- Assumes nothing.
use Prim.Native.Nat.{ℕ, ◌+◌, ◌<◌, ◌≤◌}
use mathlib.Core.Path.{◌≡◌, refl, sym, ap, ◌∙◌}
use mathlib.Core.Bool.{Bool, true, false, cond, not}
use mathlib.Core.List.{List, [], ◌∷◌, ◌++◌, append_assoc, append-nil}
use native.Mathlib.Omega.{arith}
use lib.ListN.{length, take, length-append}
use Rattle.token.specs.Split.{join}
use Rattle.token.proofs.Joins.{join-append}
use Rattle.put.specs.Put.{put}
use Rattle.put.proofs.Laws.{length-put}
use Rattle.conversation.specs.declared.Record.{Record}
use Rattle.conversation.specs.Runs.{is_accepted}
use Rattle.conversation.proofs.Logs.{put-end}
use Rattle.sides.specs.Merging.{Turn}
use Rattle.sides.specs.Replay.{Case, Sides, side_of, with_sides, finished, outcome_of, so_played, play_from}
use Rattle.sides.proofs.Turns.{all_of, of_side, Alternate}

-- 1. transcripts

-- a record has read and written these messages
pub record Level (r : Record) (ms : List (List ℕ)) : Type 0 where
  pub used : r.used ≡ length (join ms)
  pub sequence : r.sequence ≡ length ms

pub level-on : (r : Record) (ms ns : List (List ℕ)) (s : Record) → Level r ms → s.used ≡ r.used + length (join ns)
    → s.sequence ≡ r.sequence + length ns → Level s (ms ++ ns)
level-on r ms ns s l used sequence =
    let j : length (join (ms ++ ns)) ≡ length (join ms) + length (join ns) = ap length (join-append ms ns) ∙ length-append (join ms) (join ns) in
    record { used = omega (arith, l.used); sequence = omega (arith, l.sequence, length-append ms ns) }

-- and a transcript begins with them
pub record Holds (d : List ℕ) (ms : List (List ℕ)) : Type 0 where
  pub begins : take (length (join ms)) d ≡ join ms
  pub wide : 65535 ≤ length d

pub holds_on : (d : List ℕ) (used : ℕ) (ms ns : List (List ℕ)) → Holds d ms → used ≡ length (join ms) → used + length (join ns) ≤ 65535
    → Holds (put d used (join ns)) (ms ++ ns)
holds_on d used ms ns h u short =
    let j : length (join (ms ++ ns)) ≡ length (join ms) + length (join ns) = ap length (join-append ms ns) ∙ length-append (join ms) (join ns) in
    let w = h.wide in
    record {
      begins =
          ap (λ (k : ℕ). take k (put d used (join ns))) (let z : length (join (ms ++ ns)) ≡ used + length (join ns) = omega arith in z)
          ∙ put-end d used (join ns) (omega arith)
          ∙ ap (λ (k : ℕ). take k d ++ join ns) u
          ∙ ap (λ (k : List ℕ). k ++ join ns) h.begins
          ∙ sym (join-append ms ns);
      wide = (let z = length-put d used (join ns) (omega arith) in omega arith);
    }

-- 2. one more turn

module _ (c : Case) where
  abbrev pub sides_after : Sides → List Turn → Sides
  sides_after s [] = s
  sides_after s (t ∷ ts) = sides_after (so_played c s t) ts

  abbrev pub AllHeard : Sides → List Turn → Type 0
  AllHeard s [] = Unit {0}
  AllHeard s (t ∷ ts) = (is_accepted (outcome_of c s t).answer ≡ true) × AllHeard (so_played c s t) ts

  pub after-snoc : (s : Sides) (ts : List Turn) (t : Turn) → sides_after s (ts ++ (t ∷ [])) ≡ so_played c (sides_after s ts) t
  after-snoc s [] t = refl
  after-snoc s (u ∷ ts) t = after-snoc (so_played c s u) ts t

  pub heard-snoc : (s : Sides) (ts : List Turn) (t : Turn) → AllHeard s ts → is_accepted (outcome_of c (sides_after s ts) t).answer ≡ true
      → AllHeard s (ts ++ (t ∷ []))
  heard-snoc s [] t h a = (a, tt)
  heard-snoc s (u ∷ ts) t h a = (h.0, heard-snoc (so_played c s u) ts t h.1 a)

  pub played-all : (s : Sides) (ts : List Turn) → AllHeard s ts → ((play_from c s ts).ending ≡ finished) × ((play_from c s ts).sides ≡ sides_after s ts)
  unfolding play_from
  played-all s [] h = (refl, refl)
  played-all s (t ∷ ts) h = let i = played-all (so_played c s t) ts h.1 in rw h.0 i

-- 3. whose turn is next

abbrev pub AlternateTo : Bool → List Turn → Bool → Type 0
AlternateTo x [] y = x ≡ y
AlternateTo x (t ∷ ts) y = (t.acceptor ≡ x) × ((0 < length t.messages) × AlternateTo (not x) ts y)

pub alternate-snoc : (x y : Bool) (ts : List Turn) (ms : List (List ℕ)) → AlternateTo x ts y → 0 < length ms
    → AlternateTo x (ts ++ (record { acceptor = y; messages = ms } ∷ [])) (not y)
alternate-snoc x y [] ms h some = (sym h, (some, ap not h))
alternate-snoc x y (t ∷ ts) ms h some = (h.0, (h.1.0, alternate-snoc (not x) y ts ms h.1.1 some))

pub alternates : (x y : Bool) (ts : List Turn) → AlternateTo x ts y → Alternate x ts
alternates x y [] h = tt
alternates x y (t ∷ ts) h = (h.0, (h.1.0, alternates (not x) y ts h.1.1))

pub all_snoc : (ts : List Turn) (t : Turn) → all_of (ts ++ (t ∷ [])) ≡ all_of ts ++ t.messages
all_snoc [] t = append-nil t.messages
all_snoc (u ∷ ts) t = ap (λ (l : List (List ℕ)). u.messages ++ l) (all_snoc ts t) ∙ sym (append_assoc u.messages (all_of ts) t.messages)

abbrev turn : Bool → List (List ℕ) → Turn
turn x ms = record { acceptor = x; messages = ms }

onto : (a b : List (List ℕ)) {c : List (List ℕ)} → c ≡ a ++ b → (l : List (List ℕ)) → l ++ c ≡ l ++ a ++ b
onto a b e l = ap (λ (k : List (List ℕ)). l ++ k) e ∙ sym (append_assoc l a b)

pub side-here : (x : Bool) (ts : List Turn) (ms : List (List ℕ)) → of_side x (ts ++ (turn x ms ∷ [])) ≡ of_side x ts ++ ms
side-here false [] ms = append-nil ms
side-here true [] ms = append-nil ms
side-here false (t ∷ ts) ms = go t.acceptor (side-here false ts ms) where
  go : (b : Bool) → of_side false (ts ++ (turn false ms ∷ [])) ≡ of_side false ts ++ ms
      → cond b (of_side false (ts ++ (turn false ms ∷ []))) (t.messages ++ of_side false (ts ++ (turn false ms ∷ [])))
      ≡ cond b (of_side false ts) (t.messages ++ of_side false ts) ++ ms
  go true e = e
  go false e = onto (of_side false ts) ms e t.messages
side-here true (t ∷ ts) ms = go t.acceptor (side-here true ts ms) where
  go : (b : Bool) → of_side true (ts ++ (turn true ms ∷ [])) ≡ of_side true ts ++ ms
      → cond b (t.messages ++ of_side true (ts ++ (turn true ms ∷ []))) (of_side true (ts ++ (turn true ms ∷ [])))
      ≡ cond b (t.messages ++ of_side true ts) (of_side true ts) ++ ms
  go true e = onto (of_side true ts) ms e t.messages
  go false e = e

pub side-there : (x : Bool) (ts : List Turn) (ms : List (List ℕ)) → of_side (not x) (ts ++ (turn x ms ∷ [])) ≡ of_side (not x) ts
side-there false [] ms = refl
side-there true [] ms = refl
side-there false (t ∷ ts) ms = ap (λ (l : List (List ℕ)). cond t.acceptor (t.messages ++ l) l) (side-there false ts ms)
side-there true (t ∷ ts) ms = ap (λ (l : List (List ℕ)). cond t.acceptor l (t.messages ++ l)) (side-there true ts ms)

pub not-not : (x : Bool) → not (not x) ≡ x
not-not true = refl
not-not false = refl

pub side-writer : (x : Bool) (a b : Record) (d : List ℕ) → side_of x (with_sides x a b d) ≡ a
side-writer true a b d = refl
side-writer false a b d = refl

pub side-reader : (x : Bool) (a b : Record) (d : List ℕ) → side_of (not x) (with_sides x a b d) ≡ b
side-reader true a b d = refl
side-reader false a b d = refl

pub side-transcript : (x : Bool) (a b : Record) (d : List ℕ) → (with_sides x a b d).transcript ≡ d
side-transcript true a b d = refl
side-transcript false a b d = refl
