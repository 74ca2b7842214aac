-- The turns of two files that hold the turns of a conversation, side by side, are these turns.
-- Assumes nothing.
use Prim.Native.Nat.{ℕ, zero, suc, ◌+◌, ◌<◌, ◌≤◌}
use mathlib.Core.Path.{◌≡◌, refl, sym, ap, subst, ◌∙◌}
use mathlib.Core.Bool.{Bool, true, false, cond, not}
use mathlib.Core.List.{List, [], ◌∷◌, ◌++◌}
use native.Mathlib.Omega.{arith}
use native.Mathlib.Nat.{add-zero}
use lib.ListN.{length, drop, length-append}
use lib.Seq.{drop_at}
use lib.Dec.{ltb}
use borrow.Author.Tests.{eq-eqb, ne_eqb, lt-ltb}
use Rattle.message.specs.Layout.{head_of}
use Rattle.conversation.specs.Logs.{InOrder}
use Rattle.sides.specs.Merging.{Turn, run_from, turns_from, turns_of, together, in_row}

-- the messages of turns in order, and those of one side
abbrev pub all_of : List Turn → List (List ℕ)
all_of [] = []
all_of (t ∷ ts) = t.messages ++ all_of ts

abbrev pub of_side : Bool → List Turn → List (List ℕ)
of_side x [] = []
of_side false (t ∷ ts) = cond t.acceptor (of_side false ts) (t.messages ++ of_side false ts)
of_side true (t ∷ ts) = cond t.acceptor (t.messages ++ of_side true ts) (of_side true ts)

-- turns that alternate, the first of the side x, each with a message
abbrev pub Alternate : Bool → List Turn → Type 0
Alternate x [] = Unit {0}
Alternate x (t ∷ ts) = (t.acceptor ≡ x) × ((0 < length t.messages) × Alternate (not x) ts)

pub order-front : (q : ℕ) (ms ns : List (List ℕ)) → InOrder q (ms ++ ns) → InOrder q ms × InOrder (q + length ms) ns
order-front q [] ns h = (tt, subst (λ (k : ℕ). InOrder k ns) (sym (add-zero q)) h)
order-front q (m ∷ ms) ns h =
    let i = order-front (q + 1) ms ns h.1 in
    let e : q + 1 + length ms ≡ q + length (m ∷ ms) = omega arith in
    ((h.0, i.0), subst (λ (k : ℕ). InOrder k ns) e i.1)

run_none : (q p : ℕ) (m : List ℕ) (ms : List (List ℕ)) → (head_of m).sequence ≡ p → q < p → run_from q (m ∷ ms) ≡ []
unfolding run_from
run_none q p m ms e h = let z : (head_of m).sequence ≡ q → ⊥ = λ y. omega arith in rw (ne_eqb _ _ z)

-- a run ends where the next message of its file has another number
run-all : (q : ℕ) (ms more : List (List ℕ)) → InOrder q ms → run_from (q + length ms) more ≡ [] → run_from q (ms ++ more) ≡ ms
unfolding run_from
run-all q [] more o h = subst (λ (k : ℕ). run_from k more ≡ []) (add-zero q) h
run-all q (m ∷ ms) more o h =
    let e : q + length (m ∷ ms) ≡ q + 1 + length ms = omega arith in
    rw (eq-eqb _ _ o.0, run-all (q + 1) ms more o.1 (subst (λ (k : ℕ). run_from k more ≡ []) e h))

-- the other side's next message has a higher number
others-ahead : (x : Bool) (q : ℕ) (ts : List Turn) → Alternate x ts → InOrder q (all_of ts) → run_from q (of_side (not x) ts) ≡ []
others-ahead x q [] a o = none (not x) where
  none : (y : Bool) → run_from q (of_side y []) ≡ []
  none true = unfold run_from in refl
  none false = unfold run_from in refl
others-ahead x q (t ∷ []) a o = none x a.0 where
  none : (y : Bool) → t.acceptor ≡ y → run_from q (of_side (not y) (t ∷ [])) ≡ []
  none true e = unfold run_from in rw e
  none false e = unfold run_from in rw e
others-ahead x q (t ∷ (u ∷ ts)) a o = go x a.0 a.1.1.0 where
  behind : InOrder (q + length t.messages) (u.messages ++ all_of ts)
  behind = (order-front q t.messages (u.messages ++ all_of ts) o).1

  ahead : (ms more : List (List ℕ)) → 0 < length ms → InOrder (q + length t.messages) ms → run_from q (ms ++ more) ≡ []
  ahead [] more h i = absurd (omega arith)
  ahead (m ∷ ms) more h i = run_none q (q + length t.messages) m (ms ++ more) i.0 (let k = a.1.0 in omega arith)

  next : (more : List (List ℕ)) → run_from q (u.messages ++ more) ≡ []
  next more = ahead u.messages more a.1.1.1.0 (order-front (q + length t.messages) u.messages (all_of ts) behind).0

  go : (y : Bool) → t.acceptor ≡ y → u.acceptor ≡ not y → run_from q (of_side (not y) (t ∷ (u ∷ ts))) ≡ []
  go true e f = rw (e, f) (next (of_side false ts))
  go false e f = rw (e, f) (next (of_side true ts))

some_turn : (ms : List (List ℕ)) → 0 < length ms → ltb 0 (length ms) ≡ true
some_turn ms h = lt-ltb 0 (length ms) h

-- as many as there are, or more, are asked for
turns-again : (n q : ℕ) (x : Bool) (ts : List Turn) → length ts ≤ n → Alternate x ts → InOrder q (all_of ts)
    → turns_from n q (of_side false ts) (of_side true ts) ≡ ts
unfolding turns_from run_from
turns-again zero q x [] h a o = refl
turns-again (suc n) q x [] h a o = refl
turns-again zero q x (t ∷ ts) h a o = absurd (omega arith)
turns-again (suc n) q x (t ∷ ts) h a o = go x a.0 a.1.1 (order-front q t.messages (all_of ts) o) (turns-again n) where
  ms : List (List ℕ)
  ms = t.messages

  some : ltb 0 (length ms) ≡ true
  some = some_turn ms a.1.0

  cut : (more : List (List ℕ)) → drop (length ms) (ms ++ more) ≡ more
  cut more = drop_at ms more (length ms) refl

  go : (y : Bool) → t.acceptor ≡ y → Alternate (not y) ts → InOrder q ms × InOrder (q + length ms) (all_of ts)
      → ((p : ℕ) (z : Bool) (us : List Turn) → length us ≤ n → Alternate z us → InOrder p (all_of us)
      → turns_from n p (of_side false us) (of_side true us) ≡ us)
      → turns_from (suc n) q (of_side false (t ∷ ts)) (of_side true (t ∷ ts)) ≡ t ∷ ts
  go false e b p ih =
      let run : run_from q (ms ++ of_side false ts) ≡ ms = run-all q ms (of_side false ts) p.0 (others-ahead true (q + length ms) ts b p.1) in
      rw (e, run, some, cut (of_side false ts), ih (q + length ms) true ts (omega arith) b p.1)
  go true e b p ih =
      let none : run_from q (of_side false ts) ≡ [] = rw e at (others-ahead true q (t ∷ ts) (e, (a.1.0, b)) o) in
      let run : run_from q (ms ++ of_side true ts) ≡ ms = run-all q ms (of_side true ts) p.0 (others-ahead false (q + length ms) ts b p.1) in
      rw (e, none, run, some, cut (of_side true ts), ih (q + length ms) false ts (omega arith) b p.1)

-- 24 is not given, and the turns are these
few : (x : Bool) (ts : List Turn) → Alternate x ts → length ts ≤ length (of_side false ts) + length (of_side true ts)
few x [] a = omega arith
few x (t ∷ ts) a = go t.acceptor refl (few (not x) ts a.1.1) where
  go : (y : Bool) → t.acceptor ≡ y → length ts ≤ length (of_side false ts) + length (of_side true ts)
      → length (t ∷ ts) ≤ length (of_side false (t ∷ ts)) + length (of_side true (t ∷ ts))
  go true e ih = rw e (let z = length-append t.messages (of_side true ts) in let k = a.1.0 in omega arith)
  go false e ih = rw e (let z = length-append t.messages (of_side false ts) in let k = a.1.0 in omega arith)

pub turns-of-sides : (x : Bool) (ts : List Turn) → Alternate x ts → InOrder 0 (all_of ts) → turns_of (of_side false ts) (of_side true ts) ≡ ts
turns-of-sides x ts a o = turns-again (length (of_side false ts) + length (of_side true ts)) 0 x ts (few x ts a) a o

all-together : (ts : List Turn) → together ts ≡ length (of_side false ts) + length (of_side true ts)
unfolding together
all-together [] = refl
all-together (t ∷ ts) = go t.acceptor refl (all-together ts) where
  go : (y : Bool) → t.acceptor ≡ y → together ts ≡ length (of_side false ts) + length (of_side true ts)
      → length t.messages + together ts ≡ length (of_side false (t ∷ ts)) + length (of_side true (t ∷ ts))
  go true e ih = rw e (let z = length-append t.messages (of_side true ts) in omega arith)
  go false e ih = rw e (let z = length-append t.messages (of_side false ts) in omega arith)

pub sides-in-row : (x : Bool) (ts : List Turn) → Alternate x ts → InOrder 0 (all_of ts) → in_row (of_side false ts) (of_side true ts) ≡ true
sides-in-row x ts a o = eq-eqb _ _ (ap together (turns-of-sides x ts a o) ∙ all-together ts)
