-- From a message that is taken on, the pieces are those of the tail read alone.
-- Assumes nothing.
use Prim.Native.Nat.{ℕ, zero, suc, ◌+◌, ◌-◌, ◌<◌, ◌≤◌}
use mathlib.Core.Path.{◌≡◌, refl, sym, ap, ◌∙◌}
use mathlib.Core.Bool.{Bool, true, false, cond}
use mathlib.Core.Logic.{◌⊎◌, inl, inr}
use mathlib.Core.List.{List, [], ◌∷◌, ◌++◌, append_assoc, head-eq_of_cons-eq, tail-eq_of_cons-eq}
use native.Mathlib.Nat.{zero-add}
use native.Mathlib.Omega.{arith}
use lib.ListN.{length, length-append}
use lib.Dec.{ltb}
use borrow.Author.Tests.{le-leb, lt-ltb, le-ltb, ltb-true, ltb-false}
use Rattle.octets.proofs.Bools.{which}
use Rattle.message.specs.Layout.{size, front}
use Rattle.token.specs.Token.{Placed}
use Rattle.token.specs.Joined.{moved}
use Rattle.token.proofs.Cuts.{placed}
use Rattle.put.specs.Put.{joined}
use Rattle.lines.specs.Lines.{end_line}
use Rattle.windows.specs.Windows.{texts}
use Rattle.windows.proofs.Stepping.{texts-append}
use Rattle.recovery.specs.Recovery.{readable, taken_from, taken_of, Piece, taken, skipped, skip_to, pieces_from, pieces_of, piece_lines, all_piece_lines, recovery_lines, recovered_lines}
use Rattle.recovery.specs.Pieces.{moved_pieces, TailAlone, TailLines, DamageBefore}
use Rattle.recovery.proofs.Turns.{take-first, skip_first}
use Rattle.recovery.proofs.Firsts.{skip-none}

-- no list ends before a message that is among it
none : {A : Type 0} (ms : List A) (m : A) (ns : List A) → ◌≡◌ {A = List A} [] (ms ++ (m ∷ ns)) → ⊥
none [] m ns e = let z : ◌≡◌ {A = ℕ} 0 1 = cc in omega arith
none (k ∷ ms) m ns e = let z : ◌≡◌ {A = ℕ} 0 1 = cc in omega arith

-- the messages taken of octets stand where these begin, or behind
later : (xs : List ℕ) (k p : ℕ) (ms : List Placed) (m : Placed) (ns : List Placed) → taken_from xs k p ≡ ms ++ (m ∷ ns) → p ≤ m.place
unfolding taken_from
later [] k p ms m ns e = absurd (none ms m ns e)
later (x ∷ xs) (suc k) p ms m ns e = let h = later xs k (p + 1) ms m ns e in omega arith
later (x ∷ xs) zero p ms m ns e =
    step (which (readable (x ∷ xs))) ms e (λ l. later xs (size (x ∷ xs) - 1) (p + 1) l m ns) (λ l. later xs 0 (p + 1) l m ns) where
      step : (readable (x ∷ xs) ≡ true) ⊎ (readable (x ∷ xs) ≡ false) → (ms : List Placed) → taken_from (x ∷ xs) 0 p ≡ ms ++ (m ∷ ns)
          → ((l : List Placed) → taken_from xs (size (x ∷ xs) - 1) (p + 1) ≡ l ++ (m ∷ ns) → p + 1 ≤ m.place)
          → ((l : List Placed) → taken_from xs 0 (p + 1) ≡ l ++ (m ∷ ns) → p + 1 ≤ m.place)
          → p ≤ m.place
      step (inl r) [] e take skip =
          let h : placed p (front (x ∷ xs)) ≡ m = head-eq_of_cons-eq (sym (take-first x xs p r) ∙ e) in omega (arith, ap (λ (y : Placed). y.place) h)
      step (inl r) (k ∷ ms) e take skip = let h = take ms (tail-eq_of_cons-eq (sym (take-first x xs p r) ∙ e)) in omega arith
      step (inr r) ms e take skip = let h = skip ms (sym (skip_first x xs p r) ∙ e) in omega arith

-- a message taken at the place where the octets begin is the first
at_front : (t : List ℕ) (k p : ℕ) (ms : List Placed) (m : Placed) (ns : List Placed) → taken_from t k p ≡ ms ++ (m ∷ ns) → m.place ≡ p
    → m ∷ ns ≡ taken_from t 0 p
unfolding taken_from
at_front [] k p ms m ns e at = absurd (none ms m ns e)
at_front (x ∷ xs) (suc k) p ms m ns e at = absurd (omega (arith, later xs k (p + 1) ms m ns e))
at_front (x ∷ xs) zero p ms m ns e at = step (which (readable (x ∷ xs))) ms e where
  step : (readable (x ∷ xs) ≡ true) ⊎ (readable (x ∷ xs) ≡ false) → (ms : List Placed) → taken_from (x ∷ xs) 0 p ≡ ms ++ (m ∷ ns)
      → m ∷ ns ≡ taken_from (x ∷ xs) 0 p
  step (inl r) [] e = sym e
  step (inl r) (k ∷ ms) e = absurd (omega (arith, later xs (size (x ∷ xs) - 1) (p + 1) ms m ns (tail-eq_of_cons-eq (sym (take-first x xs p r) ∙ e))))
  step (inr r) ms e = absurd (omega (arith, later xs 0 (p + 1) ms m ns (sym (skip_first x xs p r) ∙ e)))

taken-tail : (x t : List ℕ) (k p : ℕ) (ms : List Placed) (m : Placed) (ns : List Placed) → taken_from (x ++ t) k p ≡ ms ++ (m ∷ ns)
    → m.place ≡ p + length x → m ∷ ns ≡ taken_from t 0 (p + length x)
unfolding taken_from
taken-tail [] t k p ms m ns e at =
    let z : p + 0 ≡ p = omega arith in
    at_front t k p ms m ns e (at ∙ z) ∙ ap (taken_from t 0) (sym z)
taken-tail (y ∷ x) t (suc k) p ms m ns e at =
    let n : p + 1 + length x ≡ p + suc (length x) = omega arith in
    taken-tail x t k (p + 1) ms m ns e (at ∙ sym n) ∙ ap (taken_from t 0) n
taken-tail (y ∷ x) t zero p ms m ns e at =
    let n : p + 1 + length x ≡ p + suc (length x) = omega arith in
    step (which (readable (y ∷ (x ++ t)))) ms e
    (λ l h. taken-tail x t (size (y ∷ (x ++ t)) - 1) (p + 1) l m ns h (at ∙ sym n))
    (λ l h. taken-tail x t 0 (p + 1) l m ns h (at ∙ sym n))
    ∙ ap (taken_from t 0) n where
      step : (readable (y ∷ (x ++ t)) ≡ true) ⊎ (readable (y ∷ (x ++ t)) ≡ false) → (ms : List Placed) → taken_from (y ∷ (x ++ t)) 0 p ≡ ms ++ (m ∷ ns)
          → ((l : List Placed) → taken_from (x ++ t) (size (y ∷ (x ++ t)) - 1) (p + 1) ≡ l ++ (m ∷ ns) → m ∷ ns ≡ taken_from t 0 (p + 1 + length x))
          → ((l : List Placed) → taken_from (x ++ t) 0 (p + 1) ≡ l ++ (m ∷ ns) → m ∷ ns ≡ taken_from t 0 (p + 1 + length x))
          → m ∷ ns ≡ taken_from t 0 (p + 1 + length x)
      step (inl r) [] e take skip =
          let h : placed p (front (y ∷ (x ++ t))) ≡ m =
          head-eq_of_cons-eq (sym (take-first y (x ++ t) p r) ∙ e) in absurd (omega (arith, ap (λ (z : Placed). z.place) h))
      step (inl r) (k ∷ ms) e take skip = take ms (tail-eq_of_cons-eq (sym (take-first y (x ++ t) p r) ∙ e))
      step (inr r) ms e take skip = skip ms (sym (skip_first y (x ++ t) p r) ∙ e)

-- places moved
taken-moved : (n : ℕ) (xs : List ℕ) (k p : ℕ) → taken_from xs k (n + p) ≡ moved n (taken_from xs k p)
unfolding taken_from
taken-moved n [] k p = refl
taken-moved n (x ∷ xs) (suc k) p = ap (taken_from xs k) (sym (next n p)) ∙ taken-moved n xs k (p + 1) where
  next : (n p : ℕ) → n + (p + 1) ≡ n + p + 1
  next n p = omega arith
taken-moved n (x ∷ xs) zero p =
    let e : n + p + 1 ≡ n + (p + 1) = omega arith in
    go (readable (x ∷ xs)) (ap (taken_from xs (size (x ∷ xs) - 1)) e ∙ taken-moved n xs (size (x ∷ xs) - 1) (p + 1))
    (ap (taken_from xs 0) e ∙ taken-moved n xs 0 (p + 1)) where
      go : (b : Bool) → taken_from xs (size (x ∷ xs) - 1) (n + p + 1) ≡ moved n (taken_from xs (size (x ∷ xs) - 1) (p + 1))
          → taken_from xs 0 (n + p + 1) ≡ moved n (taken_from xs 0 (p + 1))
          → cond b (placed (n + p) (front (x ∷ xs)) ∷ taken_from xs (size (x ∷ xs) - 1) (n + p + 1)) (taken_from xs 0 (n + p + 1))
          ≡ moved n (cond b (placed p (front (x ∷ xs)) ∷ taken_from xs (size (x ∷ xs) - 1) (p + 1)) (taken_from xs 0 (p + 1)))
      go true a b = ap (λ (l : List Placed). placed (n + p) (front (x ∷ xs)) ∷ l) a
      go false a b = b

skip-moved : (n a b : ℕ) (ps : List Piece) → skip_to (n + a) (n + b) (moved_pieces n ps) ≡ moved_pieces n (skip_to a b ps)
unfolding skip_to
skip-moved n a b ps = go (which (ltb a b)) where
  go : (ltb a b ≡ true) ⊎ (ltb a b ≡ false) → cond (ltb (n + a) (n + b)) (skipped (n + a) (n + b - (n + a)) ∷ moved_pieces n ps) (moved_pieces n ps)
      ≡ moved_pieces n (cond (ltb a b) (skipped a (b - a) ∷ ps) ps)
  go (inl e) =
      let h : a < b = ltb-true _ _ e in
      let w : n + a < n + b = omega arith in
      let d : n + b - (n + a) ≡ b - a = omega arith in
      rw (lt-ltb _ _ w, e, d)
  go (inr e) =
      let h : b ≤ a = ltb-false _ _ e in
      let w : n + b ≤ n + a = omega arith in
      rw (le-ltb _ _ w, e)

pieces-moved : (n a : ℕ) (ms : List Placed) (end : ℕ) → pieces_from (n + a) (moved n ms) (n + end) ≡ moved_pieces n (pieces_from a ms end)
unfolding pieces_from
pieces-moved n a [] end = skip-moved n a end []
pieces-moved n a (m ∷ ms) end =
    let e : n + m.place + length m.octets ≡ n + (m.place + length m.octets) = omega arith in
    ap (λ (l : List Piece). skip_to (n + a) (n + m.place) (taken (placed (n + m.place) m.octets) ∷ l))
    (ap (λ (k : ℕ). pieces_from k (moved n ms) (n + end)) e ∙ pieces-moved n (m.place + length m.octets) ms end)
    ∙ skip-moved n a m.place (taken m ∷ pieces_from (m.place + length m.octets) ms end)

-- a message among the pieces is among the messages taken
record Among (ms : List Placed) (end : ℕ) (m : Placed) (qs : List Piece) : Type 0 where
  before : List Placed
  behind : List Placed
  is : ms ≡ before ++ (m ∷ behind)
  rest : qs ≡ pieces_from (m.place + length m.octets) behind end

same_taken : (m k : Placed) → taken m ≡ taken k → m ≡ k
same_taken m k e = cc

no-skip : {A : Type 0} (a n : ℕ) (m : Placed) → skipped a n ≡ taken m → A
no-skip a n m e = let z : ◌≡◌ {A = ℕ} 0 1 = cc in absurd (omega arith)

-- behind a stretch, skipped or empty
past : (a b : ℕ) (ls ps : List Piece) (m : Placed) (qs : List Piece) → skip_to a b ls ≡ ps ++ (taken m ∷ qs)
    → (rs : List Piece) × (ls ≡ rs ++ (taken m ∷ qs))
unfolding skip_to
past a b ls ps m qs e = go (ltb a b) ps e where
  go : (c : Bool) (ps : List Piece) → cond c (skipped a (b - a) ∷ ls) ls ≡ ps ++ (taken m ∷ qs) → (rs : List Piece) × (ls ≡ rs ++ (taken m ∷ qs))
  go false ps e = (ps, e)
  go true [] e = no-skip a (b - a) m (head-eq_of_cons-eq e)
  go true (p ∷ ps) e = (ps, tail-eq_of_cons-eq e)

among : (a : ℕ) (ms : List Placed) (end : ℕ) (ps : List Piece) (m : Placed) (qs : List Piece) → pieces_from a ms end ≡ ps ++ (taken m ∷ qs)
    → Among ms end m qs
unfolding pieces_from
among a [] end ps m qs e = let (rs, h) = past a end [] ps m qs e in absurd (none rs (taken m) qs h)
among a (k ∷ ms) end ps m qs e =
    let (rs, h) = past a k.place (taken k ∷ pieces_from (k.place + length k.octets) ms end) ps m qs e in
    go rs h (λ l g. among (k.place + length k.octets) ms end l m qs g) where
      go : (rs : List Piece) → taken k ∷ pieces_from (k.place + length k.octets) ms end ≡ rs ++ (taken m ∷ qs)
          → ((l : List Piece) → pieces_from (k.place + length k.octets) ms end ≡ l ++ (taken m ∷ qs) → Among ms end m qs) → Among (k ∷ ms) end m qs
      go [] h ih =
          let same : k ≡ m = same_taken k m (head-eq_of_cons-eq h) in
          record {
            before = [];
            behind = ms;
            is = ap (λ (y : Placed). y ∷ ms) same;
            rest = sym (tail-eq_of_cons-eq h) ∙ ap (λ (y : Placed). pieces_from (y.place + length y.octets) ms end) same;
          }
      go (r ∷ rs) h ih =
          let w = ih rs (tail-eq_of_cons-eq h) in
          record { before = k ∷ w.before; behind = w.behind; is = ap (λ (l : List Placed). k ∷ l) w.is; rest = w.rest }

pub tail-alone : TailAlone
unfolding pieces_from
tail-alone x t ps m qs e at =
    let w = among 0 (taken_of (x ++ t)) (length (x ++ t)) ps m qs e in
    let z : length x ≡ 0 + length x = omega arith in
    let n : 0 + length x ≡ length x + 0 = omega arith in
    let z0 : length x ≡ length x + 0 = omega arith in
    let messages : m ∷ w.behind ≡ moved (length x) (taken_of t) =
    taken-tail x t 0 0 w.before m w.behind w.is (at ∙ z) ∙ ap (taken_from t 0) n ∙ taken-moved (length x) t 0 0 in
    ap (λ (l : List Piece). taken m ∷ l) w.rest
    ∙ sym (skip-none (length x) m.place (taken m ∷ pieces_from (m.place + length m.octets) w.behind (length (x ++ t))) (omega arith))
    ∙ ap (λ (ms : List Placed). pieces_from (length x) ms (length (x ++ t))) messages
    ∙ ap (λ (k : ℕ). pieces_from k (moved (length x) (taken_of t)) (length (x ++ t))) z0
    ∙ ap (pieces_from (length x + 0) (moved (length x) (taken_of t))) (length-append x t)
    ∙ pieces-moved (length x) 0 (taken_of t) (length t)

-- the lines of pieces, one behind the other
pub piece-lines-append : (ps qs : List Piece) → all_piece_lines (ps ++ qs) ≡ all_piece_lines ps ++ all_piece_lines qs
unfolding all_piece_lines
piece-lines-append [] qs = refl
piece-lines-append (p ∷ ps) qs =
    ap (λ (l : List (List (List ℕ))). piece_lines p ++ l) (piece-lines-append ps qs)
    ∙ sym (append_assoc (piece_lines p) (all_piece_lines ps) (all_piece_lines qs))

-- the lines of a file that is not too long
pub lines-short : (s : List ℕ) → length s ≤ 65535
    → recovered_lines s ≡ texts (all_piece_lines (pieces_of s)) ++ (joined (end_line (length (taken_of s)) (length s)) ∷ [])
unfolding recovered_lines recovery_lines texts
lines-short s h = rw (le-leb _ _ h) (texts-append (all_piece_lines (pieces_of s)) (end_line (length (taken_of s)) (length s) ∷ []))

moved_none : (ps : List Piece) → moved_pieces 0 ps ≡ ps
moved_none [] = refl
moved_none (taken m ∷ ps) =
    ap (λ (n : ℕ). taken (placed n m.octets) ∷ moved_pieces 0 ps) (zero-add m.place) ∙ ap (λ (l : List Piece). taken m ∷ l) (moved_none ps)
moved_none (skipped p n ∷ ps) = ap (λ (k : ℕ). skipped k n ∷ moved_pieces 0 ps) (zero-add p) ∙ ap (λ (l : List Piece). skipped p n ∷ l) (moved_none ps)

pub tail-lines : TailLines
tail-lines x t ps m qs e at short =
    let last = joined (end_line (length (taken_of (x ++ t))) (length (x ++ t))) ∷ [] in (
      lines-short (x ++ t) short
          ∙ ap (λ (l : List Piece). texts (all_piece_lines l) ++ last) (e ∙ ap (λ (l : List Piece). ps ++ l) (tail-alone x t ps m qs e at))
          ∙ ap (λ (l : List (List (List ℕ))). texts l ++ last) (piece-lines-append ps (moved_pieces (length x) (pieces_of t)))
          ∙ ap (λ (l : List (List ℕ)). l ++ last) (texts-append (all_piece_lines ps) (all_piece_lines (moved_pieces (length x) (pieces_of t))))
          ∙ append_assoc (texts (all_piece_lines ps)) (texts (all_piece_lines (moved_pieces (length x) (pieces_of t)))) last,
      lines-short t (omega (arith, length-append x t))
          ∙ ap (λ (l : List Piece). texts (all_piece_lines l) ++ (joined (end_line (length (taken_of t)) (length t)) ∷ []))
          (sym (moved_none (pieces_of t))),
    )

moved-both : (n k : ℕ) (ps : List Piece) → moved_pieces n (moved_pieces k ps) ≡ moved_pieces k (moved_pieces n ps)
moved-both n k [] = refl
moved-both n k (taken m ∷ ps) =
    let e : n + (k + m.place) ≡ k + (n + m.place) =
    omega arith in ap (λ (j : ℕ). taken (placed j m.octets) ∷ moved_pieces n (moved_pieces k ps)) e
    ∙ ap (λ (l : List Piece). taken (placed (k + (n + m.place)) m.octets) ∷ l) (moved-both n k ps)
moved-both n k (skipped p j ∷ ps) =
    let e : n + (k + p) ≡ k + (n + p) =
    omega arith in
    ap (λ (i : ℕ). skipped i j ∷ moved_pieces n (moved_pieces k ps)) e ∙ ap (λ (l : List Piece). skipped (k + (n + p)) j ∷ l) (moved-both n k ps)

pub damage-before : DamageBefore
damage-before x y t ps ps' m m' qs qs' e at f there =
    ap (moved_pieces (length y)) (tail-alone x t ps m qs e at)
    ∙ moved-both (length y) (length x) (pieces_of t)
    ∙ sym (ap (moved_pieces (length x)) (tail-alone y t ps' m' qs' f there))
