-- A token that a run's reading accepts, heard again: by the same record, with any transcript that has all the room there is.
-- Assumes nothing.
use Prim.Native.Nat.{ℕ, zero, suc, ◌+◌, ◌-◌, ◌<◌, ◌≤◌}
use mathlib.Core.Path.{◌≡◌, refl, sym, ap, subst, ◌∙◌}
use mathlib.Core.Bool.{Bool, true, false}
use mathlib.Core.Logic.{◌⊎◌, inl, inr}
use mathlib.Core.List.{List, [], ◌∷◌, ◌++◌}
use native.Mathlib.Omega.{arith}
use lib.ListN.{length, take, drop, length-append}
use lib.Seq.{take_at, drop_at}
use lib.Dec.{leb}
use borrow.Author.Tests.{eqb-true, ne_eqb, leb-true, le-leb}
use Rattle.octets.proofs.Bools.{which, no_true}
use Rattle.message.specs.Layout.{head_of, size}
use Rattle.message.specs.Check.{Row}
use Rattle.message.proofs.Tables.{AllTrue}
use Rattle.token.specs.Token.{passes, Chain, end, refused as cut_at, message, chain_of, Reading, Accepted, token_of}
use Rattle.token.specs.Walk.{messages_of, Accepts}
use Rattle.token.specs.Split.{Numbered, join, placed_from}
use Rattle.token.proofs.Splits.{front-message, numbered-accepted}
use Rattle.token.proofs.Cuts.{passes-parts}
use Rattle.conversation.specs.declared.Record.{Record}
use Rattle.conversation.specs.declared.Scan.{Scan}
use Rattle.conversation.specs.State.{limit_rows}
use Rattle.conversation.specs.Outcomes.{room}
use Rattle.conversation.specs.Reading.{start_of, Judged, whole, halted, judge, chain_for, conversation_of, judged, taken, accepted, finish, token_rows, reading_token}
use Rattle.conversation.specs.Admitting.{Admitted, on, stop, admit}
use Rattle.conversation.specs.Runs.{is_accepted}
use Rattle.conversation.specs.Logs.{messages_in}
use Rattle.conversation.proofs.Decides.{decide-passed}
use Rattle.conversation.proofs.Rows.{decide-out, accepted-out}
use Rattle.conversation.proofs.Tokens.{judged-number}
use Rattle.conversation.proofs.Messages.{FramedFrom, Ends, token-taken}
use Rattle.sides.specs.Turning.{after_first, heard_turn}
use Rattle.sides.proofs.Cutting.{Pieces, piece-front}

-- 1. an accepted reading

pub record Heard (r : Record) (t : List ℕ) (then : Record) : Type 0 where
  pub n : ℕ
  pub scan : Scan
  pub rows : AllTrue (limit_rows r ++ token_rows r (length t))
  pub is : judged r t ≡ whole n scan
  pub short : r.used + length t ≤ 65535
  pub next : then ≡ taken r t n scan

pub heard-by : (r : Record) (d t : List ℕ) → is_accepted (reading_token r d t).answer ≡ true → Heard r t (reading_token r d t).answer.next
unfolding reading_token
heard-by r d t =
    let rows : List Row = limit_rows r ++ token_rows r (length t) in
    accepted-out (λ out. Heard r t out.answer.next) rows r d (finish r d t (judged r t)) refl
    (λ g. token g (judged r t) refl) where
      token : AllTrue (limit_rows r ++ token_rows r (length t)) → (j : Judged) → judged r t ≡ j → is_accepted (finish r d t j).answer ≡ true
          → Heard r t (finish r d t j).answer.next
      token g (halted n p) w a = unfold finish in absurd ((judged-number r t n p w).0 (eqb-true n 0 (unfold finish in a)))
      token g (whole n c) w a = unfold finish in elim (which (leb (r.used + length t) (room d))) [
        | inr b ↦ no_true (let z : is_accepted (finish r d t (whole n c)).answer ≡ true = a in unfold finish in (rw b at z))
        | inl b ↦ rw b
            (record { n = n; scan = c; rows = g; is = w; short = (let z : r.used + length t ≤ room d = leb-true _ _ b in omega arith); next = refl })
      ]

pub heard-again : (r : Record) (t : List ℕ) (then : Record) (h : Heard r t then) (d : List ℕ) → 65535 ≤ length d
    → heard_turn true r d t ≡ accepted r d t h.n h.scan
unfolding heard_turn
heard-again r t then h d wide =
    let fit : r.used + length t ≤ room d = (let s = h.short in omega arith) in
    sym (decide-passed (limit_rows r ++ token_rows r (length t)) r d (finish r d t (judged r t)) h.rows)
    ∙ ap (finish r d t) h.is
    ∙ fitting h.n h.scan (le-leb _ _ fit) where
      fitting : (n : ℕ) (c : Scan) → leb (r.used + length t) (room d) ≡ true → finish r d t (whole n c) ≡ accepted r d t n c
      fitting n c e = unfold finish in rw e

-- where 28 is owed, no turn is accepted
pub heard-turn : (ok : Bool) (r : Record) (d t : List ℕ) → is_accepted (heard_turn ok r d t).answer ≡ true
    → (ok ≡ true) × Heard r t (heard_turn ok r d t).answer.next
unfolding heard_turn reading_token
heard-turn true r d t = λ a. (refl, heard-by r d t a)
heard-turn false r d t =
    let rows : List Row = limit_rows r ++ token_rows r (length t) in
    accepted-out (λ out. (false ≡ true) × Heard r t out.answer.next) rows r d (finish r d t (after_first false (judged r t))) refl
    (λ g. token (judged r t) refl) where
      token : (j : Judged) → judged r t ≡ j → is_accepted (finish r d t (after_first false j)).answer ≡ true
          → (false ≡ true) × Heard r t (finish r d t (after_first false j)).answer.next
      token (halted n zero) w a = absurd ((judged-number r t n 0 w).0 (eqb-true n 0 (unfold finish in a)))
      token (halted n (suc p)) w a = no_true (unfold finish in a)
      token (whole n c) w a = no_true (unfold finish in a)

-- 2. messages that have their length in their header, whatever follows them

pub record Exact (m : List ℕ) : Type 0 where
  pub long : 64 ≤ length m
  pub exact : (rest : List ℕ) → size (m ++ rest) ≡ length m

abbrev pub AllExact : List (List ℕ) → Type 0
AllExact [] = Unit {0}
AllExact (m ∷ ms) = Exact m × AllExact ms

pub exact-append : (ms ns : List (List ℕ)) → AllExact ms → AllExact ns → AllExact (ms ++ ns)
exact-append [] ns a b = b
exact-append (m ∷ ms) ns a b = (a.0, exact-append ms ns a.1 b)

framed-exact : (q : ℕ) (ms : List (List ℕ)) → FramedFrom q ms → AllExact ms
framed-exact q [] f = tt
framed-exact q (m ∷ ms) f = (record { long = f.0.long; exact = f.0.exact }, framed-exact (q + 1) ms f.1)

no-message : {A : Type 0} (m x : List ℕ) → Exact m → [] ≡ m ++ x → A
no-message m x a e = absurd (let l = a.long in omega (arith, length-append m x, ap length e))

-- the same octets are the same messages
same-list : (ms ns : List (List ℕ)) → AllExact ms → AllExact ns → join ms ≡ join ns → ms ≡ ns
same-list [] [] a b e = refl
same-list [] (n ∷ ns) a b e = no-message n (join ns) b.0 e
same-list (m ∷ ms) [] a b e = no-message m (join ms) a.0 (sym e)
same-list (m ∷ ms) (n ∷ ns) a b e =
    let l : length m ≡ length n = sym (a.0.exact (join ms)) ∙ ap (λ (s : List ℕ). size s) e ∙ b.0.exact (join ns) in
    let same : m ≡ n = sym (take_at m (join ms) (length m) refl) ∙ ap (take (length m)) e ∙ take_at n (join ns) (length m) (sym l) in
    let rest : join ms ≡ join ns = sym (drop_at m (join ms) (length m) refl) ∙ ap (drop (length m)) e ∙ drop_at n (join ns) (length m) (sym l) in
    ap (λ (k : List ℕ). k ∷ ms) same ∙ ap (λ (k : List (List ℕ)). n ∷ k) (same-list ms ns a.1 b.1 rest)

-- 3. the messages of an accepted token

chain-pieces : (xs : List ℕ) (k place q : ℕ) (v : List ℕ) → Pieces (messages_in (chain_of xs k place q v))
unfolding chain_of messages_in
chain-pieces [] k place q v = tt
chain-pieces (x ∷ xs) (suc k) place q v = chain-pieces xs k place q v
chain-pieces (x ∷ xs) zero place q v = go (which (passes (x ∷ xs) q v)) (chain-pieces xs (size (x ∷ xs) - 1) (place + size (x ∷ xs)) (q + 1) v) where
  go : (passes (x ∷ xs) q v ≡ true) ⊎ (passes (x ∷ xs) q v ≡ false)
      → Pieces (messages_in (chain_of xs (size (x ∷ xs) - 1) (place + size (x ∷ xs)) (q + 1) v)) → Pieces (messages_in (chain_of (x ∷ xs) 0 place q v))
  go (inl e) ih = rw e (piece-front (x ∷ xs) (passes-parts (x ∷ xs) q v e).common, ih)
  go (inr e) ih = rw e tt

pub record Gone (r : Record) (ms : List (List ℕ)) (n : ℕ) : Type 0 where
  pub same : messages_in (chain_for r (join ms)) ≡ ms
  pub pieces : Pieces ms
  pub count : n ≡ length ms
  pub some : 0 < length ms

pub gone-through : (r : Record) (ms : List (List ℕ)) (n : ℕ) (c : Scan) → AllExact ms → judged r (join ms) ≡ whole n c → Gone r ms n
gone-through r ms n c x w =
    let k = token-taken r (join ms) n c w in
    let same : messages_in (chain_for r (join ms)) ≡ ms =
    same-list (messages_in (chain_for r (join ms))) ms (framed-exact r.sequence (messages_in (chain_for r (join ms))) k.framed) x k.joins in
    record {
      same = same;
      pieces = subst Pieces same (pieces (join ms) k.some);
      count = k.count ∙ ap length same;
      some = some ms k.some;
    } where
      pieces : (t : List ℕ) → 0 < length t → Pieces (messages_in (chain_for r t))
      pieces [] h = absurd (omega arith)
      pieces (y ∷ t) h =
          let z : length (y ∷ t) ≡ 0 → ⊥ = λ e. omega arith in rw (ne_eqb _ _ z) (chain-pieces (y ∷ t) 0 0 r.sequence (conversation_of r (y ∷ t)))

      some : (l : List (List ℕ)) → 0 < length (join l) → 0 < length l
      some [] h = absurd (omega arith)
      some (m ∷ l) h = omega arith

-- an accepted token begins with the number that is expected
pub first-number : (r : Record) (t : List ℕ) (n : ℕ) (c : Scan) → judged r t ≡ whole n c → (0 < length t) × ((head_of t).sequence ≡ r.sequence)
first-number r t n c w =
    let k = token-taken r t n c w in
    (k.some, go (messages_in (chain_for r t)) k.framed k.joins) where
      go : (ms : List (List ℕ)) → FramedFrom r.sequence ms → join ms ≡ t → (head_of t).sequence ≡ r.sequence
      go [] f e = absurd (let z = (token-taken r t n c w).some in omega (arith, ap length e))
      go (m ∷ ms) f e = ap (λ (s : List ℕ). (head_of s).sequence) (sym e) ∙ f.0.number (join ms)

-- 4. the structural reading accepts it too

judge-ends : (r : Record) (t : List ℕ) (n : ℕ) (c : Scan) (ch : Chain) (k : ℕ) (d : Scan) → judge r t n c ch ≡ whole k d → Ends ch
unfolding judge
judge-ends r t n c end k d e = tt
judge-ends r t n c (cut_at m a) k d e = let z : ◌≡◌ {A = ℕ} 0 1 = cc in absurd (omega arith)
judge-ends r t n c (message m ms) k d e = go (admit r t c m.octets) refl (λ c'. judge-ends r t (n + 1) c' ms k d) where
  go : (a : Admitted) → admit r t c m.octets ≡ a → ((c' : Scan) → judge r t (n + 1) c' ms ≡ whole k d → Ends ms) → Ends ms
  go (on c') is ih = ih c' (rw is at e)
  go (stop j) is ih = let w : halted j m.place ≡ whole k d = rw is at e in let z : ◌≡◌ {A = ℕ} 0 1 = cc in absurd (omega arith)

chain-numbered : (xs : List ℕ) (k place q : ℕ) (v : List ℕ) → Ends (chain_of xs k place q v) → Numbered q v (messages_in (chain_of xs k place q v))
unfolding chain_of messages_in
chain-numbered [] k place q v h = tt
chain-numbered (x ∷ xs) (suc k) place q v h = chain-numbered xs k place q v h
chain-numbered (x ∷ xs) zero place q v h =
    go (which (passes (x ∷ xs) q v)) (chain-numbered xs (size (x ∷ xs) - 1) (place + size (x ∷ xs)) (q + 1) v) h where
      go : (passes (x ∷ xs) q v ≡ true) ⊎ (passes (x ∷ xs) q v ≡ false)
          → (Ends (chain_of xs (size (x ∷ xs) - 1) (place + size (x ∷ xs)) (q + 1) v)
          → Numbered (q + 1) v (messages_in (chain_of xs (size (x ∷ xs) - 1) (place + size (x ∷ xs)) (q + 1) v)))
          → Ends (chain_of (x ∷ xs) 0 place q v) → Numbered q v (messages_in (chain_of (x ∷ xs) 0 place q v))
      go (inl e) ih g = rw e (front-message (x ∷ xs) q v e, ih (rw e at g))
      go (inr e) ih g = absurd (rw e at g)

pub heard-accepts : (r : Record) (t : List ℕ) (n : ℕ) (c : Scan) → length t ≤ 65535 → judged r t ≡ whole n c → Accepts t
heard-accepts r t n c short w = go (messages_in (chain_for r t)) refl (token-taken r t n c w).joins where
  some : (s : List ℕ) → 0 < length s → judge r t 0 (start_of r) (chain_for r s) ≡ whole n c
      → Numbered r.sequence (conversation_of r s) (messages_in (chain_for r s))
  some [] h e = absurd (omega arith)
  some (x ∷ s) h e =
      let z : length (x ∷ s) ≡ 0 → ⊥ = λ y. omega arith in
      let is : chain_for r (x ∷ s) ≡ chain_of (x ∷ s) 0 0 r.sequence (conversation_of r (x ∷ s)) = rw (ne_eqb _ _ z) in
      subst (λ (ch : Chain). Numbered r.sequence (conversation_of r (x ∷ s)) (messages_in ch)) (sym is)
      (chain-numbered (x ∷ s) 0 0 r.sequence (conversation_of r (x ∷ s)) (subst Ends is (judge-ends r t 0 (start_of r) (chain_for r (x ∷ s)) n c e)))

  numbered : Numbered r.sequence (conversation_of r t) (messages_in (chain_for r t))
  numbered = some t (token-taken r t n c w).some (unfold judged in w)

  go : (ms : List (List ℕ)) → messages_in (chain_for r t) ≡ ms → join (messages_in (chain_for r t)) ≡ t → Accepts t
  go [] is j = absurd (let z = (token-taken r t n c w).some in omega (arith, ap length (sym (ap join is) ∙ j)))
  go (m ∷ ms) is j =
      let t-is : join (m ∷ ms) ≡ t = sym (ap join is) ∙ j in
      let a : token_of (join (m ∷ ms)) ≡ Accepted (placed_from 0 (m ∷ ms)) =
      numbered-accepted r.sequence (conversation_of r t) m ms (subst (Numbered r.sequence (conversation_of r t)) is numbered)
      (omega (arith, ap length t-is)) in
      let b : token_of t ≡ Accepted (placed_from 0 (m ∷ ms)) = ap token_of (sym t-is) ∙ a in
      b ∙ ap (λ (x : Reading). Accepted (messages_of x)) (sym b)

-- 5. a refused turn leaves the transcript as it was

pub refused-same : (ok : Bool) (r : Record) (d t : List ℕ) → ((heard_turn ok r d t).answer.refusal ≡ 0 → ⊥) → (heard_turn ok r d t).transcript ≡ d
unfolding heard_turn
refused-same ok r d t =
    let rows : List Row = limit_rows r ++ token_rows r (length t) in
    decide-out (λ out. (out.answer.refusal ≡ 0 → ⊥) → out.transcript ≡ d) rows r d (finish r d t (after_first ok (judged r t)))
    (λ n f h. refl)
    (λ g. token (after_first ok (judged r t))) where
      token : (j : Judged) → ((finish r d t j).answer.refusal ≡ 0 → ⊥) → (finish r d t j).transcript ≡ d
      token (halted n p) h = unfold finish in refl
      token (whole n c) h =
          unfold finish in elim (which (leb (r.used + length t) (room d))) [ inl b ↦ absurd (h (unfold finish in rw b)) | inr b ↦ rw b ]
