-- The loop that finds a run, in the words of the code; and what is taken off a file with it.
-- Assumes nothing.
use Prim.Native.Nat.{ℕ, zero, suc, ◌+◌, ◌-◌, ◌<◌, ◌≤◌}
use mathlib.Core.Path.{◌≡◌, refl, sym, ap, subst, ◌∙◌}
use mathlib.Core.Bool.{true, false}
use mathlib.Core.Logic.{◌⊎◌, inl, inr}
use mathlib.Core.List.{List, [], ◌∷◌, ◌++◌}
use native.Mathlib.Omega.{arith}
use lib.ListN.{length, take, drop, length-append, take-append-drop}
use lib.Seq.{length-take-le}
use lib.Dec.{eqb, ltb}
use borrow.Author.Tests.{eq-eqb, ne_eqb, lt-ltb, le-ltb}
use Rattle.octets.proofs.Bools.{which}
use Rattle.octets.proofs.Slices.{tail_all}
use Rattle.std.specs.Prelude.{Some, None}
use Rattle.std.proofs.Common.{Result, Ok, Err}
use Rattle.refusal.specs.declared.Refusal.{Refusal}
use Rattle.message.specs.declared.Header.{Header}
use Rattle.message.specs.Layout.{Head, head_of, size, front}
use Rattle.message.specs.Check.{said, header_verdict}
use Rattle.token.specs.Split.{join}
use Rattle.conversation.specs.Logs.{messages_in}
use Rattle.sides.specs.Merging.{fits, cut_from, messages_of, run_from}
use Rattle.sides.proofs.Cutting.{turn-fits, turn-stops, piece-front, piece-head}
use Rattle.merging.specs.declared.Run.{Run}
use Rattle.merging.specs.Merged.{ran_in, next_in, next_by}
use Rattle.merging.proofs.Cuts.{header-fits, header-size, header-number, header-long, header-left, header_refused}

-- 1. the messages at the front of octets do not go by their place

same-cut : (xs : List ℕ) (k p q : ℕ) → messages_in (cut_from xs k p) ≡ messages_in (cut_from xs k q)
unfolding cut_from messages_in
same-cut [] k p q = refl
same-cut (x ∷ xs) (suc k) p q = same-cut xs k p q
same-cut (x ∷ xs) zero p q = go (which (fits (x ∷ xs))) (same-cut xs (size (x ∷ xs) - 1)) where
  go : (fits (x ∷ xs) ≡ true) ⊎ (fits (x ∷ xs) ≡ false)
      → ((a b : ℕ) → messages_in (cut_from xs (size (x ∷ xs) - 1) a) ≡ messages_in (cut_from xs (size (x ∷ xs) - 1) b))
      → messages_in (cut_from (x ∷ xs) 0 p) ≡ messages_in (cut_from (x ∷ xs) 0 q)
  go (inl e) ih = rw e (ap (λ (l : List (List ℕ)). front (x ∷ xs) ∷ l) (ih (p + size (x ∷ xs)) (q + size (x ∷ xs))))
  go (inr e) ih = rw e

pub messages-on : (s : List ℕ) → fits s ≡ true → messages_of s ≡ front s ∷ messages_of (drop (size s) s)
unfolding messages_in
messages-on s e = ap messages_in (turn-fits 0 s e) ∙ ap (λ (l : List (List ℕ)). front s ∷ l) (same-cut (drop (size s) s) 0 (0 + size s) 0)

pub messages-none : (s : List ℕ) → fits s ≡ false → messages_of s ≡ []
messages-none [] e = unfold cut_from messages_in in refl
messages-none (x ∷ s) e = ap messages_in (turn-stops 0 (x ∷ s) (omega arith) e) ∙ (unfold messages_in in refl)

front-head : (s : List ℕ) → fits s ≡ true → head_of (front s) ≡ head_of s
front-head s e = sym (piece-head (front s) (drop (size s) s) (piece-front s e)) ∙ ap head_of (take-append-drop (size s) s)

-- 2. a run, message by message

run_on : (q : ℕ) (s : List ℕ) → fits s ≡ true → (head_of s).sequence ≡ q
    → run_from q (messages_of s) ≡ front s ∷ run_from (q + 1) (messages_of (drop (size s) s))
unfolding run_from
run_on q s e n =
    let z : eqb (head_of (front s)).sequence q ≡ true = eq-eqb _ _ (ap (λ (h : Head). h.sequence) (front-head s e) ∙ n) in
    ap (run_from q) (messages-on s e) ∙ rw z

run-other : (q : ℕ) (s : List ℕ) → fits s ≡ true → ((head_of s).sequence ≡ q → ⊥) → run_from q (messages_of s) ≡ []
unfolding run_from
run-other q s e n =
    let z : eqb (head_of (front s)).sequence q ≡ false = ne_eqb _ _ (λ i. n (sym (ap (λ (h : Head). h.sequence) (front-head s e)) ∙ i)) in
    ap (run_from q) (messages-on s e) ∙ rw z

run_none : (q : ℕ) (s : List ℕ) → fits s ≡ false → run_from q (messages_of s) ≡ []
unfolding run_from
run_none q s e = ap (run_from q) (messages-none s e)

abbrev plus : ℕ → ℕ → Run → Run
plus o m r = record { octets = o + r.octets; messages = m + r.messages }

abbrev ran_by : List (List ℕ) → Run
ran_by ms = record { octets = length (join ms); messages = length ms }

ran-nothing : (o m : ℕ) → record { octets = o; messages = m } ≡ plus o m (ran_by [])
ran-nothing o m =
    let a : o ≡ o + 0 =
    omega arith in let b : m ≡ m + 0 =
    omega arith in ap (λ (k : ℕ). record { octets = k; messages = m }) a ∙ ap (λ (k : ℕ). record { octets = o + 0; messages = k }) b

ran-more : (o m n : ℕ) (x : List ℕ) (ms : List (List ℕ)) → length x ≡ n → plus o m (ran_by (x ∷ ms)) ≡ plus (o + n) (m + 1) (ran_by ms)
ran-more o m n x ms e =
    let a : o + length (x ++ join ms) ≡ o + n + length (join ms) = omega (arith, length-append x (join ms)) in
    let b : m + suc (length ms) ≡ m + 1 + length ms = omega arith in
    ap (λ (k : ℕ). record { octets = k; messages = m + suc (length ms) }) a
    ∙ ap (λ (k : ℕ). record { octets = o + n + length (join ms); messages = k }) b

-- 3. the loop

pub record RunOn (rest : List ℕ) (first : ℕ) (left : List ℕ) (octets messages : ℕ) : Type 0 where
  pub short : length rest ≤ 65535
  pub few : messages ≤ octets
  pub at : octets + length left ≡ length rest
  pub come : ran_in first rest ≡ plus octets messages (ran_in (first + messages) left)

pub run-begins : (rest : List ℕ) (first : ℕ) → length rest ≤ 65535 → RunOn rest first rest 0 0
unfolding ran_in
run-begins rest first h = record {
  short = h;
  few = omega arith;
  at = omega arith;
  come =
      let a : first ≡ first + 0 = omega arith in
      let r : List (List ℕ) = run_from (first + 0) (messages_of rest) in
      ap (λ (k : ℕ). ran_in k rest) a ∙ zero-plus (length (join r)) (length r);
} where
  zero-plus : (o m : ℕ) → ◌≡◌ {A = Run} (record { octets = o; messages = m }) (record { octets = 0 + o; messages = 0 + m })
  zero-plus o m =
      let a : o ≡ 0 + o =
      omega arith in let b : m ≡ 0 + m =
      omega arith in ap (λ (k : ℕ). record { octets = k; messages = m }) a ∙ ap (λ (k : ℕ). record { octets = 0 + o; messages = k }) b

module _ (rest : List ℕ) (first : ℕ) (left : List ℕ) (octets messages : ℕ) (on : RunOn rest first left octets messages) where
  pub run-sum : first < 4294967296 → first + messages < 18446744073709551616
  run-sum h = omega (arith, on.short, on.few, on.at)

  run-empty : run_from (first + messages) (messages_of left) ≡ [] → record { octets = octets; messages = messages } ≡ ran_in first rest
  unfolding ran_in
  run-empty e = sym (on.come ∙ ap (λ (l : List (List ℕ)). plus octets messages (ran_by l)) e ∙ sym (ran-nothing octets messages))

  pub run_ends : length left ≤ 0 → record { octets = octets; messages = messages } ≡ ran_in first rest
  run_ends h = run-empty (go left h) where
    go : (l : List ℕ) → length l ≤ 0 → run_from (first + messages) (messages_of l) ≡ []
    go [] w = unfold run_from cut_from messages_in in refl
    go (x ∷ l) w = absurd (omega arith)

  module _ (m : Result Header Refusal) (m-is : said m ≡ header_verdict left) where
    pub run-stops : (f : Refusal) → m ≡ Err f → record { octets = octets; messages = messages } ≡ ran_in first rest
    run-stops f e = run-empty (run_none (first + messages) left (header_refused left m m-is f e).0)

    module _ (h : Header) (m-reads : m ≡ Ok h) where
      pub run-differs : (h.sequence ≡ first + messages → ⊥) → record { octets = octets; messages = messages } ≡ ran_in first rest
      run-differs n =
          run-empty (run-other (first + messages) left (header-fits left m m-is h m-reads) (λ e. n (sym (header-number left m m-is h m-reads) ∙ e)))

      pub run-octets : octets + h.length < 18446744073709551616
      run-octets = omega (arith, on.short, on.at, header-long left m m-is h m-reads)

      pub run-messages : messages + 1 < 4294967296
      run-messages = omega (arith, on.short, on.few, on.at)

      pub run-again : h.sequence ≡ first + messages
          → RunOn rest first (take (length left - h.length) (drop h.length left)) (octets + h.length) (messages + 1)
      unfolding ran_in
      run-again n =
          let long = header-long left m m-is h m-reads in
          let size_is = header-size left m m-is h m-reads in
          let okay = header-fits left m m-is h m-reads in
          let next : first + messages + 1 ≡ first + (messages + 1) = omega arith in
          let there : drop (size left) left ≡ take (length left - h.length) (drop h.length left) =
          ap (λ (k : ℕ). drop k left) size_is ∙ sym (tail_all left h.length) in
          let fronted : length (front left) ≡ h.length = length-take-le (size left) left (omega (arith, size_is)) ∙ size_is in
          record {
            short = on.short;
            few = omega (arith, on.few);
            at = omega (arith, on.at, header-left left m m-is h m-reads);
            come =
                on.come
                ∙ ap (λ (l : List (List ℕ)). plus octets messages (ran_by l))
                (run_on (first + messages) left okay (header-number left m m-is h m-reads ∙ n))
                ∙ ran-more octets messages h.length (front left) (run_from (first + messages + 1) (messages_of (drop (size left) left))) fronted
                ∙ ap (λ (l : List ℕ). plus (octets + h.length) (messages + 1) (ran_by (run_from (first + messages + 1) (messages_of l)))) there
                ∙ ap (λ (k : ℕ). plus (octets + h.length) (messages + 1)
                (ran_by (run_from k (messages_of (take (length left - h.length) (drop h.length left)))))) next;
          }

pub ruleset runs = (run-begins, run-sum, run_ends, run-stops, run-differs, run-octets, run-messages, run-again)

-- 4. the next turn

module _ (q : ℕ) (i a : List ℕ) (r : Run) (r-is : r ≡ ran_in q i) where
  pub next-initiator : 0 < r.messages → Some (record { acceptors = false; initiator = r.octets; acceptor = 0; messages = r.messages }) ≡ next_in q i a
  unfolding next_in
  next-initiator h =
      let z : ltb 0 (ran_in q i).messages ≡ true = lt-ltb 0 (ran_in q i).messages (subst (λ (x : Run). 0 < x.messages) r-is h) in
      rw z (ap (λ (x : Run). Some (next_by false x)) r-is)

  module _ (h : r.messages ≤ 0) (s : Run) (s-is : s ≡ ran_in q a) where
    no-initiator : ltb 0 (ran_in q i).messages ≡ false
    no-initiator = le-ltb 0 (ran_in q i).messages (subst (λ (x : Run). x.messages ≤ 0) r-is h)

    pub next-none : s.messages ≡ 0 → None ≡ next_in q i a
    unfolding next_in
    next-none e =
        let n : s.messages ≤ 0 = omega arith in
        let z : ltb 0 (ran_in q a).messages ≡ false = le-ltb 0 (ran_in q a).messages (subst (λ (x : Run). x.messages ≤ 0) s-is n) in
        rw (no-initiator, z)

    pub next-acceptor : (s.messages ≡ 0 → ⊥) → Some (record { acceptors = true; initiator = 0; acceptor = s.octets; messages = s.messages }) ≡ next_in q i a
    unfolding next_in
    next-acceptor e =
        let n : 0 < s.messages = omega arith in
        let z : ltb 0 (ran_in q a).messages ≡ true = lt-ltb 0 (ran_in q a).messages (subst (λ (x : Run). 0 < x.messages) s-is n) in
        rw (no-initiator, z) (ap (λ (x : Run). Some (next_by true x)) s-is)

pub ruleset nexts = (next-initiator, next-none, next-acceptor)
