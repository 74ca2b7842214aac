-- What the runs need of a token's reading: a token that begins with a written NEGO, an empty one, and the numbers that refuse one.
-- Assumes nothing.
use Prim.Native.Nat.{ℕ, zero, suc, ◌+◌, ◌-◌, ◌≤◌, ◌<◌}
use mathlib.Core.Path.{◌≡◌, refl, sym, ap, subst, ◌∙◌}
use mathlib.Core.Bool.{Bool, true, false, not}
use mathlib.Core.Logic.{◌⊎◌, inl, inr}
use mathlib.Core.List.{List, [], ◌∷◌, ◌++◌, append_assoc, append-nil}
use native.Mathlib.Omega.{arith}
use lib.ListN.{length}
use lib.Dec.{eqb}
use borrow.Author.Tests.{ne_eqb}
use Rattle.octets.proofs.Bools.{which}
use Rattle.message.specs.Layout.{Head, head_of, size, front}
use Rattle.message.specs.Check.{first_failing, common_rows, body_rows, content_rows, front_rows}
use Rattle.message.proofs.Tables.{refuses-first, without, fails-other}
use Rattle.token.specs.Token.{order_rows, next_rows, passes, Chain, end, refused as cut_at, message, chain_of}
use Rattle.token.proofs.Cuts.{passes-parts, passes-sized, turn-pass, turn-fail}
use Rattle.token.proofs.Splits.{rows-9}
use Rattle.message.proofs.Local.{head-front}
use Rattle.schemes.specs.Lists.{Id}
use Rattle.conversation.specs.declared.Record.{Record}
use Rattle.conversation.specs.declared.Scan.{Scan}
use Rattle.conversation.specs.Turns.{class_of, after, reads}
use Rattle.conversation.specs.Admitting.{listed_by, scheme_in, Admitted, on, stop, or_stop, scheme_fits, confirmed_for, passed, admit}
use Rattle.conversation.specs.Reading.{conversation_of, start_of, Judged, whole, halted, then_judge, judge, chain_for, judged}
use lib.Seq.{take-take, length-take-le}

-- what begins with a NEGO of a type and a list, whatever follows: all that demand 3 asks of octets
abbrev pub Heads : ℕ → List Id → List ℕ → Type 0
Heads type ids t = (rest : List ℕ) → ((head_of (t ++ rest)).kind ≡ type) × (listed_by (t ++ rest) ≡ ids)

pub heads-more : (type : ℕ) (ids : List Id) (t x : List ℕ) → Heads type ids t → Heads type ids (t ++ x)
heads-more type ids t x h rest = rw (append_assoc t x rest) (h (x ++ rest))

pub heads-here : (type : ℕ) (ids : List Id) (t : List ℕ) → Heads type ids t → ((head_of t).kind ≡ type) × (listed_by t ≡ ids)
heads-here type ids t h = rw (append-nil t) at (h [])

-- an empty token is refused
pub empty-judged : (r : Record) (n : ℕ) (c : Scan) → judged r [] ≡ whole n c → ⊥
unfolding judged judge
empty-judged r n c e = let z : ◌≡◌ {A = ℕ} 0 1 = cc in omega arith

-- the first message of a token that is read
pub not-stop : (b : Bool) (k : ℕ) (a : Admitted) (c : Scan) → or_stop b k a ≡ on c → (b ≡ true) × (a ≡ on c)
not-stop true k a c e = (refl, e)
not-stop false k a c e = let z : ◌≡◌ {A = ℕ} 0 1 = cc in absurd (omega arith)

then-whole : (a : Admitted) (p : ℕ) (rest : Scan → Judged) (n : ℕ) (d : Scan) → then_judge a p rest ≡ whole n d
    → (c : Scan) × ((a ≡ on c) × (rest c ≡ whole n d))
then-whole (on c) p rest n d e = (c, (refl, e))
then-whole (stop k) p rest n d e = let z : ◌≡◌ {A = ℕ} 0 1 = cc in absurd (omega arith)

pub record First (r : Record) (t : List ℕ) : Type 0 where
  pub forty : 40 ≤ length t
  pub spent : Bool
  pub allowed : not (eqb (after (reads r) 0 spent (class_of (not r.acceptor) (head_of t).kind)) 0) ≡ true

chain_first : (r : Record) (t : List ℕ) (n : ℕ) (d : Scan) (q : ℕ) (v : List ℕ) → 0 < length t
    → judge r t 0 (start_of r) (chain_of t 0 0 q v) ≡ whole n d → First r t
unfolding judge admit
chain_first r t n d q v some e = go (which (passes t q v)) where
  go : (passes t q v ≡ true) ⊎ (passes t q v ≡ false) → First r t
  go (inr f) =
      let w : halted (first_failing (next_rows t q v)) 0 ≡ whole n d = sym (ap (judge r t 0 (start_of r)) (turn-fail 0 q v t some f)) ∙ e in
      let z : ◌≡◌ {A = ℕ} 0 1 = cc in absurd (omega arith)
  go (inl p) =
      let z = passes-sized t q v p in
      let w = then-whole _ 0 _ n d (sym (ap (judge r t 0 (start_of r)) (turn-pass 0 q v t p)) ∙ e) in
      let a =
      not-stop
      (not (eqb (after (reads r) 0 (confirmed_for r (start_of r) (scheme_in (front t))) (class_of (not r.acceptor) (head_of (front t)).kind)) 0))
      14 _ w.0 w.1.0 in
      let m : length (front t) ≡ size t = length-take-le (size t) t z.within in
      let enough : size t ≤ length (front t) = omega arith in
      let h : head_of (front t) ≡ head_of t =
      head-front t (front t) (passes-parts t q v p).common enough (take-take (size t) (size t) t (omega arith)) in
      record {
        forty = z.forty;
        spent = confirmed_for r (start_of r) (scheme_in (front t));
        allowed =
            subst (λ (g : Head). not
            (eqb (after (reads r) 0 (confirmed_for r (start_of r) (scheme_in (front t))) (class_of (not r.acceptor) g.kind)) 0) ≡ true) h a.0;
      }

pub judged-first : (r : Record) (t : List ℕ) (n : ℕ) (d : Scan) → judged r t ≡ whole n d → First r t
unfolding judged
judged-first r [] n d e = absurd (empty-judged r n d e)
judged-first r (x ∷ t) n d e =
    let some : length (x ∷ t) ≡ 0 → ⊥ = λ z. omega arith in
    chain_first r (x ∷ t) n d r.sequence (conversation_of r (x ∷ t)) (omega arith) (rw (ne_eqb _ _ some) at e)

-- the numbers that refuse a token are those of its messages: never 0, never 17, never 9
rows-17 : (s : List ℕ) (q : ℕ) (v : List ℕ) → without 17 (next_rows s q v) ≡ true
unfolding next_rows common_rows order_rows front_rows body_rows content_rows
rows-17 s q v = refl

rows-0 : (s : List ℕ) (q : ℕ) (v : List ℕ) → without 0 (next_rows s q v) ≡ true
unfolding next_rows common_rows order_rows front_rows body_rows content_rows
rows-0 s q v = refl

abbrev pub Other : ℕ → Type 0
Other n = (n ≡ 0 → ⊥) × ((n ≡ 17 → ⊥) × (n ≡ 9 → ⊥))

-- every number that refuses a message of a chain has P
abbrev pub Numbers : (ℕ → Type 0) → Chain → Type 0
Numbers P end = Unit {0}
Numbers P (cut_at n p) = P n
Numbers P (message m ms) = Numbers P ms

chain-numbers : (xs : List ℕ) (k place q : ℕ) (v : List ℕ) → Numbers Other (chain_of xs k place q v)
unfolding chain_of
chain-numbers [] k place q v = tt
chain-numbers (x ∷ xs) (suc k) place q v = chain-numbers xs k place q v
chain-numbers (x ∷ xs) zero place q v =
    go (which (passes (x ∷ xs) q v)) (chain-numbers xs (size (x ∷ xs) - 1) (place + size (x ∷ xs)) (q + 1) v) where
      go : (passes (x ∷ xs) q v ≡ true) ⊎ (passes (x ∷ xs) q v ≡ false) → Numbers Other (chain_of xs (size (x ∷ xs) - 1) (place + size (x ∷ xs)) (q + 1) v)
          → Numbers Other (chain_of (x ∷ xs) 0 place q v)
      go (inl p) ih = rw p ih
      go (inr p) ih =
          let f = refuses-first (next_rows (x ∷ xs) q v) p in
          let rows = next_rows (x ∷ xs) q v in
          rw p (
            fails-other 0 rows _ (rows-0 (x ∷ xs) q v) f,
            (fails-other 17 rows _ (rows-17 (x ∷ xs) q v) f, fails-other 9 rows _ (rows-9 (x ∷ xs) q v) f),
          )

-- what those numbers have, and 14 and 15, the number of a judged token has
module _ (P : ℕ → Type 0) (p14 : P 14) (p15 : P 15) where
  admit-number : (r : Record) (t : List ℕ) (c : Scan) (m : List ℕ) (n : ℕ) → admit r t c m ≡ stop n → P n
  unfolding admit
  admit-number r t c m n e =
      go (not (eqb (after (reads r) c.position (confirmed_for r c (scheme_in m)) (class_of (not r.acceptor) (head_of m).kind)) 0))
      (scheme_fits r t c (class_of (not r.acceptor) (head_of m).kind) (scheme_in m)) e where
        go : (a b : Bool) → or_stop a 14
            (or_stop b 15
            (on (passed r c (class_of (not r.acceptor) (head_of m).kind)
            (after (reads r) c.position (confirmed_for r c (scheme_in m)) (class_of (not r.acceptor) (head_of m).kind)) (scheme_in m)))) ≡ stop n → P n
        go false b e = let z : 14 ≡ n = cc in subst P z p14
        go true false e = let z : 15 ≡ n = cc in subst P z p15
        go true true e = let z : ◌≡◌ {A = ℕ} 0 1 = cc in absurd (omega arith)

  judge-number : (r : Record) (t : List ℕ) (k : ℕ) (c : Scan) (ch : Chain) → Numbers P ch → (n p : ℕ) → judge r t k c ch ≡ halted n p → P n
  unfolding judge
  judge-number r t k c end h n p e = let z : ◌≡◌ {A = ℕ} 0 1 = cc in absurd (omega arith)
  judge-number r t k c (cut_at m a) h n p e = let z : m ≡ n = cc in subst P z h
  judge-number r t k c (message m ms) h n p e = go (admit r t c m.octets) refl (λ d. judge-number r t (k + 1) d ms h n p) where
    go : (a : Admitted) → admit r t c m.octets ≡ a → ((d : Scan) → judge r t (k + 1) d ms ≡ halted n p → P n) → P n
    go (on d) is ih = ih d (rw is at e)
    go (stop j) is ih = let w : halted j m.place ≡ halted n p = rw is at e in let z : j ≡ n = cc in subst P z (admit-number r t c m.octets j is)

  pub judged-numbers : (r : Record) (t : List ℕ) → Numbers P (chain_for r t) → (n p : ℕ) → judged r t ≡ halted n p → P n
  unfolding judged
  judged-numbers r t h n p e = judge-number r t 0 (start_of r) (chain_for r t) h n p e

other : (n : ℕ) → (n ≡ 0 → ⊥) → (n ≡ 17 → ⊥) → (n ≡ 9 → ⊥) → Other n
other n a b c = (a, (b, c))

pub judged-number : (r : Record) (t : List ℕ) (n p : ℕ) → judged r t ≡ halted n p → Other n
judged-number r t =
    judged-numbers Other (other 14 (λ w. omega arith) (λ w. omega arith) (λ w. omega arith))
    (other 15 (λ w. omega arith) (λ w. omega arith) (λ w. omega arith)) r t (numbers t) where
      numbers : (s : List ℕ) → Numbers Other (chain_for r s)
      numbers [] = other 2 (λ w. omega arith) (λ w. omega arith) (λ w. omega arith)
      numbers (x ∷ s) =
          let some : length (x ∷ s) ≡ 0 → ⊥ = λ z. omega arith in
          rw (ne_eqb _ _ some) (chain-numbers (x ∷ s) 0 0 r.sequence (conversation_of r (x ∷ s)))
