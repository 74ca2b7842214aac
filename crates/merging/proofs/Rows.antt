-- The turns of what is left of two files: one is taken off, or none is left. In the words of the code.
-- Assumes nothing.
use Prim.Native.Nat.{ℕ, zero, suc, ◌+◌, ◌*◌, ◌-◌, ◌<◌, ◌≤◌}
use mathlib.Core.Path.{◌≡◌, refl, sym, ap, subst, ◌∙◌}
use mathlib.Core.Bool.{Bool, true, false, cond}
use mathlib.Core.Logic.{◌⊎◌, inl, inr}
use mathlib.Core.List.{List, [], ◌∷◌, ◌++◌}
use native.Mathlib.Omega.{arith}
use Rattle.std.specs.Prelude.{Some, None}
use Rattle.std.proofs.lemmas.Option.{none-some, same_Some}
use lib.ListN.{length, take, drop, length-append, length-drop, length-take}
use lib.Seq.{drop-drop, take-add, length-take-le}
use lib.Dec.{eqb, ltb}
use borrow.Author.Tests.{ltb-true, ltb-false, lt-ltb, le-ltb}
use Rattle.octets.proofs.Bools.{which}
use Rattle.octets.proofs.Slices.{tail_all}
use Rattle.message.specs.Layout.{head_of, size, front}
use Rattle.token.specs.Split.{join}
use Rattle.sides.specs.Merging.{fits, messages_of, run_from, Turn, turns_from, turns_of, together}
use Rattle.sides.proofs.Cutting.{fits-sized, Pieces, piece-long, pieces-cut}
use Rattle.merging.specs.declared.Next.{Next}
use Rattle.merging.specs.Merged.{ran_in, next_in, next_by, turns_left}
use Rattle.merging.proofs.Runs.{messages-on, messages-none}

-- 1. a run, in messages

pub run_short : (q : ℕ) (ms : List (List ℕ)) → length (run_from q ms) ≤ length ms
unfolding run_from
run_short q [] = omega arith
run_short q (m ∷ ms) = go (eqb (head_of m).sequence q) (run_short (q + 1) ms) where
  go : (b : Bool) → length (run_from (q + 1) ms) ≤ length ms → length (cond b (m ∷ run_from (q + 1) ms) []) ≤ length (m ∷ ms)
  go true ih = omega arith
  go false ih = omega arith

run-pieces : (q : ℕ) (ms : List (List ℕ)) → Pieces ms → Pieces (run_from q ms)
unfolding run_from
run-pieces q [] p = tt
run-pieces q (m ∷ ms) p = go (eqb (head_of m).sequence q) (run-pieces (q + 1) ms p.1) where
  go : (b : Bool) → Pieces (run_from (q + 1) ms) → Pieces (cond b (m ∷ run_from (q + 1) ms) [])
  go true ih = (p.0, ih)
  go false ih = tt

pieces-long : (ms : List (List ℕ)) → Pieces ms → 64 * length ms ≤ length (join ms)
pieces-long [] p = omega arith
pieces-long (m ∷ ms) p = let i = pieces-long ms p.1 in let l = piece-long m p.0 in omega (arith, length-append m (join ms))

pub run-octets : (q : ℕ) (s : List ℕ) → 64 * length (run_from q (messages_of s)) ≤ length (join (run_from q (messages_of s)))
run-octets q s = pieces-long (run_from q (messages_of s)) (run-pieces q (messages_of s) (pieces-cut s 0 0))

pub pieces-run : (q : ℕ) (s : List ℕ) → Pieces (run_from q (messages_of s))
pieces-run q s = run-pieces q (messages_of s) (pieces-cut s 0 0)

-- 2. a run, in octets: those at the front, and what is left after them

record Off (run ms : List (List ℕ)) (s : List ℕ) : Type 0 where
  front-is : take (length (join run)) s ≡ join run
  left_is : messages_of (drop (length (join run)) s) ≡ drop (length run) ms

run-yes : (q : ℕ) (m : List ℕ) (ms : List (List ℕ)) → eqb (head_of m).sequence q ≡ true → run_from q (m ∷ ms) ≡ m ∷ run_from (q + 1) ms
unfolding run_from
run-yes q m ms e = rw e

run-no : (q : ℕ) (m : List ℕ) (ms : List (List ℕ)) → eqb (head_of m).sequence q ≡ false → run_from q (m ∷ ms) ≡ []
unfolding run_from
run-no q m ms e = rw e

off : (ms : List (List ℕ)) (q : ℕ) (s : List ℕ) → messages_of s ≡ ms → Off (run_from q ms) ms s
off [] q s e = record { front-is = unfold run_from in refl; left_is = unfold run_from in e }
off (m ∷ ms) q s e = go (which (fits s)) (which (eqb (head_of m).sequence q)) (off ms (q + 1) (drop (size s) s)) where
  go : (fits s ≡ true) ⊎ (fits s ≡ false) → (eqb (head_of m).sequence q ≡ true) ⊎ (eqb (head_of m).sequence q ≡ false)
      → (messages_of (drop (size s) s) ≡ ms → Off (run_from (q + 1) ms) ms (drop (size s) s)) → Off (run_from q (m ∷ ms)) (m ∷ ms) s
  go (inr f) n ih = let z : [] ≡ m ∷ ms = sym (messages-none s f) ∙ e in absurd (omega (arith, ap length z))
  go (inl f) (inr n) ih = subst (λ (r : List (List ℕ)). Off r (m ∷ ms) s) (sym (run-no q m ms n)) (record { front-is = refl; left_is = e })
  go (inl f) (inl n) ih =
      let both : front s ∷ messages_of (drop (size s) s) ≡ m ∷ ms = sym (messages-on s f) ∙ e in
      let here : front s ≡ m = cc in
      let there : messages_of (drop (size s) s) ≡ ms = cc in
      let i = ih there in
      let run : List (List ℕ) = run_from (q + 1) ms in
      let l : length m ≡ size s = ap length (sym here) ∙ length-take-le (size s) s (fits-sized s f).within in
      let k : ℕ = length (join run) in
      let whole : length (m ++ join run) ≡ size s + k = length-append m (join run) ∙ ap (λ (j : ℕ). j + k) l in
      subst (λ (r : List (List ℕ)). Off r (m ∷ ms) s) (sym (run-yes q m ms n))
      (record {
        front-is =
            ap (λ (j : ℕ). take j s) whole ∙ take-add (size s) k s ∙ ap (λ (x : List ℕ). x ++ take k (drop (size s) s)) here
            ∙ ap (λ (x : List ℕ). m ++ x) i.front-is;
        left_is = ap (λ (j : ℕ). messages_of (drop j s)) whole ∙ ap messages_of (sym (drop-drop k (size s) s)) ∙ i.left_is;
      })

module _ (q : ℕ) (s : List ℕ) where
  pub run-front : take (length (join (run_from q (messages_of s)))) s ≡ join (run_from q (messages_of s))
  run-front = (off (messages_of s) q s refl).front-is

  pub run-left : messages_of (drop (length (join (run_from q (messages_of s)))) s) ≡ drop (length (run_from q (messages_of s))) (messages_of s)
  run-left = (off (messages_of s) q s refl).left_is

  pub run-within : length (join (run_from q (messages_of s))) ≤ length s
  run-within = omega (arith, ap length run-front, length-take (length (join (run_from q (messages_of s)))) s)

-- 3. turns, as many as there are

enough : (n k q : ℕ) (i a : List (List ℕ)) → length i + length a ≤ n → length i + length a ≤ k → turns_from n q i a ≡ turns_from k q i a
unfolding turns_from
enough zero zero q i a h g = refl
enough zero (suc k) q [] [] h g = unfold run_from in refl
enough zero (suc k) q (m ∷ i) a h g = absurd (omega arith)
enough zero (suc k) q [] (m ∷ a) h g = absurd (omega arith)
enough (suc n) zero q [] [] h g = unfold run_from in refl
enough (suc n) zero q (m ∷ i) a h g = absurd (omega arith)
enough (suc n) zero q [] (m ∷ a) h g = absurd (omega arith)
enough (suc n) (suc k) q i a h g = go (which (ltb 0 (length (run_from q i)))) (which (ltb 0 (length (run_from q a)))) (enough n k) where
  go : (ltb 0 (length (run_from q i)) ≡ true) ⊎ (ltb 0 (length (run_from q i)) ≡ false)
      → (ltb 0 (length (run_from q a)) ≡ true) ⊎ (ltb 0 (length (run_from q a)) ≡ false)
      → ((p : ℕ) (x y : List (List ℕ)) → length x + length y ≤ n → length x + length y ≤ k → turns_from n p x y ≡ turns_from k p x y)
      → turns_from (suc n) q i a ≡ turns_from (suc k) q i a
  go (inl e) f ih =
      let some : 0 < length (run_from q i) = ltb-true _ _ e in
      let l = length-drop (length (run_from q i)) i in
      rw (e, ih (q + length (run_from q i)) (drop (length (run_from q i)) i) a (omega (arith, run_short q i)) (omega (arith, run_short q i)))
  go (inr e) (inl f) ih =
      let some : 0 < length (run_from q a) = ltb-true _ _ f in
      let l = length-drop (length (run_from q a)) a in
      rw (e, f, ih (q + length (run_from q a)) i (drop (length (run_from q a)) a) (omega (arith, run_short q a)) (omega (arith, run_short q a)))
  go (inr e) (inr f) ih = rw (e, f)

step-initiator : (n q : ℕ) (i a : List (List ℕ)) → ltb 0 (length (run_from q i)) ≡ true
    → turns_from (suc n) q i a ≡ record { acceptor = false; messages = run_from q i }
    ∷ turns_from n (q + length (run_from q i)) (drop (length (run_from q i)) i) a
unfolding turns_from
step-initiator n q i a e = rw e

step-acceptor : (n q : ℕ) (i a : List (List ℕ)) → ltb 0 (length (run_from q i)) ≡ false → ltb 0 (length (run_from q a)) ≡ true
    → turns_from (suc n) q i a ≡ record { acceptor = true; messages = run_from q a }
    ∷ turns_from n (q + length (run_from q a)) i (drop (length (run_from q a)) a)
unfolding turns_from
step-acceptor n q i a f e = rw (f, e)

some_left_lem : (n q : ℕ) (i a : List (List ℕ)) → length i + length a ≡ n → 0 < n → (k : ℕ) × (n ≡ suc k)
some_left_lem zero q i a e h = absurd (omega arith)
some_left_lem (suc k) q i a e h = (k, refl)

module _ (q : ℕ) (i a : List (List ℕ)) where
  pub turns-initiator : 0 < length (run_from q i) → turns_left q i a ≡ record { acceptor = false; messages = run_from q i }
      ∷ turns_left (q + length (run_from q i)) (drop (length (run_from q i)) i) a
  turns-initiator h =
      let z = some_left_lem (length i + length a) q i a refl (omega (arith, run_short q i)) in
      let e : ltb 0 (length (run_from q i)) ≡ true = lt-ltb 0 _ h in
      let k = z.1 in
      let l = length-drop (length (run_from q i)) i in
      ap (λ (n : ℕ). turns_from n q i a) z.1 ∙ step-initiator z.0 q i a e
      ∙ (ap (λ (ts : List Turn). record { acceptor = false; messages = run_from q i } ∷ ts)
      (enough z.0 (length (drop (length (run_from q i)) i) + length a) (q + length (run_from q i)) (drop (length (run_from q i)) i) a
      (omega (arith, run_short q i)) (omega arith)))

  pub turns-acceptor : length (run_from q i) ≤ 0 → 0 < length (run_from q a)
      → turns_left q i a ≡ record { acceptor = true; messages = run_from q a } ∷ turns_left (q + length (run_from q a)) i (drop (length (run_from q a)) a)
  turns-acceptor none h =
      let z = some_left_lem (length i + length a) q i a refl (omega (arith, run_short q a)) in
      let f : ltb 0 (length (run_from q i)) ≡ false = le-ltb 0 _ none in
      let e : ltb 0 (length (run_from q a)) ≡ true = lt-ltb 0 _ h in
      let k = z.1 in
      let l = length-drop (length (run_from q a)) a in
      ap (λ (n : ℕ). turns_from n q i a) z.1 ∙ step-acceptor z.0 q i a f e
      ∙ (ap (λ (ts : List Turn). record { acceptor = true; messages = run_from q a } ∷ ts)
      (enough z.0 (length i + length (drop (length (run_from q a)) a)) (q + length (run_from q a)) i (drop (length (run_from q a)) a)
      (omega (arith, run_short q a)) (omega arith)))

  pub turns-none : length (run_from q i) ≤ 0 → length (run_from q a) ≤ 0 → turns_left q i a ≡ []
  turns-none f g = go (length i + length a) where
    go : (n : ℕ) → turns_from n q i a ≡ []
    go zero = unfold turns_from in refl
    go (suc n) = unfold turns_from in rw (le-ltb 0 _ f, le-ltb 0 _ g)

-- 4. what the next turn's answer says

pub data Says (q : ℕ) (i a : List ℕ) (n : Next) : Type 0 where
  initiators : 0 < length (run_from q (messages_of i)) → n.acceptors ≡ false → n.initiator ≡ length (join (run_from q (messages_of i)))
      → n.acceptor ≡ 0 → n.messages ≡ length (run_from q (messages_of i)) → Says q i a n
  acceptors : length (run_from q (messages_of i)) ≤ 0 → 0 < length (run_from q (messages_of a)) → n.acceptors ≡ true → n.initiator ≡ 0
      → n.acceptor ≡ length (join (run_from q (messages_of a))) → n.messages ≡ length (run_from q (messages_of a)) → Says q i a n

module _ (q : ℕ) (i a : List ℕ) where
  by-initiator : ltb 0 (length (run_from q (messages_of i))) ≡ true → next_in q i a ≡ Some (next_by false (ran_in q i))
  unfolding next_in ran_in
  by-initiator e = rw e

  by-acceptor : ltb 0 (length (run_from q (messages_of i))) ≡ false → ltb 0 (length (run_from q (messages_of a))) ≡ true
      → next_in q i a ≡ Some (next_by true (ran_in q a))
  unfolding next_in ran_in
  by-acceptor e f = rw (e, f)

  by-none : ltb 0 (length (run_from q (messages_of i))) ≡ false → ltb 0 (length (run_from q (messages_of a))) ≡ false → next_in q i a ≡ None
  unfolding next_in ran_in
  by-none e f = rw (e, f)

  pub says : (n : Next) → Some n ≡ next_in q i a → Says q i a n
  unfolding ran_in
  says n n-is = go (which (ltb 0 (length (run_from q (messages_of i))))) (which (ltb 0 (length (run_from q (messages_of a))))) where
    go : (ltb 0 (length (run_from q (messages_of i))) ≡ true) ⊎ (ltb 0 (length (run_from q (messages_of i))) ≡ false)
        → (ltb 0 (length (run_from q (messages_of a))) ≡ true) ⊎ (ltb 0 (length (run_from q (messages_of a))) ≡ false) → Says q i a n
    go (inl e) f =
        let z : n ≡ next_by false (ran_in q i) = same_Some n (next_by false (ran_in q i)) (n-is ∙ by-initiator e) in
        initiators (ltb-true _ _ e) (ap (λ (x : Next). x.acceptors) z) (ap (λ (x : Next). x.initiator) z) (ap (λ (x : Next). x.acceptor) z)
        (ap (λ (x : Next). x.messages) z)
    go (inr e) (inl f) =
        let z : n ≡ next_by true (ran_in q a) = same_Some n (next_by true (ran_in q a)) (n-is ∙ by-acceptor e f) in
        acceptors (ltb-false _ _ e) (ltb-true _ _ f) (ap (λ (x : Next). x.acceptors) z) (ap (λ (x : Next). x.initiator) z) (ap (λ (x : Next). x.acceptor) z)
        (ap (λ (x : Next). x.messages) z)
    go (inr e) (inr f) = absurd (none-some n (sym (n-is ∙ by-none e f)))

  pub says-none : None ≡ next_in q i a → (length (run_from q (messages_of i)) ≤ 0) × (length (run_from q (messages_of a)) ≤ 0)
  says-none n-is = go (which (ltb 0 (length (run_from q (messages_of i))))) (which (ltb 0 (length (run_from q (messages_of a))))) where
    go : (ltb 0 (length (run_from q (messages_of i))) ≡ true) ⊎ (ltb 0 (length (run_from q (messages_of i))) ≡ false)
        → (ltb 0 (length (run_from q (messages_of a))) ≡ true) ⊎ (ltb 0 (length (run_from q (messages_of a))) ≡ false)
        → (length (run_from q (messages_of i)) ≤ 0) × (length (run_from q (messages_of a)) ≤ 0)
    go (inl e) f = absurd (none-some (next_by false (ran_in q i)) (n-is ∙ by-initiator e))
    go (inr e) (inl f) = absurd (none-some (next_by true (ran_in q a)) (n-is ∙ by-acceptor e f))
    go (inr e) (inr f) = (ltb-false _ _ e, ltb-false _ _ f)

-- 5. the loop: what is left of both files, and the number of the next message

pub record RowOn (i a i-left a-left : List ℕ) (number : ℕ) : Type 0 where
  pub short_i : length i-left ≤ 65535
  pub short_a : length a-left ≤ 65535
  pub few : number + length i-left + length a-left ≤ 131070
  pub come : together (turns_of (messages_of i) (messages_of a)) ≡ number + together (turns_left number (messages_of i-left) (messages_of a-left))

pub row-begins : (i a : List ℕ) → (length i ≤ 65535) × (length a ≤ 65535) → RowOn i a i a 0
row-begins i a h = record { short_i = h.0; short_a = h.1; few = omega arith; come = omega arith }

module _ (i a i-left a-left : List ℕ) (number : ℕ) (on : RowOn i a i-left a-left number) where
  pub row-short : (length i-left ≤ 65535) × (length a-left ≤ 65535)
  row-short = (on.short_i, on.short_a)

  pub row_ends : None ≡ next_in number i-left a-left → (all : ℕ)
      → eqb number all ≡ eqb (together (turns_of (messages_of i) (messages_of a))) all
  row_ends e all = ap (λ (k : ℕ). eqb k all) (over (turns-none number (messages_of i-left) (messages_of a-left) none.0 none.1)) where
    none : (length (run_from number (messages_of i-left)) ≤ 0) × (length (run_from number (messages_of a-left)) ≤ 0)
    none = says-none number i-left a-left e

    over : turns_left number (messages_of i-left) (messages_of a-left) ≡ [] → number ≡ together (turns_of (messages_of i) (messages_of a))
    over z =
        unfold together in
        (let y : together (turns_left number (messages_of i-left) (messages_of a-left)) ≡ 0 = ap together z in omega (arith, on.come))

  module _ (n : Next) (n-is : Some n ≡ next_in number i-left a-left) where
    abbrev ri : List (List ℕ)
    ri = run_from number (messages_of i-left)

    abbrev ra : List (List ℕ)
    ra = run_from number (messages_of a-left)

    abbrev Said : Type 0
    Said = Says number i-left a-left n

    said : Said
    said = says number i-left a-left n n-is

    pub row-within-i : n.initiator ≤ length i-left
    row-within-i = go said where
      go : Said → n.initiator ≤ length i-left
      go (initiators s r o p m) = omega (arith, run-within number i-left)
      go (acceptors s f r o p m) = omega arith

    pub row-within-a : n.acceptor ≤ length a-left
    row-within-a = go said where
      go : Said → n.acceptor ≤ length a-left
      go (initiators s r o p m) = omega arith
      go (acceptors s f r o p m) = omega (arith, run-within number a-left)

    abbrev i-next : List ℕ
    i-next = take (length i-left - n.initiator) (drop n.initiator i-left)

    abbrev a-next : List ℕ
    a-next = take (length a-left - n.acceptor) (drop n.acceptor a-left)

    i-length : length i-next ≡ length i-left - n.initiator
    i-length = ap length (tail_all i-left n.initiator) ∙ length-drop n.initiator i-left

    a-length : length a-next ≡ length a-left - n.acceptor
    a-length = ap length (tail_all a-left n.acceptor) ∙ length-drop n.acceptor a-left

    counted : (x : Bool) (ms : List (List ℕ)) (ts : List Turn)
        → number + together (record { acceptor = x; messages = ms } ∷ ts) ≡ number + length ms + together ts
    unfolding together
    counted x ms ts = omega arith

    some : 0 < n.messages
    some = go said where
      go : Said → 0 < n.messages
      go (initiators s r o p m) = omega arith
      go (acceptors s f r o p m) = omega arith

    -- each message has octets
    octets-there : n.messages ≤ n.initiator + n.acceptor
    octets-there = go said where
      go : Said → n.messages ≤ n.initiator + n.acceptor
      go (initiators s r o p m) = omega (arith, run-octets number i-left)
      go (acceptors s f r o p m) = omega (arith, run-octets number a-left)

    pub row_number : number + n.messages < 4294967296
    row_number = omega (arith, on.few, octets-there, row-within-i, row-within-a)

    pub row-less : length i-next + length a-next < length i-left + length a-left
    row-less = omega (arith, some, i-length, a-length, octets-there, row-within-i, row-within-a)

    pub row_on : RowOn i a i-next a-next (number + n.messages)
    row_on = record {
      short_i = omega (arith, i-length, on.short_i);
      short_a = omega (arith, a-length, on.short_a);
      few = omega (arith, i-length, a-length, on.few, octets-there, row-within-i, row-within-a);
      come = on.come ∙ go said;
    } where
      all-i : n.initiator ≡ 0 → messages_of i-next ≡ messages_of i-left
      all-i z = ap messages_of (tail_all i-left n.initiator) ∙ ap (λ (k : ℕ). messages_of (drop k i-left)) z

      all-a : n.acceptor ≡ 0 → messages_of a-next ≡ messages_of a-left
      all-a z = ap messages_of (tail_all a-left n.acceptor) ∙ ap (λ (k : ℕ). messages_of (drop k a-left)) z

      off-i : n.initiator ≡ length (join ri) → messages_of i-next ≡ drop (length ri) (messages_of i-left)
      off-i z = ap messages_of (tail_all i-left n.initiator) ∙ ap (λ (k : ℕ). messages_of (drop k i-left)) z ∙ run-left number i-left

      off-a : n.acceptor ≡ length (join ra) → messages_of a-next ≡ drop (length ra) (messages_of a-left)
      off-a z = ap messages_of (tail_all a-left n.acceptor) ∙ ap (λ (k : ℕ). messages_of (drop k a-left)) z ∙ run-left number a-left

      there : (k : ℕ) (x y : List (List ℕ)) → n.messages ≡ k → messages_of i-next ≡ x → messages_of a-next ≡ y
          → number + k + together (turns_left (number + k) x y)
          ≡ number + n.messages + together (turns_left (number + n.messages) (messages_of i-next) (messages_of a-next))
      there k x y e f g =
          ap (λ (j : ℕ). number + j + together (turns_left (number + j) x y)) (sym e)
          ∙ ap (λ (l : List (List ℕ)). number + n.messages + together (turns_left (number + n.messages) l y)) (sym f)
          ∙ ap (λ (l : List (List ℕ)). number + n.messages + together (turns_left (number + n.messages) (messages_of i-next) l)) (sym g)

      go : Said → number + together (turns_left number (messages_of i-left) (messages_of a-left))
          ≡ number + n.messages + together (turns_left (number + n.messages) (messages_of i-next) (messages_of a-next))
      go (initiators s r o p m) =
          ap (λ (ts : List Turn). number + together ts) (turns-initiator number (messages_of i-left) (messages_of a-left) s)
          ∙ counted false ri (turns_left (number + length ri) (drop (length ri) (messages_of i-left)) (messages_of a-left))
          ∙ there (length ri) (drop (length ri) (messages_of i-left)) (messages_of a-left) m (off-i o) (all-a p)
      go (acceptors s f r o p m) =
          ap (λ (ts : List Turn). number + together ts) (turns-acceptor number (messages_of i-left) (messages_of a-left) s f)
          ∙ counted true ra (turns_left (number + length ra) (messages_of i-left) (drop (length ra) (messages_of a-left)))
          ∙ there (length ra) (messages_of i-left) (drop (length ra) (messages_of a-left)) m (all-i o) (off-a p)

pub ruleset rows = (row-begins, row-short, row_ends, row_number, row-within-i, row-within-a, row-less, row_on)
