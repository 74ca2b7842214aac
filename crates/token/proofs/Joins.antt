-- Tokens joined, and cut at an end of a message.
-- Assumes nothing.
use Prim.Native.Nat.{ℕ, suc, ◌+◌, ◌≤◌}
use mathlib.Core.Path.{◌≡◌, refl, sym, ap, subst, ◌∙◌}
use mathlib.Core.List.{List, [], ◌∷◌, ◌++◌, append_assoc}
use native.Mathlib.Nat.{add-zero}
use native.Mathlib.Omega.{arith}
use lib.ListN.{length, take, drop, length-append}
use lib.Seq.{take_at, drop_at}
use Rattle.message.specs.Layout.{head_of}
use Rattle.token.specs.Token.{Placed, Accepted, token_of}
use Rattle.token.specs.Split.{Numbered, join, placed_from, Split}
use Rattle.token.specs.Joined.{moved, last_of, end_of, JoinedAccepted, CutAccepted}
use Rattle.token.proofs.Splits.{message-order, accepted-splits, numbered-accepted}

pub join-append : (xs ys : List (List ℕ)) → join (xs ++ ys) ≡ join xs ++ join ys
join-append [] ys = refl
join-append (x ∷ xs) ys = ap (λ (l : List ℕ). x ++ l) (join-append xs ys) ∙ sym (append_assoc x (join xs) (join ys))

pub placed-append : (p : ℕ) (xs ys : List (List ℕ)) → placed_from p (xs ++ ys) ≡ placed_from p xs ++ placed_from (p + length (join xs)) ys
placed-append p [] ys = let e : p ≡ p + 0 = omega arith in ap (λ (n : ℕ). placed_from n ys) e
placed-append p (x ∷ xs) ys =
    let e : p + length x + length (join xs) ≡ p + length (x ++ join xs) = omega (arith, length-append x (join xs)) in
    ap (λ (l : List Placed). record { place = p; octets = x } ∷ l)
    (placed-append (p + length x) xs ys ∙ ap (λ (n : ℕ). placed_from (p + length x) xs ++ placed_from n ys) e)

pub placed-moved : (n p : ℕ) (ms : List (List ℕ)) → moved n (placed_from p ms) ≡ placed_from (n + p) ms
placed-moved n p [] = refl
placed-moved n p (m ∷ ms) =
    let e : n + (p + length m) ≡ n + p + length m = omega arith in
    ap (λ (l : List Placed). record { place = n + p; octets = m } ∷ l) (placed-moved n (p + length m) ms ∙ ap (λ (k : ℕ). placed_from k ms) e)

pub numbered-append : (q : ℕ) (v : List ℕ) (xs ys : List (List ℕ)) → Numbered q v xs → Numbered (q + length xs) v ys → Numbered q v (xs ++ ys)
numbered-append q v [] ys e f = subst (λ (n : ℕ). Numbered n v ys) (add-zero q) f
numbered-append q v (x ∷ xs) ys e f =
    let k : q + suc (length xs) ≡ q + 1 + length xs = omega arith in
    (e.0, numbered-append (q + 1) v xs ys e.1 (subst (λ (n : ℕ). Numbered n v ys) k f))

pub numbered-parts : (q : ℕ) (v : List ℕ) (xs ys : List (List ℕ)) → Numbered q v (xs ++ ys) → Numbered q v xs × Numbered (q + length xs) v ys
numbered-parts q v [] ys e = (tt, subst (λ (n : ℕ). Numbered n v ys) (sym (add-zero q)) e)
numbered-parts q v (x ∷ xs) ys e =
    let k : q + 1 + length xs ≡ q + suc (length xs) = omega arith in
    let r = numbered-parts (q + 1) v xs ys e.1 in
    ((e.0, r.0), subst (λ (n : ℕ). Numbered n v ys) k r.1)

-- the last message has the last number
last-number : (p q : ℕ) (v m : List ℕ) (ms : List (List ℕ)) → Numbered q v (m ∷ ms)
    → (head_of (last_of (placed_from p (m ∷ ms))).octets).sequence ≡ q + length ms
last-number p q v m [] e = (message-order q v m e.0).0 ∙ sym (add-zero q)
last-number p q v m (k ∷ ms) e = let a : q + 1 + length ms ≡ q + suc (length ms) = omega arith in last-number (p + length m) (q + 1) v k ms e.1 ∙ a

-- and ends where the messages end
last_end : (p : ℕ) (m : List ℕ) (ms : List (List ℕ)) → end_of (placed_from p (m ∷ ms)) ≡ p + length (join (m ∷ ms))
last_end p m [] = omega (arith, length-append m [])
last_end p m (k ∷ ms) = last_end (p + length m) k ms ∙ omega (arith, length-append m (join (k ∷ ms)))

-- some messages have some octets, so a token has some
some-message : (s : List ℕ) (ms : List (List ℕ)) → Split s ms → ms ≡ [] → ⊥
some-message s ms w e = let z : length (join ms) ≡ 0 = ap (λ (l : List (List ℕ)). length (join l)) e in omega (arith, w.some, ap length w.joins)

pub joined-accepted : JoinedAccepted
joined-accepted s t ps qs a b f short =
    let (ms, (w, p)) = accepted-splits s ps a in
    let (ns, (x, r)) = accepted-splits t qs b in
    go ms w p ns x r where
      go : (ms : List (List ℕ)) → Split s ms → placed_from 0 ms ≡ ps → (ns : List (List ℕ)) → Split t ns → placed_from 0 ns ≡ qs
          → token_of (s ++ t) ≡ Accepted (ps ++ moved (length s) qs)
      go [] w p ns x r = absurd (some-message s [] w refl)
      go (m ∷ ms) w p ns x r =
          let q = (head_of s).sequence in
          let v = (head_of s).conversation in
          let last : (head_of (last_of ps).octets).sequence ≡ q + length ms =
          ap (λ (l : List Placed). (head_of (last_of l).octets).sequence) (sym p) ∙ last-number 0 q v m ms w.numbered in
          let next : (head_of t).sequence ≡ q + length (m ∷ ms) = f.number ∙ omega (arith, last) in
          let behind : Numbered (q + length (m ∷ ms)) v ns =
          subst (λ (k : ℕ). Numbered k v ns) next (subst (λ (c : List ℕ). Numbered (head_of t).sequence c ns) f.conversation x.numbered) in
          let whole : join ((m ∷ ms) ++ ns) ≡ s ++ t =
          join-append (m ∷ ms) ns ∙ ap (λ (l : List ℕ). l ++ join ns) w.joins ∙ ap (λ (l : List ℕ). s ++ l) x.joins in
          let small : length (join ((m ∷ ms) ++ ns)) ≤ 65535 = omega (arith, ap length whole, length-append s t) in
          let n : 0 + length (join (m ∷ ms)) ≡ length s + 0 = omega (arith, ap length w.joins) in
          ap token_of (sym whole)
          ∙ numbered-accepted q v m (ms ++ ns) (numbered-append q v (m ∷ ms) ns w.numbered behind) small
          ∙ ap Accepted
          (placed-append 0 (m ∷ ms) ns
          ∙ ap (λ (l : List Placed). l ++ placed_from (0 + length (join (m ∷ ms))) ns) p
          ∙ ap (λ (l : List Placed). ps ++ l) (ap (λ (k : ℕ). placed_from k ns) n ∙ sym (placed-moved (length s) 0 ns) ∙ ap (moved (length s)) r))

-- a list of placed messages in two parts
record Parted (place : ℕ) (ms : List (List ℕ)) (ps qs : List Placed) : Type 0 where
  before : List (List ℕ)
  behind : List (List ℕ)
  whole : ms ≡ before ++ behind
  first : placed_from place before ≡ ps
  second : placed_from (place + length (join before)) behind ≡ qs

heads : (x y : Placed) (xs ys : List Placed) → x ∷ xs ≡ y ∷ ys → (x ≡ y) × (xs ≡ ys)
heads x y xs ys e = (cc, cc)

parted : (place : ℕ) (ms : List (List ℕ)) (ps qs : List Placed) → placed_from place ms ≡ ps ++ qs → Parted place ms ps qs
parted place ms [] qs e =
    let z : place + 0 ≡ place =
    omega arith in record { before = []; behind = ms; whole = refl; first = refl; second = ap (λ (n : ℕ). placed_from n ms) z ∙ e }
parted place [] (p ∷ ps) qs e = absurd (omega (arith, ap length e))
parted place (m ∷ ms) (p ∷ ps) qs e =
    let same = heads (record { place = place; octets = m }) p (placed_from (place + length m) ms) (ps ++ qs) e in
    let w = parted (place + length m) ms ps qs same.1 in
    let z : place + length (join (m ∷ w.before)) ≡ place + length m + length (join w.before) =
    omega (arith, length-append m (join w.before)) in
    record {
      before = m ∷ w.before;
      behind = w.behind;
      whole = ap (λ (l : List (List ℕ)). m ∷ l) w.whole;
      first = ap (λ (l : List Placed). record { place = place; octets = m } ∷ l) w.first ∙ ap (λ (x : Placed). x ∷ ps) same.0;
      second = ap (λ (n : ℕ). placed_from n w.behind) z ∙ w.second;
    }

pub cut-accepted : CutAccepted
cut-accepted s ps qs a some more =
    let (ms, (w, p)) = accepted-splits s (ps ++ qs) a in
    let d = parted 0 ms ps qs p in
    go d.before d.behind w d.whole d.first d.second where
      go : (xs ys : List (List ℕ)) {ms : List (List ℕ)} → Split s ms → ms ≡ xs ++ ys → placed_from 0 xs ≡ ps
          → placed_from (0 + length (join xs)) ys ≡ qs
          → (token_of (take (end_of ps) s) ≡ Accepted ps)
          × ((rs : List Placed) × ((token_of (drop (end_of ps) s) ≡ Accepted rs) × (moved (end_of ps) rs ≡ qs)))
      go [] ys w e f g = absurd (omega (arith, ap length f))
      go (x ∷ xs) [] w e f g = absurd (omega (arith, ap length g))
      go (x ∷ xs) (y ∷ ys) {ms} w e f g =
          let q = (head_of s).sequence in
          let v = (head_of s).conversation in
          let n = numbered-parts q v (x ∷ xs) (y ∷ ys) (subst (Numbered q v) e w.numbered) in
          let joins : join (x ∷ xs) ++ join (y ∷ ys) ≡ s = sym (join-append (x ∷ xs) (y ∷ ys)) ∙ ap join (sym e) ∙ w.joins in
          let end : end_of ps ≡ length (join (x ∷ xs)) = ap end_of (sym f) ∙ last_end 0 x xs ∙ omega arith in
          let size = length-append (join (x ∷ xs)) (join (y ∷ ys)) in
          let first : join (x ∷ xs) ≡ take (end_of ps) s =
          sym (ap (take (end_of ps)) (sym joins) ∙ take_at (join (x ∷ xs)) (join (y ∷ ys)) (end_of ps) (sym end)) in
          let second : join (y ∷ ys) ≡ drop (end_of ps) s =
          sym (ap (drop (end_of ps)) (sym joins) ∙ drop_at (join (x ∷ xs)) (join (y ∷ ys)) (end_of ps) (sym end)) in
          let z : end_of ps + 0 ≡ 0 + length (join (x ∷ xs)) = omega (arith, end) in (
            ap token_of (sym first) ∙ numbered-accepted q v x xs n.0 (omega (arith, ap length joins, size, w.short)) ∙ ap Accepted f,
            (
              placed_from 0 (y ∷ ys),
              (
                ap token_of (sym second) ∙ numbered-accepted (q + length (x ∷ xs)) v y ys n.1 (omega (arith, ap length joins, size, w.short)),
                placed-moved (end_of ps) 0 (y ∷ ys) ∙ ap (λ (k : ℕ). placed_from k (y ∷ ys)) z ∙ g,
              ),
            ),
          )
