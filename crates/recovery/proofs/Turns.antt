-- One turn of the reading: a message is taken, or an octet is skipped.
-- Assumes nothing.
use Prim.Native.Nat.{ℕ, zero, suc, ◌+◌, ◌-◌, ◌<◌, ◌≤◌}
use mathlib.Core.Path.{◌≡◌, refl, sym, ap, ◌∙◌}
use mathlib.Core.Bool.{true, false}
use mathlib.Core.List.{List, [], ◌∷◌, ◌++◌}
use native.Mathlib.Omega.{arith}
use lib.ListN.{length, take, drop, length-take, length-drop}
use lib.Seq.{drop-nil, take_at, drop_at, length-take-le}
use Rattle.octets.proofs.Same.{id-refl}
use Rattle.message.specs.Layout.{Head, head_of, size, front}
use Rattle.message.specs.Check.{all_pass, common_rows, front_rows, message_rows}
use Rattle.message.proofs.Headers.{Sized, common-sized}
use Rattle.message.proofs.Tables.{pass-cut, pass-append, giving}
use Rattle.token.specs.Token.{order_rows, next_rows, passes, Placed}
use Rattle.token.specs.Split.{Message}
use Rattle.token.proofs.Cuts.{passes-parts, drop-one, placed}
use Rattle.token.proofs.Splits.{front-message, message-head, message-passes}
use Rattle.recovery.specs.Recovery.{readable, taken_from}
use borrow.Author.Tests.{eq-eqb}

-- a message that is read by itself is read in a token, with its own number and conversation; and the other way round
pub readable-sized : (s : List ℕ) → readable s ≡ true → Sized (length s) (head_of s)
unfolding readable message_rows
readable-sized s e = common-sized (length s) (head_of s) (pass-cut (common_rows (length s) (head_of s)) (front_rows s) e).0

sixteen : (s : List ℕ) → 40 ≤ length s → length (head_of s).conversation ≡ 16
unfolding head_of
sixteen s h = simp (length-take, length-drop) (omega arith)

pub readable-passes : (s : List ℕ) → readable s ≡ true → passes s (head_of s).sequence (head_of s).conversation ≡ true
unfolding readable message_rows next_rows order_rows
readable-passes s e =
    let z = readable-sized s e in
    let (common, body) = pass-cut (common_rows (length s) (head_of s)) (front_rows s) e in
    let order : all_pass (order_rows (head_of s) (head_of s).sequence (head_of s).conversation) ≡ true =
    giving (order_rows (head_of s) (head_of s).sequence (head_of s).conversation)
    (eq-eqb (head_of s).sequence (head_of s).sequence refl, (id-refl (head_of s).conversation (sixteen s z.forty), tt)) in
    pass-append (common_rows (length s) (head_of s)) (order_rows (head_of s) (head_of s).sequence (head_of s).conversation ++ front_rows s) common
    (pass-append (order_rows (head_of s) (head_of s).sequence (head_of s).conversation) (front_rows s) order body)

pub passes-readable : (s : List ℕ) (q : ℕ) (v : List ℕ) → passes s q v ≡ true → readable s ≡ true
unfolding readable message_rows
passes-readable s q v e =
    let p = passes-parts s q v e in
    pass-append (common_rows (length s) (head_of s)) (front_rows s) p.common p.body

pub readable-message : (s : List ℕ) → readable s ≡ true → Message (head_of s).sequence (head_of s).conversation (front s)
readable-message s e = front-message s (head_of s).sequence (head_of s).conversation (readable-passes s e)

-- how much of the octets it is
pub record Front (s : List ℕ) : Type 0 where
  pub some : 64 ≤ size s
  pub within : size s ≤ length s
  pub is : length (front s) ≡ size s

pub readable-front : (s : List ℕ) → readable s ≡ true → Front s
readable-front s e =
    let z = readable-sized s e in
    record { some = omega (arith, z.whole, z.holds); within = z.within; is = length-take-le (size s) s z.within }

-- octets of the message taken before are passed over
pub pass-over : (xs : List ℕ) (k p : ℕ) → taken_from xs k p ≡ taken_from (drop k xs) 0 (p + k)
unfolding taken_from
pass-over [] k p = ap (λ (l : List ℕ). taken_from l 0 (p + k)) (sym (drop-nil k))
pass-over (x ∷ xs) zero p = let e : p ≡ p + 0 = omega arith in ap (taken_from (x ∷ xs) 0) e
pass-over (x ∷ xs) (suc k) p = let e : p + 1 + k ≡ p + suc k = omega arith in pass-over xs k (p + 1) ∙ ap (taken_from (drop k xs) 0) e

module _ (x : ℕ) (xs : List ℕ) (p : ℕ) where
  pub take-first : readable (x ∷ xs) ≡ true → taken_from (x ∷ xs) 0 p ≡ placed p (front (x ∷ xs)) ∷ taken_from xs (size (x ∷ xs) - 1) (p + 1)
  unfolding taken_from
  take-first e = rw e

  pub skip_first : readable (x ∷ xs) ≡ false → taken_from (x ∷ xs) 0 p ≡ taken_from xs 0 (p + 1)
  unfolding taken_from
  skip_first e = rw e

pub turn-take : (s : List ℕ) (p : ℕ) → readable s ≡ true → taken_from s 0 p ≡ placed p (front s) ∷ taken_from (drop (size s) s) 0 (p + size s)
turn-take [] p e = let z = readable-front [] e in absurd (omega (arith, z.some, z.within))
turn-take (x ∷ xs) p e =
    let z = readable-front (x ∷ xs) e in
    let n : p + 1 + (size (x ∷ xs) - 1) ≡ p + size (x ∷ xs) = omega (arith, z.some) in
    take-first x xs p e
    ∙ ap (λ (l : List Placed). placed p (front (x ∷ xs)) ∷ l)
    (pass-over xs (size (x ∷ xs) - 1) (p + 1)
    ∙ ap (λ (l : List ℕ). taken_from l 0 (p + 1 + (size (x ∷ xs) - 1))) (drop-one x xs (size (x ∷ xs)) (omega (arith, z.some)))
    ∙ ap (taken_from (drop (size (x ∷ xs)) (x ∷ xs)) 0) n)

pub turn-skip : (s : List ℕ) (p : ℕ) → 0 < length s → readable s ≡ false → taken_from s 0 p ≡ taken_from (drop 1 s) 0 (p + 1)
turn-skip [] p h e = absurd (omega arith)
turn-skip (x ∷ xs) p h e = skip_first x xs p e

-- a message in front of any octets is taken
pub take-message : (q : ℕ) (v m r : List ℕ) (p : ℕ) → Message q v m → taken_from (m ++ r) 0 p ≡ placed p m ∷ taken_from r 0 (p + length m)
take-message q v m r p e =
    let n : size (m ++ r) ≡ length m = ap (λ (g : Head). g.length) (message-head q v m r e) ∙ e.exact in
    turn-take (m ++ r) p (passes-readable (m ++ r) q v (message-passes q v m r e))
    ∙ ap (λ (k : ℕ). placed p (take k (m ++ r)) ∷ taken_from (drop k (m ++ r)) 0 (p + k)) n
    ∙ ap (λ (l : List ℕ). placed p l ∷ taken_from (drop (length m) (m ++ r)) 0 (p + length m)) (take_at m r (length m) refl)
    ∙ ap (λ (l : List ℕ). placed p m ∷ taken_from l 0 (p + length m)) (drop_at m r (length m) refl)
