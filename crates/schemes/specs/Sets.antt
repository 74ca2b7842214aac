-- The two sets of 16 bits and the initiator's kept places. Document 01, "Who may send what, and when".
--
-- Glossary
--   set_of p l           the set of the places of l with p
--   common_set own peer  the acceptor's common schemes: bit k for place k of the own list
--   left own c m         the own schemes at the bits of c less those of m, in the own order
--   has p ps             the place p is one of ps; noted n p ps: ps, with p behind them where it is one of n and not there yet
--   mentions own l ps    ps, with the own places of the ids of l noted in order
--   kept_places own l    the own places of the reply's different own schemes, in the order of their first mention
--   ones n               the lowest n bits
--   open_places ks c m   the kept places at the bits of c, less those whose own place m marks
--   named own ks         the schemes at places of the own list
--   below n m            the set m has no bit from n on; kept_below: no kept place at a bit of c is n or more
--   pad_to n l           l with zeros behind it, n numbers in all
--   left_in own l m      of the reply l, what the initiator has left by its own list and marks, by way of kept places and sets
--   AcceptorLeft         what the acceptor has left by its sets is the reply's list
--   InitiatorLeft        what the initiator has left of that reply by its sets is what rule 2 has left
use Rattle.std.specs.Prelude.{ℕ, zero, suc, ◌+◌, ◌*◌, ◌-◌, ◌/◌, ◌^◌, ◌≡◌, Bool, true, false, cond, not, ◌&&◌, ◌||◌, List, [], ◌∷◌, ◌++◌, map, length, get_or, replicate, eqb, ltb}
use Rattle.schemes.specs.Lists.{Id, mem, place, distinct, bit, left_over, reply_of}

-- bit k for the k-th of a list, where it has p
unfoldable pub set_of : {A : Type 0} → (A → Bool) → List A → ℕ
set_of p [] = 0
set_of p (x ∷ l) = cond (p x) 1 0 + 2 * set_of p l

-- "and the common schemes: at the acceptor by the same places"
abbrev pub common_set : List Id → List Id → ℕ
common_set own peer = set_of (λ x. mem x peer) own

unfoldable pub left : List Id → ℕ → ℕ → List Id
left [] c m = []
left (x ∷ l) c m = cond (bit c 0 && not (bit m 0)) (x ∷ left l (c / 2) (m / 2)) (left l (c / 2) (m / 2))

-- a place stands among places
unfoldable pub has : ℕ → List ℕ → Bool
has p [] = false
has p (q ∷ qs) = eqb p q || has p qs

-- ps with p at the end, where p is one of n places and not there yet
abbrev pub noted : ℕ → ℕ → List ℕ → List ℕ
noted n p ps = cond (ltb p n && not (has p ps)) (ps ++ (p ∷ [])) ps

-- the places in own of the ids of a list, in the order of their first mention, behind ps
unfoldable pub mentions : List Id → List Id → List ℕ → List ℕ
mentions own [] ps = ps
mentions own (y ∷ ys) ps = mentions own ys (noted (length own) (place own y) ps)

-- "at the initiator bit k for the k-th different own scheme of the reply, whose own places the record keeps in that order"; "A peer's list may be of
-- any length and may repeat a scheme; the first mention counts."
abbrev pub kept_places : List Id → List Id → List ℕ
kept_places own reply = mentions own reply []

unfoldable pub ones : ℕ → ℕ
ones zero = 0
ones (suc n) = 1 + 2 * ones n

unfoldable pub open_places : List ℕ → ℕ → ℕ → List ℕ
open_places [] c m = []
open_places (k ∷ ks) c m = cond (bit c 0 && not (bit m k)) (k ∷ open_places ks (c / 2) m) (open_places ks (c / 2) m)

abbrev pub named : List Id → List ℕ → List Id
named own ks = map (λ k. get_or own k []) ks

-- "a set or a kept or chosen place goes beyond the list"
abbrev pub below : ℕ → ℕ → Bool
below n m = ltb m (2 ^ n)

unfoldable pub kept_below : ℕ → List ℕ → ℕ → Bool
kept_below n [] c = true
kept_below n (k ∷ ks) c = (not (bit c 0) || ltb k n) && kept_below n ks (c / 2)

abbrev pub pad_to : ℕ → List ℕ → List ℕ
pad_to n l = l ++ replicate (n - length l) 0

abbrev pub left_in : List Id → List Id → ℕ → List Id
left_in own reply m = named own (open_places (pad_to 16 (kept_places own reply)) (ones (length (kept_places own reply))) m)

-- "the acceptor into its own the common schemes less its marks, in its own order"
abbrev pub AcceptorLeft : Type 0
AcceptorLeft =
    (acceptor initiator : List Id) (m : ℕ) → distinct acceptor ≡ true
    → left acceptor (common_set acceptor initiator) m ≡ reply_of acceptor initiator m

-- "The initiator, given its marks, chooses the first scheme of the reply that it lists and hasn't marked."
abbrev pub InitiatorLeft : Type 0
InitiatorLeft =
    (acceptor initiator : List Id) (ma : ℕ) → distinct acceptor ≡ true
    → (mi : ℕ) → left_in initiator (reply_of acceptor initiator ma) mi ≡ left_over acceptor initiator ma mi
