-- Lists of schemes, failure marks, and the choice. Document 01, "Who may send what, and when".
--
-- Glossary
--   Id                 a scheme id: its octets
--   mem s l            l mentions s; place l s: the place of the first mention, from 0, or l's length where there is none
--   distinct l         no scheme stands in l twice
--   keep p l           those of l with p, in l's order; first l: the first of a list of schemes
--   bit m k            bit k of the set m
--   marked own m s     the own list's marks m have s: bit k for place k of the own list
--   usable, left_over  listed by both ends and marked by neither; the acceptor's list, with those only
--   rule2              the choice: the first of them
--   reply_of           the reply's list: the acceptor's list, with the schemes that the initiator lists and the acceptor has not marked
--   one_to16 l         1 to 16 different schemes; whole_ids l: each has 16 octets
--   join_ids l         the octets of the schemes, one behind the other
--   list_ok octets     what 19 asks of an own list, handed over as octets
use Rattle.std.specs.Prelude.{ℕ, zero, suc, ◌/◌, ◌%◌, Bool, true, false, cond, not, ◌&&◌, List, [], ◌∷◌, ◌++◌, length, eqb, leb}
use Rattle.std.proofs.Math.Option.{Option, none, some}
use Rattle.octets.specs.Octets.{same_octets}
use Rattle.message.specs.Show.{ids_of}

abbrev pub Id : Type 0
Id = List ℕ

unfoldable pub mem : Id → List Id → Bool
mem s [] = false
mem s (x ∷ l) = cond (same_octets s x) true (mem s l)

unfoldable pub place : List Id → Id → ℕ
place [] s = 0
place (x ∷ l) s = cond (same_octets s x) 0 (suc (place l s))

unfoldable pub distinct : List Id → Bool
distinct [] = true
distinct (x ∷ l) = not (mem x l) && distinct l

abbrev pub keep : {A : Type 0} → (A → Bool) → List A → List A
keep p [] = []
keep p (x ∷ l) = cond (p x) (x ∷ keep p l) (keep p l)

abbrev pub first : List Id → Option Id
first [] = none
first (x ∷ l) = some x

abbrev pub bit : ℕ → ℕ → Bool
bit m zero = eqb (m % 2) 1
bit m (suc k) = bit (m / 2) k

-- "Two sets of 16 bits hold the failure marks, bit k for place k of the own list"
abbrev pub marked : List Id → ℕ → Id → Bool
marked own m s = bit m (place own s)

abbrev pub usable : List Id → List Id → ℕ → ℕ → Id → Bool
usable acceptor initiator acceptorMarks initiatorMarks s =
    mem s initiator && not (marked acceptor acceptorMarks s) && not (marked initiator initiatorMarks s)

abbrev pub left_over : List Id → List Id → ℕ → ℕ → List Id
left_over acceptor initiator acceptorMarks initiatorMarks = keep (usable acceptor initiator acceptorMarks initiatorMarks) acceptor

-- demand 2: "the first scheme in the acceptor's order that both ends list and neither has marked failed"
abbrev pub rule2 : List Id → List Id → ℕ → ℕ → Option Id
rule2 acceptor initiator acceptorMarks initiatorMarks = first (left_over acceptor initiator acceptorMarks initiatorMarks)

-- "the acceptor into its own the common schemes less its marks, in its own order"
abbrev pub reply_of : List Id → List Id → ℕ → List Id
reply_of acceptor initiator acceptorMarks = keep (λ s. mem s initiator && not (marked acceptor acceptorMarks s)) acceptor

-- "Own lists have 1 to 16 different schemes."
abbrev pub one_to16 : List Id → Bool
one_to16 l = leb 1 (length l) && leb (length l) 16 && distinct l

-- "Scheme and conversation ids are 16 octets"
abbrev pub whole_ids : List Id → Bool
whole_ids [] = true
whole_ids (x ∷ l) = eqb (length x) 16 && whole_ids l

-- the ids, one behind the other
abbrev pub join_ids : List Id → List ℕ
join_ids [] = []
join_ids (x ∷ l) = x ++ join_ids l

-- 19: "own list empty, above 16 or with a repeat"; an own list is handed over as its octets, 16 a scheme
unfoldable pub list_ok : List ℕ → Bool
list_ok octets = eqb (length octets % 16) 0 && one_to16 (ids_of octets)
