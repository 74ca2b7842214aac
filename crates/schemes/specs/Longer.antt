-- A longer offer: what may change from one conversation to another, and what then holds of the choice. Demand 3, on lists.
--
-- Glossary
--   Within l k   l is k with some schemes left out: nothing lost, nothing reordered
--   Longer       the acceptor's list gains schemes; the initiator's gains some and may be reordered
--   SameMarks    the marks m' by the list own' are, for the schemes that both ends listed before, the marks m by the list own
--   NoLater      the choice c' stands no later than c in the new acceptor's list; if it is another, not both old lists had it
--   LongerOffer  demand 3 on lists: behind a longer offer with the same marks, what rule 2 chooses stands no later
use Rattle.std.specs.Prelude.{ℕ, ◌≤◌, ◌≡◌, true, List, [], ◌∷◌}
use Rattle.std.proofs.Math.Option.{some}
use Rattle.schemes.specs.Lists.{Id, mem, place, distinct, marked, rule2}

pub data Within : List Id → List Id → Type 0 where
  none_left : Within [] []
  kept : {x : Id} {l k : List Id} → Within l k → Within (x ∷ l) (x ∷ k)
  gained : {x : Id} {l k : List Id} → Within l k → Within l (x ∷ k)

pub record Longer (acceptor initiator acceptor' initiator' : List Id) : Type 0 where
  pub in_order : Within acceptor acceptor'
  pub gains : (s : Id) → mem s initiator ≡ true → mem s initiator' ≡ true

abbrev pub SameMarks : List Id → List Id → List Id → ℕ → List Id → ℕ → Type 0
SameMarks acceptor initiator own m own' m' =
    (s : Id) → mem s acceptor ≡ true → mem s initiator ≡ true → marked own' m' s ≡ marked own m s

pub record NoLater (acceptor initiator acceptor' : List Id) (c c' : Id) : Type 0 where
  pub no_later : place acceptor' c' ≤ place acceptor' c
  pub new : (c' ≡ c → ⊥) → mem c' acceptor ≡ true → mem c' initiator ≡ true → ⊥

-- demand 3, "A longer offer never loses a choice", where both conversations have one
abbrev pub LongerOffer : Type 0
LongerOffer =
    (acceptor initiator acceptor' initiator' : List Id) → Longer acceptor initiator acceptor' initiator' → distinct acceptor' ≡ true
    → (ma mi : ℕ) (c : Id) → rule2 acceptor initiator ma mi ≡ some c
    → (ma' mi' : ℕ) → SameMarks acceptor initiator acceptor ma acceptor' ma' → SameMarks acceptor initiator initiator mi initiator' mi'
    → (c' : Id) → rule2 acceptor' initiator' ma' mi' ≡ some c' → NoLater acceptor initiator acceptor' c c'
