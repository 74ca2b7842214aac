-- What one step over a token says in the words of the walk along it. Assumes nothing.
use Rattle.std.proofs.Common.{ℕ, ◌≡◌, ◌<◌, ◌≤◌, List, [], ◌∷◌, length, arith, ap, sym, refl, ◌∙◌}
use Rattle.std.proofs.lemmas.List.{nil_from_length}
use Rattle.octets.proofs.Slices.{tail_all}
use Rattle.message.specs.Show.{first_of}
use Rattle.messages.specs.Messages.{Passed}
use Rattle.messages.proofs.Fronts.{front_within}
use Rattle.token.proofs.Cuts.{behind}
use Rattle.token.proofs.Walks.{Left, Turn, turn}

-- something is left where a message is at the front
pub some_left : (rest m : List ℕ) → m ≡ first_of rest → (m ≡ [] → ⊥) → 0 < length rest
some_left rest m e some = elim rest as (λ r. m ≡ first_of r → 0 < length r) [
  | [] ↦ λ f. absurd (some (f ∙ nil_from_length _ (omega (arith, front_within [] (first_of []) refl))))
  | x ∷ xs ↦ λ _. omega arith
] e

-- what is left behind it
pub left_behind : {rest m rest' : List ℕ} {place at place' : ℕ} → Passed rest place at m rest' place' → rest' ≡ behind rest (length m)
left_behind {rest = rest} {m = m} p = p.left ∙ sym (tail_all rest (length m))

-- no message at the front: nothing is left
pub none_left : (rest : List ℕ) → Left rest → first_of rest ≡ [] → length rest ≤ 0
none_left rest w e = elim rest as (λ r. Left r → first_of r ≡ [] → length r ≤ 0) [
  | [] ↦ λ _ _. omega arith
  | x ∷ xs ↦ λ v f. absurd
      (let t : Turn (x ∷ xs) v (first_of (x ∷ xs)) = turn (x ∷ xs) v (omega arith) (first_of (x ∷ xs)) refl in omega (arith, t.some, ap length f))
] w e
