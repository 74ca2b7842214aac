-- What the private functions promise. No contract of a public function speaks of these.
--
-- Glossary
--   counted s     the lines that count of the text s
--   NextLine s r  r is the first of them and the text behind it, or none
--   FourLines s r  r are all of them, where they are four, or none
--   IsName n r    r is the name n, or none where that is empty
use Rattle.std.specs.Prelude.{ℕ, ◌≡◌, true, false, List, [], ◌∷◌, length, Option, MatchOption}
use denote.Ref.{Bor}
use Rattle.replay_case.specs.Case.{text_lines, counted_lines, has_name}

abbrev pub counted : List ℕ → List (List ℕ)
counted s = counted_lines (text_lines s)

abbrev pub NextLine : List ℕ → Option (Bor (List ℕ) × Bor (List ℕ)) → Type 0
NextLine s r = MatchOption r (counted s ≡ []) (λ p. counted s ≡ p.0.now ∷ counted p.1.now)

abbrev pub FourLines : List ℕ → Option (Bor (List ℕ) × Bor (List ℕ) × Bor (List ℕ) × Bor (List ℕ)) → Type 0
FourLines s r = MatchOption r (length (counted s) ≡ 4 → ⊥) (λ p. counted s ≡ p.0.now ∷ p.1.now ∷ p.2.now ∷ p.3.now ∷ [])

abbrev pub IsName : List ℕ → Option (Bor (List ℕ)) → Type 0
IsName n r = MatchOption r (has_name n ≡ false) (λ x. (x.now ≡ n) × (has_name n ≡ true))
