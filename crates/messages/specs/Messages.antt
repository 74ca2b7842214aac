-- Going over the messages of a token.
--
-- Glossary
--   Passed   a step past a message: it stands at the front of what was left, with that place, and what is left then is what is behind it
--   Passes   one step over what is left: past the message at its front; none, and as much left, where no message is at the front. The four functions
--            read what is left and its place of the one who goes, and a message's place and octets
use Rattle.std.specs.Prelude.{ℕ, ◌≡◌, ◌≢◌, ◌+◌, List, [], length, drop, Option, MatchOption}
use Rattle.message.specs.Show.{first_of}

pub record Passed (rest : List ℕ) (place at : ℕ) (m rest' : List ℕ) (place' : ℕ) : Type 0 where
  pub stands : at ≡ place
  pub message : m ≡ first_of rest
  pub some : m ≢ []
  pub left : rest' ≡ drop (length m) rest
  pub next : place' ≡ place + length m

module _ {S A : Type 0} (rest : S → List ℕ) (place : S → ℕ) (at : A → ℕ) (octets : A → List ℕ) where
  abbrev pub Passes : S → Option A → S → Type 0
  Passes s r t =
      MatchOption r ((first_of (rest s) ≡ []) × (rest t ≡ rest s)) (λ x. Passed (rest s) (place s) (at x) (octets x) (rest t) (place t))
