-- The parts of an envelope, as octets of the buffer. Request C-16: "handed back .. as part of the caller's buffer".
--
-- Glossary
--   Section            a part of the buffer, as src/ gives it
--   octets_in s f      the octets of a field in the buffer s, nothing where it is absent
--   shown_of g f       what f makes of an element that was read, nothing where it is refused
--   identifier_of k v  identifier k of the contents v of a list, nothing where there is none
--   mechanism_of k v   the same of a list that has at most 65,535 octets
--   is_negoex v        the contents v are NEGOEX's identifier
use Rattle.std.specs.Prelude.{ℕ, zero, suc, Bool, cond, List, [], length, leb, Option, Some, None}
use Rattle.octets.specs.Octets.{same_octets}
use Rattle.der.specs.Got.{Got, ok, no}
use Rattle.der.specs.Element.{Part, cut, any}
use Rattle.der.specs.Holder.{octets_at}
use Rattle.der.specs.declared.Part.{Part as Section}
use Rattle.envelope.specs.Envelope.{negoex}

abbrev pub octets_in : List ℕ → Option Section → List ℕ
octets_in s (Some f) = octets_at s f
octets_in s None = []

abbrev pub shown_of : Got (Part (List ℕ)) → (Part (List ℕ) → List ℕ) → List ℕ
shown_of (ok q) f = f q
shown_of (no n) f = []

unfoldable pub identifier_of : ℕ → List ℕ → List ℕ
identifier_of zero v = shown_of (cut 0x06 any v) (λ q. q.value)
identifier_of (suc k) v = shown_of (cut 0x06 any v) (λ q. identifier_of k q.rest)

unfoldable pub mechanism_of : ℕ → List ℕ → List ℕ
mechanism_of k v = cond (leb (length v) 65535) (identifier_of k v) []

abbrev pub is_negoex : List ℕ → Bool
is_negoex v = same_octets v negoex
