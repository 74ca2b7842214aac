-- The envelope written into a lent buffer. Request C-16: "writing: 20, 23, 1, 16".
--
-- Glossary
--   Outcome       what a writer leaves: the number of octets and the buffer, or a refusal and the buffer
--   storing d e   the outcome of writing e into d, from its first octet on
--   storing_init  the same of an Init, whose mechanisms are given as sizes and joined octets
--   told r d      of an answer of src/ that leaves the buffer d
use Rattle.std.specs.Prelude.{ℕ, Bool, cond, List, length, leb, eqb, Result, Ok, Err}
use Rattle.refusal.specs.declared.Refusal.{Refusal}
use Rattle.refusal.specs.Refusals.{number_of}
use Rattle.put.specs.Put.{put}
use Rattle.envelope.specs.Envelope.{Envelope, encoded, fine, few}
use Rattle.envelope_write.specs.Given.{sum_of, init_given}

pub data Outcome : Type 0 where
  stored : (size : ℕ) (octets : List ℕ) → Outcome
  unstored : (number : ℕ) (octets : List ℕ) → Outcome

abbrev pub told : Result ℕ Refusal → List ℕ → Outcome
told (Ok n) d = stored n d
told (Err e) d = unstored (number_of e) d

unfoldable pub storing : List ℕ → Envelope → Outcome
storing d e =
    cond (fine e)
    (cond (few e)
    (cond (leb (length (encoded e)) 65535)
    (cond (leb (length (encoded e)) (length d))
    (stored (length (encoded e)) (put d 0 (encoded e)))
    (unstored 16 d))
    (unstored 1 d))
    (unstored 23 d))
    (unstored 20 d)

-- sizes that don't sum to the joined octets name no mechanisms: 20
unfoldable pub storing_init : List ℕ → List ℕ → List ℕ → Bool → List ℕ → Bool → List ℕ → Bool → List ℕ → Outcome
storing_init d sizes octets bf f bt t bk k =
    cond (eqb (length octets) (sum_of sizes)) (storing d (init_given sizes octets bf f bt t bk k)) (unstored 20 d)
