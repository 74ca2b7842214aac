-- What the functions of src/ answer and ask, beside the definitions of a conversation.
--
-- Glossary
--   listed_in t  the octets of the schemes that the NEGO at the front of the token t lists
--   admitted     what an answer of src/ says of a message
use Rattle.std.specs.Prelude.{ℕ, List, Result, Ok, Err}
use Rattle.refusal.specs.declared.Refusal.{Refusal}
use Rattle.refusal.specs.Refusals.{number_of}
use Rattle.vector.specs.Vector.{shown}
use Rattle.message.specs.Layout.{front, scheme_vector}
use Rattle.conversation.specs.declared.Scan.{Scan}
use Rattle.conversation.specs.Admitting.{Admitted, on, stop}

abbrev pub listed_in : List ℕ → List ℕ
listed_in t = shown 96 (front t) (scheme_vector (front t))

abbrev pub admitted : Result Scan Refusal → Admitted
admitted (Ok c) = on c
admitted (Err e) = stop (number_of e)
