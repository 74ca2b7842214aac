-- From a token to its messages. Document 01, "Who may send what, and when": "A token is one or more messages of one end, joined."
--
-- Glossary
--   messages_of r    the messages of a reading that accepts, none of one that refuses
--   Accepts s        the structural reading accepts s
--   has_message s k  the token s is accepted and has a message with the index k, from 0
--   message_at s k   that message, with its place; nothing, at place 0, where there is none
use Rattle.std.specs.Prelude.{ℕ, ◌≡◌, Bool, List, [], length, get_or, ltb}
use Rattle.token.specs.Token.{Placed, Reading, Accepted, Refused, token_of}

abbrev pub messages_of : Reading → List Placed
messages_of (Accepted ms) = ms
messages_of (Refused n place) = []

abbrev pub Accepts : List ℕ → Type 0
Accepts s = token_of s ≡ Accepted (messages_of (token_of s))

abbrev pub has_message : List ℕ → ℕ → Bool
has_message s k = ltb k (length (messages_of (token_of s)))

abbrev pub message_at : List ℕ → ℕ → Placed
message_at s k = get_or (messages_of (token_of s)) k (record { place = 0; octets = [] })
