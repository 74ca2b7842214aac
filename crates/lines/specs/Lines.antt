-- The lines of one message, and the last line of a listing. Document 01, "The listing". A line is the list of its pieces of text, in order.
--
-- Glossary
--   message_line p h    a message's own line: its place in the token and its header's fields; lengths: the last two of these
--   scheme_line k i     a scheme: its place in the list, and its id
--   span v              where a vector of octets lies, as its offset and length are stored
--   extension_line k e  an extension; exchange_line, checksum_line, error_line, alert_line: what the other contents hold beside schemes
--   numbered f xs       a line f for each of xs, with its place in the list; numbered_from: where the first has another place
--   content_lines m c   the lines of the content c of the message m
--   message_lines p m   all lines of the message m at the place p
--   end_line n k        the last line of an accepted token of n messages and k octets; refused_line n p: the only line of a refused one
use Rattle.std.specs.Prelude.{ℕ, ◌+◌, List, [], ◌∷◌, ◌++◌}
use Rattle.octets.specs.Octets.{signed32}
use Rattle.vector.specs.declared.Vector.{Vector}
use Rattle.vector.specs.Vector.{part}
use Rattle.message.specs.Layout.{Head, head_of, shape_of, Element, Content, Nego, Exchange, Verify, Alert, content_of}
use Rattle.message.specs.Show.{ids_of}
use Rattle.text.specs.Text.{quoted, decimal, decimal64, signed, id_text}

-- the header's length and the message's
unfoldable pub lengths : Head → List (List ℕ)
lengths h = quoted " header=" ∷ decimal h.header ∷ quoted " length=" ∷ decimal h.length ∷ quoted "\n" ∷ []

-- "`at` on a message is its token place"; "A message line's other fields are its header's"
unfoldable pub message_line : ℕ → Head → List (List ℕ)
message_line place h =
    quoted "message at=" ∷ decimal64 place
    ∷ quoted " seq=" ∷ decimal h.sequence
    ∷ quoted " type=" ∷ decimal h.kind
    ∷ lengths h

-- "the number after `scheme`, `extension` and `alert` is the place in its list, from 0 (0 for a message's only scheme)"
unfoldable pub scheme_line : ℕ → List ℕ → List (List ℕ)
scheme_line k id = (quoted "scheme " ∷ decimal64 k ∷ quoted " " ∷ []) ++ (id_text id ++ (quoted "\n" ∷ []))

-- "elsewhere the stored offset"
unfoldable pub span : Vector → List (List ℕ)
span v = quoted " at=" ∷ decimal v.offset.0 ∷ quoted " length=" ∷ decimal v.count ∷ quoted "\n" ∷ []

-- "T and E signed, but alert T unsigned"
unfoldable pub extension_line : ℕ → Element → List (List ℕ)
extension_line k e = (quoted "extension " ∷ decimal64 k ∷ quoted " type=" ∷ []) ++ (signed (signed32 e.type) ++ span e.value)

unfoldable pub exchange_line : Vector → List (List ℕ)
exchange_line v = quoted "exchange" ∷ span v

unfoldable pub checksum_line : ℕ → Vector → List (List ℕ)
checksum_line type v = (quoted "checksum type=" ∷ []) ++ (signed (signed32 type) ++ span v)

unfoldable pub error_line : ℕ → List (List ℕ)
error_line code = (quoted "error code=" ∷ []) ++ (signed (signed32 code) ++ (quoted "\n" ∷ []))

unfoldable pub alert_line : ℕ → Element → List (List ℕ)
alert_line k e = quoted "alert " ∷ decimal64 k ∷ quoted " type=" ∷ decimal e.type ∷ span e.value

-- the first of the list has the place k
unfoldable pub numbered_from : {A : Type 0} → (ℕ → A → List (List ℕ)) → ℕ → List A → List (List (List ℕ))
numbered_from f k [] = []
numbered_from f k (x ∷ xs) = f k x ∷ numbered_from f (k + 1) xs

abbrev pub numbered : {A : Type 0} → (ℕ → A → List (List ℕ)) → List A → List (List (List ℕ))
numbered f xs = numbered_from f 0 xs

-- schemes first; then what "follow[s] the scheme lines"
abbrev pub content_lines : List ℕ → Content → List (List (List ℕ))
content_lines m (Nego random version schemes extensions elements) = numbered scheme_line (ids_of (part m schemes)) ++ numbered extension_line elements
content_lines m (Exchange scheme value) = scheme_line 0 scheme ∷ exchange_line value ∷ []
content_lines m (Verify scheme headerLength checksumScheme type value) = scheme_line 0 scheme ∷ checksum_line type value ∷ []
content_lines m (Alert scheme code alerts elements) = scheme_line 0 scheme ∷ error_line code ∷ numbered alert_line elements

unfoldable pub message_lines : ℕ → List ℕ → List (List (List ℕ))
message_lines place m = message_line place (head_of m) ∷ content_lines m (content_of (shape_of (head_of m).kind) m)

-- "the last line has the number of messages and the file's length"
unfoldable pub end_line : ℕ → ℕ → List (List ℕ)
end_line n octets = quoted "end messages=" ∷ decimal n ∷ quoted " octets=" ∷ decimal64 octets ∷ quoted "\n" ∷ []

-- "On refusal the only line is `refused N at=P`"
unfoldable pub refused_line : ℕ → ℕ → List (List ℕ)
refused_line n place = quoted "refused " ∷ decimal n ∷ quoted " at=" ∷ decimal64 place ∷ quoted "\n" ∷ []
