-- A line of the text that `wrap` takes. Quotations are README.md's, "What an envelope looks like".
--
-- Glossary
--   Said             what a line says: nonsense, init, resp, a state, or octets of a kind
--   MECHANISM, FLAGS, TOKEN, CHECKSUM   the kinds of octets
--   kind_of k        the number of the kind of octets of a field of src/
--   said_as l d      what an answer of src/ says, whose octets stand at the front of the slice d
--   begins w s       the line s begins with the word w; behind w s: what stands behind it
--   byte n           a number up to 255, as a state; state_said v: what a field N says
--   octets_said k o  octets of the kind k, where they are good
--   line_of s room   what the line s says, where a slice of `room` octets is lent; field_of: a line of octets
use Rattle.std.specs.Prelude.{ℕ, Bool, cond, List, length, take, drop, ltb, Option, Some, None}
use Rattle.octets.specs.Octets.{same_octets}
use Rattle.text.specs.Text.{quoted}
use Rattle.fields.specs.Fields.{Numeral, is, nothing, room_of, Front, front, bad, fit, octets_of}
use Rattle.envelope_script.specs.declared.Line.{Line}
use Rattle.envelope_script.specs.declared.Line.TheVariants as answer
use Rattle.envelope_script.specs.declared.Field.{Field}
use Rattle.envelope_script.specs.declared.Field.TheVariants as field

pub data Said : Type 0 where
  nonsense : Said
  init : Said
  resp : Said
  state : ℕ → Said
  octets : ℕ → List ℕ → Said

abbrev pub MECHANISM : ℕ
MECHANISM = 1

abbrev pub FLAGS : ℕ
FLAGS = 2

abbrev pub TOKEN : ℕ
TOKEN = 3

abbrev pub CHECKSUM : ℕ
CHECKSUM = 4

abbrev pub kind_of : Field → ℕ
kind_of field.Mechanism = MECHANISM
kind_of field.Flags = FLAGS
kind_of field.Token = TOKEN
kind_of field.Checksum = CHECKSUM

abbrev pub said_as : Option Line → List ℕ → Said
said_as None d = nonsense
said_as (Some answer.Init) d = init
said_as (Some answer.Resp) d = resp
said_as (Some (answer.State n)) d = state n
said_as (Some (answer.Octets k n)) d = octets (kind_of k) (take n d)

unfoldable pub begins : List ℕ → List ℕ → Bool
begins w s = same_octets (take (length w) s) w

abbrev pub behind : List ℕ → List ℕ → List ℕ
behind w s = drop (length w) s

-- "one to three decimal digits, at most 255"
abbrev pub byte : Numeral → Said
byte (is n) = cond (ltb 255 n) nonsense (state n)
byte nothing = nonsense

unfoldable pub state_said : List ℕ → Said
state_said v = cond (ltb 3 (length v)) nonsense (byte (room_of v))

abbrev pub octets_said : ℕ → Front → Said
octets_said k (front n o) = octets k o
octets_said k bad = nonsense

-- "`mechanism OCTETS`", "`flags OCTETS`", "`token OCTETS`", "`checksum OCTETS`"
unfoldable pub field_of : List ℕ → ℕ → Said
field_of s room =
    cond (begins (quoted "mechanism ") s) (octets_said MECHANISM (fit room (octets_of (behind (quoted "mechanism ") s))))
    (cond (begins (quoted "flags ") s) (octets_said FLAGS (fit room (octets_of (behind (quoted "flags ") s))))
    (cond (begins (quoted "token ") s) (octets_said TOKEN (fit room (octets_of (behind (quoted "token ") s))))
    (cond (begins (quoted "checksum ") s) (octets_said CHECKSUM (fit room (octets_of (behind (quoted "checksum ") s)))) nonsense)))

-- "`init` or `resp`"; "`state N`"
unfoldable pub line_of : List ℕ → ℕ → Said
line_of s room =
    cond (same_octets s (quoted "init")) init
    (cond (same_octets s (quoted "resp")) resp
    (cond (begins (quoted "state ") s) (state_said (behind (quoted "state ") s)) (field_of s room)))
