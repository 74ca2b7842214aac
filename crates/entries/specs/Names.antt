-- What an entry is of, by number. crates/host/negoex.h has the same names and numbers.
--
-- Glossary
--   MESSAGE          a message
--   SIGNATURE, TYPE, SEQUENCE, HEADER-LENGTH, MESSAGE-LENGTH, CONVERSATION   the fields of the common header
--   RANDOM, VERSION, SCHEME-VECTOR, EXTENSION-VECTOR   the fields of a NEGO's header; a vector's field is its offset with its count or length
--   SCHEME           the scheme of a message that is no NEGO, and each id that a NEGO lists
--   EXCHANGE-VECTOR  the field of an exchange's or metadata's vector
--   CHECKSUM-HEADER, CHECKSUM-SCHEME, CHECKSUM-TYPE, CHECKSUM-VECTOR   the fields of a VERIFY's header
--   ERROR-CODE, ALERT-VECTOR   the fields of an ALERT's header
--   PAD              a pad
--   SCHEMES, EXTENSIONS, EXTENSION-VALUE, EXCHANGE, CHECKSUM-VALUE, ALERTS, ALERT-VALUE   the octets that a vector points at
--   EXTENSION-TYPE, EXTENSION-VALUE-VECTOR   the fields of an extension; ALERT-TYPE, ALERT-VALUE-VECTOR: of an alert
use Rattle.std.specs.Prelude.{ℕ}

abbrev pub MESSAGE : ℕ
MESSAGE = 0

abbrev pub SIGNATURE : ℕ
SIGNATURE = 1

abbrev pub TYPE : ℕ
TYPE = 2

abbrev pub SEQUENCE : ℕ
SEQUENCE = 3

abbrev pub HEADER-LENGTH : ℕ
HEADER-LENGTH = 4

abbrev pub MESSAGE-LENGTH : ℕ
MESSAGE-LENGTH = 5

abbrev pub CONVERSATION : ℕ
CONVERSATION = 6

abbrev pub RANDOM : ℕ
RANDOM = 7

abbrev pub VERSION : ℕ
VERSION = 8

abbrev pub SCHEME-VECTOR : ℕ
SCHEME-VECTOR = 9

abbrev pub EXTENSION-VECTOR : ℕ
EXTENSION-VECTOR = 10

abbrev pub SCHEME : ℕ
SCHEME = 11

abbrev pub EXCHANGE-VECTOR : ℕ
EXCHANGE-VECTOR = 12

abbrev pub CHECKSUM-HEADER : ℕ
CHECKSUM-HEADER = 13

abbrev pub CHECKSUM-SCHEME : ℕ
CHECKSUM-SCHEME = 14

abbrev pub CHECKSUM-TYPE : ℕ
CHECKSUM-TYPE = 15

abbrev pub CHECKSUM-VECTOR : ℕ
CHECKSUM-VECTOR = 16

abbrev pub ERROR-CODE : ℕ
ERROR-CODE = 17

abbrev pub ALERT-VECTOR : ℕ
ALERT-VECTOR = 18

abbrev pub PAD : ℕ
PAD = 19

abbrev pub SCHEMES : ℕ
SCHEMES = 20

abbrev pub EXTENSIONS : ℕ
EXTENSIONS = 21

abbrev pub EXTENSION-VALUE : ℕ
EXTENSION-VALUE = 22

abbrev pub EXCHANGE : ℕ
EXCHANGE = 23

abbrev pub CHECKSUM-VALUE : ℕ
CHECKSUM-VALUE = 24

abbrev pub ALERTS : ℕ
ALERTS = 25

abbrev pub ALERT-VALUE : ℕ
ALERT-VALUE = 26

abbrev pub EXTENSION-TYPE : ℕ
EXTENSION-TYPE = 27

abbrev pub EXTENSION-VALUE-VECTOR : ℕ
EXTENSION-VALUE-VECTOR = 28

abbrev pub ALERT-TYPE : ℕ
ALERT-TYPE = 29

abbrev pub ALERT-VALUE-VECTOR : ℕ
ALERT-VALUE-VECTOR = 30
