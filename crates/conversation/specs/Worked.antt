-- Document 01's examples P1 to P13 as one list of cases; a conversation to its end; and demand 3 with longer lists.
--
-- Glossary
--   nego_token       a token of one INITIATOR_NEGO: its length, its scheme and extension vectors, its payload; with_scheme, with_extension: the examples'
--   Extension        an extension as it is shown: its type, and its value's octets; extensions_in m: those of the NEGO m
--   Reads            what the reading of an example says: a refusal, or one NEGO with what is shown of it; reads_as: that of a token
--   scheme n         a scheme; plain: the contents of a NEGO without extensions; nego_with: with some; pulse: an ALERT with a pulse
--   opened           what the examples' runs start with; negotiation: their calls, with the marks of either end
--   Says             what a call answers: its number, its choice and how many were left; says_of: of an entry of a run
--   done, refuses    the answer of a call that is accepted and says no more, and of one that is refused; names: of one that names a choice
--   Case, cases      an example: a token, or the calls of a run, and what it says; all of them
--   Right, AllRight  a case holds; all of a list do
--   Worked           document 01's examples hold
--   longer_lists     a second opening, with longer lists than the first
--   LongerRun        demand 3, for that opening after the first's choice; LongerChoice: what is chosen there
--   conversation     calls of a whole conversation; all_accepted: every entry of a run is accepted
--   WholeConversation   every call of it is accepted; WholeLogs: and each end has all of its messages
--   attempts         choosing calls of each refusal, then one that is accepted; AtOnce: what they answer
--   early            calls in which either end writes a VERIFY before the choice, and tries one after it: with marks of either end, and the content of the
--                    choice
--   EarlyVerify      C-15: what they answer, where the early ones count and where they do not
--   two t            two extensions or alerts, of the types t and 5, the second with an empty value; nine: one more than there may be; octets: the values of
--                    two
--   ordinary, critical, too_many   contents of a NEGO with these: no critical type; the type minus 2, in a test call or not; nine
--   extended         C-22: calls with extensions and alerts, those of each refusal, and test calls; Extended: what they answer
--   read_in_turn     the numbers that an end answers to tokens, read one after the other
--   StaysRejected    C-18, with the examples' tokens
use Rattle.std.specs.Prelude.{ℕ, ◌≡◌, refl, Bool, true, false, ◌&&◌, length, replicate, ℤ, pos, negsuc}
use mathlib.Core.List.{List, [], ◌∷◌, ◌++◌, map, Memᴰ}
use Rattle.octets.specs.Octets.{signed32, same_octets}
use Rattle.vector.specs.Vector.{shown}
use Rattle.message.specs.Layout.{elements_of, extension_vector}
use Rattle.message.specs.Show.{schemes_in}
use Rattle.put.specs.Put.{octets_of, joined}
use Rattle.token.specs.Token.{Reading, Accepted, Refused, token_of}
use Rattle.elements.specs.declared.Elements.{Elements}
use Rattle.elements.specs.Elements.{items_of, no_elements, pulse_value, pulse_elements}
use Rattle.schemes.specs.Lists.{Id, mem, distinct}
use Rattle.conversation.specs.Outcomes.{zero_id}
use Rattle.conversation.specs.Writing.{NegoContent, Speech, request, checksum, alarm}
use Rattle.conversation.specs.Runs.{NegoCall, Call, offer, reply, metadata, speak, read, choose, End, act, moved, Opening, world, Entry, run, is_accepted, NotLost}
use Rattle.conversation.specs.Logs.{logs_of}

abbrev pub nego_token : ℕ → ℕ → ℕ → ℕ → ℕ → List ℕ → List ℕ
nego_token len schemesAt schemes extensionsAt extensions payload =
    joined (
    (0x4E ∷ 0x45 ∷ 0x47 ∷ 0x4F ∷ 0x45 ∷ 0x58 ∷ 0x54 ∷ 0x53 ∷ [])
    ∷ octets_of 4 0 ∷ octets_of 4 0 ∷ octets_of 4 96 ∷ octets_of 4 len ∷ replicate 16 7
    ∷ replicate 32 3 ∷ octets_of 8 0
    ∷ octets_of 4 schemesAt ∷ octets_of 2 schemes ∷ octets_of 2 0
    ∷ octets_of 4 extensionsAt ∷ octets_of 2 extensions ∷ octets_of 2 0
    ∷ payload
    ∷ []
    )

-- "NEGO of 112, one scheme", its vector given
abbrev pub with_scheme : ℕ → ℕ → List ℕ
with_scheme at count = nego_token 112 at count 0 0 (replicate 16 5)

-- "NEGO of 108, one extension at 96, empty value", the octets of its type given
abbrev pub with_extension : List ℕ → List ℕ
with_extension type = nego_token 108 0 0 96 1 (type ++ replicate 8 0)

pub record Extension : Type 0 where
  pub type : ℤ
  pub value : List ℕ

abbrev pub extensions_in : List ℕ → List Extension
extensions_in m = map (λ e. record { type = signed32 e.type; value = shown 96 m e.value }) (elements_of (shown 96 m (extension_vector m)))

pub data Reads : Type 0 where
  refused : (number place : ℕ) → Reads
  nego : (schemes : List Id) (extensions : List Extension) → Reads
  other : Reads

abbrev pub reads_as : Reading → Reads
reads_as (Refused n p) = refused n p
reads_as (Accepted []) = other
reads_as (Accepted (m ∷ [])) = nego (schemes_in m.octets) (extensions_in m.octets)
reads_as (Accepted (m ∷ k ∷ ms)) = other

abbrev pub scheme : ℕ → Id
scheme n = replicate 16 n

abbrev pub nego_with : Bool → Elements → List ℕ → NegoContent
nego_with test extensions values = record { random = replicate 32 7; test = test; extensions = extensions; values = values }

unfoldable pub plain : NegoCall
unfolding items_of
plain = (nego_with false no_elements [], record { random = refl; types = refl })

abbrev pub pulse : ℤ → Speech
pulse code = alarm (record { code = code; alerts = pulse_elements; values = pulse_value })

-- "Acceptor A, B, C, initiator C, B."
unfoldable pub opened : Opening
unfolding distinct mem same_octets
opened = record {
  initiator = scheme 3 ∷ scheme 2 ∷ [];
  acceptor = scheme 1 ∷ scheme 2 ∷ scheme 3 ∷ [];
  conversation = (scheme 9, refl);
  initiator_buffer = replicate 1100 0;
  acceptor_buffer = replicate 1100 0;
  initiator_whole = refl;
  acceptor_whole = refl;
  initiator_ok = refl;
  acceptor_ok = refl;
}

abbrev pub negotiation : ℕ → ℕ → List (Bool × Call)
negotiation acceptorMarks initiatorMarks =
    (false, offer plain)
    ∷ (true, read)
    ∷ (true, reply acceptorMarks plain)
    ∷ (false, read)
    ∷ (false, choose initiatorMarks (request []))
    ∷ []

pub record Says : Type 0 where
  pub number : ℕ
  pub choice : Id
  pub left : ℕ

abbrev pub says_of : Entry → Says
says_of x = record { number = x.said.refusal; choice = x.said.choice; left = x.said.left }

abbrev pub done : Says
done = record { number = 0; choice = zero_id; left = 0 }

abbrev pub refuses : ℕ → Says
refuses n = record { number = n; choice = zero_id; left = 0 }

abbrev pub names : Id → ℕ → Says
names id left = record { number = 0; choice = id; left = left }

pub data Case : Type 0 where
  reads : (token : List ℕ) (says : Reads) → Case
  runs : (calls : List (Bool × Call)) (say : List Says) → Case

abbrev pub cases : List Case
cases =
    -- P1
    reads [] (refused 2 0)
    -- P2
    ∷ reads (replicate 39 0) (refused 2 0)
    -- P3
    ∷ reads (with_scheme 96 1) (nego (replicate 16 5 ∷ []) [])
    -- P4
    ∷ reads (with_scheme 95 1) (refused 11 0)
    -- P5
    ∷ reads (with_scheme 97 1) (refused 11 0)
    -- P6
    ∷ reads (with_scheme 4294967295 0) (nego [] [])
    -- P7
    ∷ reads (with_scheme 4294967280 2) (refused 11 0)
    -- P8
    ∷ reads (with_extension (0xFE ∷ 0xFF ∷ 0xFF ∷ 0xFF ∷ [])) (refused 12 0)
    -- P9
    ∷ reads (with_extension (0xFF ∷ 0xFF ∷ 0xFF ∷ 0x7F ∷ [])) (nego [] (record { type = pos 2147483647; value = [] } ∷ []))
    -- P10
    ∷ reads (with_extension (0x00 ∷ 0x00 ∷ 0x00 ∷ 0x80 ∷ [])) (refused 12 0)
    -- P11
    ∷ runs (negotiation 0 0) (done ∷ done ∷ names (scheme 2) 2 ∷ done ∷ names (scheme 2) 2 ∷ [])
    -- P12, the acceptor's mark; the initiator's mark
    ∷ runs (negotiation 2 0) (done ∷ done ∷ names (scheme 3) 1 ∷ done ∷ names (scheme 3) 1 ∷ [])
    ∷ runs (negotiation 0 2) (done ∷ done ∷ names (scheme 2) 2 ∷ done ∷ names (scheme 3) 1 ∷ [])
    -- P13
    ∷ runs (negotiation 6 0) (done ∷ done ∷ refuses 17 ∷ refuses 2 ∷ refuses 18 ∷ [])
    ∷ []

abbrev pub Right : Case → Type 0
Right (reads token says) = reads_as (token_of token) ≡ says
Right (runs calls say) = map says_of (run (world opened) calls) ≡ say

abbrev pub AllRight : List Case → Type 0
AllRight [] = Unit {0}
AllRight (c ∷ cs) = Right c × AllRight cs

-- "P1 to P13 are proved over the definitions by one statement about a list of cases"
abbrev pub Worked : Type 0
Worked = AllRight cases

-- the acceptor's list keeps its order and gains three schemes, the initiator's is reordered and gains one
unfoldable pub longer_lists : Opening
unfolding distinct mem same_octets
longer_lists = record {
  initiator = scheme 2 ∷ scheme 5 ∷ scheme 3 ∷ [];
  acceptor = scheme 4 ∷ scheme 1 ∷ scheme 5 ∷ scheme 2 ∷ scheme 3 ∷ scheme 6 ∷ [];
  conversation = (scheme 8, refl);
  initiator_buffer = replicate 900 0;
  acceptor_buffer = replicate 800 1;
  initiator_whole = refl;
  acceptor_whole = refl;
  initiator_ok = refl;
  acceptor_ok = refl;
}

-- the first run's choice is scheme 2: P11
abbrev pub LongerRun : Type 0
LongerRun = (y : Entry) → Memᴰ y (run (world longer_lists) (negotiation 0 0)) → NotLost opened longer_lists (negotiation 0 0) (scheme 2) y

-- both ends name scheme 5, of three; the first acceptor did not list it
abbrev pub LongerChoice : Type 0
LongerChoice = map says_of (run (world longer_lists) (negotiation 0 0)) ≡ done ∷ done ∷ names (scheme 5) 3 ∷ done ∷ names (scheme 5) 3 ∷ []

-- metadata and optimistic exchanges, a choice with an exchange, several rounds, VERIFY of both ends, ALERTs
abbrev pub conversation : List (Bool × Call)
conversation =
    (false, offer plain)
    ∷ (false, metadata (scheme 3, refl) (1 ∷ 2 ∷ []))
    ∷ (false, metadata (scheme 2, refl) (3 ∷ []))
    ∷ (false, speak (request (4 ∷ [])))
    ∷ (true, read)
    ∷ (true, reply 2 plain)
    ∷ (true, metadata (scheme 3, refl) (5 ∷ []))
    ∷ (true, speak (request (6 ∷ 7 ∷ [])))
    ∷ (false, read)
    ∷ (false, choose 0 (request []))
    ∷ (true, read)
    ∷ (true, speak (request (8 ∷ [])))
    ∷ (true, speak (checksum (negsuc 137) (9 ∷ [])))
    ∷ (false, read)
    ∷ (false, speak (checksum (pos 16) []))
    ∷ (false, speak (pulse (negsuc 0)))
    ∷ (true, read)
    ∷ (true, speak (pulse (pos 1)))
    ∷ (false, read)
    ∷ []

abbrev pub all_accepted : List Entry → Bool
all_accepted [] = true
all_accepted (x ∷ xs) = is_accepted x.said && all_accepted xs

abbrev pub WholeConversation : Type 0
WholeConversation = all_accepted (run (world opened) conversation) ≡ true

abbrev pub WholeLogs : Type 0
WholeLogs = (length (logs_of opened conversation).i ≡ 13) × (length (logs_of opened conversation).a ≡ 13)

-- C-12: a later message before the choice; the choosing call without room, with marks beyond the list, with nothing left and without room; the
-- acceptor's; one with other marks, as a VERIFY; a second one; a second VERIFY; the turn goes on, and is read
abbrev pub attempts : List (Bool × Call)
attempts =
    (false, offer plain)
    ∷ (true, read)
    ∷ (true, reply 0 plain)
    ∷ (false, read)
    ∷ (false, speak (request []))
    ∷ (false, choose 0 (request (replicate 1000 0)))
    ∷ (false, choose 4 (request []))
    ∷ (false, choose 3 (request (replicate 1000 0)))
    ∷ (false, speak (request []))
    ∷ (true, choose 0 (request []))
    ∷ (false, choose 2 (checksum (pos 16) (1 ∷ [])))
    ∷ (false, choose 0 (request []))
    ∷ (false, speak (checksum (pos 16) (1 ∷ [])))
    ∷ (false, speak (pulse (pos 0)))
    ∷ (true, read)
    ∷ []

abbrev pub AtOnce : Type 0
AtOnce =
    map says_of (run (world opened) attempts)
    ≡ done ∷ done ∷ names (scheme 2) 2 ∷ done ∷ refuses 18 ∷ refuses 16 ∷ refuses 19 ∷ refuses 17 ∷ refuses 18 ∷ refuses 18 ∷ names (scheme 3) 1
    ∷ refuses 18
    ∷ refuses 18 ∷ done ∷ done ∷ []

-- C-15: a VERIFY before and after the AP_REQUEST, and after the CHALLENGE; a choice with a VERIFY, and one with a content; then a VERIFY of either end
abbrev pub early : ℕ → ℕ → Speech → List (Bool × Call)
early acceptorMarks initiatorMarks content =
    (false, offer plain)
    ∷ (false, speak (checksum (pos 16) []))
    ∷ (false, speak (request []))
    ∷ (false, speak (checksum (pos 16) []))
    ∷ (true, read)
    ∷ (true, reply acceptorMarks plain)
    ∷ (true, speak (request []))
    ∷ (true, speak (checksum (pos 16) []))
    ∷ (false, read)
    ∷ (false, choose 0 (checksum (pos 16) []))
    ∷ (false, choose initiatorMarks content)
    ∷ (false, speak (checksum (pos 16) []))
    ∷ (true, read)
    ∷ (true, speak (request []))
    ∷ (true, speak (checksum (pos 16) []))
    ∷ (false, read)
    ∷ []

-- the AP_REQUEST's scheme is chosen: both are spent. Another one: either end sends one for it, and it is read
abbrev pub EarlyVerify : Type 0
EarlyVerify =
    (map says_of (run (world opened) (early 2 0 (request [])))
    ≡ done ∷ refuses 18 ∷ done ∷ done ∷ done ∷ names (scheme 3) 1 ∷ done ∷ done ∷ done ∷ refuses 18 ∷ names (scheme 3) 1 ∷ refuses 18 ∷ done ∷ done
    ∷ refuses 18 ∷ done ∷ [])
    × (map says_of (run (world longer_lists) (early 4 1 (checksum (pos 16) [])))
    ≡ done ∷ refuses 18 ∷ done ∷ done ∷ done ∷ names (scheme 2) 2 ∷ done ∷ done ∷ done ∷ refuses 18 ∷ names (scheme 3) 1 ∷ refuses 18 ∷ done ∷ done
    ∷ done ∷ done ∷ [])

abbrev pub two : ℕ → Elements
two type = record { count = 2; types = type ∷ 5 ∷ replicate 6 0; sizes = 3 ∷ replicate 7 0 }

abbrev pub octets : List ℕ
octets = 1 ∷ 2 ∷ 3 ∷ []

abbrev pub nine : Elements
nine = record { count = 9; types = replicate 8 1; sizes = replicate 8 0 }

unfoldable pub ordinary : NegoCall
unfolding items_of
ordinary = (nego_with false (two 2147483647) octets, record { random = refl; types = refl })

unfoldable pub critical : Bool → NegoCall
unfolding items_of
critical test = (nego_with test (two 4294967294) octets, record { random = refl; types = refl })

unfoldable pub too_many : NegoCall
unfolding items_of
too_many = (nego_with false nine [], record { random = refl; types = refl })

-- C-22, 25 and 26 of either NEGO: after 18 and 19, and before 17; extensions that the peer reads; a critical one in a test call, which closes its reader;
-- 25 of an ALERT and of the choosing call, before 15 and 17
abbrev pub extended : List (Bool × Call)
extended =
    (true, offer too_many)
    ∷ (false, offer too_many)
    ∷ (false, offer (critical false))
    ∷ (false, offer ordinary)
    ∷ (true, read)
    ∷ (true, reply 8 too_many)
    ∷ (true, reply 7 too_many)
    ∷ (true, reply 7 (critical false))
    ∷ (true, reply 7 (critical true))
    ∷ (true, reply 0 ordinary)
    ∷ (false, read)
    ∷ (false, choose 4 (alarm (record { code = pos 0; alerts = nine; values = [] })))
    ∷ (false, choose 3 (alarm (record { code = pos 0; alerts = two 1; values = [] })))
    ∷ (false, choose 0 (alarm (record { code = pos 0; alerts = two 1; values = octets })))
    ∷ (true, read)
    ∷ (true, speak (alarm (record { code = pos 0; alerts = nine; values = [] })))
    ∷ (true, speak (alarm (record { code = pos 0; alerts = no_elements; values = [] })))
    ∷ (false, read)
    ∷ []

abbrev pub Extended : Type 0
Extended =
    (map says_of (run (world opened) extended)
    ≡ refuses 18 ∷ refuses 25 ∷ refuses 26 ∷ done ∷ done ∷ refuses 19 ∷ refuses 25 ∷ refuses 26 ∷ refuses 17 ∷ names (scheme 2) 2 ∷ done
    ∷ refuses 19 ∷ refuses 25 ∷ names (scheme 2) 2 ∷ done ∷ refuses 25 ∷ done ∷ done ∷ [])
    × (map says_of (run (world opened) ((false, offer (critical true)) ∷ (true, read) ∷ (true, read) ∷ []))
    ≡ done ∷ refuses 12 ∷ refuses 18 ∷ [])

abbrev pub read_in_turn : End → List (List ℕ) → List ℕ
read_in_turn e [] = []
read_in_turn e (t ∷ ts) = (act e t read).answer.refusal ∷ read_in_turn (moved e read (act e t read)) ts

-- an acceptor that was sent P8's token, a critical extension, does not read P9's; one that was sent P4's, a vector that breaks its rule, does
abbrev pub StaysRejected : Type 0
StaysRejected =
    (read_in_turn (world opened).a (with_extension (0xFE ∷ 0xFF ∷ 0xFF ∷ 0xFF ∷ []) ∷ with_extension (0xFF ∷ 0xFF ∷ 0xFF ∷ 0x7F ∷ []) ∷ []) ≡ 12 ∷ 18
    ∷ [])
    × (read_in_turn (world opened).a (with_scheme 95 1 ∷ with_extension (0xFF ∷ 0xFF ∷ 0xFF ∷ 0x7F ∷ []) ∷ []) ≡ 11 ∷ 0 ∷ [])
