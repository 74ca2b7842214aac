-- The reading of an envelope. Request C-16, "Refusals for the envelope": the order of the refusals is the nesting of these definitions, the numbers 20, 21 and
-- 22 of an element those of crates/der/specs.
--
-- Glossary
--   filled s            s is not empty
--   identifiers_of k s  the identifiers in s, k at the most; list_of: those of a list, sixteen at the most, of which there has to be one
--   mechanisms_of s     the list of mechanisms at the front of the token's sequence s
--   Tail, tail_of v s   the three fields behind the first: the second, with an element of the tag v in it, the token and the checksum
--   init_of s           the contents of an Init's sequence; resp_of: of a Resp's, with which of its fields it may begin
--   begins s            s is empty, or begins with the tag of one of a Resp's fields
--   wrapped_of s        the contents of the wrapper
--   envelope_of s       the envelope in the buffer s, or the first refusal
use Rattle.std.specs.Prelude.{ℕ, zero, suc, Bool, true, false, cond, ◌&&◌, List, [], ◌∷◌, length, leb}
use Rattle.std.proofs.Math.Option.{Option}
use Rattle.der.specs.Got.{Got, ok, no, bind, check}
use Rattle.der.specs.Element.{Part, cut, any, exactly}
use Rattle.der.specs.Grammar.{closed, within, only, starts, optional}
use Rattle.envelope.specs.Envelope.{Envelope, Init, Resp, spnego, is_state}

unfoldable pub filled : List ℕ → Bool
filled [] = false
filled (x ∷ s) = true

-- "23 the seventeenth mechanism identifier", which is an element like those before it
unfoldable pub identifiers_of : ℕ → List ℕ → Got (List (List ℕ))
identifiers_of zero s = cond (filled s) (bind (cut 0x06 any s) (λ q. no 23)) (ok [])
identifiers_of (suc k) s = cond (filled s) (bind (cut 0x06 any s) (λ q. bind (identifiers_of k q.rest) (λ ms. ok (q.value ∷ ms)))) (ok [])

-- "20 .. all mechanism identifiers missing"
unfoldable pub list_of : List ℕ → Got (List (List ℕ))
list_of s = check (filled s) 20 (identifiers_of 16 s)

abbrev pub mechanisms_of : List ℕ → Got (Part (List (List ℕ)))
mechanisms_of = within 0xA0 any (only 0x30 any list_of)

pub record Tail : Type 0 where
  pub second : Option (List ℕ)
  pub token : Option (List ℕ)
  pub checksum : Option (List ℕ)

-- "22 .. at once and in place of 20, a tag unknown or misplaced behind the first of the token's sequence": a tag that is not the next one's is passed on to the
-- field behind that, and in the end left over.
unfoldable pub tail_of : ℕ → List ℕ → Got Tail
tail_of v s =
    bind (optional 0xA1 v any s) (λ y.
    bind (optional 0xA2 0x04 any y.rest) (λ t.
    bind (optional 0xA3 0x04 any t.rest) (λ k.
    closed k.rest (record { second = y.value; token = t.value; checksum = k.value }))))

unfoldable pub init_of : List ℕ → Got Envelope
init_of s = bind (mechanisms_of s) (λ m. bind (tail_of 0x03 m.rest) (λ t. ok (Init m.value t.second t.token t.checksum)))

-- the first of a Resp's fields may be any of the four; "20 tag .. not as RFC 4178 has it"
unfoldable pub begins : List ℕ → Bool
begins [] = true
begins (x ∷ s) = leb 0xA0 x && leb x 0xA3

unfoldable pub resp_of : List ℕ → Got Envelope
resp_of s =
    check (begins s) 20
    (bind (optional 0xA0 0x0A is_state s) (λ x. bind (tail_of 0x06 x.rest) (λ t. ok (Resp x.value t.second t.token t.checksum))))

-- "20 .. wrapper's identifier .. not as RFC 4178 has it"
unfoldable pub wrapped_of : List ℕ → Got Envelope
wrapped_of s = bind (cut 0x06 (exactly spnego) s) (λ q. only 0xA0 any (only 0x30 any init_of) q.rest)

-- "1 first"; then the first octet decides: a wrapper, else a Resp
unfoldable pub envelope_of : List ℕ → Got Envelope
envelope_of s =
    check (leb (length s) 65535) 1
    (cond (starts 0x60 s) (only 0x60 any wrapped_of s) (only 0xA1 any (only 0x30 any resp_of) s))
