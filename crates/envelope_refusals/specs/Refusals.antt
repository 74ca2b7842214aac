-- Which number is given when, case by case in the words of request C-16, and that it is given then and only then.
--
-- Glossary
--   Exactly g F       g is refused with n where F holds of n, and only there
--   ElementFault      what is wrong with the element at the front of a holder
--   WithinFault       with it or with what it holds; OnlyFault: or with the octets behind it
--   EnvelopeFault     what is wrong with a buffer
--   ElementExactly, WithinExactly, OnlyExactly, EnvelopeExactly   the numbers are those
--   SeventeenthFault  sixteen of a list were read, and a seventeenth is one; SeventeenthLast: so it is wherever a list is refused with 23
use Rattle.std.specs.Prelude.{ℕ, ◌+◌, ◌<◌, ◌≤◌, ◌≡◌, Bool, true, false, List, [], ◌∷◌, ◌++◌, ◌⊎◌, length}
use Rattle.der.specs.Got.{Got, ok, no}
use Rattle.der.specs.Element.{Part, length_of, lead_of, size_of, framed, cut, any}
use Rattle.der.specs.Grammar.{within, only, starts}
use Rattle.envelope.specs.Envelope.{identifiers}
use Rattle.envelope.specs.Reading.{list_of, wrapped_of, resp_of, envelope_of}

pub record Exactly {A : Type 0} (g : Got A) (F : ℕ → Type 0) : Type 0 where
  pub only_then : (n : ℕ) → g ≡ no n → F n
  pub then : (n : ℕ) → F n → g ≡ no n

-- "20 tag, wrapper's identifier or state not as RFC 4178 has it, a required element .. missing, or a length past its holder's end, 21 a length
-- indefinite or not shortest": all of 20 comes before 21, and an indefinite length says no contents that could be wrong
pub data ElementFault (t : ℕ) (p : List ℕ → Bool) : List ℕ → ℕ → Type 0 where
  missing : ElementFault t p [] 20
  tag : (x : ℕ) (s : List ℕ) → (x ≡ t → ⊥) → ElementFault t p (x ∷ s) 20
  past : (s : List ℕ) → length s < lead_of s + size_of s → ElementFault t p (t ∷ s) 20
  contents : (s : List ℕ) → lead_of s + size_of s ≤ length s → p (framed s).contents ≡ false → ((framed s).lead ≡ 0x80 ∷ [] → ⊥)
      → ElementFault t p (t ∷ s) 20
  long : (s : List ℕ) → lead_of s + size_of s ≤ length s → (p (framed s).contents ≡ true) ⊎ ((framed s).lead ≡ 0x80 ∷ [])
      → ((framed s).lead ≡ length_of (length (framed s).contents) → ⊥) → ElementFault t p (t ∷ s) 21

abbrev pub ElementExactly : Type 0
ElementExactly = (t : ℕ) (p : List ℕ → Bool) (s : List ℕ) → Exactly (cut t p s) (ElementFault t p s)

-- "outside in .. each with all it holds before the next"
pub data WithinFault {A : Type 0} (t : ℕ) (p : List ℕ → Bool) (body : List ℕ → Got A) (s : List ℕ) : ℕ → Type 0 where
  outer : (n : ℕ) → ElementFault t p s n → WithinFault t p body s n
  inner : (q : Part (List ℕ)) (n : ℕ) → cut t p s ≡ ok q → body q.value ≡ no n → WithinFault t p body s n

abbrev pub WithinExactly : Type 1
WithinExactly = (A : Type 0) (t : ℕ) (p : List ℕ → Bool) (body : List ℕ → Got A) (s : List ℕ) → Exactly (within t p body s) (WithinFault t p body s)

-- "22 octets left over, once all before them is read"
pub data OnlyFault {A : Type 0} (t : ℕ) (p : List ℕ → Bool) (body : List ℕ → Got A) (s : List ℕ) : ℕ → Type 0 where
  before : (n : ℕ) → WithinFault t p body s n → OnlyFault t p body s n
  left : (q : Part A) → within t p body s ≡ ok q → (q.rest ≡ [] → ⊥) → OnlyFault t p body s 22

abbrev pub OnlyExactly : Type 1
OnlyExactly = (A : Type 0) (t : ℕ) (p : List ℕ → Bool) (body : List ℕ → Got A) (s : List ℕ) → Exactly (only t p body s) (OnlyFault t p body s)

-- "1 first"; a wrapper by its first octet, else a Resp
pub data EnvelopeFault (s : List ℕ) : ℕ → Type 0 where
  large : 65535 < length s → EnvelopeFault s 1
  wrapper : (n : ℕ) → length s ≤ 65535 → starts 0x60 s ≡ true → OnlyFault 0x60 any wrapped_of s n → EnvelopeFault s n
  response : (n : ℕ) → length s ≤ 65535 → starts 0x60 s ≡ false → OnlyFault 0xA1 any (only 0x30 any resp_of) s n → EnvelopeFault s n

abbrev pub EnvelopeExactly : Type 0
EnvelopeExactly = (s : List ℕ) → Exactly (envelope_of s) (EnvelopeFault s)

-- "23 the seventeenth mechanism identifier": behind sixteen that were read there is one more
pub record SeventeenthFault (s : List ℕ) : Type 0 where
  pub sixteen : List (List ℕ)
  pub behind : List ℕ
  pub further : Part (List ℕ)
  pub number : length sixteen ≡ 16
  pub same : s ≡ identifiers sixteen ++ behind
  pub one : cut 0x06 any behind ≡ ok further

abbrev pub SeventeenthLast : Type 0
SeventeenthLast = (s : List ℕ) → list_of s ≡ no 23 → SeventeenthFault s
