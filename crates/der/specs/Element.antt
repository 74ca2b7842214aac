-- One element in DER: tag, length, contents (X.690, 8.1 and 10.1). A holder is the contents of the element around it, or the buffer. Request C-16.
--
-- Glossary
--   length_of n    the shortest octets of the length n, up to 65,535
--   element t c    the element with the tag t and the contents c
--   number v       the number in the octets v, most significant first; number_from n v: behind octets that stand for n
--   lead_of s      how many octets the length at the front of s has; size_of s: the number that it says; length_in v: the number that the length v says
--   Frame          an element taken apart: its length's octets, its contents, and the rest of its holder; framed s: that whose length is at the front of s
--   framed_from s  the same, where it ends inside the holder s; frame t s: the element at the front of the holder s, with the tag t
--   indefinite v   the length v is the octet 80, which says no number; shortest v n: the length v has the shortest octets of n
--   Part A         what was read of an element, and the rest of its holder
--   judged b f     the element f, where b says that its contents are right
--   cut t p s      the element at the front of the holder s: its tag has to be t, and p to hold of its contents
--   any            what holds of all contents; exactly v: of the octets v alone; at_most n: of one octet, n at the most
use Rattle.std.specs.Prelude.{ℕ, ◌+◌, ◌-◌, ◌*◌, ◌/◌, ◌%◌, Bool, true, false, cond, ◌||◌, List, [], ◌∷◌, ◌++◌, length, take, drop, get_or, eqb, leb, ltb}
use Rattle.octets.specs.Octets.{same_octets}
use Rattle.der.specs.Got.{Got, ok, no, bind, check}

unfoldable pub length_of : ℕ → List ℕ
length_of n = cond (ltb n 128) (n ∷ []) (cond (ltb n 256) (0x81 ∷ n ∷ []) (0x82 ∷ n / 256 ∷ n % 256 ∷ []))

unfoldable pub element : ℕ → List ℕ → List ℕ
element t c = t ∷ (length_of (length c) ++ c)

unfoldable pub number_from : ℕ → List ℕ → ℕ
number_from n [] = n
number_from n (x ∷ v) = number_from (n * 256 + x) v

abbrev pub number : List ℕ → ℕ
number v = number_from 0 v

-- below 128 the first octet is the length; from 128 on it says how many octets behind it have the length
unfoldable pub lead_of : List ℕ → ℕ
lead_of s = 1 + (get_or s 0 0 - 128)

-- the number that a length says, whatever its form; 80 has no octets behind it
unfoldable pub length_in : List ℕ → ℕ
length_in [] = 0
length_in (x ∷ v) = cond (ltb x 128) x (number v)

unfoldable pub size_of : List ℕ → ℕ
size_of s = length_in (take (lead_of s) s)

pub record Frame : Type 0 where
  pub lead : List ℕ
  pub contents : List ℕ
  pub rest : List ℕ

unfoldable pub framed : List ℕ → Frame
framed s = record { lead = take (lead_of s) s; contents = take (size_of s) (drop (lead_of s) s); rest = drop (lead_of s + size_of s) s }

-- "20 .. a length past its holder's end": the length's own octets, or the contents
unfoldable pub framed_from : List ℕ → Got Frame
framed_from s = check (leb (lead_of s + size_of s) (length s)) 20 (ok (framed s))

-- "20 tag .. not as RFC 4178 has it, a required element .. missing"
unfoldable pub frame : ℕ → List ℕ → Got Frame
frame t [] = no 20
frame t (x ∷ s) = check (eqb x t) 20 (framed_from s)

abbrev pub indefinite : List ℕ → Bool
indefinite v = same_octets v (0x80 ∷ [])

abbrev pub shortest : List ℕ → ℕ → Bool
shortest v n = same_octets v (length_of n)

pub record Part (A : Type 0) : Type 0 where
  pub value : A
  pub rest : List ℕ

-- "at each ascending: 20 .. wrapper's identifier or state not as RFC 4178 has it .., 21 a length indefinite or not shortest": an element of indefinite length
-- has no contents that could be wrong.
unfoldable pub judged : Bool → Frame → Got (Part (List ℕ))
judged right f =
    check (right || indefinite f.lead) 20
    (check (shortest f.lead (length f.contents)) 21
    (ok (record { value = f.contents; rest = f.rest })))

unfoldable pub cut : ℕ → (List ℕ → Bool) → List ℕ → Got (Part (List ℕ))
cut t p s = bind (frame t s) (λ f. judged (p f.contents) f)

abbrev pub any : List ℕ → Bool
any c = true

abbrev pub exactly : List ℕ → List ℕ → Bool
exactly v c = same_octets c v

unfoldable pub at_most : ℕ → List ℕ → Bool
at_most n [] = false
at_most n (x ∷ []) = leb x n
at_most n (x ∷ y ∷ s) = false
