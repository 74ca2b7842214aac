-- An envelope as the writers are given it, and how many octets its parts have.
--
-- Glossary
--   sum_of ns         the sum of the sizes ns
--   split_by ns s     the octets s cut into parts of the sizes ns
--   init_given        the Init with mechanisms cut from their joined octets, and each other field with whether it is there; resp_given: the Resp
--   identifiers_size  how many octets identifiers of the sizes ns have, each as an element
--   tail_size         how many octets the three fields behind the first have
--   IdentifiersRoom   identifiers may be put at a place: their sizes are those of their octets, and there is room
--   ListRoom          a whole list may be put there, `size` being the octets of its identifiers; TailRoom: the three fields behind the first
--   mechanisms_refusal   what is wrong with mechanisms of the sizes ns, whose joined octets are n; 0 where nothing is
--   Mechanisms        mechanisms that pass: their sizes sum, and they are 1 to 16
--   InitSized         `list` and `inner` are the sizes of an Init's identifiers and fields as far as they count: capped; RespSized: of a Resp's fields
--   InitRoom          a whole Init may be put, `list` being the octets of its identifiers and `inner` those of its fields; RespRoom: a whole Resp
--   init_size, resp_size   how many octets the whole has, where its fields have so many
use Rattle.std.specs.Prelude.{◌≡◌, ℕ, ◌+◌, ◌≤◌, Bool, true, cond, List, [], ◌∷◌, length, take, drop, eqb, leb}
use Rattle.std.proofs.Math.Option.{Option}
use Rattle.der.specs.Holder.{capped}
use Rattle.der_put.specs.Size.{element_size, field_size, given}
use Rattle.envelope.specs.Envelope.{Envelope, Init, Resp, fine_state}

unfoldable pub sum_of : List ℕ → ℕ
sum_of [] = 0
sum_of (n ∷ ns) = n + sum_of ns

unfoldable pub split_by : List ℕ → List ℕ → List (List ℕ)
split_by [] s = []
split_by (n ∷ ns) s = take n s ∷ split_by ns (drop n s)

unfoldable pub init_given : List ℕ → List ℕ → Bool → List ℕ → Bool → List ℕ → Bool → List ℕ → Envelope
init_given sizes octets bf f bt t bk k = Init (split_by sizes octets) (given bf f) (given bt t) (given bk k)

unfoldable pub resp_given : Bool → ℕ → Bool → List ℕ → Bool → List ℕ → Bool → List ℕ → Envelope
resp_given bx x bm m bt t bk k = Resp (given bx (x ∷ [])) (given bm m) (given bt t) (given bk k)

unfoldable pub identifiers_size : List ℕ → ℕ
identifiers_size [] = 0
identifiers_size (n ∷ ns) = element_size n + identifiers_size ns

unfoldable pub tail_size : Bool → ℕ → Bool → ℕ → Bool → ℕ → ℕ
tail_size by y bt t bk k = field_size by y + (field_size bt t + field_size bk k)

pub record IdentifiersRoom (ns s d : List ℕ) (at : ℕ) : Type 0 where
  pub sum : length s ≡ sum_of ns
  pub small : length s ≤ 65535
  pub room : at + identifiers_size ns ≤ length d

pub record ListRoom (ns s d : List ℕ) (at size : ℕ) : Type 0 where
  pub sum : length s ≡ sum_of ns
  pub is : size ≡ identifiers_size ns
  pub small : field_size true size ≤ 65535
  pub room : at + field_size true size ≤ length d

pub record TailRoom (d : List ℕ) (at size : ℕ) : Type 0 where
  pub small : size ≤ 65535
  pub room : at + size ≤ length d

-- the wrapper's identifier has 8 octets
abbrev pub init_size : ℕ → ℕ
init_size inner = element_size (8 + element_size (element_size inner))

abbrev pub resp_size : ℕ → ℕ
resp_size inner = element_size (element_size inner)

unfoldable pub mechanisms_refusal : List ℕ → ℕ → ℕ
mechanisms_refusal ns n = cond (eqb n (sum_of ns)) (cond (leb 1 (length ns)) (cond (leb (length ns) 16) 0 23) 20) 20

pub record Mechanisms (ns s : List ℕ) : Type 0 where
  pub sum : length s ≡ sum_of ns
  pub some : 1 ≤ length ns
  pub few : length ns ≤ 16

pub record InitSized (ns s : List ℕ) (list inner tail : ℕ) : Type 0 where
  pub passed : Mechanisms ns s
  pub is : list ≡ capped (identifiers_size ns)
  pub near : capped inner ≡ capped (field_size true (identifiers_size ns) + tail)
  pub limit : inner ≤ 131072

pub record RespSized (state : Option (List ℕ)) (inner first tail : ℕ) : Type 0 where
  pub passed : fine_state state ≡ true
  pub near : capped inner ≡ capped (first + tail)
  pub limit : inner ≤ 131072

pub record InitRoom (ns s d : List ℕ) (list inner tail : ℕ) : Type 0 where
  pub sum : length s ≡ sum_of ns
  pub is : list ≡ identifiers_size ns
  pub fields : inner ≡ field_size true list + tail
  pub small : init_size inner ≤ 65535
  pub room : init_size inner ≤ length d

pub record RespRoom (d : List ℕ) (inner first tail : ℕ) : Type 0 where
  pub fields : inner ≡ first + tail
  pub small : resp_size inner ≤ 65535
  pub room : resp_size inner ≤ length d
