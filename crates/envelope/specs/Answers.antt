-- What the functions of src/ say of the buffer.
--
-- Glossary
--   Section           a part of the buffer, as src/ gives it; Lent: an envelope, as src/ gives it
--   shown s f         the octets of a field of src/ in the buffer s, none where it is absent
--   mechanisms_in v   the identifiers in the contents v of a list, none where they are refused; value_of: what was read, or no identifiers
--   told              what an envelope that was read says of the buffer
--   FieldIn s f       a field lies in the buffer
--   Before s end f k  behind the token f, where it is there, the buffer has up to `end` the checksum k and nothing else
--   TailPlaced        where the three fields behind the first lie; ListPlaced: where the list of mechanisms lies, and how many it has; Placed: where all lie
--   Reads             an answer says what the definition gives, and its parts lie where they should
--   told_optional, told_list, told_tail   what the private functions answer
--   Counts, Optionals, Lists, Tails       their answers say what the definitions give, with where it lies
--   EndsAt, FieldTo   where a field lies, and the rest of the holder
--   CutsBy s P u p    what a function takes out of a holder is the element u, of whose contents p holds; P relates its argument to its answer
--   ReadsBy s P body  what a function makes of a holder is what `body` gives
use Rattle.std.specs.Prelude.{ℕ, ◌≤◌, ◌≡◌, Bool, List, [], length, leb, Option, Some, None, Result}
use Rattle.std.proofs.Math.Option.{none, some}
use Rattle.std.proofs.Math.Option.{Option as Maybe}
use Rattle.refusal.specs.declared.Refusal.{Refusal}
use Rattle.der.specs.Got.{Got, ok, no, check}
use Rattle.der.specs.Element.{Part, cut}
use Rattle.der.specs.Grammar.{field_octets}
use Rattle.der.specs.Holder.{HolderAt, octets_at, part, Answers, Cuts}
use Rattle.der.specs.declared.Part.{Part as Section}
use Rattle.envelope.specs.Envelope.{Envelope, Init, Resp}
use Rattle.envelope.specs.Reading.{list_of}
use Rattle.envelope.specs.Reading.{Tail as Fields}
use Rattle.envelope.specs.declared.Tail.{Tail}
use Rattle.envelope.specs.declared.Envelope.{Envelope as Lent}
use Rattle.envelope.specs.declared.Envelope.TheVariants as lent

abbrev pub shown : List ℕ → Option Section → Maybe (List ℕ)
shown s (Some f) = some (octets_at s f)
shown s None = none

abbrev pub value_of : Got (List (List ℕ)) → List (List ℕ)
value_of (ok ms) = ms
value_of (no n) = []

abbrev pub mechanisms_in : List ℕ → List (List ℕ)
mechanisms_in v = value_of (check (leb (length v) 65535) 1 (list_of v))

abbrev pub told : List ℕ → Lent → Envelope
told s (lent.Init i) = Init (mechanisms_in (octets_at s i.list)) (shown s i.flags) (shown s i.token) (shown s i.checksum)
told s (lent.Resp r) = Resp (shown s r.state) (shown s r.mechanism) (shown s r.token) (shown s r.checksum)

abbrev pub FieldIn : List ℕ → Option Section → Type 0
FieldIn s (Some f) = (f.from ≤ f.end) × (f.end ≤ length s)
FieldIn s None = Unit {0}

abbrev pub Before : List ℕ → ℕ → Option Section → Option Section → Type 0
Before s end (Some f) k = part s f.end end ≡ field_octets 0xA3 0x04 (shown s k)
Before s end None k = Unit {0}

pub record TailPlaced (s : List ℕ) (end : ℕ) (second token checksum : Option Section) : Type 0 where
  pub second_in : FieldIn s second
  pub token_in : FieldIn s token
  pub checksum_in : FieldIn s checksum
  pub last : Before s end token checksum

pub record ListPlaced (s : List ℕ) (l : Section) (count : ℕ) : Type 0 where
  pub order : l.from ≤ l.end
  pub inside : l.end ≤ length s
  pub counted : count ≡ length (mechanisms_in (octets_at s l))

abbrev pub Placed : List ℕ → ℕ → Lent → Type 0
Placed s end (lent.Init i) = ListPlaced s i.list i.count × TailPlaced s end i.flags i.token i.checksum
Placed s end (lent.Resp r) = FieldIn s r.state × TailPlaced s end r.mechanism r.token r.checksum

abbrev pub Reads : List ℕ → ℕ → Got Envelope → Result Lent Refusal → Type 0
Reads s end = Answers (told s) (Placed s end)

abbrev pub EndsAt : Option Section → ℕ → Type 0
EndsAt (Some f) next = (f.from ≤ f.end) × (f.end ≡ next)
EndsAt None next = Unit {0}

pub record FieldTo (s : List ℕ) (h : Section) (f : Option Section) (rest : Section) : Type 0 where
  pub ends : EndsAt f rest.from
  pub behind : HolderAt s rest
  pub last : rest.end ≡ h.end

abbrev pub told_optional : List ℕ → Option Section × Section → Part (Maybe (List ℕ))
told_optional s (f, rest) = record { value = shown s f; rest = octets_at s rest }

abbrev pub Optionals : List ℕ → Section → Got (Part (Maybe (List ℕ))) → Result (Option Section × Section) Refusal → Type 0
Optionals s h = Answers (told_optional s) (λ x. FieldTo s h x.0 x.1)

abbrev pub Counts : List ℕ → Result ℕ Refusal → Type 0
Counts v = Answers (λ n. mechanisms_in v) (λ n. n ≡ length (mechanisms_in v)) (list_of v)

abbrev pub told_list : List ℕ → Section × ℕ × Section → Part (List (List ℕ))
told_list s (l, count, rest) = record { value = mechanisms_in (octets_at s l); rest = octets_at s rest }

abbrev pub Lists : List ℕ → Section → Got (Part (List (List ℕ))) → Result (Section × ℕ × Section) Refusal → Type 0
Lists s h = Answers (told_list s) (λ x. ListPlaced s x.0 x.1 × HolderAt s x.2 × (x.2.end ≡ h.end))

abbrev pub told_tail : List ℕ → Tail → Fields
told_tail s t = record { second = shown s t.second; token = shown s t.token; checksum = shown s t.checksum }

abbrev pub Tails : List ℕ → ℕ → Got Fields → Result Tail Refusal → Type 0
Tails s end = Answers (told_tail s) (λ t. TailPlaced s end t.second t.token t.checksum)

abbrev pub CutsBy : List ℕ → (Section → Result (Section × Section) Refusal → Type 0) → ℕ → (List ℕ → Bool) → Type 0
CutsBy s P u p = (h : Section) (r : Result (Section × Section) Refusal) → HolderAt s h → P h r → Cuts s h (cut u p (octets_at s h)) r

abbrev pub ReadsBy : List ℕ → (Section → Result Lent Refusal → Type 0) → (List ℕ → Got Envelope) → Type 0
ReadsBy s P body = (h : Section) (r : Result Lent Refusal) → HolderAt s h → P h r → Reads s h.end (body (octets_at s h)) r
