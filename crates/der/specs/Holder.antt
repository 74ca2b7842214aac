-- What the functions of src/ say of a holder in a buffer.
--
-- Glossary
--   Holder s at end   the octets of the buffer s from `at` to `end` are a holder; part s at end: these octets
--   Section           a part of the buffer, as src/ gives it; HolderAt s h: it is a holder; octets_at s h: its octets
--   capped n          n, or 65,536 where it is larger
--   got show r        what an answer r of src/ says: its value as `show` tells it, or its refusal's number
--   Answers           an answer says what the definition gives, and `Placed` holds of its value
--   told_frame, told  what the value of an answer says of the buffer
--   FrameInside       where an element taken apart lies; Inside: where an element's contents and the rest of the holder lie
--   Frames, Cuts      an answer says what the definition gives, and lies in the holder
--   verdict           the answer about an element, where it is known whether its contents are right, and its length's octets are lent
use Rattle.std.specs.Prelude.{ℕ, ◌-◌, ◌<◌, ◌≤◌, min, ◌≡◌, Bool, cond, ◌||◌, List, take, drop, length, Result, Ok, Err, IfOk}
use Rattle.refusal.specs.declared.Refusal.{Refusal}
use Rattle.refusal.specs.declared.Refusal.TheVariants as refusal
use Rattle.refusal.specs.Refusals.{number_of}
use Rattle.der.specs.Got.{Got, ok, no}
use Rattle.der.specs.Element.{Frame, Part, indefinite, shortest}
use Rattle.der.specs.declared.Framed.{Framed}
use Rattle.der.specs.declared.Part.{Part as Section}

pub record Holder (s : List ℕ) (at end : ℕ) : Type 0 where
  pub order : at ≤ end
  pub inside : end ≤ length s
  pub small : length s ≤ 65535

unfoldable pub part : List ℕ → ℕ → ℕ → List ℕ
part s at end = take (end - at) (drop at s)

abbrev pub HolderAt : List ℕ → Section → Type 0
HolderAt s h = Holder s h.from h.end

abbrev pub octets_at : List ℕ → Section → List ℕ
octets_at s h = part s h.from h.end

abbrev pub capped : ℕ → ℕ
capped n = min n 65536

abbrev pub got : {T A : Type 0} → (T → A) → Result T Refusal → Got A
got show (Ok x) = ok (show x)
got show (Err e) = no (number_of e)

pub record Answers {T A : Type 0} (show : T → A) (Placed : T → Type 0) (g : Got A) (r : Result T Refusal) : Type 0 where
  pub same : got show r ≡ g
  pub placed : IfOk r Placed

abbrev pub told_frame : List ℕ → Framed → Frame
told_frame s f = record { lead = octets_at s f.lead; contents = octets_at s f.contents; rest = octets_at s f.rest }

pub record Inside (h c rest : Section) : Type 0 where
  pub past : h.from < c.from
  pub order : c.from ≤ c.end
  pub next : c.end ≡ rest.from
  pub behind : rest.from ≤ rest.end
  pub last : rest.end ≡ h.end

pub record FrameInside (h : Section) (f : Framed) : Type 0 where
  pub order : f.lead.from ≤ f.lead.end
  pub next : f.lead.end ≤ f.contents.from
  pub inside : Inside h f.contents f.rest

abbrev pub Frames : List ℕ → Section → Got Frame → Result Framed Refusal → Type 0
Frames s h = Answers (told_frame s) (FrameInside h)

abbrev pub told : List ℕ → Section × Section → Part (List ℕ)
told s (c, rest) = record { value = octets_at s c; rest = octets_at s rest }

abbrev pub Cuts : List ℕ → Section → Got (Part (List ℕ)) → Result (Section × Section) Refusal → Type 0
Cuts s h = Answers (told s) (λ x. Inside h x.0 x.1)

abbrev pub verdict : Bool → List ℕ → Section → Section → Result (Section × Section) Refusal
verdict right v c rest =
    cond (right || indefinite v) (cond (shortest v (c.end - c.from)) (Ok (c, rest)) (Err refusal.ElementLength)) (Err refusal.Element)
