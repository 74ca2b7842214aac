-- The refusals and their numbers. Document 01, "Refusal numbers", and document 02's own.
--
-- Glossary
--   number_of e        the number of a refusal
--   refusal_number r   the number that refuses, of an answer of src/: 0 where it is no refusal
--   NumberOnce         two refusals with one number are one; NumberSome: none has the number 0
use Rattle.std.specs.Prelude.{ℕ, ◌≡◌, ◌<◌, Result, Ok, Err}
use Rattle.refusal.specs.declared.Refusal.{Refusal}
use Rattle.refusal.specs.declared.Refusal.TheVariants as refusal

-- "Each returns its number"
abbrev pub number_of : Refusal → ℕ
number_of refusal.TooLong = 1
number_of refusal.TooShort = 2
number_of refusal.Signature = 3
number_of refusal.Type = 4
number_of refusal.HeaderLength = 5
number_of refusal.MessageLength = 6
number_of refusal.Sequence = 7
number_of refusal.Conversation = 8
number_of refusal.Version = 10
number_of refusal.Vector = 11
number_of refusal.CriticalExtension = 12
number_of refusal.Checksum = 13
number_of refusal.OutOfTurn = 14
number_of refusal.Scheme = 15
number_of refusal.Room = 16
number_of refusal.NoCommonScheme = 17
number_of refusal.Stage = 18
number_of refusal.Argument = 19
number_of refusal.Element = 20
number_of refusal.ElementLength = 21
number_of refusal.LeftOver = 22
number_of refusal.Mechanisms = 23
number_of refusal.Numbering = 24
number_of refusal.ContentLimit = 25
number_of refusal.CriticalWritten = 26
number_of refusal.Unopened = 27
number_of refusal.Choice = 28

abbrev pub refusal_number : {T : Type 0} → Result T Refusal → ℕ
refusal_number (Ok x) = 0
refusal_number (Err e) = number_of e

abbrev pub NumberOnce : Type 0
NumberOnce = (a b : Refusal) → number_of a ≡ number_of b → a ≡ b

abbrev pub NumberSome : Type 0
NumberSome = (a : Refusal) → 0 < number_of a
