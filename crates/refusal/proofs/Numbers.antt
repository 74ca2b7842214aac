-- A refusal is known by its number.
use Rattle.std.proofs.Common.{ℕ, ◌≡◌, refl, ap, sym, ◌∙◌, cond, eqb, arith}
use Rattle.refusal.specs.declared.Refusal.{Refusal}
use Rattle.refusal.specs.declared.Refusal.TheVariants as refusal
use Rattle.refusal.specs.Refusals.{number_of, NumberOnce, NumberSome}

-- the refusal that a number stands for
abbrev with_number : ℕ → Refusal
with_number n =
    cond (eqb n 1) refusal.TooLong
    (cond (eqb n 2) refusal.TooShort
    (cond (eqb n 3) refusal.Signature
    (cond (eqb n 4) refusal.Type
    (cond (eqb n 5) refusal.HeaderLength
    (cond (eqb n 6) refusal.MessageLength
    (cond (eqb n 7) refusal.Sequence
    (cond (eqb n 8) refusal.Conversation
    (cond (eqb n 10) refusal.Version
    (cond (eqb n 11) refusal.Vector
    (cond (eqb n 12) refusal.CriticalExtension
    (cond (eqb n 13) refusal.Checksum
    (cond (eqb n 14) refusal.OutOfTurn
    (cond (eqb n 15) refusal.Scheme
    (cond (eqb n 16) refusal.Room
    (cond (eqb n 17) refusal.NoCommonScheme
    (cond (eqb n 18) refusal.Stage
    (cond (eqb n 19) refusal.Argument
    (cond (eqb n 20) refusal.Element
    (cond (eqb n 21) refusal.ElementLength
    (cond (eqb n 22) refusal.LeftOver
    (cond (eqb n 23) refusal.Mechanisms
    (cond (eqb n 24) refusal.Numbering
    (cond (eqb n 25) refusal.ContentLimit (cond (eqb n 26) refusal.CriticalWritten (cond (eqb n 27) refusal.Unopened refusal.Choice)))))))))))))))))))))))))

same : (a : Refusal) → with_number (number_of a) ≡ a
same refusal.TooLong = refl
same refusal.TooShort = refl
same refusal.Signature = refl
same refusal.Type = refl
same refusal.HeaderLength = refl
same refusal.MessageLength = refl
same refusal.Sequence = refl
same refusal.Conversation = refl
same refusal.Version = refl
same refusal.Vector = refl
same refusal.CriticalExtension = refl
same refusal.Checksum = refl
same refusal.OutOfTurn = refl
same refusal.Scheme = refl
same refusal.Room = refl
same refusal.NoCommonScheme = refl
same refusal.Stage = refl
same refusal.Argument = refl
same refusal.Element = refl
same refusal.ElementLength = refl
same refusal.LeftOver = refl
same refusal.Mechanisms = refl
same refusal.Numbering = refl
same refusal.ContentLimit = refl
same refusal.CriticalWritten = refl
same refusal.Unopened = refl
same refusal.Choice = refl

pub number_once : NumberOnce
number_once a b e = sym (same a) ∙ ap with_number e ∙ same b

pub number_some : NumberSome
number_some refusal.TooLong = omega arith
number_some refusal.TooShort = omega arith
number_some refusal.Signature = omega arith
number_some refusal.Type = omega arith
number_some refusal.HeaderLength = omega arith
number_some refusal.MessageLength = omega arith
number_some refusal.Sequence = omega arith
number_some refusal.Conversation = omega arith
number_some refusal.Version = omega arith
number_some refusal.Vector = omega arith
number_some refusal.CriticalExtension = omega arith
number_some refusal.Checksum = omega arith
number_some refusal.OutOfTurn = omega arith
number_some refusal.Scheme = omega arith
number_some refusal.Room = omega arith
number_some refusal.NoCommonScheme = omega arith
number_some refusal.Stage = omega arith
number_some refusal.Argument = omega arith
number_some refusal.Element = omega arith
number_some refusal.ElementLength = omega arith
number_some refusal.LeftOver = omega arith
number_some refusal.Mechanisms = omega arith
number_some refusal.Numbering = omega arith
number_some refusal.ContentLimit = omega arith
number_some refusal.CriticalWritten = omega arith
number_some refusal.Unopened = omega arith
number_some refusal.Choice = omega arith
