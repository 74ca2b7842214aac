-- 25 and 26, and a NEGO at the transcript's end, in the words of the code.
-- Assumes nothing.
use Prim.Native.Nat.{ℕ, ◌+◌, ◌≤◌, ◌<◌}
use mathlib.Core.Path.{◌≡◌, sym, ap, ◌∙◌}
use mathlib.Core.Bool.{Bool, true, false, ◌||◌}
use mathlib.Core.List.{List}
use native.Mathlib.Omega.{arith}
use lib.ListN.{length}
use Rattle.message.specs.Check.{first_failing}
use Rattle.elements.specs.declared.Elements.{Elements}
use Rattle.elements.specs.Elements.{items_of, elements_fit, handed_size, types_ordinary}
use Rattle.elements.proofs.Views.{handed-size}
use Rattle.encode.specs.Encode.{nego_of, size_of}
use Rattle.conversation.specs.declared.Record.{Record}
use Rattle.conversation.specs.Writing.{extension_rows}
use Rattle.sending_nego.specs.Ready.{tested, NegoReady}

module _ (test : Bool) (e : Elements) (v : List ℕ) (f : Bool) (f-is : f ≡ elements_fit e v) where
  pub extension-unfit : f ≡ false → 25 ≡ first_failing (extension_rows (tested test e v))
  extension-unfit h = rw (← f-is, h)

  module _ (t : f ≡ true) (b : Bool) (b-is : b ≡ (test || types_ordinary e)) where
    pub extension-critical : b ≡ false → 26 ≡ first_failing (extension_rows (tested test e v))
    extension-critical h = rw (← f-is, t, ← b-is, h)

    pub extension-ok : b ≡ true → 0 ≡ first_failing (extension_rows (tested test e v))
    extension-ok h = rw (← f-is, t, ← b-is, h)

pub ruleset extensions = (extension-unfit, extension-critical, extension-ok)

-- ---- the message at the transcript's end: k is how many octets the extensions are written as
module _ (r : Record) (d random schemes : List ℕ) (e : Elements) (v : List ℕ) (y : NegoReady r d random schemes e v) (k : ℕ)
    (k-is : k ≡ handed_size e v) where
  pub nego-size : 96 + length schemes + k ≡ size_of (nego_of random schemes (items_of e v))
  nego-size = ap (λ (i : ℕ). 96 + length schemes + i) (k-is ∙ sym (handed-size e v y.keeps))

  pub nego-counted : (r.sequence ≤ 1023) × (r.used + (96 + length schemes + k) ≤ 65535)
  nego-counted = (y.ready.inside.sequence, omega (arith, y.ready.room, nego-size))

  pub nego-small : 96 + length schemes + k < 18446744073709551616
  nego-small = omega (arith, nego-counted.1)
