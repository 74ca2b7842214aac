-- The lengths of the written messages.
-- Assumes nothing.
use mathlib.Core.Path.{◌≡◌}
use native.Mathlib.Omega.{arith}
use lib.ListN.{length, length-append}
use Rattle.elements.proofs.Views.{length-items}
use Rattle.encode.specs.declared.Heading.{Heading}
use Rattle.encode.specs.Encode.{Whole, Contents, of_nego, of_exchange, of_verify, of_alert, size_of, encoded}

module _ (h : Heading) (id : length h.conversation ≡ 16) where
  pub length-encoded : (c : Contents) → Whole c → length (encoded h c) ≡ size_of c
  unfolding encoded
  length-encoded (of_nego o) w = simp (length-append, id, w, length-items) (omega arith)
  length-encoded (of_exchange p) w = simp (length-append, id, w) (omega arith)
  length-encoded (of_verify k) w = simp (length-append, id, w) (omega arith)
  length-encoded (of_alert p) w = simp (length-append, id, w, length-items) (omega arith)
