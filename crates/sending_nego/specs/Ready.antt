-- What the writers of a NEGO test before they are given random, and what they rely on once they are not refused.
--
-- Glossary
--   tested      the contents of a NEGO but for random, which no test looks at
--   NegoReady   a NEGO of these schemes may be written, and its extensions keep their limits
--   ReplyReady  an ACCEPTOR_NEGO may be written: some scheme is left
use Rattle.std.specs.Prelude.{ℕ, ◌≡◌, Bool, true, List, []}
use Rattle.elements.specs.declared.Elements.{Elements}
use Rattle.elements.specs.Elements.{items_of, elements_fit}
use Rattle.encode.specs.Encode.{nego_of}
use Rattle.schemes.specs.Lists.{join_ids}
use Rattle.schemes.specs.Sets.{left}
use Rattle.conversation.specs.declared.Record.{Record}
use Rattle.conversation.specs.State.{own_of}
use Rattle.conversation.specs.Turns.{NEGO}
use Rattle.conversation.specs.Writing.{NegoContent, some_left}
use Rattle.calls.specs.Calls.{Ready}

abbrev pub tested : Bool → Elements → List ℕ → NegoContent
tested test extensions values = record { random = []; test = test; extensions = extensions; values = values }

pub record NegoReady (r : Record) (d random schemes : List ℕ) (extensions : Elements) (values : List ℕ) : Type 0 where
  pub ready : Ready r d NEGO (nego_of random schemes (items_of extensions values))
  pub keeps : elements_fit extensions values ≡ true

pub record ReplyReady (r : Record) (d : List ℕ) (m : ℕ) (random : List ℕ) (extensions : Elements) (values : List ℕ) : Type 0 where
  pub nego : NegoReady r d random (join_ids (left (own_of r) r.common m)) extensions values
  pub some : some_left (left (own_of r) r.common m) ≡ true
