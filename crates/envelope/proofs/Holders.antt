-- An element that was cut, and its holder, in the words of the code.
-- Assumes nothing.
use Prim.Native.Nat.{ℕ}
use mathlib.Core.Path.{◌≡◌}
use mathlib.Core.List.{List}
use native.Mathlib.Omega.{arith}
use Rattle.std.specs.Prelude.{Result, Ok}
use Rattle.refusal.specs.declared.Refusal.{Refusal}
use Rattle.der.specs.Got.{Got, ok, no}
use Rattle.der.specs.Element.{Part}
use Rattle.der.specs.Grammar.{closed}
use Rattle.der.specs.Holder.{HolderAt, octets_at, Cuts}
use Rattle.der.specs.declared.Part.{Part as Section}
use Rattle.der.proofs.Parts.{part_none, part-cons}
use Rattle.der.proofs.Answers.{got-placed}

module _ (s : List ℕ) (H : Section) {g : Got (Part (List ℕ))} {r : Result (Section × Section) Refusal} (says : Cuts s H g r) where
  pub holder_in : (c rest : Section) → r ≡ Ok (c, rest) → HolderAt s H → HolderAt s c
  holder_in c rest e h =
      let i = got-placed says (c, rest) e in
      let j = h.inside in
      record { order = i.order; inside = omega arith; small = h.small }

  pub holder-behind : (c rest : Section) → r ≡ Ok (c, rest) → HolderAt s H → HolderAt s rest
  holder-behind c rest e h =
      let i = got-placed says (c, rest) e in
      let j = h.inside in
      record { order = i.behind; inside = omega arith; small = h.small }

-- octets behind an element
module _ {A : Type 0} (s : List ℕ) (rest : Section) (h : HolderAt s rest) (a : A) where
  pub closed-end : rest.from ≡ rest.end → closed (octets_at s rest) a ≡ ok a
  unfolding closed
  closed-end e = rw (← e, part_none s rest.from)

  pub closed-left : (rest.from ≡ rest.end → ⊥) → closed (octets_at s rest) a ≡ no 22
  unfolding closed
  closed-left e = let o = h.order in rw (part-cons s rest.from rest.end (omega arith) h.inside)
