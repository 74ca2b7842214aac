-- One identifier of a list, in the words of the code.
-- Assumes nothing.
use Prim.Native.Nat.{ℕ, zero, suc, ◌+◌, ◌-◌, ◌<◌, ◌≤◌}
use mathlib.Core.Path.{◌≡◌, sym, ◌∙◌}
use mathlib.Core.List.{List, []}
use native.Mathlib.Omega.{arith}
use lib.ListN.{length, take, drop}
use Rattle.std.specs.Prelude.{Result, Ok, Err}
use Rattle.refusal.specs.declared.Refusal.{Refusal}
use Rattle.der.specs.Element.{cut, any}
use Rattle.der.specs.Holder.{HolderAt, octets_at, part, Inside, Cuts}
use Rattle.der.specs.declared.Part.{Part as Section}
use Rattle.der.proofs.Answers.{got-no, got-ok, got-placed}
use Rattle.envelope.proofs.Holders.{holder-behind}
use Rattle.envelope_parts.specs.Parts.{identifier_of}

-- i identifiers are passed, and of those behind them number k - i is asked for
module _ (s : List ℕ) (rest : Section) (k i : ℕ) (x : List ℕ) (h : HolderAt s rest) (inv : x ≡ identifier_of (k - i) (octets_at s rest))
    (c : Result (Section × Section) Refusal) (says : Cuts s rest (cut 0x06 any (octets_at s rest)) c) where
  pub nth-no : (e : Refusal) → c ≡ Err e → [] ≡ x
  unfolding identifier_of
  nth-no e z = sym (inv ∙ stop (k - i)) where
    stop : (n : ℕ) → identifier_of n (octets_at s rest) ≡ []
    stop zero = rw (got-no says e z)
    stop (suc n) = rw (got-no says e z)

  module _ (m behind : Section) (c-is : c ≡ Ok (m, behind)) where
    inside : Inside rest m behind
    inside = got-placed says (m, behind) c-is

    pub nth_here : k ≤ i → take (m.end - m.from) (drop m.from s) ≡ x
    unfolding identifier_of part
    nth_here l = let z : k - i ≡ 0 = omega arith in sym (inv ∙ rw (z, got-ok says (m, behind) c-is))

    pub nth-more : i < k → x ≡ identifier_of (k - (i + 1)) (octets_at s behind)
    unfolding identifier_of
    nth-more l = let z : k - i ≡ suc (k - (i + 1)) = omega arith in inv ∙ rw (z, got-ok says (m, behind) c-is)

    pub nth-behind : HolderAt s behind
    nth-behind = holder-behind s rest says m behind c-is h

    pub nth-order : m.from ≤ m.end
    nth-order = inside.order

    pub nth-within : m.end ≤ length s
    nth-within = let j = inside in let o = h.inside in omega arith
