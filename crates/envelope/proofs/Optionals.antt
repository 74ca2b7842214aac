-- Fields that may be missing, in the words of the code.
-- Assumes nothing.
use Prim.Native.Nat.{ℕ, ◌<◌, ◌≤◌}
use mathlib.Core.Path.{◌≡◌, refl, sym}
use mathlib.Core.Bool.{Bool, true, false}
use mathlib.Core.List.{List}
use native.Mathlib.Omega.{arith}
use lib.ListN.{get_or}
use lib.Dec.{eqb, ltb}
use borrow.Author.Tests.{le-ltb}
use Rattle.std.specs.Prelude.{Option, Some, None, Result, Ok, Err, IsErrAnd}
use Rattle.refusal.specs.declared.Refusal.{Refusal}
use Rattle.refusal.specs.declared.Refusal.TheVariants as refusal
use Rattle.der.specs.Element.{cut, any}
use Rattle.der.specs.Grammar.{within, only, starts, field, optional}
use Rattle.der.specs.Holder.{HolderAt, octets_at, Cuts}
use Rattle.der.specs.declared.Part.{Part as Section}
use Rattle.der.proofs.Parts.{part_none, part-cons}
use Rattle.der.proofs.Answers.{got-ok, got-no, got-placed, passed-on}
use Rattle.envelope.specs.Answers.{FieldTo, Optionals, FieldIn}
use Rattle.envelope.proofs.Holders.{holder_in, holder-behind, closed-end, closed-left}

-- the front of a holder
module _ (s : List ℕ) (H : Section) (t : ℕ) (h : HolderAt s H) where
  pub starts_none : H.end ≤ H.from → ltb H.from H.end ≡ starts t (octets_at s H)
  unfolding starts
  starts_none e =
      let o = h.order in
      let k : H.from ≡ H.end = omega arith in
      rw (le-ltb H.from H.end e, ← k, part_none s H.from)

  pub starts-some : H.from < H.end → eqb (get_or s H.from 0) t ≡ starts t (octets_at s H)
  unfolding starts
  starts-some e = rw (part-cons s H.from H.end e h.inside)

pub ruleset fronts = (starts_none, starts-some)

module _ (s : List ℕ) (H : Section) (t u : ℕ) (p : List ℕ → Bool) (h : HolderAt s H) (w : Bool) (w-is : w ≡ starts t (octets_at s H)) where
  abbrev Says : Result (Option Section × Section) Refusal → Type 0
  Says r = Optionals s H (optional t u p (octets_at s H)) r

  pub option-absent : w ≡ false → Says (Ok (None, H))
  unfolding optional
  option-absent e = record { same = rw (← w-is, e); placed = record { ends = tt; behind = h; last = refl } }

  module _ (there : w ≡ true) (c : Result (Section × Section) Refusal) (says : Cuts s H (cut t any (octets_at s H)) c) where
    pub option-no : (e : Refusal) → c ≡ Err e → (x : Result (Option Section × Section) Refusal) → IsErrAnd x (λ y. y ≡ e) → Says x
    unfolding optional field within
    option-no e k x x-is = rw (← w-is, there) (passed-on says e k _ x x-is)

    module _ (f behind : Section) (c-is : c ≡ Ok (f, behind)) where
      pub option-field : HolderAt s f
      option-field = holder_in s H says f behind c-is h

      module _ (d : Result (Section × Section) Refusal) (d-says : Cuts s f (cut u p (octets_at s f)) d) where
        pub option-inner-no : (e : Refusal) → d ≡ Err e → (x : Result (Option Section × Section) Refusal) → IsErrAnd x (λ y. y ≡ e) → Says x
        unfolding optional field within only
        option-inner-no e k (Ok y) x-is = absurd x-is
        option-inner-no e k (Err y) x-is = rw x-is (record { same = sym (rw (← w-is, there, got-ok says _ c-is, got-no d-says e k)); placed = tt })

        module _ (contents rest : Section) (d-is : d ≡ Ok (contents, rest)) where
          rest-holder : HolderAt s rest
          rest-holder = holder-behind s f d-says contents rest d-is option-field

          pub option-left : (rest.from ≡ rest.end → ⊥) → Says (Err refusal.LeftOver)
          unfolding optional field within only
          option-left e =
              record {
                same = sym (rw (← w-is, there, got-ok says _ c-is, got-ok d-says _ d-is) (rw (closed-left s rest rest-holder _ e)));
                placed = tt;
              }

          pub option-found : rest.from ≡ rest.end → Says (Ok (Some contents, behind))
          unfolding optional field within only
          option-found e =
              let i = got-placed says (f, behind) c-is in
              let j = got-placed d-says (contents, rest) d-is in
              record {
                same = sym (rw (← w-is, there, got-ok says _ c-is, got-ok d-says _ d-is) (rw (closed-end s rest rest-holder _ e)));
                placed = record { ends = (j.order, omega arith); behind = holder-behind s H says f behind c-is h; last = i.last };
              }

pub ruleset options = (option-absent, option-no, option-field, option-inner-no, option-left, option-found)

pub field_in : (s : List ℕ) (H : Section) (f : Option Section) (rest : Section) → FieldTo s H f rest → FieldIn s f
field_in s H None rest w = tt
field_in s H (Some f) rest w =
    let i = w.ends in
    let o = w.behind.order in
    let j = w.behind.inside in
    (i.0, omega arith)
