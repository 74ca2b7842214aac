-- The token's sequences, in the words of the code.
-- Assumes nothing.
use Prim.Native.Nat.{ℕ, ◌+◌, ◌<◌, ◌≤◌}
use mathlib.Core.Path.{◌≡◌, sym}
use mathlib.Core.Bool.{Bool, true, false}
use mathlib.Core.List.{List, ◌∷◌}
use native.Mathlib.Omega.{arith}
use lib.ListN.{get_or}
use lib.Dec.{leb, eqb}
use borrow.Author.Tests.{le-leb, lt-leb, eq-eqb}
use Rattle.std.specs.Prelude.{Option, Result, Ok, Err, IsErrAnd}
use Rattle.refusal.specs.declared.Refusal.{Refusal}
use Rattle.refusal.specs.declared.Refusal.TheVariants as refusal
use Rattle.der.specs.Got.{check}
use Rattle.der.specs.Grammar.{optional}
use Rattle.der.specs.Holder.{HolderAt, octets_at, part}
use Rattle.der.specs.declared.Part.{Part as Section}
use Rattle.der.proofs.Parts.{part_none, part-cons}
use Rattle.der.proofs.Answers.{got-ok, got-placed, passed-on, continued}
use Rattle.envelope.specs.Envelope.{is_state}
use Rattle.envelope.specs.Reading.{mechanisms_of, tail_of, init_of, resp_of, begins}
use Rattle.envelope.specs.declared.Tail.{Tail}
use Rattle.envelope.specs.declared.Envelope.{Envelope as Lent}
use Rattle.envelope.specs.declared.Envelope.TheVariants as lent
use Rattle.envelope.specs.Answers.{Optionals, Lists, Tails, Reads}
use Rattle.envelope.proofs.Optionals.{field_in}

module _ (s : List ℕ) (H : Section) (m : Result (Section × ℕ × Section) Refusal) (m-says : Lists s H (mechanisms_of (octets_at s H)) m) where
  abbrev SaysInit : Result Lent Refusal → Type 0
  SaysInit r = Reads s H.end (init_of (octets_at s H)) r

  pub init-no : (e : Refusal) → m ≡ Err e → (r : Result Lent Refusal) → IsErrAnd r (λ y. y ≡ e) → SaysInit r
  unfolding init_of
  init-no e k r r-is = passed-on m-says e k _ r r-is

  module _ (l : Section) (n : ℕ) (behind : Section) (m-is : m ≡ Ok (l, n, behind)) where
    pub init-behind : HolderAt s behind
    init-behind = (got-placed m-says (l, n, behind) m-is).1

    module _ (t : Result Tail Refusal) (t-says : Tails s behind.end (tail_of 0x03 (octets_at s behind)) t) where
      pub init-tail-no : (e : Refusal) → t ≡ Err e → (r : Result Lent Refusal) → IsErrAnd r (λ y. y ≡ e) → SaysInit r
      unfolding init_of
      init-tail-no e k r r-is = continued m-says _ m-is _ r (passed-on t-says e k _ r r-is)

      pub init-found : (x : Tail) → t ≡ Ok x
          → SaysInit (Ok (lent.Init (record { list = l; count = n; flags = x.second; token = x.token; checksum = x.checksum })))
      unfolding init_of
      init-found x e =
          let p = got-placed m-says (l, n, behind) m-is in
          record {
            same = sym (rw (got-ok m-says _ m-is, got-ok t-says x e));
            placed = (p.0, rw p.2 at (got-placed t-says x e));
          }

module _ (s : List ℕ) (H : Section) (h : HolderAt s H) where
  pub begins-none : H.from ≡ H.end → eqb H.from H.end ≡ begins (octets_at s H)
  unfolding begins
  begins-none e = rw (eq-eqb H.from H.end e, ← e, part_none s H.from)

  module _ (some : H.from ≡ H.end → ⊥) where
    front : octets_at s H ≡ get_or s H.from 0 ∷ part s (H.from + 1) H.end
    front = let o = h.order in part-cons s H.from H.end (omega arith) h.inside

    pub begins-low : get_or s H.from 0 < 0xA0 → leb 0xA0 (get_or s H.from 0) ≡ begins (octets_at s H)
    unfolding begins
    begins-low e = rw (front, lt-leb 0xA0 (get_or s H.from 0) e)

    pub begins-high : 0xA0 ≤ get_or s H.from 0 → leb (get_or s H.from 0) 0xA3 ≡ begins (octets_at s H)
    unfolding begins
    begins-high e = rw (front, le-leb 0xA0 (get_or s H.from 0) e)

pub ruleset beginnings = (begins-none, begins-low, begins-high)

module _ (s : List ℕ) (H : Section) (w : Bool) (w-is : w ≡ begins (octets_at s H)) where
  abbrev SaysResp : Result Lent Refusal → Type 0
  SaysResp r = Reads s H.end (resp_of (octets_at s H)) r

  pub resp-other : w ≡ false → SaysResp (Err refusal.Element)
  unfolding resp_of check
  resp-other e = record { same = sym (rw (← w-is, e)); placed = tt }

  module _ (begun : w ≡ true) (x : Result (Option Section × Section) Refusal)
      (x-says : Optionals s H (optional 0xA0 0x0A is_state (octets_at s H)) x) where
    pub resp-no : (e : Refusal) → x ≡ Err e → (r : Result Lent Refusal) → IsErrAnd r (λ y. y ≡ e) → SaysResp r
    unfolding resp_of check
    resp-no e k r r-is = rw (← w-is, begun) (passed-on x-says e k _ r r-is)

    module _ (X : Option Section) (a : Section) (x-is : x ≡ Ok (X, a)) where
      pub resp-behind : HolderAt s a
      resp-behind = (got-placed x-says (X, a) x-is).behind

      module _ (t : Result Tail Refusal) (t-says : Tails s a.end (tail_of 0x06 (octets_at s a)) t) where
        pub resp-tail-no : (e : Refusal) → t ≡ Err e → (r : Result Lent Refusal) → IsErrAnd r (λ y. y ≡ e) → SaysResp r
        unfolding resp_of check
        resp-tail-no e k r r-is = rw (← w-is, begun) (continued x-says _ x-is _ r (passed-on t-says e k _ r r-is))

        pub resp-found : (y : Tail) → t ≡ Ok y
            → SaysResp (Ok (lent.Resp (record { state = X; mechanism = y.second; token = y.token; checksum = y.checksum })))
        unfolding resp_of check
        resp-found y e =
            let p = got-placed x-says (X, a) x-is in
            record {
              same = sym (rw (← w-is, begun, got-ok x-says _ x-is, got-ok t-says y e));
              placed = (field_in s H X a p, rw p.last at (got-placed t-says y e));
            }
