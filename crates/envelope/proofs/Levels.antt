-- An element around a reading, in the words of the code: one law for every level.
-- Assumes nothing.
use Prim.Native.Nat.{ℕ, ◌-◌, ◌<◌, ◌≤◌}
use mathlib.Core.Path.{◌≡◌, sym, ◌∙◌}
use mathlib.Core.Bool.{Bool, true, false}
use mathlib.Core.List.{List}
use native.Mathlib.Omega.{arith}
use lib.ListN.{length}
use lib.Seq.{take-length}
use borrow.Author.Tests.{le-leb, lt-leb}
use Rattle.std.specs.Prelude.{Result, Ok, Err, IsErrAnd}
use Rattle.refusal.specs.declared.Refusal.{Refusal}
use Rattle.refusal.specs.declared.Refusal.TheVariants as refusal
use Rattle.der.specs.Got.{Got, check}
use Rattle.der.specs.Element.{cut, any, exactly}
use Rattle.der.specs.Grammar.{within, only, starts}
use Rattle.der.specs.Holder.{HolderAt, octets_at, part, Cuts}
use Rattle.der.specs.declared.Part.{Part as Section}
use Rattle.der.proofs.Answers.{got-no, got-ok, got-placed, passed-on, continued}
use Rattle.envelope.specs.Envelope.{Envelope, spnego}
use Rattle.envelope.specs.Reading.{init_of, resp_of, wrapped_of, envelope_of}
use Rattle.envelope.specs.Answers.{Reads}
use Rattle.envelope.specs.declared.Envelope.{Envelope as Lent}
use Rattle.envelope.proofs.Holders.{holder-behind, closed-end, closed-left}

module _ (s : List ℕ) (H : Section) (t : ℕ) (h : HolderAt s H) (body : List ℕ → Got Envelope) (c : Result (Section × Section) Refusal)
    (says : Cuts s H (cut t any (octets_at s H)) c) where
  abbrev Says : Result Lent Refusal → Type 0
  Says r = Reads s H.end (only t any body (octets_at s H)) r

  pub level-no : (e : Refusal) → c ≡ Err e → (x : Result Lent Refusal) → IsErrAnd x (λ y. y ≡ e) → Says x
  unfolding only within
  level-no e k (Ok y) x-is = absurd x-is
  level-no e k (Err y) x-is = rw x-is (record { same = sym (rw (got-no says e k)); placed = tt })

  module _ (contents rest : Section) (c-is : c ≡ Ok (contents, rest)) (r : Result Lent Refusal)
      (r-says : Reads s contents.end (body (octets_at s contents)) r) where
    pub level-inner-no : (e : Refusal) → r ≡ Err e → (x : Result Lent Refusal) → IsErrAnd x (λ y. y ≡ e) → Says x
    unfolding only within
    level-inner-no e k (Ok y) x-is = absurd x-is
    level-inner-no e k (Err y) x-is = rw x-is (record { same = sym (rw (got-ok says _ c-is, got-no r-says e k)); placed = tt })

    module _ (x : Lent) (r-is : r ≡ Ok x) where
      behind : HolderAt s rest
      behind = holder-behind s H says contents rest c-is h

      pub level-left : (rest.from ≡ rest.end → ⊥) → Says (Err refusal.LeftOver)
      unfolding only within
      level-left e = record { same = sym (rw (got-ok says _ c-is, got-ok r-says x r-is) (rw (closed-left s rest behind _ e))); placed = tt }

      pub level-read : rest.from ≡ rest.end → Says (Ok x)
      unfolding only within
      level-read e =
          let i = got-placed says (contents, rest) c-is in
          let end : contents.end ≡ H.end = omega arith in
          record {
            same = sym (rw (got-ok says _ c-is, got-ok r-says x r-is) (rw (closed-end s rest behind _ e)));
            placed = rw end at (got-placed r-says x r-is);
          }

-- the wrapper's contents
module _ (s : List ℕ) (H : Section) (h : HolderAt s H) (c : Result (Section × Section) Refusal)
    (says : Cuts s H (cut 0x06 (exactly spnego) (octets_at s H)) c) where
  pub wrapped-no : (e : Refusal) → c ≡ Err e → (x : Result Lent Refusal) → IsErrAnd x (λ y. y ≡ e) → Reads s H.end (wrapped_of (octets_at s H)) x
  unfolding wrapped_of
  wrapped-no e k x x-is = passed-on says e k _ x x-is

  module _ (contents rest : Section) (c-is : c ≡ Ok (contents, rest)) where
    pub wrapped-behind : HolderAt s rest
    wrapped-behind = holder-behind s H says contents rest c-is h

    pub wrapped-read : (r : Result Lent Refusal) → Reads s rest.end (only 0xA0 any (only 0x30 any init_of) (octets_at s rest)) r
        → Reads s H.end (wrapped_of (octets_at s H)) r
    unfolding wrapped_of
    wrapped-read r r-says =
        let i = got-placed says (contents, rest) c-is in
        continued says _ c-is _ r (to-end rest.end H.end i.last r-says) where
          to-end : (a b : ℕ) → a ≡ b → {g : Got Envelope} → Reads s a g r → Reads s b g r
          to-end a b e x = rw e at x

-- the whole buffer
module _ (s : List ℕ) where
  whole : part s 0 (length s) ≡ s
  unfolding part
  whole = let z : length s - 0 ≡ length s = omega arith in rw (z, take-length s)

  pub envelope-long : 65535 < length s → Reads s (length s) (envelope_of s) (Err refusal.TooLong)
  unfolding envelope_of check
  envelope-long h = record { same = sym (rw (lt-leb (length s) 65535 h)); placed = tt }

  module _ (short : length s ≤ 65535) where
    pub envelope-holder : HolderAt s (record { from = 0; end = length s })
    envelope-holder = record { order = omega arith; inside = omega arith; small = short }

    module _ (w : Bool) (w-is : w ≡ starts 0x60 (part s 0 (length s))) (r : Result Lent Refusal) where
      pub envelope-init : w ≡ true → Reads s (length s) (only 0x60 any wrapped_of (part s 0 (length s))) r → Reads s (length s) (envelope_of s) r
      unfolding envelope_of check
      envelope-init h e =
          let z : starts 0x60 s ≡ true = rw whole at (sym w-is ∙ h) in
          record { same = (rw whole at e.same) ∙ rw (le-leb (length s) 65535 short, z); placed = e.placed }

      pub envelope-resp : w ≡ false → Reads s (length s) (only 0xA1 any (only 0x30 any resp_of) (part s 0 (length s))) r
          → Reads s (length s) (envelope_of s) r
      unfolding envelope_of check
      envelope-resp h e =
          let z : starts 0x60 s ≡ false = rw whole at (sym w-is ∙ h) in
          record { same = (rw whole at e.same) ∙ rw (le-leb (length s) 65535 short, z); placed = e.placed }

pub ruleset envelopes = (envelope-long, envelope-holder, envelope-init, envelope-resp)
