-- The three fields behind the first, in the words of the code.
-- Assumes nothing.
use Prim.Native.Nat.{ℕ, ◌+◌, ◌-◌, ◌≤◌}
use mathlib.Core.Path.{◌≡◌, sym, ap, ◌∙◌}
use mathlib.Core.List.{List, append-nil}
use native.Mathlib.Omega.{arith}
use lib.ListN.{length}
use Rattle.std.specs.Prelude.{Option, Some, None, Result, Ok, Err, IsErrAnd}
use Rattle.refusal.specs.declared.Refusal.{Refusal}
use Rattle.refusal.specs.declared.Refusal.TheVariants as refusal
use Rattle.der.specs.Got.{ok}
use Rattle.der.specs.Element.{any}
use Rattle.der.specs.Grammar.{field_octets, optional}
use Rattle.der.specs.Holder.{HolderAt, octets_at, part}
use Rattle.der.specs.declared.Part.{Part as Section}
use Rattle.der.proofs.Parts.{part_none, length_part}
use Rattle.der.proofs.Nesting.{optional-forth}
use Rattle.der.proofs.Answers.{got-ok, got-placed, passed-on, continued}
use Rattle.envelope.specs.Reading.{tail_of}
use Rattle.envelope.specs.declared.Tail.{Tail}
use Rattle.envelope.specs.Answers.{shown, FieldIn, Before, FieldTo, Optionals, Tails}
use Rattle.envelope.proofs.Holders.{closed-end, closed-left}
use Rattle.envelope.proofs.Optionals.{field_in}

-- behind the token there is the checksum alone
before : (s : List ℕ) (H a b : Section) (t k : Option Section) → FieldTo s H t a
    → optional 0xA3 0x04 any (octets_at s a) ≡ ok (record { value = shown s k; rest = octets_at s b }) → b.from ≡ b.end → Before s a.end t k
before s H a b None k w e z = tt
before s H a b (Some f) k w e z =
    let h = (optional-forth 0xA3 0x04 any (octets_at s a) (record { value = shown s k; rest = octets_at s b }) e).0 in
    rw w.ends.1 (h ∙ rw (← z, part_none s b.from, append-nil))

-- so its place follows from the sizes
module _ (s : List ℕ) (t k : Option Section) (inside : FieldIn s t) (last : Before s (length s) t k) (f : Section) (there : t ≡ Some f) where
  pub token-inside : (f.from ≤ f.end) × (f.end ≤ length s)
  token-inside = rw there at inside

  pub token-size : length (octets_at s f) ≡ f.end - f.from
  token-size = length_part s f.from f.end token-inside.0 token-inside.1

  pub token-place : length s - (length (octets_at s f) + length (field_octets 0xA3 0x04 (shown s k))) ≡ f.from
  token-place =
      let i = token-inside in
      let behind : part s f.end (length s) ≡ field_octets 0xA3 0x04 (shown s k) = rw there at last in
      omega (arith, token-size, length_part s f.end (length s) i.1 (omega arith), ap length behind)

module _ (s : List ℕ) (H : Section) (u : ℕ) (y : Result (Option Section × Section) Refusal)
    (y-says : Optionals s H (optional 0xA1 u any (octets_at s H)) y) where
  abbrev Says : Result Tail Refusal → Type 0
  Says r = Tails s H.end (tail_of u (octets_at s H)) r

  pub tail-no : (e : Refusal) → y ≡ Err e → (r : Result Tail Refusal) → IsErrAnd r (λ y. y ≡ e) → Says r
  unfolding tail_of
  tail-no e k r r-is = passed-on y-says e k _ r r-is

  module _ (Y : Option Section) (a : Section) (y-is : y ≡ Ok (Y, a)) where
    pub tail-second : HolderAt s a
    tail-second = (got-placed y-says (Y, a) y-is).behind

    module _ (t : Result (Option Section × Section) Refusal) (t-says : Optionals s a (optional 0xA2 0x04 any (octets_at s a)) t) where
      pub tail-token-no : (e : Refusal) → t ≡ Err e → (r : Result Tail Refusal) → IsErrAnd r (λ y. y ≡ e) → Says r
      unfolding tail_of
      tail-token-no e k r r-is = continued y-says _ y-is _ r (passed-on t-says e k _ r r-is)

      module _ (T : Option Section) (b : Section) (t-is : t ≡ Ok (T, b)) where
        pub tail-third : HolderAt s b
        tail-third = (got-placed t-says (T, b) t-is).behind

        module _ (k : Result (Option Section × Section) Refusal) (k-says : Optionals s b (optional 0xA3 0x04 any (octets_at s b)) k) where
          pub tail-checksum-no : (e : Refusal) → k ≡ Err e → (r : Result Tail Refusal) → IsErrAnd r (λ y. y ≡ e) → Says r
          unfolding tail_of
          tail-checksum-no e z r r-is = continued y-says _ y-is _ r (continued t-says _ t-is _ r (passed-on k-says e z _ r r-is))

          module _ (K : Option Section) (c : Section) (k-is : k ≡ Ok (K, c)) where
            rest : HolderAt s c
            rest = (got-placed k-says (K, c) k-is).behind

            pub tail-left : (c.from ≡ c.end → ⊥) → Says (Err refusal.LeftOver)
            unfolding tail_of
            tail-left e =
                record {
                  same = sym (rw (got-ok y-says _ y-is, got-ok t-says _ t-is, got-ok k-says _ k-is) (closed-left s c rest _ e));
                  placed = tt;
                }

            pub tail-found : c.from ≡ c.end → Says (Ok (record { second = Y; token = T; checksum = K }))
            unfolding tail_of
            tail-found e =
                let yt = got-placed y-says (Y, a) y-is in
                let tt' = got-placed t-says (T, b) t-is in
                let kt = got-placed k-says (K, c) k-is in
                let end : b.end ≡ H.end = tt'.last ∙ yt.last in
                record {
                  same = sym (rw (got-ok y-says _ y-is, got-ok t-says _ t-is, got-ok k-says _ k-is) (closed-end s c rest _ e));
                  placed =
                      record {
                        second_in = field_in s H Y a yt;
                        token_in = field_in s a T b tt';
                        checksum_in = field_in s b K c kt;
                        last = rw end at (before s a b c T K tt' (got-ok k-says _ k-is) e);
                      };
                }
