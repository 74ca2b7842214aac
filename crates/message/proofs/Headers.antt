-- Which of checks 2 to 6 decides a header: one law for each answer, in the words of the code. Each premise is what a call ensures of its
-- result, or what a test says.
-- Assumes nothing.
use Prim.Native.Nat.{ℕ, ◌≤◌, ◌<◌}
use mathlib.Core.Path.{◌≡◌, refl, ap, ◌∙◌, subst}
use mathlib.Core.Bool.{true}
use mathlib.Core.List.{List}
use native.Mathlib.Omega.{arith}
use lib.ListN.{length}
use borrow.Author.Tests.{le-leb, lt-leb, eq-eqb, ne_eqb, leb-true, eqb-true}
use Rattle.octets.specs.Octets.{le}
use Rattle.message.specs.declared.Kind.{Kind}
use Rattle.message.specs.Layout.{Head, shape_of, header_of, head_of}
use Rattle.message.specs.Check.{SIGNATURE, read, refused, common_rows, all_pass, header_verdict, fields_of, Passed, HeaderPassed}
use Rattle.message.proofs.Shapes.{header-least}
use Rattle.message.proofs.Tables.{given, verdict-read}

-- what checks 2 to 6 say
pub record Sized (n : ℕ) (h : Head) : Type 0 where
  pub forty : 40 ≤ n
  pub known : h.kind ≤ 7
  pub header : h.header ≡ header_of (shape_of h.kind)
  pub whole : 64 ≤ h.header
  pub holds : h.header ≤ h.length
  pub within : h.length ≤ n

pub common-sized : (n : ℕ) (h : Head) → all_pass (common_rows n h) ≡ true → Sized n h
unfolding common_rows
common-sized n h e =
    let (r2, (r3, (r4, (r5, (r6, (r6', end)))))) = given (common_rows n h) e in
    let is : h.header ≡ header_of (shape_of h.kind) = eqb-true _ _ r5 in
    record {
      forty = leb-true _ _ r2;
      known = leb-true _ _ r4;
      header = is;
      whole = omega (arith, is, header-least (shape_of h.kind));
      holds = leb-true _ _ r6;
      within = leb-true _ _ r6';
    }

-- the code's constant
signature-is : SIGNATURE ≡ 0x535458454F47454E
unfolding le
signature-is = refl

module _ (s : List ℕ) where
  pub header-2 : length s < 40 → refused 2 ≡ header_verdict s
  unfolding header_verdict common_rows head_of
  header-2 h = simp (lt-leb _ _ h)

  module _ (sized : 40 ≤ length s) (sig : ℕ) (sig-is : sig ≡ le 8 s 0) where
    pub header-3 : (sig ≡ 0x535458454F47454E → ⊥) → refused 3 ≡ header_verdict s
    unfolding header_verdict common_rows head_of
    header-3 h = simp (le-leb _ _ sized, ← sig-is, signature-is, ne_eqb _ _ h)

    module _ (signed : sig ≡ 0x535458454F47454E) (kind : ℕ) (kind-is : kind ≡ le 4 s 8) where
      pub header-4 : 7 < kind → refused 4 ≡ header_verdict s
      unfolding header_verdict common_rows head_of
      header-4 h = simp (le-leb _ _ sized, ← sig-is, signature-is, eq-eqb _ _ signed, ← kind-is, lt-leb _ _ h)

      module _ (known : kind ≤ 7) (header fixed : ℕ) (header_is : header ≡ le 4 s 16) (k : Kind) (k-is : k.0 ≡ kind)
          (fixed-is : fixed ≡ header_of (shape_of k.0)) where
        fixed-here : fixed ≡ header_of (shape_of kind)
        fixed-here = fixed-is ∙ ap (λ (x : ℕ). header_of (shape_of x)) k-is

        pub header-5 : (header ≡ fixed → ⊥) → refused 5 ≡ header_verdict s
        unfolding header_verdict common_rows head_of
        header-5 h =
            simp (le-leb _ _ sized, ← sig-is, signature-is, eq-eqb _ _ signed, ← kind-is, le-leb _ _ known, ← header_is, ← fixed-here, ne_eqb _ _ h)

        module _ (right : header ≡ fixed) (len : ℕ) (len_is : len ≡ le 4 s 20) where
          pub header-6 : len < header → refused 6 ≡ header_verdict s
          unfolding header_verdict common_rows head_of
          header-6 h =
              simp (
                le-leb _ _ sized,
                ← sig-is,
                signature-is,
                eq-eqb _ _ signed,
                ← kind-is,
                le-leb _ _ known,
                ← header_is,
                ← fixed-here,
                eq-eqb _ _
                    right,
                ← len_is,
                lt-leb _ _ h,
              )

          module _ (whole : header ≤ len) where
            pub header-6-past : length s < len → refused 6 ≡ header_verdict s
            unfolding header_verdict common_rows head_of
            header-6-past h =
                simp (
                  le-leb _ _ sized,
                  ← sig-is,
                  signature-is,
                  eq-eqb _ _ signed,
                  ← kind-is,
                  le-leb _ _ known,
                  ← header_is,
                  ← fixed-here,
                  eq-eqb _ _
                      right,
                  ← len_is,
                  le-leb _ _ whole,
                  lt-leb _ _ h,
                )

            pub header_read : len ≤ length s → (sequence : ℕ) → sequence ≡ le 4 s 12
                → read (record { kind = k; sequence = sequence; header = header; length = len }) ≡ header_verdict s
            unfolding header_verdict common_rows head_of
            header_read h sequence sequence-is =
                simp (
                  le-leb _ _ sized,
                  ← sig-is,
                  signature-is,
                  eq-eqb _ _ signed,
                  ← kind-is,
                  le-leb _ _ known,
                  ← header_is,
                  ← fixed-is,
                  eq-eqb _ _
                      right,
                  ← len_is,
                  le-leb _ _ whole,
                  le-leb _ _ h,
                  ← sequence-is,
                  ← k-is,
                )

pub ruleset headers = (header-2, header-3, header-4, header-5, header-6, header-6-past, header_read)

pub header-passed : HeaderPassed
unfolding header_verdict
header-passed s h e =
    let p = verdict-read (common_rows (length s) (head_of s)) (fields_of (head_of s)) h e in
    let z = common-sized (length s) (head_of s) p.0 in
    subst (Passed s) p.1
    (record { is = refl; forty = z.forty; header = let a = z.header in let b = z.holds in omega arith; within = z.within })
