-- The coverage of a token as an answer. In the words of the code.
-- Assumes nothing.
use Prim.Native.Nat.{ℕ, ◌+◌, ◌<◌, ◌≤◌, ◌^◌}
use mathlib.Core.Path.{◌≡◌, sym, ap, ◌∙◌}
use mathlib.Core.List.{List, ◌++◌}
use native.Mathlib.Omega.{arith}
use lib.ListN.{length, drop, replicate, length-replicate}
use lib.Seq.{length-take-le}
use lib.IntN.{pos, neg_ℤ}
use borrow.Author.Tests.{le-leb, lt-leb, eq-eqb}
use Rattle.std.proofs.Common.{Result}
use Rattle.token.specs.declared.Refused.{Refused}
use Rattle.token.specs.Token.{Reading, told}
use Rattle.token.specs.Walk.{Accepts}
use Rattle.token.proofs.Walks.{accepted-short}
use Rattle.put.specs.Put.{put}
use Rattle.blanking.specs.Covered.{covered}
use Rattle.blanking.specs.Blanked.{kept, Blanking}
use Rattle.blanking.specs.Masked.{masked_by, masking_of, coverage_of}
use Rattle.blanking.proofs.Keeps.{length-kept}
use Rattle.replies.specs.Replies.{and_then, reading_reply, fits, lent, written_in}
use Rattle.viewing.specs.Viewing.{coverage_answer}

-- ---- the words of `mask_token`
pub masked-is : (s : List ℕ) → Accepts s → (d d' : List ℕ) → length d ≡ length s → d' ≡ replicate (length d) 1 → (a : Result ℕ Refused) (y : List ℕ)
    → ◌≡◌ {A = Blanking} (record { outcome = told a; octets = y }) (masking_of s d') → y ≡ coverage_of s
unfolding coverage_of
masked-is s acc d d' e d-is a y w =
    let ones : d' ≡ replicate (length s) 1 = d-is ∙ ap (λ (n : ℕ). replicate n 1) e in
    let long : length d' ≡ length s = ap length ones ∙ length-replicate (length s) 1 in
    ap (λ (b : Blanking). b.octets) w
    ∙ ap (λ (q : Reading). masked_by q s d') acc
    ∙ (simp (eq-eqb (length d') (length s) long))
    ∙ ap (λ (l : List ℕ). kept (covered s) l 0) ones

-- ---- the words of `fill_coverage`
coverage-length : (s : List ℕ) → length (coverage_of s) ≡ length s
unfolding coverage_of
coverage-length s = length-kept (covered s) (replicate (length s) 1) 0 ∙ length-replicate (length s) 1

put_front : (d v : List ℕ) → v ++ drop (length v) d ≡ put d 0 v
unfolding put
put_front d v = let z : length v ≡ 0 + length v = omega arith in ap (λ (n : ℕ). v ++ drop n d) z

pub token-small : (s : List ℕ) → Accepts s → length s < 2 ^ 63
token-small s a = omega (arith, accepted-short s a)

module _ (s : List ℕ) (a : Accepts s) (d : List ℕ) where
  answer-is : written_in d (fits (length d) (coverage_of s)) ≡ coverage_answer s d
  answer-is = sym (ap (λ (r : Reading). written_in d (and_then (reading_reply r) (λ ms. fits (length d) (coverage_of s)))) a)

  pub coverage-full : length d < length s → lent (neg_ℤ (pos 16)) d ≡ coverage_answer s d
  coverage-full h =
      let few : length d < length (coverage_of s) = omega (arith, coverage-length s) in
      sym (simp (lt-leb _ _ few)) ∙ answer-is

  pub coverage-written : length s ≤ length d → (y : List ℕ) → y ≡ coverage_of s → lent (pos (length s)) (y ++ drop (length s) d) ≡ coverage_answer s d
  coverage-written h y y-is =
      let room : length (coverage_of s) ≤ length d = omega (arith, coverage-length s) in
      let n : length s ≡ length (coverage_of s) = sym (coverage-length s) in
      ap (λ (k : ℕ). lent (pos k) (y ++ drop k d)) n
      ∙ ap (λ (l : List ℕ). lent (pos (length (coverage_of s))) (l ++ drop (length (coverage_of s)) d)) y-is
      ∙ ap (lent (pos (length (coverage_of s)))) (put_front d (coverage_of s))
      ∙ sym (simp (le-leb _ _ room))
      ∙ answer-is

pub ruleset coverages = (length-take-le, token-small, coverage-full, coverage-written)
