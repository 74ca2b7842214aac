-- A list with zeros behind it: one number more.
-- Assumes nothing.
use Prim.Native.Nat.{ℕ, suc, ◌-◌, ◌<◌}
use mathlib.Core.Path.{◌≡◌, sym, ap, ◌∙◌}
use mathlib.Core.List.{List, [], ◌∷◌, ◌++◌}
use native.Mathlib.Omega.{arith}
use lib.ListN.{length, set, replicate, length-append}
use lib.Seq.{set_at, append_snoc}
use Rattle.schemes.specs.Sets.{pad_to}

pub pad-more : (n : ℕ) (l : List ℕ) (x j : ℕ) → length l ≡ j → j < n → set (pad_to n l) j x ≡ pad_to n (l ++ (x ∷ []))
pad-more n l x j f h =
    let z : List ℕ = replicate (n - length (l ++ (x ∷ []))) 0 in
    let e : n - length l ≡ suc (n - length (l ++ (x ∷ []))) = simp length-append (omega arith) in
    ap (λ (i : ℕ). set (l ++ replicate i 0) j x) e ∙ set_at l 0 z x j f ∙ sym (append_snoc l x z)
