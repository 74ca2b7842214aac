-- The lines as the calls that write them, one behind the other, in the words of the code: t is the text before, u the text after.
-- Assumes nothing.
use Prim.Native.Nat.{ℕ, zero, suc, ◌+◌, ◌*◌, ◌-◌, ◌≤◌, ◌<◌}
use mathlib.Core.Path.{◌≡◌, refl, sym, ap, ◌∙◌}
use mathlib.Core.List.{List, [], ◌∷◌, ◌++◌}
use native.Mathlib.Numerals.{add-one, sub-one}
use native.Mathlib.Omega.{arith}
use lib.ListN.{length, get_or, take, drop, drop_of_length-le}
use lib.Seq.{drop-cons, drop-drop}
use borrow.Author.Tests.{eq-eqb, ne_eqb, le-leb, lt-leb}
use Rattle.message.specs.Show.{ids_at}
use Rattle.text.specs.Text.{quoted, decimal64, id_text, Text, written}
use Rattle.text.proofs.Pieces.{then, written-append}
use Rattle.schemes.specs.Lists.{Id}
use Rattle.tallying.specs.declared.Tally.{Tally}
use Rattle.tallying.specs.Tally.{totals_in}
use Rattle.tally_lines.specs.Lines.{total_line, number_line, type_lines, answer_line, answer_lines, scheme_line, scheme_lines, octet_lines, last_lines, tally_text, shown_text}

nothing : (t : Text) → t ≡ written [] t
unfolding written
nothing t = refl

module _ (t u : Text) where
  pub total-line : (a : Text) (word : List ℕ) (n : ℕ) → a ≡ written (word ∷ decimal64 n ∷ []) t → u ≡ written (quoted "\n" ∷ []) a
      → u ≡ written (total_line word n) t
  unfolding total_line
  total-line a word n f₁ f₂ = then t a u _ _ f₁ f₂

  pub number-line : (a b : Text) (word : List ℕ) (k n : ℕ) → a ≡ written (word ∷ decimal64 k ∷ []) t
      → b ≡ written (quoted " count=" ∷ decimal64 n ∷ []) a
      → u ≡ written (quoted "\n" ∷ []) b → u ≡ written (number_line word k n) t
  unfolding number_line
  number-line a b word k n f₁ f₂ f₃ = then t b u _ _ (then t a b _ _ f₁ f₂) f₃

  pub scheme-line : (a b c : Text) (s : Id) (n : ℕ) → a ≡ written (quoted "scheme " ∷ []) t → b ≡ written (id_text s) a
      → c ≡ written (quoted " count=" ∷ decimal64 n ∷ []) b
      → u ≡ written (quoted "\n" ∷ []) c → u ≡ written (scheme_line s n) t
  unfolding scheme_line
  scheme-line a b c s n f₁ f₂ f₃ f₄ = then t a u _ _ f₁ (then a b u _ _ f₂ (then b c u _ _ f₃ f₄))

  pub octet-lines : (a b : Text) (r : Tally) → a ≡ written (total_line (quoted "headers=") r.headers) t
      → b ≡ written (total_line (quoted "vectors=") r.vectors) a
      → u ≡ written (total_line (quoted "bare=") r.bare) b → u ≡ written (octet_lines (totals_in r)) t
  unfolding octet_lines
  octet-lines a b r f₁ f₂ f₃ = then t a u _ _ f₁ (then a b u _ _ f₂ f₃)

  pub last-lines : (a : Text) (r : Tally) (n : ℕ) → a ≡ written (total_line (quoted "others count=") r.table.others) t
      → u ≡ written (total_line (quoted "unopened count=") n) a
      → u ≡ written (last_lines (totals_in r) n) t
  unfolding last_lines
  last-lines a r n f₁ f₂ = then t a u _ _ f₁ f₂

-- ---- `refused_line`
module _ (t : Text) (k n : ℕ) where
  pub refused-accepted : k ≡ 0 → t ≡ written (answer_line k n) t
  unfolding answer_line
  refused-accepted e = rw (eq-eqb k 0 e) (nothing t)

  module _ (some : k ≡ 0 → ⊥) where
    pub refused_none : n ≡ 0 → t ≡ written (answer_line k n) t
    unfolding answer_line
    refused_none e = rw (ne_eqb k 0 some, eq-eqb n 0 e) (nothing t)

    pub refused-some : (n ≡ 0 → ⊥) → (u : Text) → u ≡ written (number_line (quoted "refused ") k n) t → u ≡ written (answer_line k n) t
    unfolding answer_line
    refused-some e u f = rw (ne_eqb k 0 some, ne_eqb n 0 e) f

pub ruleset refusals = (refused-accepted, refused_none, refused-some)

-- ---- the loops: x is what the loop comes to
module _ (ns : List ℕ) (k : ℕ) (x t : Text) where
  module _ (inv : x ≡ written (type_lines k (drop k ns)) t) where
    pub types-done : length ns ≤ k → t ≡ x
    unfolding type_lines
    types-done h = sym (inv ∙ rw (drop_of_length-le ns h) (sym (nothing t)))

    pub types_more : k < length ns → (u : Text) → u ≡ written (number_line (quoted "type ") k (get_or ns k 0)) t
        → x ≡ written (type_lines (k + 1) (drop (k + 1) ns)) u
    unfolding type_lines
    types_more h u e =
        let s : type_lines k (drop k ns) ≡ number_line (quoted "type ") k (get_or ns k 0) ++ type_lines (k + 1) (drop (k + 1) ns) =
        rw (drop-cons ns k 0 h, add-one) in
        inv ∙ ap (λ (l : List (List ℕ)). written l t) s ∙ written-append _ _ t ∙ ap (written (type_lines (k + 1) (drop (k + 1) ns))) (sym e)

  module _ (inv : x ≡ written (answer_lines k (drop k ns)) t) where
    pub refusals-done : length ns ≤ k → t ≡ x
    unfolding answer_lines
    refusals-done h = sym (inv ∙ rw (drop_of_length-le ns h) (sym (nothing t)))

    pub refusals-more : k < length ns → (u : Text) → u ≡ written (answer_line k (get_or ns k 0)) t
        → x ≡ written (answer_lines (k + 1) (drop (k + 1) ns)) u
    unfolding answer_lines
    refusals-more h u e =
        let s : answer_lines k (drop k ns) ≡ answer_line k (get_or ns k 0) ++ answer_lines (k + 1) (drop (k + 1) ns) = rw (drop-cons ns k 0 h, add-one) in
        inv ∙ ap (λ (l : List (List ℕ)). written l t) s ∙ written-append _ _ t ∙ ap (written (answer_lines (k + 1) (drop (k + 1) ns))) (sym e)

module _ (ids counts : List ℕ) (k : ℕ) (x t : Text) where
  abbrev pub schemes_left : ℕ → ℕ → List (List ℕ)
  schemes_left n i = scheme_lines (ids_at n (drop (i * 16) ids)) (take n (drop i counts))

  nothing-left : (n : ℕ) → x ≡ written (schemes_left n k) t → n ≤ 0 → t ≡ x
  unfolding scheme_lines ids_at
  nothing-left zero inv h = sym (inv ∙ sym (nothing t))
  nothing-left (suc n) inv h = absurd (omega arith)

  some-left : (n all : ℕ) → x ≡ written (schemes_left n k) t → 0 < n → k + n ≡ all → all ≤ length counts → (u : Text)
      → u ≡ written (scheme_line (take (k * 16 + 16 - k * 16) (drop (k * 16) ids)) (get_or counts k 0)) t
      → x ≡ written (schemes_left (n - 1) (k + 1)) u
  unfolding scheme_lines ids_at
  some-left zero all inv h i l u e = absurd (omega arith)
  some-left (suc n) all inv h i l u e =
      let z : k * 16 + 16 ≡ suc k * 16 = omega arith in
      let p : k * 16 + 16 - k * 16 ≡ 16 = omega arith in
      let s : schemes_left (suc n) k ≡ scheme_line (take 16 (drop (k * 16) ids)) (get_or counts k 0) ++ schemes_left n (k + 1) =
      rw (drop-cons counts k 0 (omega arith), add-one, drop-drop, z) in
      inv ∙ ap (λ (l : List (List ℕ)). written l t) s ∙ written-append _ _ t
      ∙ ap (written (schemes_left n (k + 1))) (sym (rw p at e)) ∙ simp sub-one

  -- k of the n schemes are written
  module _ (n : ℕ) (inv : x ≡ written (schemes_left (n - k) k) t) where
    pub schemes-done : n ≤ k → t ≡ x
    schemes-done h = nothing-left (n - k) inv (omega arith)

    pub schemes-more : k < n → n ≤ length counts → (u : Text)
        → u ≡ written (scheme_line (take (k * 16 + 16 - k * 16) (drop (k * 16) ids)) (get_or counts k 0)) t
        → x ≡ written (schemes_left (n - (k + 1)) (k + 1)) u
    schemes-more h l u e =
        let f : n - k - 1 ≡ n - (k + 1) = omega arith in
        some-left (n - k) n inv (omega arith) (omega arith) l u e ∙ ap (λ (i : ℕ). written (schemes_left i (k + 1)) u) f

pub ruleset loops = (types-done, types_more, refusals-done, refusals-more, schemes-done, schemes-more)

-- ---- `tally_text`
module _ (t u : Text) (r : Tally) (n : ℕ) where
  pub tally-none : 64 < r.table.count → t ≡ written (shown_text r n) t
  unfolding shown_text
  tally-none h = rw (lt-leb _ _ h) (nothing t)

  pub tally-all : r.table.count ≤ 64 → (a b c d : Text) → a ≡ written (type_lines 0 r.types) t → b ≡ written (octet_lines (totals_in r)) a
      → c ≡ written (answer_lines 0 r.answers) b
      → d ≡ written (scheme_lines (ids_at r.table.count r.table.ids) (take r.table.count r.table.counts)) c
      → u ≡ written (last_lines (totals_in r) n) d
      → u ≡ written (shown_text r n) t
  unfolding shown_text tally_text
  tally-all h a b c d f₁ f₂ f₃ f₄ f₅ = rw (le-leb _ _ h) (then t a u _ _ f₁ (then a b u _ _ f₂ (then b c u _ _ f₃ (then c d u _ _ f₄ f₅))))

pub ruleset tallies = (tally-none, tally-all)
