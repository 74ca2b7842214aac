-- The text of a tally has fewer than 8,192 octets.
-- Assumes nothing.
use Prim.Native.Nat.{ℕ, ◌+◌, ◌*◌, ◌≤◌}
use mathlib.Core.Path.{◌≡◌, refl, ap, ◌∙◌}
use mathlib.Core.Bool.{Bool, true, false, cond}
use mathlib.Core.List.{List, [], ◌∷◌, ◌++◌}
use native.Mathlib.Nat.{zero-add}
use native.Mathlib.Omega.{arith}
use lib.ListN.{length, take, length-append}
use lib.Dec.{leb, eqb}
use borrow.Author.Tests.{leb-true}
use Rattle.message.specs.Show.{ids_at}
use Rattle.message.proofs.Ids.{length_ids}
use Rattle.put.specs.Put.{put, joined}
use Rattle.text.specs.Text.{quoted, decimal64, id_text, id_order, text}
use Rattle.text.proofs.Pieces.{length-glyphs, length-joined, written-joined}
use Rattle.text.proofs.Digits.{length-decimal}
use Rattle.schemes.specs.Lists.{Id}
use Rattle.tallying.specs.declared.Tally.{Tally}
use Rattle.tallying.specs.Files.{Totals}
use Rattle.tallying.specs.Tally.{totals_in}
use Rattle.tally_lines.specs.Lines.{total_line, number_line, type_lines, answer_line, answer_lines, scheme_line, scheme_lines, octet_lines, last_lines, tally_text, shown_text, TextWhole}

-- how many octets pieces have
abbrev octets_of : List (List ℕ) → ℕ
octets_of ps = length (joined ps)

total_size : (word : List ℕ) (n : ℕ) → octets_of (total_line word n) ≤ length word + 21
unfolding total_line
total_size word n = simp length-append (omega (arith, length-decimal 20 n))

number_size : (word : List ℕ) (k n : ℕ) → octets_of (number_line word k n) ≤ length word + 48
unfolding number_line
number_size word k n = simp length-append (omega (arith, length-decimal 20 k, length-decimal 20 n))

types-size : (k : ℕ) (ns : List ℕ) → octets_of (type_lines k ns) ≤ 53 * length ns
unfolding type_lines
types-size k [] = omega arith
types-size k (n ∷ ns) =
    omega (arith, length-joined (number_line (quoted "type ") k n) (type_lines (k + 1) ns), number_size (quoted "type ") k n, types-size (k + 1) ns)

refused-size : (k n : ℕ) → octets_of (answer_line k n) ≤ 56
unfolding answer_line
refused-size k n = go (eqb k 0) (eqb n 0) where
  go : (a b : Bool) → octets_of (cond a [] (cond b [] (number_line (quoted "refused ") k n))) ≤ 56
  go true b = omega arith
  go false true = omega arith
  go false false = omega (arith, number_size (quoted "refused ") k n)

refusals-size : (k : ℕ) (ns : List ℕ) → octets_of (answer_lines k ns) ≤ 56 * length ns
unfolding answer_lines
refusals-size k [] = omega arith
refusals-size k (n ∷ ns) = omega (arith, length-joined (answer_line k n) (answer_lines (k + 1) ns), refused-size k n, refusals-size (k + 1) ns)

scheme-size : (s : Id) (n : ℕ) → octets_of (scheme_line s n) ≤ 75
unfolding scheme_line
scheme-size s n =
    let rest : octets_of (quoted " count=" ∷ decimal64 n ∷ quoted "\n" ∷ []) ≤ 28 = simp length-append (omega (arith, length-decimal 20 n)) in
    omega (
      arith,
      length-joined (quoted "scheme " ∷ []) (id_text s ++ (quoted " count=" ∷ decimal64 n ∷ quoted "\n" ∷ [])),
      length-joined (id_text s)
          (quoted " count=" ∷ decimal64 n ∷ quoted "\n" ∷ []),
      length-glyphs s id_order,
    )

schemes-size : (l : List Id) (ns : List ℕ) → octets_of (scheme_lines l ns) ≤ 75 * length l
unfolding scheme_lines
schemes-size [] ns = omega arith
schemes-size (s ∷ l) [] = omega arith
schemes-size (s ∷ l) (n ∷ ns) = omega (arith, length-joined (scheme_line s n) (scheme_lines l ns), scheme-size s n, schemes-size l ns)

octets-size : (t : Totals) → octets_of (octet_lines t) ≤ 84
unfolding octet_lines
octets-size t =
    omega (
      arith,
      length-joined (total_line (quoted "headers=") t.headers)
          (total_line (quoted "vectors=") t.vectors ++ total_line (quoted "bare=") t.bare),
      length-joined
          (total_line (quoted "vectors=") t.vectors) (total_line (quoted "bare=") t.bare),
      total_size (quoted "headers=") t.headers,
      total_size
          (quoted "vectors=") t.vectors,
      total_size (quoted "bare=") t.bare,
    )

last-size : (t : Totals) (u : ℕ) → octets_of (last_lines t u) ≤ 70
unfolding last_lines
last-size t u =
    omega (
      arith,
      length-joined (total_line (quoted "others count=") t.offers.others) (total_line (quoted "unopened count=") u),
      total_size
          (quoted "others count=") t.offers.others,
      total_size (quoted "unopened count=") u,
    )

module _ (t : Tally) (u : ℕ) (types : length t.types ≡ 8) (answers : length t.answers ≡ 32) where
  all-size : t.table.count ≤ 64 → octets_of (tally_text (totals_in t) u) ≤ 8192
  unfolding tally_text
  all-size few =
      let a = type_lines 0 t.types in
      let b = octet_lines (totals_in t) in
      let c = answer_lines 0 t.answers in
      let d = scheme_lines (ids_at t.table.count t.table.ids) (take t.table.count t.table.counts) in
      let e = last_lines (totals_in t) u in
      omega (
        arith,
        length-joined a (b ++ (c ++ (d ++ e))),
        length-joined b (c ++ (d ++ e)),
        length-joined c (d ++ e),
        length-joined d e,
        types-size 0 t.types,
        octets-size (totals_in t),
        refusals-size 0 t.answers,
        schemes-size (ids_at t.table.count t.table.ids) (take t.table.count t.table.counts),
        length_ids t.table.count t.table.ids,
        last-size (totals_in t) u,
      )

  text-size : octets_of (shown_text t u) ≤ 8192
  unfolding shown_text
  text-size = go (leb t.table.count 64) refl where
    go : (b : Bool) → leb t.table.count 64 ≡ b → octets_of (cond b (tally_text (totals_in t) u) []) ≤ 8192
    go true e = all-size (leb-true _ _ e)
    go false e = omega arith

pub text-whole : TextWhole
text-whole t u d types answers room =
    let z : 0 + length (joined (shown_text t u)) ≡ length (joined (shown_text t u)) = zero-add _ in
    written-joined (shown_text t u) (text d 0) (omega (arith, text-size t u types answers))
    ∙ ap (text (put d 0 (joined (shown_text t u)))) z
