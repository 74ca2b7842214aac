-- The table's answer. In the words of the code.
-- Assumes nothing.
use Prim.Native.Nat.{ℕ, ◌<◌, ◌≤◌}
use mathlib.Core.Path.{◌≡◌, sym, ap, ◌∙◌}
use mathlib.Core.List.{List}
use native.Mathlib.Omega.{arith}
use lib.ListN.{length}
use lib.IntN.{pos, neg_ℤ}
use borrow.Author.Tests.{le-leb, lt-leb}
use Rattle.token.specs.Token.{Reading, token_of}
use Rattle.token.specs.Walk.{messages_of, Accepts}
use Rattle.put.specs.Put.{Written}
use Rattle.table.specs.Table.{table_of}
use Rattle.replies.specs.Replies.{and_then, reading_reply, fits, lent, written_in, table_answer}

module _ (s : List ℕ) (a : Accepts s) (n : ℕ) (n-is : n ≡ length (table_of (messages_of (token_of s)))) (d : List ℕ) where
  answer-is : written_in d (fits (length d) (table_of (messages_of (token_of s)))) ≡ table_answer s d
  answer-is = sym (ap (λ (r : Reading). written_in d (and_then (reading_reply r) (λ ms. fits (length d) (table_of ms)))) a)

  pub table-full : length d < n → lent (neg_ℤ (pos 16)) d ≡ table_answer s d
  table-full h =
      let g : length d < length (table_of (messages_of (token_of s))) = omega arith in
      sym (simp (lt-leb _ _ g)) ∙ answer-is

  pub table-written : n ≤ length d → (d' : List ℕ) (r : ℕ)
      → Written d 0 (length (table_of (messages_of (token_of s)))) (table_of (messages_of (token_of s))) d' r
      → lent (pos r) d' ≡ table_answer s d
  table-written h d' r w =
      let r-is : r ≡ length (table_of (messages_of (token_of s))) = omega (arith, w.after) in
      let g : length (table_of (messages_of (token_of s))) ≤ length d = omega arith in
      ap (λ (x : ℕ). lent (pos x) d') r-is
      ∙ ap (lent (pos (length (table_of (messages_of (token_of s)))))) w.holds
      ∙ sym (simp (le-leb _ _ g))
      ∙ answer-is

pub ruleset tables = (table-full, table-written)
