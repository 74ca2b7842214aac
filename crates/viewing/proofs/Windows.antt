-- The answers of a viewer's calls. In the words of the code.
-- Assumes nothing.
use Prim.Native.Nat.{ℕ, ◌*◌, ◌-◌, ◌/◌, ◌<◌, ◌≤◌, ◌^◌}
use mathlib.Core.Path.{◌≡◌, sym, ap, subst, ◌∙◌}
use mathlib.Core.Bool.{cond}
use mathlib.Core.List.{List}
use native.Mathlib.Omega.{arith}
use lib.ListN.{length, take, drop, get_or, length-take, length-drop}
use lib.IntN.{pos, neg_ℤ}
use lib.Dec.{leb}
use borrow.Author.Tests.{le-leb, lt-leb}
use Rattle.token.specs.Token.{Reading, token_of}
use Rattle.token.specs.Walk.{messages_of, Accepts}
use Rattle.token.proofs.Walks.{accepted-short}
use Rattle.put.specs.Put.{Written}
use Rattle.entries.specs.declared.Entry.{Entry}
use Rattle.entries.specs.Entries.{entries_of, entry_octets}
use Rattle.entries.specs.Lookup.{no_entry, Filled}
use Rattle.entries.proofs.Walked.{entries-few}
use Rattle.replies.specs.Replies.{Reply, given, refused, and_then, reading_reply, item_at, answer_of, lent, written_in}
use Rattle.replies.proofs.Messages.{item-given, item_refused}
use Rattle.viewing.specs.Viewing.{entry_count_answer, entries_window, entries_answer}

module _ (s : List ℕ) (a : Accepts s) (n : ℕ) (n-is : n ≡ length (entries_of (messages_of (token_of s)))) where
  pub count_small : n < 2 ^ 63
  count_small = omega (arith, entries-few s (messages_of (token_of s)) a, accepted-short s a)

  pub count-given : pos n ≡ entry_count_answer s
  count-given =
      ap pos n-is ∙ sym (ap (λ (r : Reading). answer_of (and_then (reading_reply r) (λ ms. given (length (entries_of ms))))) a)

  module _ (k : ℕ) (d : List ℕ) where
    answer-is : written_in d (entries_window (entries_of (messages_of (token_of s))) k (length d)) ≡ entries_answer s k d
    answer-is = sym (ap (λ (r : Reading). written_in d (and_then (reading_reply r) (λ ms. entries_window (entries_of ms) k (length d)))) a)

    pub entries-beyond : n ≤ k → lent (neg_ℤ (pos 19)) d ≡ entries_answer s k d
    entries-beyond h =
        sym (ap
        (λ (r : Reply Entry). written_in d
        (and_then r
        (λ e. cond (leb 24 (length d)) (given (entry_octets (take (length d / 24) (drop k (entries_of (messages_of (token_of s))))))) (refused 16))))
        (item_refused (entries_of (messages_of (token_of s))) k (omega arith)))
        ∙ answer-is

    module _ (h : k < n) where
      here : item_at (entries_of (messages_of (token_of s))) k ≡ given (get_or (entries_of (messages_of (token_of s))) k no_entry)
      here = item-given (entries_of (messages_of (token_of s))) k no_entry (omega arith)

      window-is : written_in d
          (cond (leb 24 (length d)) (given (entry_octets (take (length d / 24) (drop k (entries_of (messages_of (token_of s))))))) (refused 16))
          ≡ entries_answer s k d
      window-is =
          sym (ap
          (λ (r : Reply Entry). written_in d
          (and_then r
          (λ e. cond (leb 24 (length d)) (given (entry_octets (take (length d / 24) (drop k (entries_of (messages_of (token_of s)))))))
          (refused 16)))) here)
          ∙ answer-is

      pub entries-full : length d < 24 → lent (neg_ℤ (pos 16)) d ≡ entries_answer s k d
      entries-full g = sym (simp (lt-leb _ _ g)) ∙ window-is

      pub entries-written : 24 ≤ length d → (d' : List ℕ) (r : ℕ) → Filled d 0 (drop k (entries_of (messages_of (token_of s)))) d' r
          → lent (pos r) d' ≡ entries_answer s k d
      unfolding Filled
      entries-written g d' r w =
          let room : length d - 0 ≡ length d = omega arith in
          let A = take (length d / 24) (drop k (entries_of (messages_of (token_of s)))) in
          let v : Written d 0 (24 * length A) (entry_octets A) d' r =
          subst (λ (j : ℕ). Written d 0 (24 * length (take (j / 24) (drop k (entries_of (messages_of (token_of s))))))
          (entry_octets (take (j / 24) (drop k (entries_of (messages_of (token_of s)))))) d' r) room w in
          let r-is : r ≡ length (entry_octets A) = omega (arith, v.after, v.size) in
          ap (λ (x : ℕ). lent (pos x) d') r-is
          ∙ ap (lent (pos (length (entry_octets A)))) v.holds
          ∙ sym (simp (le-leb _ _ g))
          ∙ window-is

-- what is written are no more than all entries
pub filled-short : (s : List ℕ) → Accepts s → (k : ℕ) (d d' : List ℕ) (r : ℕ) → Filled d 0 (drop k (entries_of (messages_of (token_of s)))) d' r
    → r < 2 ^ 63
unfolding Filled
filled-short s a k d d' r w =
    let es = entries_of (messages_of (token_of s)) in
    omega (
      arith,
      w.after,
      length-take ((length d - 0) / 24) (drop k es),
      length-drop k es,
      entries-few s
          (messages_of (token_of s)) a,
      accepted-short s a,
    )

pub ruleset windows = (count_small, count-given, entries-beyond, entries-full, entries-written, filled-short)
