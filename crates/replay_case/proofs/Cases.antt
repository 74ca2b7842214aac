-- The four lines and the whole case, in the words of the code.
-- Assumes nothing.
use Prim.Native.Nat.{ℕ}
use mathlib.Core.Path.{◌≡◌, sym, ◌∙◌}
use mathlib.Core.Bool.{true, false}
use mathlib.Core.List.{List, [], ◌∷◌}
use lib.ListN.{length}
use borrow.Author.Tests.{ne_eqb}
use Rattle.text.specs.Text.{quoted}
use Rattle.replay_case.specs.Given.{behind_word, gives, nothing_given, given_of}
use Rattle.replay_case.specs.Case.{text_lines, counted_lines, side, both_sides, bad_case, has_name, with_names, case_in}
use Rattle.replay_case.specs.Steps.{counted}

module _ (s : List ℕ) (iroom aroom : ℕ) where
  pub case_count : (length (counted s) ≡ 4 → ⊥) → bad_case ≡ case_in s iroom aroom
  unfolding case_in
  case_count h = rw (ne_eqb (length (counted_lines (text_lines s))) 4 h)

  module _ (a b c d : List ℕ) (lines : counted s ≡ a ∷ b ∷ c ∷ d ∷ []) where
    case-four : case_in s iroom aroom
        ≡ with_names (behind_word (quoted "initiator ") a) (given_of (quoted "i") c iroom) (behind_word (quoted "acceptor ") b)
        (given_of (quoted "a") d aroom)
    unfolding case_in
    case-four = rw lines

    pub no-initiator : has_name (behind_word (quoted "initiator ") a) ≡ false → bad_case ≡ case_in s iroom aroom
    no-initiator h = sym (case-four ∙ rw h)

    module _ (n : List ℕ) (n-is : (n ≡ behind_word (quoted "initiator ") a) × (has_name (behind_word (quoted "initiator ") a) ≡ true)) where
      pub no-acceptor : has_name (behind_word (quoted "acceptor ") b) ≡ false → bad_case ≡ case_in s iroom aroom
      no-acceptor h = sym (case-four ∙ rw (n-is.1, h))

      module _ (m : List ℕ) (m-is : (m ≡ behind_word (quoted "acceptor ") b) × (has_name (behind_word (quoted "acceptor ") b) ≡ true)) where
        pub no-i : nothing_given ≡ given_of (quoted "i") c iroom → bad_case ≡ case_in s iroom aroom
        no-i h = sym (case-four ∙ rw (n-is.1, m-is.1, ← h))

        module _ (j k : ℕ) (o : List ℕ) (i-is : gives j k o ≡ given_of (quoted "i") c iroom) where
          pub no-a : nothing_given ≡ given_of (quoted "a") d aroom → bad_case ≡ case_in s iroom aroom
          no-a h = sym (case-four ∙ rw (n-is.1, m-is.1, ← i-is, ← h))

          pub case-good : (j' k' : ℕ) (o' : List ℕ) → gives j' k' o' ≡ given_of (quoted "a") d aroom
              → both_sides (side n j k o) (side m j' k' o') ≡ case_in s iroom aroom
          case-good j' k' o' h = sym (case-four ∙ rw (n-is.1, m-is.1, ← i-is, ← h, ← n-is.0, ← m-is.0))
