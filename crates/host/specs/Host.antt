-- What a host is answered of the listing. What it is answered in numbers: `Replies`. Document 02, C-17.
--
-- Glossary
--   lines_answer s   the number of lines of the listing
--   window_text ls a b room  the text of a window from line a up to line b of ls, as many whole lines as fit into the room
--   window_answer s a b d    the window of the listing from line a up to line b, at the front of the buffer d
use Rattle.std.specs.Prelude.{ℕ, cond, List, [], length, ltb, ℤ}
use Rattle.put.specs.Put.{joined}
use Rattle.windows.specs.Windows.{fitting, range}
use Rattle.listing.specs.Listing.{lines_of}
use Rattle.replies.specs.Replies.{Reply, given, and_then, messages_reply, item_at, fits, answer_of, Lent, written_in}

abbrev pub lines_answer : List ℕ → ℤ
lines_answer s = answer_of (and_then (messages_reply s) (λ ms. given (length (lines_of s))))

-- "a range of listing lines written into their buffer, as many whole lines as fit"; an empty range has no first line to fit
abbrev pub window_text : List (List ℕ) → ℕ → ℕ → ℕ → Reply (List ℕ)
window_text ls first end room =
    and_then (item_at ls first) (λ l.
    cond (ltb first end) (and_then (fits room l) (λ v. given (joined (fitting room (range first end ls))))) (given []))

abbrev pub window_answer : List ℕ → ℕ → ℕ → List ℕ → Lent
window_answer s first end d = written_in d (and_then (messages_reply s) (λ ms. window_text (lines_of s) first end (length d)))
