-- The lines of an accepted token, counted message by message. In the words of the code.
-- Assumes nothing.
use Prim.Native.Nat.{ℕ, ◌+◌, ◌<◌, ◌≤◌, ◌^◌}
use mathlib.Core.Path.{◌≡◌, sym, ap, subst, ◌∙◌}
use mathlib.Core.List.{List, [], ◌∷◌, ◌++◌}
use native.Mathlib.Omega.{arith}
use lib.ListN.{length, length-append}
use lib.IntN.{pos}
use Rattle.message.specs.Show.{first_of}
use Rattle.token.specs.Token.{Placed, Reading, token_of}
use Rattle.token.specs.Walk.{messages_of, Accepts}
use Rattle.token.proofs.Cuts.{behind}
use Rattle.token.proofs.Walks.{Left, turn, accepted-short, Walk, walk-begun, walk-ended, walk-passed}
use Rattle.lines.specs.Lines.{message_lines, end_line}
use Rattle.lines.specs.Fit.{Fit, shape_in, lines_in}
use Rattle.windows.specs.Windows.{texts}
use Rattle.windows.proofs.Stepping.{length-texts}
use Rattle.listing.specs.Listing.{all_lines, reading_lines, lines_of}
use Rattle.listing.proofs.Turns.{message-fit}
use Rattle.listing.proofs.Bounds.{few-lines}
use Rattle.replies.specs.Replies.{given, and_then, reading_reply, answer_of}
use Rattle.host.specs.Host.{lines_answer}

-- the last line stands behind those of the messages
module _ (s : List ℕ) (a : Accepts s) where
  pub lines-number : length (lines_of s) ≡ length (all_lines (messages_of (token_of s))) + 1
  unfolding lines_of reading_lines
  lines-number =
      ap (λ (r : Reading). length (texts (reading_lines r (length s)))) a
      ∙ length-texts (all_lines (messages_of (token_of s)) ++ (end_line (length (messages_of (token_of s))) (length s) ∷ []))
      ∙ length-append (all_lines (messages_of (token_of s))) (end_line (length (messages_of (token_of s))) (length s) ∷ [])

  pub lines-few : length (all_lines (messages_of (token_of s))) ≤ 65535
  lines-few = omega (arith, lines-number, few-lines s, accepted-short s a)

  module _ (n : ℕ) (n-is : n ≡ length (all_lines (messages_of (token_of s)))) where
    pub lines-room : n + 1 < 2 ^ 64
    lines-room = omega (arith, lines-few)

    pub lines-small : n + 1 < 2 ^ 63
    lines-small = omega (arith, lines-few)

    pub lines-given : pos (n + 1) ≡ lines_answer s
    lines-given =
        ap pos (ap (λ (x : ℕ). x + 1) n-is ∙ sym lines-number)
        ∙ sym (ap (λ (r : Reading). answer_of (and_then (reading_reply r) (λ ms. given (length (lines_of s))))) a)

-- what is left of a token, and the lines counted so far
pub record Counted (total : ℕ) (rest : List ℕ) (n : ℕ) : Type 0 where
  pub place : ℕ
  pub walked : Walk total (λ ps. n + length (all_lines ps)) rest place
  pub few : total ≤ 65535

pub count-begin : (s : List ℕ) → Accepts s → Counted (length (all_lines (messages_of (token_of s)))) s 0
count-begin s a =
    let z : 0 + length (all_lines (messages_of (token_of s))) ≡ length (all_lines (messages_of (token_of s))) = omega arith in
    record {
      place = 0;
      walked = subst (λ (k : ℕ). Walk k (λ ps. 0 + length (all_lines ps)) s 0) z (walk-begun (λ ps. 0 + length (all_lines ps)) s a);
      few = lines-few s a;
    }

lines-first : (place : ℕ) (m : List ℕ) (ps : List Placed)
    → length (all_lines (record { place = place; octets = m } ∷ ps)) ≡ 1 + length (lines_in (shape_in m) m) + length (all_lines ps)
unfolding all_lines message_lines
lines-first place m ps = omega (arith, length-append (message_lines place m) (all_lines ps))

module _ (total : ℕ) (rest : List ℕ) (n : ℕ) (on : Counted total rest n) where
  pub count_left : Left rest
  count_left = on.walked.left

  pub count-end : length rest ≤ 0 → n ≡ total
  unfolding all_lines
  count-end h = omega (arith, walk-ended total _ rest on.place on.walked h)

  module _ (more : 0 < length rest) (m : List ℕ) (m-is : m ≡ first_of rest) where
    pub count-fit : Fit (shape_in m) m
    count-fit = message-fit _ _ m (turn rest count_left more m m-is).first

    module _ (c : ℕ) (c-is : c ≡ 1 + length (lines_in (shape_in m) m)) where
      pub count-on : Counted total (behind rest (length m)) (n + c)
      count-on =
          record {
            place = on.place + length m;
            walked = walk-passed total _ rest on.place on.walked more m m-is (λ ps. n + c + length (all_lines ps))
                (λ ps. omega (arith, lines-first on.place m ps));
            few = on.few;
          }

      pub count_small : n + c < 2 ^ 64
      count_small = omega (arith, count-on.walked.come, on.few)

pub ruleset totals = (lines-room, lines-small, lines-given)

pub ruleset counting = (count-begin, count-end, count_left, count-fit, count_small, count-on)
