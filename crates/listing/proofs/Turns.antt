-- One turn of the walk through an accepted token, line by line. In the words of `show_messages`.
-- Assumes nothing.
use Prim.Native.Nat.{ℕ, ◌+◌, ◌<◌, ◌≤◌}
use mathlib.Core.Path.{◌≡◌, refl, sym, ap, subst, ◌∙◌}
use mathlib.Core.Bool.{true}
use mathlib.Core.List.{List, ◌∷◌, ◌++◌}
use native.Mathlib.Omega.{arith}
use lib.ListN.{length}
use lib.Seq.{take_all}
use Rattle.message.specs.Layout.{header_of, content_of, vectors_of, size, front}
use Rattle.message.specs.Check.{all_keep_rule, body_rows, content_rows, front_rows}
use Rattle.message.specs.Show.{first_of}
use Rattle.message.proofs.Tables.{given}
use Rattle.token.specs.Token.{Placed, token_of}
use Rattle.token.specs.Split.{Message}
use Rattle.token.specs.Walk.{messages_of, Accepts}
use Rattle.token.proofs.Cuts.{behind, passes-parts, passes-sized}
use Rattle.messages.specs.Messages.{Passed}
use Rattle.messages.proofs.Steps.{left_behind}
use Rattle.token.proofs.Walks.{Left, Turn, turn, accepted-short, Walk, walk-begun, walk-ended, walk-passed}
use Rattle.lines.specs.Lines.{message_lines}
use Rattle.lines.specs.Fit.{Fit, shape_in}
use Rattle.windows.specs.Windows.{texts}
use Rattle.windows.specs.Steps.{State, steps}
use Rattle.windows.proofs.Stepping.{texts-append, steps-append}
use Rattle.listing.specs.Listing.{all_lines}

-- a message that passed has room for its header, and its vectors keep their rule
pub message-fit : (q : ℕ) (v m : List ℕ) → Message q v m → Fit (shape_in m) m
unfolding front_rows body_rows content_rows
message-fit q v m e =
    let z = passes-sized m q v e.pass in
    let whole : front m ≡ m = take_all (size m) m (omega (arith, e.exact)) in
    let (r10, (r11, (r12, (r13, none)))) = given (front_rows m) (passes-parts m q v e.pass).body in
    record {
      room = let a = z.header in let b = z.holds in omega (arith, e.exact);
      rule =
          subst (λ (n : ℕ). all_keep_rule (header_of (shape_in m)) n (vectors_of (content_of (shape_in m) m)) ≡ true) e.exact
          (subst (λ (l : List ℕ). all_keep_rule (header_of (shape_in m)) (size m) (vectors_of (content_of (shape_in m) l)) ≡ true) whole r11);
    }

-- what is left, and the state that the lines left come to: x is what the walk began with
unfoldable pub Going-on : State → List ℕ → ℕ → State → Type 0
Going-on x rest place t = Walk x (λ ps. steps (texts (all_lines ps)) t) rest place

pub begin : (s : List ℕ) (t : State) → Accepts s → Going-on (steps (texts (all_lines (messages_of (token_of s)))) t) s 0 t
unfolding Going-on
begin s t a = walk-begun (λ ps. steps (texts (all_lines ps)) t) s a

lines-first : (place : ℕ) (m : List ℕ) (ps : List Placed) → all_lines (record { place = place; octets = m } ∷ ps) ≡ message_lines place m ++ all_lines ps
unfolding all_lines
lines-first place m ps = refl

module _ (x : State) (rest : List ℕ) (place : ℕ) (t : State) (on : Going-on x rest place t) where
  pub left : Left rest
  unfolding Going-on
  left = on.left

  pub at-end : length rest ≤ 0 → t ≡ x
  unfolding Going-on steps texts all_lines
  at-end h = sym (walk-ended x _ rest place on h)

  module _ (more : 0 < length rest) (m : List ℕ) (m-is : m ≡ first_of rest) where
    here : Turn rest left m
    here = turn rest left more m m-is

    pub walk-fit : Fit (shape_in m) m
    walk-fit = message-fit _ _ m here.first

    walk-on : (next : ℕ) → next ≡ place + length m → (u : State) → u ≡ steps (texts (message_lines place m)) t
        → Going-on x (behind rest (length m)) next u
    unfolding Going-on
    walk-on next next-is u u-is =
        subst (λ (k : ℕ). Going-on x (behind rest (length m)) k u) (sym next-is)
        (walk-passed x _ rest place on more m m-is (λ ps. steps (texts (all_lines ps)) u) (λ ps.
        ap (λ (ls : List (List (List ℕ))). steps (texts ls) t) (lines-first place m ps)
        ∙ ap (λ (ts : List (List ℕ)). steps ts t) (texts-append (message_lines place m) (all_lines ps))
        ∙ steps-append (texts (message_lines place m)) (texts (all_lines ps)) t
        ∙ ap (steps (texts (all_lines ps))) (sym u-is)))

    -- past the message, by the step's own words
    pub walk-step : (rest' : List ℕ) (at place' : ℕ) → Passed rest place at m rest' place' → (u : State) → u ≡ steps (texts (message_lines at m)) t
        → Going-on x rest' place' u
    walk-step rest' at place' p u u-is =
        rw (left_behind p) (walk-on place' p.next u (u-is ∙ ap (λ (k : ℕ). steps (texts (message_lines k m)) t) p.stands))

pub ruleset walks = (begin, accepted-short, at-end, left, walk-fit, walk-step)
