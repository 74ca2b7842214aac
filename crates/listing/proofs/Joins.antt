-- The listing of joined tokens.
-- Assumes nothing.
use Prim.Native.Nat.{ℕ, ◌-◌}
use mathlib.Core.Path.{◌≡◌, refl, sym, ap, ◌∙◌}
use mathlib.Core.List.{List, [], ◌∷◌, ◌++◌, append_assoc}
use native.Mathlib.Nat.{zero-add}
use native.Mathlib.Omega.{arith}
use lib.ListN.{length, take, length-append}
use lib.Seq.{take_at}
use Rattle.token.specs.Token.{Placed, Reading, Accepted, token_of}
use Rattle.token.specs.Walk.{messages_of}
use Rattle.token.specs.Joined.{moved}
use Rattle.token.proofs.Joins.{joined-accepted}
use Rattle.put.specs.Put.{joined}
use Rattle.lines.specs.Lines.{message_lines, end_line}
use Rattle.windows.specs.Windows.{texts}
use Rattle.windows.proofs.Stepping.{texts-append}
use Rattle.listing.specs.Listing.{all_lines, reading_lines, lines_of}
use Rattle.listing.specs.Joined.{front_lines, JoinedListing, MovedMessage}

lines-append : (xs ys : List Placed) → all_lines (xs ++ ys) ≡ all_lines xs ++ all_lines ys
unfolding all_lines
lines-append [] ys = refl
lines-append (x ∷ xs) ys =
    ap (λ (l : List (List (List ℕ))). message_lines x.place x.octets ++ l) (lines-append xs ys)
    ∙ sym (append_assoc (message_lines x.place x.octets) (all_lines xs) (all_lines ys))

-- the lines of an accepted token are those of its messages, and one more
pub front-lines : (s : List ℕ) (ps : List Placed) → token_of s ≡ Accepted ps → front_lines s ≡ texts (all_lines ps)
unfolding lines_of reading_lines texts
front-lines s ps e =
    let last = joined (end_line (length ps) (length s)) in
    let all : lines_of s ≡ texts (all_lines ps) ++ (last ∷ []) =
    ap (λ (r : Reading). texts (reading_lines r (length s))) e ∙ texts-append (all_lines ps) (end_line (length ps) (length s) ∷ []) in
    let n : length (texts (all_lines ps)) ≡ length (lines_of s) - 1 = omega (arith, ap length all, length-append (texts (all_lines ps)) (last ∷ [])) in
    ap (take (length (lines_of s) - 1)) all ∙ take_at (texts (all_lines ps)) (last ∷ []) (length (lines_of s) - 1) n

moved_none : (ps : List Placed) → moved 0 ps ≡ ps
moved_none [] = refl
moved_none (m ∷ ms) =
    ap (λ (n : ℕ). record { place = n; octets = m.octets } ∷ moved 0 ms) (zero-add m.place) ∙ ap (λ (l : List Placed). m ∷ l) (moved_none ms)

pub joined-listing : JoinedListing
joined-listing s t ps qs a b f short =
    let second : moved (length s) qs ≡ moved (length s) (messages_of (token_of t)) = sym (ap (λ (r : Reading). moved (length s) (messages_of r)) b) in (
      front-lines (s ++ t) (ps ++ moved (length s) qs) (joined-accepted s t ps qs a b f short)
          ∙ ap texts (lines-append ps (moved (length s) qs))
          ∙ texts-append (all_lines ps) (all_lines (moved (length s) qs))
          ∙ ap (λ (l : List (List ℕ)). l ++ texts (all_lines (moved (length s) qs))) (sym (front-lines s ps a))
          ∙ ap (λ (l : List Placed). front_lines s ++ texts (all_lines l)) second,
      ap (λ (r : Reading). texts (all_lines (moved 0 (messages_of r)))) b ∙ ap (λ (l : List Placed). texts (all_lines l)) (moved_none qs)
          ∙ sym (front-lines t qs b),
    )

pub moved-message : MovedMessage
unfolding message_lines
moved-message n place m = refl
