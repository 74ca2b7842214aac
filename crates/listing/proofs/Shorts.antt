-- Every line of a token has fewer than 128 octets.
-- Assumes nothing.
use Prim.Native.Nat.{ℕ}
use mathlib.Core.List.{List, [], ◌∷◌}
use lib.ListN.{length}
use Rattle.token.specs.Token.{Placed, Reading, Accepted, Refused, token_of}
use Rattle.lines.specs.Lines.{message_lines, end_line}
use Rattle.lines.proofs.Shorts.{Shorts, short-end, short-refused, shorts-append, shorts-message}
use Rattle.listing.specs.Listing.{all_lines, reading_lines, token_lines}

shorts-all : (ms : List Placed) → Shorts (all_lines ms)
unfolding all_lines
shorts-all [] = tt
shorts-all (m ∷ ms) = shorts-append (message_lines m.place m.octets) (all_lines ms) (shorts-message m.place m.octets) (shorts-all ms)

shorts-reading : (r : Reading) (octets : ℕ) → Shorts (reading_lines r octets)
unfolding reading_lines
shorts-reading (Accepted ms) octets = shorts-append (all_lines ms) (end_line (length ms) octets ∷ []) (shorts-all ms) (short-end (length ms) octets, tt)
shorts-reading (Refused n place) octets = (short-refused n place, tt)

pub shorts-token : (s : List ℕ) → Shorts (token_lines s)
shorts-token s = shorts-reading (token_of s) (length s)
