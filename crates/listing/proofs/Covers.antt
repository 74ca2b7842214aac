-- Every line of a token has fewer than 128 octets, so windows in buffers of 128 octets and more hold the whole listing.
-- Assumes nothing.
use Prim.Native.Nat.{ℕ, ◌+◌, ◌≤◌}
use mathlib.Core.Path.{refl}
use mathlib.Core.List.{List, [], ◌∷◌, Memᴰ}
use native.Mathlib.Omega.{arith}
use lib.ListN.{length}
use Rattle.windows.specs.Windows.{Request, window_of, EachShows}
use Rattle.windows.proofs.Covers.{gets-on, windows-all}
use Rattle.windows.proofs.Stepping.{get_or-texts}
use Rattle.listing.specs.Listing.{token_lines, lines_of, ShortLines, ListingWindows}
use Rattle.lines.proofs.Shorts.{short-at}
use Rattle.listing.proofs.Shorts.{shorts-token}

pub short-lines : ShortLines
unfolding lines_of
short-lines s k = rw (get_or-texts (token_lines s) k) (short-at (token_lines s) k (shorts-token s))

each-shows : (s : List ℕ) (qs : List Request) (first : ℕ)
    → ((q : Request) → Memᴰ q qs → (128 ≤ length q.buffer) × (length (lines_of s) ≤ q.end)) → EachShows (lines_of s) first qs
unfolding EachShows
each-shows s [] first h = tt
each-shows s (q ∷ qs) first h =
    let a = h q (Memᴰ.head refl) in (
      λ inside. gets-on (lines_of s) first q.end q.buffer (omega (arith, a)) inside (omega (arith, a, short-lines s first)),
      each-shows s qs (first + (window_of (lines_of s) first q.end q.buffer).lines) (λ p i. h p (Memᴰ.tail i)),
    )

pub listing-windows : ListingWindows
listing-windows s qs h enough = windows-all (lines_of s) qs (each-shows s qs 0 h) enough
