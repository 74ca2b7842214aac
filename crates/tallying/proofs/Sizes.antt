-- The three totals of octets sum to the octets of the accepted files.
-- Assumes nothing.
use Prim.Native.Nat.{ℕ, ◌+◌, ◌≤◌}
use mathlib.Core.Path.{◌≡◌, refl, sym, ap, subst, ◌∙◌}
use mathlib.Core.Bool.{Bool, true, false, cond}
use mathlib.Core.List.{List, [], ◌∷◌, ◌++◌, Memᴰ}
use native.Mathlib.Omega.{arith}
use lib.ListN.{length, length-append}
use lib.Dec.{leb}
use Rattle.message.specs.Layout.{content_in, vectors_of}
use Rattle.token.specs.Token.{Reading, Accepted, Refused, token_of}
use Rattle.token.specs.Walk.{messages_of, Accepts}
use Rattle.token.specs.Split.{Message, Numbered, join}
use Rattle.token.proofs.Insides.{message-inside}
use Rattle.token.proofs.Walks.{whole}
use Rattle.coverage.specs.Coverage.{header_in, vectors_in, header_octets, vector_octets, bare_octets, AllBehind}
use Rattle.coverage.proofs.Sums.{octets-sum}
use Rattle.tallying.specs.Files.{File, Opened, Missing, all_octets, size_by, messages_in, size_in, all_messages, all_sizes, sum_of, totals_of, OctetsOfFiles}
use Rattle.tallying.proofs.Steps.{left-octets}

-- a message that passed has no vector in its header
behind : (q : ℕ) (v m : List ℕ) → Message q v m → AllBehind m
unfolding vectors_in
behind q v m e w i some = go (leb (header_in m) (length m)) i where
  go : (b : Bool) → Memᴰ w (cond b (vectors_of (content_in m)) []) → header_in m ≤ w.offset.0
  go true j = (message-inside q v m e w j some).behind
  go false j = elim j [ ]

sum-append : (g : List ℕ → ℕ) (xs ys : List (List ℕ)) → sum_of g (xs ++ ys) ≡ sum_of g xs + sum_of g ys
unfolding sum_of
sum-append g [] ys = omega arith
sum-append g (x ∷ xs) ys = omega (arith, sum-append g xs ys)

abbrev all_three : List (List ℕ) → ℕ
all_three ms = sum_of header_octets ms + sum_of vector_octets ms + sum_of bare_octets ms

messages-size : (q : ℕ) (v : List ℕ) (ms : List (List ℕ)) → Numbered q v ms → all_three ms ≡ length (join ms)
unfolding sum_of
messages-size q v [] e = refl
messages-size q v (m ∷ ms) e =
    omega (arith, octets-sum m (behind q v m e.0), messages-size (q + 1) v ms e.1, length-append m (join ms))

file-size : (f : File) → all_three (messages_in f) ≡ size_in f
file-size Missing = unfold sum_of in refl
file-size (Opened s) = go (token_of s) refl where
  go : (r : Reading) → token_of s ≡ r → all_three (all_octets (messages_of (token_of s))) ≡ size_by (token_of s) (length s)
  go (Refused n p) e = subst (λ (r : Reading). all_three (all_octets (messages_of r)) ≡ size_by r (length s)) (sym e) (unfold sum_of in refl)
  go (Accepted ps) e =
      let ok : Accepts s = rw e refl in
      let (w, places) = whole s ok in
      ap all_three (left-octets s w places) ∙ messages-size w.q w.v w.ms w.numbered ∙ ap length w.joins
      ∙ sym (ap (λ (r : Reading). size_by r (length s)) e)

files-size : (fs : List File) → all_three (all_messages fs) ≡ all_sizes fs
unfolding all_messages all_sizes
files-size [] = unfold sum_of in refl
files-size (f ∷ fs) =
    omega (
      arith,
      file-size f,
      files-size fs,
      sum-append header_octets (messages_in f) (all_messages fs),
      sum-append vector_octets (messages_in f)
          (all_messages fs),
      sum-append bare_octets (messages_in f) (all_messages fs),
    )

pub octets-of-files : OctetsOfFiles
unfolding totals_of
octets-of-files fs = files-size fs
