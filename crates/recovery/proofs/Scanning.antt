-- One turn of the reading, and the walk through a file. In the words of the code.
-- Assumes nothing.
use Prim.Native.Nat.{ℕ, ◌+◌, ◌-◌, ◌<◌, ◌≤◌, ◌^◌}
use mathlib.Core.Path.{◌≡◌, refl, sym, ap, subst, ◌∙◌}
use mathlib.Core.Bool.{true, false}
use mathlib.Core.Logic.{◌⊎◌, inl, inr}
use mathlib.Core.List.{List, [], ◌∷◌, ◌++◌}
use native.Mathlib.Omega.{arith}
use lib.ListN.{length, take, drop, length-drop, drop_of_length-le}
use lib.Seq.{drop-drop}
use lib.Dec.{ltb}
use Rattle.octets.proofs.Bools.{which}
use Rattle.octets.proofs.Slices.{tail_all}
use Rattle.text.specs.Text.{quoted, decimal64, Text, text, written}
use Rattle.text.proofs.Pieces.{then, front-is, same-room}
use Rattle.put.specs.Put.{joined}
use Rattle.vector.specs.declared.TokenPlace.{TokenPlace}
use Rattle.message.specs.declared.Header.{Header}
use Rattle.std.proofs.Common.{Result, Ok, Err}
use Rattle.refusal.specs.declared.Refusal.{Refusal}
use Rattle.refusal.specs.Refusals.{number_of}
use Rattle.message.specs.Layout.{head_of, size, front}
use Rattle.message.specs.Check.{message_rows, message_verdict, said, fields_of}
use Rattle.message.proofs.Tables.{verdict-read, verdict-refused}
use Rattle.token.specs.Token.{Placed}
use Rattle.token.proofs.Cuts.{placed}
use Rattle.lines.specs.Lines.{message_lines}
use Rattle.lines.specs.Fit.{Fit, shape_in}
use Rattle.windows.specs.declared.Progress.{Progress}
use Rattle.windows.specs.Windows.{texts}
use Rattle.windows.specs.Steps.{State, within, step, steps, Going}
use Rattle.windows.proofs.Stepping.{steps-append, went, texts-append}
use Rattle.listing.proofs.Turns.{message-fit}
use Rattle.recovery.specs.declared.Scan.{Scan}
use Rattle.recovery.specs.Recovery.{readable, taken_from, taken_of, Piece, taken, skip_to, pieces_from, pieces_of, skipped_line, all_piece_lines}
use Rattle.recovery.specs.Scans.{Scanned, scanned, stretch, taken_by, skipped_by, advanced, InFile}
use Rattle.recovery.proofs.Turns.{readable-front, readable-message, turn-take, turn-skip}
use Rattle.recovery.proofs.Firsts.{skip-none, skip-some}
use Rattle.recovery.proofs.Bounds.{short-skipped}

-- the line of a skipped stretch, as the calls that write it
pub skipped-text : (t a b u : Text) (place n : ℕ) → a ≡ written (quoted "skipped at=" ∷ decimal64 place ∷ []) t
    → b ≡ written (quoted " length=" ∷ decimal64 n ∷ []) a → u ≡ written (quoted "\n" ∷ []) b → u ≡ written (skipped_line place n) t
unfolding skipped_line
skipped-text t a b u place n f₁ f₂ f₃ = then t b u _ _ (then t a b _ _ f₁ f₂) f₃

-- in an array that has room for it
module _ (e e' : List ℕ) (room : length e ≡ 128) (k place n : ℕ) (is : text e' k ≡ written (skipped_line place n) (text e 0)) where
  line : (k ≡ length (joined (skipped_line place n))) × (take k e' ≡ joined (skipped_line place n))
  line = front-is (skipped_line place n) e e' k (omega (arith, short-skipped place n)) is

  pub line-within : k ≤ length e'
  line-within = omega (arith, line.0, short-skipped place n, same-room e e' 0 k (skipped_line place n) is)

  pub line-length : k ≡ length (take k e')
  line-length = line.0 ∙ sym (ap length line.1)

  pub stretch-line : (a b : ℕ) → a < b → place ≡ a → n ≡ b - a → (x t : State) → x ≡ step t (take k e') → x ≡ steps (stretch a b) t
  unfolding steps texts all_piece_lines
  stretch-line a b h p-is n-is x t e =
      e ∙ ap (step t) (line.1 ∙ ap (λ (i : ℕ). joined (skipped_line i n)) p-is ∙ ap (λ (i : ℕ). joined (skipped_line a i)) n-is)
      ∙ ap (λ (ps : List _). steps (texts (all_piece_lines ps)) t) (sym (skip-some a b [] h))

pub stretch-none : (a b : ℕ) (t : State) → b ≤ a → t ≡ steps (stretch a b) t
unfolding steps texts all_piece_lines
stretch-none a b t h = ap (λ (ps : List _). steps (texts (all_piece_lines ps)) t) (sym (skip-none a b [] h))

pub ruleset stretches = (stretch-none, line-within, line-length, stretch-line)

-- no file has so many messages that their number has no room
pub taken-room : (s : Scan) (n : ℕ) → InFile s n → s.taken + 1 < 2 ^ 32
taken-room s n h = omega (arith, h.short, h.few)

-- one turn, by what the message's reading answers
module _ (rest : List ℕ) (r : Result Header Refusal) (r-is : said r ≡ message_verdict rest) (s : Scan) (d : List ℕ) where
  pub turn-skipped : (f : Refusal) → r ≡ Err f
      → scanned (record { progress = s.progress; place = record { 0 = s.place.0 + 1 }; end = s.end; taken = s.taken }) d ≡ advanced rest s d
  unfolding advanced readable message_verdict
  turn-skipped f e =
      let no = verdict-refused (message_rows rest) (fields_of (head_of rest)) (number_of f) (sym r-is ∙ ap said e) in
      rw no.0

  module _ (h : Header) (e : r ≡ Ok h) where
    reads : (readable rest ≡ true) × (fields_of (head_of rest) ≡ h)
    unfolding readable message_verdict
    reads = verdict-read (message_rows rest) (fields_of (head_of rest)) h (sym r-is ∙ ap said e)

    length-is : size rest ≡ h.length
    length-is = ap (λ (g : Header). g.length) reads.1

    pub turn-within : h.length ≤ length rest
    turn-within = omega (arith, length-is, (readable-front rest reads.0).within)

    pub turn-length : h.length ≡ length (take h.length rest)
    turn-length = sym length-is ∙ sym (readable-front rest reads.0).is ∙ ap (λ (k : ℕ). length (take k rest)) length-is

    pub turn-fit : Fit (shape_in (take h.length rest)) (take h.length rest)
    turn-fit =
        subst (λ (k : ℕ). Fit (shape_in (take k rest)) (take k rest)) length-is (message-fit _ _ (front rest) (readable-message rest reads.0))

    pub turn-taken : (p q : Progress) (d₁ d₂ : List ℕ) → within p d₁ ≡ steps (stretch s.end.0 s.place.0) (within s.progress d)
        → within q d₂ ≡ steps (texts (message_lines s.place.0 (take h.length rest))) (within p d₁) → (end : TokenPlace)
        → end.0 ≡ s.place.0 + h.length → scanned (record { progress = q; place = end; end = end; taken = s.taken + 1 }) d₂ ≡ advanced rest s d
    unfolding advanced
    turn-taken p q d₁ d₂ p-is q-is end end_is =
        let t : within q d₂ ≡ steps (texts (message_lines s.place.0 (front rest))) (steps (stretch s.end.0 s.place.0)
        (within s.progress d)) =
        q-is ∙ ap (λ (k : ℕ). steps (texts (message_lines s.place.0 (take k rest))) (within p d₁)) (sym length-is)
        ∙ ap (steps (texts (message_lines s.place.0 (front rest)))) p-is in
        let there : end.0 ≡ s.place.0 + size rest = end_is ∙ ap (λ (k : ℕ). s.place.0 + k) (sym length-is) in
        ap (λ (k : ℕ). scanned (record { progress = q; place = record { 0 = k }; end = record { 0 = k }; taken = s.taken + 1 }) d₂) there
        ∙ ap (λ (u : State). taken_by s u (size rest)) t
        ∙ rw reads.0

pub ruleset turns = (taken-room, turn-skipped, turn-within, turn-length, turn-fit, turn-taken)

-- the lines that are still to come
abbrev left : List ℕ → Scan → List Piece
left file s = pieces_from s.end.0 (taken_from (drop s.place.0 file) 0 s.place.0) (length file)

lines-behind : (a b : ℕ) (ps : List Piece) → texts (all_piece_lines (skip_to a b ps)) ≡ stretch a b ++ texts (all_piece_lines ps)
lines-behind a b ps = ap texts (go (which (ltb a b))) ∙ texts-append (all_piece_lines (skip_to a b [])) (all_piece_lines ps) where
  go : (ltb a b ≡ true) ⊎ (ltb a b ≡ false) → all_piece_lines (skip_to a b ps) ≡ all_piece_lines (skip_to a b []) ++ all_piece_lines ps
  go (inl e) = unfold skip_to all_piece_lines in rw e
  go (inr e) = unfold skip_to all_piece_lines in rw e

-- on the way through a file: x is what all its lines come to, n the number of its messages
pub record OnWay (file : List ℕ) (x : State) (n : ℕ) (s : Scan) (d : List ℕ) : Type 0 where
  pub short : length file ≤ 65535
  pub inside : s.place.0 ≤ length file
  pub few : s.taken ≤ s.place.0
  pub count : s.taken + length (taken_from (drop s.place.0 file) 0 s.place.0) ≡ n
  pub come : x ≡ steps (texts (all_piece_lines (left file s))) (within s.progress d)
  pub going : Going s.progress (length d)

pub way-begins : (file : List ℕ) (p : Progress) (d : List ℕ) → length file ≤ 65535 → Going p (length d)
    → OnWay file (steps (texts (all_piece_lines (pieces_of file))) (within p d)) (length (taken_of file))
    (record { progress = p; place = record { 0 = 0 }; end = record { 0 = 0 }; taken = 0 }) d
way-begins file p d h g = record { short = h; inside = omega arith; few = omega arith; count = omega arith; come = refl; going = g }

module _ (file : List ℕ) (x : State) (n : ℕ) (s : Scan) (d : List ℕ) (on : OnWay file x n s d) where
  pub way-going : Going s.progress (length d)
  way-going = on.going

  module _ (more : s.place.0 < length file) where
    rest-length : s.place.0 + length (drop s.place.0 file) ≡ length file
    rest-length = omega (arith, length-drop s.place.0 file)

    pub way-in-file : InFile s (length (take (length file - s.place.0) (drop s.place.0 file)))
    way-in-file =
        subst (λ (l : List ℕ). InFile s (length l)) (sym (tail_all file s.place.0))
        (record { short = omega (arith, rest-length, on.short); few = on.few })

    -- the messages that are left, once one is taken or an octet is skipped
    next-taken : readable (drop s.place.0 file) ≡ true
        → taken_from (drop s.place.0 file) 0 s.place.0 ≡ placed s.place.0 (front (drop s.place.0 file))
        ∷ taken_from (drop (s.place.0 + size (drop s.place.0 file)) file) 0 (s.place.0 + size (drop s.place.0 file))
    next-taken e =
        let rest = drop s.place.0 file in
        turn-take rest s.place.0 e
        ∙ ap (λ (l : List ℕ). placed s.place.0 (front rest) ∷ taken_from l 0 (s.place.0 + size rest)) (drop-drop (size rest) s.place.0 file)

    next-skipped : readable (drop s.place.0 file) ≡ false
        → taken_from (drop s.place.0 file) 0 s.place.0 ≡ taken_from (drop (s.place.0 + 1) file) 0 (s.place.0 + 1)
    next-skipped e =
        turn-skip (drop s.place.0 file) s.place.0 (omega (arith, rest-length)) e
        ∙ ap (λ (l : List ℕ). taken_from l 0 (s.place.0 + 1)) (drop-drop 1 s.place.0 file)

    abbrev Onward : Scanned → Type 0
    Onward w = OnWay file x n w.scan w.buffer × (s.place.0 < w.scan.place.0)

    on-skipped : readable (drop s.place.0 file) ≡ false → Onward (skipped_by s d)
    on-skipped e = (
      record {
        short = on.short;
        inside = omega arith;
        few = omega (arith, on.few);
        count = sym (ap (λ (l : List Placed). s.taken + length l) (next-skipped e)) ∙ on.count;
        come = on.come ∙ ap (λ (l : List Placed). steps (texts (all_piece_lines (pieces_from s.end.0 l (length file)))) (within s.progress d))
            (next-skipped e);
        going = on.going;
      },
      omega arith,
    )

    on-taken : readable (drop s.place.0 file) ≡ true
        → Onward
        (taken_by s
        (steps (texts (message_lines s.place.0 (front (drop s.place.0 file))))
        (steps (stretch s.end.0 s.place.0) (within s.progress d))) (size (drop s.place.0 file)))
    unfolding pieces_from all_piece_lines
    on-taken e =
        let rest = drop s.place.0 file in
        let z = readable-front rest e in
        let behind = taken_from (drop (s.place.0 + size rest) file) 0 (s.place.0 + size rest) in
        let gap = stretch s.end.0 s.place.0 in
        let own = texts (message_lines s.place.0 (front rest)) in
        let w = within s.progress d in
        let after = pieces_from (s.place.0 + size rest) behind (length file) in (
          record {
            short = on.short;
            inside = omega (arith, rest-length, z.within);
            few = omega (arith, on.few, z.some);
            count = omega (arith, ap length (next-taken e), on.count);
            come =
                on.come
                ∙ ap (λ (l : List Placed). steps (texts (all_piece_lines (pieces_from s.end.0 l (length file)))) w) (next-taken e)
                ∙ ap (λ (k : ℕ). steps
                (texts (all_piece_lines
                (skip_to s.end.0 s.place.0
                (taken (placed s.place.0 (front rest)) ∷ pieces_from (s.place.0 + k) behind (length file))))) w) z.is
                ∙ ap (λ (l : List (List ℕ)). steps l w) (lines-behind s.end.0 s.place.0 (taken (placed s.place.0 (front rest)) ∷ after))
                ∙ steps-append gap (texts (message_lines s.place.0 (front rest) ++ all_piece_lines after)) w
                ∙ ap (λ (l : List (List ℕ)). steps l (steps gap w)) (texts-append (message_lines s.place.0 (front rest)) (all_piece_lines after))
                ∙ steps-append own (texts (all_piece_lines after)) (steps gap w);
            going =
                let t = steps gap w in
                went t.progress (steps own t).progress t.buffer (steps own t).buffer own refl
                (went s.progress t.progress d t.buffer gap refl on.going);
          },
          omega (arith, z.some),
        )

    onward : (s' : Scan) (d' : List ℕ) → scanned s' d' ≡ advanced (take (length file - s.place.0) (drop s.place.0 file)) s d
        → Onward (scanned s' d')
    unfolding advanced
    onward s' d' e =
        go (which (readable (drop s.place.0 file))) (e ∙ ap (λ (l : List ℕ). advanced l s d) (tail_all file s.place.0)) where
          go : (readable (drop s.place.0 file) ≡ true) ⊎ (readable (drop s.place.0 file) ≡ false)
              → scanned s' d' ≡ advanced (drop s.place.0 file) s d → Onward (scanned s' d')
          go (inl r) is = subst Onward (sym (rw r at is)) (on-taken r)
          go (inr r) is = subst Onward (sym (rw r at is)) (on-skipped r)

    pub way_on : (s' : Scan) (d' : List ℕ) → scanned s' d' ≡ advanced (take (length file - s.place.0) (drop s.place.0 file)) s d
        → OnWay file x n s' d'
    way_on s' d' e = (onward s' d' e).0

    pub way-less : (s' : Scan) (d' : List ℕ) → scanned s' d' ≡ advanced (take (length file - s.place.0) (drop s.place.0 file)) s d
        → length file - s'.place.0 < length file - s.place.0
    way-less s' d' e = let h = (onward s' d' e).1 in omega arith

  -- at the end the last stretch is left
  pub way-ends : length file ≤ s.place.0 → (q : Progress) (d' : List ℕ)
      → within q d' ≡ steps (stretch s.end.0 s.place.0) (within s.progress d) → within q d' ≡ x
  unfolding taken_from pieces_from
  way-ends h q d' e =
      let all : s.place.0 ≡ length file = omega (arith, on.inside) in
      let none : drop s.place.0 file ≡ [] = drop_of_length-le file {i = s.place.0} h in
      e
      ∙ ap (λ (k : ℕ). steps (stretch s.end.0 k) (within s.progress d)) all
      ∙ sym (on.come
      ∙ ap (λ (l : List ℕ). steps (texts (all_piece_lines (pieces_from s.end.0 (taken_from l 0 s.place.0) (length file))))
      (within s.progress d)) none)

  pub way-counts : length file ≤ s.place.0 → s.taken ≡ n
  unfolding taken_from
  way-counts h =
      let none : drop s.place.0 file ≡ [] = drop_of_length-le file {i = s.place.0} h in
      let z : length (taken_from (drop s.place.0 file) 0 s.place.0) ≡ 0 = ap (λ (l : List ℕ). length (taken_from l 0 s.place.0)) none in
      omega (arith, on.count)

pub ruleset ways = (way-begins, way-going, way-in-file, way_on, way-less, way-ends, way-counts)
