-- A token: another one of equal length that agrees with it on its covered octets is accepted, and shows the same.
-- Assumes nothing.
use Prim.Native.Nat.{ℕ, suc, ◌+◌, ◌-◌, ◌<◌, ◌≤◌}
use mathlib.Core.Path.{◌≡◌, refl, sym, ap, ◌∙◌}
use mathlib.Core.Bool.{Bool, true, false, ◌&&◌, ◌||◌}
use mathlib.Core.Logic.{◌⊎◌, inl, inr}
use mathlib.Core.List.{List, [], ◌∷◌, ◌++◌, Memᴰ}
use native.Mathlib.Omega.{arith}
use lib.ListN.{length, take, drop, get_or, length-append, length-drop, take-append-drop, get_or-append, get_or-eq_default}
use lib.Seq.{get_or-take, get_or-drop, get_or-append-add, length-take-le}
use lib.Dec.{leb, ltb}
use borrow.Author.Tests.{le-leb, lt-ltb, ltb-true, ltb-false}
use Rattle.octets.proofs.Bools.{which}
use Rattle.vector.specs.declared.Vector.{Vector}
use Rattle.vector.specs.Vector.{part}
use Rattle.message.specs.Layout.{Head, head_of, Content, Nego, Exchange, Verify, Alert, content_in, vectors_of}
use Rattle.message.specs.Show.{ids_of}
use Rattle.token.specs.Token.{Placed, Reading, Accepted, token_of}
use Rattle.token.specs.Split.{Message, Numbered, join, placed_from}
use Rattle.token.specs.Walk.{messages_of}
use Rattle.token.proofs.Splits.{accepted-splits, numbered-accepted}
use Rattle.coverage.specs.Coverage.{header_in, is_covered}
use Rattle.lines.specs.Lines.{message_line, scheme_line, extension_line, numbered, content_lines, message_lines, end_line}
use Rattle.windows.specs.Windows.{texts}
use Rattle.listing.specs.Listing.{all_lines, reading_lines, lines_of}
use Rattle.blanking.specs.Covered.{lies_at, covered_in, covered, Agree, view_of, View, views_of, NothingPointsAt, SameListing, SameCovered}
use Rattle.blanking.proofs.Sames.{or_r, message-room, head-is, content-is, covered-is, part-is, shown-is, message-same}

-- t agrees with the messages ms, the first of which stands at the place p of a token
abbrev Agreed : ℕ → List (List ℕ) → List ℕ → Type 0
Agreed p ms t = (i : ℕ) → covered_in (placed_from p ms) (p + i) ≡ true → get_or t i 0 ≡ get_or (join ms) i 0

module _ (p : ℕ) (m : List ℕ) (ms : List (List ℕ)) (t : List ℕ) (sized : length t ≡ length (join (m ∷ ms))) (agree : Agreed p (m ∷ ms) t) where
  long : length m ≤ length t
  long = omega (arith, length-append m (join ms))

  first-length : length (take (length m) t) ≡ length m
  first-length = length-take-le (length m) t long

  -- an octet of the first message is covered in the token where it is in the message
  here : (i : ℕ) → i < length m → is_covered m i ≡ true → covered_in (placed_from p (m ∷ ms)) (p + i) ≡ true
  unfolding covered_in
  here i h e = let z : p + i - p ≡ i = omega arith in simp (le-leb p (p + i) (omega arith), lt-ltb (p + i) (p + length m) (omega arith), z, e)

  agree-first : (i : ℕ) → is_covered m i ≡ true → get_or (take (length m) t) i 0 ≡ get_or m i 0
  agree-first i e = go (which (ltb i (length m))) where
    go : (ltb i (length m) ≡ true) ⊎ (ltb i (length m) ≡ false) → get_or (take (length m) t) i 0 ≡ get_or m i 0
    go (inl w) =
        let u : i < length m = ltb-true _ _ w in
        get_or-take (length m) t i 0 u ∙ agree i (here i u e) ∙ get_or-append m (join ms) 0 i u
    go (inr w) =
        let u : length m ≤ i = ltb-false _ _ w in
        get_or-eq_default (take (length m) t) 0 (omega (arith, first-length)) ∙ sym (get_or-eq_default m 0 u)

  rest-length : length (drop (length m) t) ≡ length (join ms)
  rest-length = length-drop (length m) t ∙ omega (arith, length-append m (join ms))

  agree-rest : Agreed (p + length m) ms (drop (length m) t)
  unfolding covered_in
  agree-rest i e =
      let z : p + length m + i ≡ p + (length m + i) = omega arith in
      get_or-drop (length m) t i 0
      ∙ agree (length m + i)
      (or_r (lies_at (record { place = p; octets = m }) (p + (length m + i)) && is_covered m (p + (length m + i) - p))
      (covered_in (placed_from (p + length m) ms) (p + (length m + i))) (ap (covered_in (placed_from (p + length m) ms)) (sym z) ∙ e))
      ∙ get_or-append-add m (join ms) i 0

-- ---- a message shows the same, has the same lines, and the same octets of it are covered
content-lines : (m t : List ℕ) (c : Content) → ((v : Vector) → Memᴰ v (vectors_of c) → part t v ≡ part m v) → content_lines t c ≡ content_lines m c
unfolding vectors_of
content-lines m t (Nego random version schemes extensions elements) h =
    ap (λ (l : List ℕ). numbered scheme_line (ids_of l) ++ numbered extension_line elements) (h schemes (Memᴰ.head refl))
content-lines m t (Exchange scheme value) h = refl
content-lines m t (Verify scheme headerLength checksumScheme type value) h = refl
content-lines m t (Alert scheme code alerts elements) h = refl

module _ (p q : ℕ) (v m t : List ℕ) (e : Message q v m) (sized : length t ≡ length m)
    (agree : (i : ℕ) → is_covered m i ≡ true → get_or t i 0 ≡ get_or m i 0) where
  has_room : header_in m ≤ length m
  has_room = message-room q v m e

  view-same : view_of (record { place = p; octets = t }) ≡ view_of (record { place = p; octets = m })
  view-same = rw (shown-is m t sized agree has_room, content-is m t sized agree has_room, head-is m t sized agree has_room)

  lines_same : message_lines p t ≡ message_lines p m
  unfolding message_lines
  lines_same =
      ap (λ (c : Content). message_line p (head_of t) ∷ content_lines t c) (content-is m t sized agree has_room)
      ∙ ap (λ (h : Head). message_line p h ∷ content_lines t (content_in m)) (head-is m t sized agree has_room)
      ∙ ap (λ (l : List (List (List ℕ))). message_line p (head_of m) ∷ l) (content-lines m t (content_in m) (part-is m t sized agree has_room))

  covers-same : (i : ℕ)
      → (lies_at (record { place = p; octets = t }) i && is_covered t (i - p)) ≡ (lies_at (record { place = p; octets = m }) i && is_covered m (i - p))
  covers-same i =
      ap (λ (n : ℕ). (leb p i && ltb i (p + n)) && is_covered t (i - p)) sized
      ∙ ap (λ (b : Bool). lies_at (record { place = p; octets = m }) i && b) (covered-is m t sized agree has_room (i - p))

-- ---- the messages of t, which show what ms do
record Alike (p q : ℕ) (v : List ℕ) (ms : List (List ℕ)) (t : List ℕ) : Type 0 where
  parts : List (List ℕ)
  joins : join parts ≡ t
  numbered : Numbered q v parts
  views : views_of (placed_from p parts) ≡ views_of (placed_from p ms)
  lines : all_lines (placed_from p parts) ≡ all_lines (placed_from p ms)
  covers : (i : ℕ) → covered_in (placed_from p parts) i ≡ covered_in (placed_from p ms) i

alike : (p q : ℕ) (v : List ℕ) (ms : List (List ℕ)) (t : List ℕ) → Numbered q v ms → length t ≡ length (join ms) → Agreed p ms t → Alike p q v ms t
unfolding views_of all_lines covered_in
alike p q v [] [] e sized agree = record { parts = []; joins = refl; numbered = tt; views = refl; lines = refl; covers = λ i. refl }
alike p q v [] (x ∷ t) e sized agree = absurd (omega arith)
alike p q v (m ∷ ms) t e sized agree =
    let n = first-length p m ms t sized agree in
    let f = agree-first p m ms t sized agree in
    let r = alike (p + length m) (q + 1) v ms (drop (length m) t) e.1 (rest-length p m ms t sized agree) (agree-rest p m ms t sized agree) in
    let at : placed_from (p + length (take (length m) t)) r.parts ≡ placed_from (p + length m) r.parts =
    ap (λ (k : ℕ). placed_from (p + k) r.parts) n in
    record {
      parts = take (length m) t ∷ r.parts;
      joins = ap (λ (l : List ℕ). take (length m) t ++ l) r.joins ∙ take-append-drop (length m) t;
      numbered = (message-same q v m (take (length m) t) e.0 n f, r.numbered);
      views =
          ap (λ (w : View). w ∷ views_of (placed_from (p + length (take (length m) t)) r.parts)) (view-same p q v m (take (length m) t) e.0 n f)
          ∙ ap (λ (l : List View). view_of (record { place = p; octets = m }) ∷ l) (ap views_of at ∙ r.views);
      lines =
          ap (λ (l : List (List (List ℕ))). l ++ all_lines (placed_from (p + length (take (length m) t)) r.parts))
          (lines_same p q v m (take (length m) t) e.0 n f)
          ∙ ap (λ (l : List (List (List ℕ))). message_lines p m ++ l) (ap all_lines at ∙ r.lines);
      covers = λ i.
          ap (λ (b : Bool). b || covered_in (placed_from (p + length (take (length m) t)) r.parts) i)
          (covers-same p q v m (take (length m) t) e.0 n f i)
          ∙ ap (λ (b : Bool). (lies_at (record { place = p; octets = m }) i && is_covered m (i - p)) || b)
          (ap (λ (l : List Placed). covered_in l i) at ∙ r.covers i);
    }

-- ---- the token
record Found (s t : List ℕ) (ps : List Placed) : Type 0 where
  qs : List Placed
  accepted : token_of t ≡ Accepted qs
  views : views_of qs ≡ views_of ps
  lines : all_lines qs ≡ all_lines ps
  covers : (i : ℕ) → covered_in qs i ≡ covered_in ps i

found : (s t : List ℕ) (ps : List Placed) → token_of s ≡ Accepted ps → length t ≡ length s → Agree s t → Found s t ps
found s t ps e sized agree =
    let (ms, (split, places)) = accepted-splits s ps e in
    let is : length s ≡ length (join ms) = ap length (sym split.joins) in
    let agreed : Agreed 0 ms t = λ i c. agree i (told ms places i c) ∙ ap (λ (l : List ℕ). get_or l i 0) (sym split.joins) in
    let r = alike 0 (head_of s).sequence (head_of s).conversation ms t split.numbered (sized ∙ is) agreed in
    record {
      qs = placed_from 0 r.parts;
      accepted =
          go (head_of s).sequence (head_of s).conversation r.parts r.joins r.numbered (omega (arith, split.short))
          (omega (arith, split.some));
      views = r.views ∙ ap views_of places;
      lines = r.lines ∙ ap all_lines places;
      covers = λ i. r.covers i ∙ ap (λ (l : List Placed). covered_in l i) places;
    } where
      told : (ms : List (List ℕ)) → placed_from 0 ms ≡ ps → (i : ℕ) → covered_in (placed_from 0 ms) (0 + i) ≡ true → covered s i ≡ true
      told ms places i c =
          let z : 0 + i ≡ i = omega arith in
          ap (λ (r : Reading). covered_in (messages_of r) i) e ∙ ap (λ (l : List Placed). covered_in l i) (sym places)
          ∙ ap (covered_in (placed_from 0 ms)) (sym z) ∙ c

      go : (q : ℕ) (v : List ℕ) (ns : List (List ℕ)) → join ns ≡ t → Numbered q v ns → length t ≤ 65535 → 0 < length t
          → token_of t ≡ Accepted (placed_from 0 ns)
      go q v [] j c w z = absurd (omega (arith, ap length j))
      go q v (n ∷ ns) j c w z = ap token_of (sym j) ∙ numbered-accepted q v n ns c (omega (arith, ap length j))

pub nothing-points-at : NothingPointsAt
nothing-points-at s t ps e sized agree = let w = found s t ps e sized agree in (w.qs, (w.accepted, w.views))

length-views : (ms : List Placed) → length (views_of ms) ≡ length ms
unfolding views_of
length-views [] = refl
length-views (m ∷ ms) = ap suc (length-views ms)

pub same-listing : SameListing
unfolding lines_of reading_lines
same-listing s t ps e sized agree =
    let w = found s t ps e sized agree in
    let n : length w.qs ≡ length ps = sym (length-views w.qs) ∙ ap length w.views ∙ length-views ps in
    ap (λ (r : Reading). texts (reading_lines r (length t))) w.accepted
    ∙ ap (λ (l : List (List (List ℕ))). texts (l ++ (end_line (length w.qs) (length t) ∷ []))) w.lines
    ∙ ap (λ (k : ℕ). texts (all_lines ps ++ (end_line k (length t) ∷ []))) n
    ∙ ap (λ (k : ℕ). texts (all_lines ps ++ (end_line (length ps) k ∷ []))) sized
    ∙ sym (ap (λ (r : Reading). texts (reading_lines r (length s))) e)

pub same-covered : SameCovered
same-covered s t ps e sized agree p =
    let w = found s t ps e sized agree in
    ap (λ (r : Reading). covered_in (messages_of r) p) w.accepted ∙ w.covers p ∙ sym (ap (λ (r : Reading). covered_in (messages_of r) p) e)
