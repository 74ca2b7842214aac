-- The functions in the words of the code.
-- Assumes nothing.
use Prim.Native.Nat.{ℕ, suc, ◌+◌, ◌<◌, ◌≤◌, ◌^◌, max}
use mathlib.Core.Path.{◌≡◌, refl, sym, ap, ◌∙◌}
use mathlib.Core.Bool.{Bool, true, false, cond, ◌&&◌, ◌||◌}
use mathlib.Core.List.{List, [], ◌∷◌, ◌++◌, append-nil}
use native.Mathlib.Numerals.{add-one}
use native.Mathlib.Omega.{arith}
use lib.ListN.{length, take, drop, get_or, set, drop_of_length-le}
use lib.Seq.{length-take-le, take_all, take_at, drop-cons, take-suc-set, drop-set-lt, append_snoc}
use lib.Dec.{leb, ltb}
use borrow.Author.Tests.{le-leb, lt-ltb, le-ltb}
use Rattle.octets.specs.Octets.{le}
use Rattle.vector.specs.declared.Vector.{Vector}
use Rattle.message.specs.declared.Shape.{Shape as D·Shape}
use Rattle.message.specs.declared.Shape.TheVariants as form
use Rattle.message.specs.Layout.{head_of, shape_of, shape_as, header_of, pads_of, content_of, content_in, vectors_of}
use Rattle.message.proofs.Shapes.{header-least}
use Rattle.std.proofs.Common.{Ok, Err}
use Rattle.token.specs.declared.Refused.{Refused}
use Rattle.token.specs.Token.{Reading, Outcome, token_of, outcome_of, told}
use Rattle.token.specs.Walk.{Accepts}
use Rattle.token.proofs.Walks.{answer-accepts, answer-refuses}
use Rattle.coverage.specs.Coverage.{header_in, vectors_in, lies_in_pad, lies_in_one, is_covered}
use Rattle.coverage.specs.Sweep.{Clear, marked_all}
use Rattle.coverage.proofs.Sweeps.{end_before, end_none, vectors-end, far-next}
use Rattle.blanking.specs.Blanked.{kept, blanked_by, blanked, Blanking, blanking_of}
use Rattle.blanking.specs.Wiped.{headed, wiped, Marks, Room}
use Rattle.blanking.proofs.Sames.{or_r}

-- ---- `in_pad`
first-pad : (b c : Bool) → b ≡ true → true ≡ (b || c)
first-pad b c e = rw e

last-pad : (b c : Bool) → b ≡ c → b ≡ (c || false)
last-pad b true e = e
last-pad b false e = e

second-pad : (a b c d : Bool) → a ≡ c → a ≡ false → b ≡ d → b ≡ (c || (d || false))
second-pad a b c d e f g = rw (sym e ∙ f) (last-pad b d g)

-- by the layout that the code names
module _ (kind at : ℕ) (r : D·Shape) (r-is : shape_as r ≡ shape_of kind) where
  abbrev InPad : Bool → Type 0
  InPad b = b ≡ lies_in_pad (pads_of (shape_of kind)) at

  named : {f : D·Shape} → r ≡ f → shape_of kind ≡ shape_as f
  named e = sym r-is ∙ ap shape_as e

  module _ (a : Bool) (first : a ≡ (leb 86 at && ltb at 88)) where
    pub nego-first : r ≡ form.Nego → a ≡ true → InPad a
    unfolding lies_in_pad
    nego-first h e = rw (named h) (e ∙ first-pad _ (leb 94 at && ltb at 96 || false) (sym first ∙ e))

    pub nego-second : r ≡ form.Nego → a ≡ false → (b : Bool) → b ≡ (leb 94 at && ltb at 96) → InPad b
    unfolding lies_in_pad
    nego-second h e b g = rw (named h) (second-pad a b _ _ first e g)

  pub exchange-none : r ≡ form.Exchange → InPad false
  unfolding lies_in_pad
  exchange-none h = rw (named h) refl

  pub verify-only : r ≡ form.Verify → (b : Bool) → b ≡ (leb 76 at && ltb at 80) → InPad b
  unfolding lies_in_pad
  verify-only h b g = rw (named h) (last-pad b _ g)

  module _ (a : Bool) (first : a ≡ (leb 66 at && ltb at 68)) where
    pub alert-first : r ≡ form.Alert → a ≡ true → InPad a
    unfolding lies_in_pad
    alert-first h e = rw (named h) (e ∙ first-pad _ (leb 68 at && ltb at 72 || false) (sym first ∙ e))

    pub alert-second : r ≡ form.Alert → a ≡ false → (b : Bool) → b ≡ (leb 68 at && ltb at 72) → InPad b
    unfolding lies_in_pad
    alert-second h e b g = rw (named h) (second-pad a b _ _ first e g)

pub ruleset pads = (nego-first, nego-second, exchange-none, verify-only, alert-first, alert-second)

-- ---- `is_covered`
module _ (kind header far at : ℕ) (header_is : header ≡ header_of (shape_of kind)) where
  abbrev IsCovered : Bool → Type 0
  IsCovered b = b ≡ (headed kind at || ltb at far)

  pub covered-far : at < far → IsCovered true
  covered-far h = sym (or_r (headed kind at) (ltb at far) (lt-ltb at far h))

  module _ (no-vector : far ≤ at) where
    pub covered-behind : header ≤ at → IsCovered false
    covered-behind h = rw (le-ltb at (header_of (shape_of kind)) (omega arith), le-ltb at far no-vector)

    module _ (in-header : at < header) (b : Bool) (b-is : b ≡ lies_in_pad (pads_of (shape_of kind)) at) where
      pub covered-pad : b ≡ true → IsCovered false
      covered-pad e = rw (lt-ltb at (header_of (shape_of kind)) (omega arith), sym b-is ∙ e, le-ltb at far no-vector)

      pub covered-header : b ≡ false → IsCovered true
      covered-header e = rw (lt-ltb at (header_of (shape_of kind)) (omega arith), sym b-is ∙ e)

pub ruleset covers = (covered-far, covered-behind, covered-pad, covered-header)

-- ---- a turn of `wipe`: x is what the loop comes to
module _ (f : ℕ → Bool) (map x m : List ℕ) (far at : ℕ) (inv : x ≡ take at m ++ wiped f map far (drop at m) at) where
  pub wipe-done : length m ≤ at → m ≡ x
  unfolding wiped
  wipe-done h = sym (inv ∙ rw (drop_of_length-le m h, take_all at m h) (append-nil m))

  pub wipe-more : at < length m → (far' : ℕ) → far' ≡ max far (get_or map at 0) → (b : Bool) → b ≡ (f at || ltb at far') → (y : ℕ)
      → y ≡ cond b (get_or m at 0) 0
      → x ≡ take (at + 1) (set m at y) ++ wiped f map far' (drop (at + 1) (set m at y)) (at + 1)
  unfolding wiped
  wipe-more h far' far-is b b-is y y-is =
      let z : at + 1 ≡ suc at = add-one at in
      let now : y ≡ cond (f at || ltb at (max far (get_or map at 0))) (get_or m at 0) 0 =
      y-is ∙ ap (λ (c : Bool). cond c (get_or m at 0) 0) (b-is ∙ ap (λ (n : ℕ). f at || ltb at n) far-is) in
      inv ∙ ap (λ (l : List ℕ). take at m ++ wiped f map far l at) (drop-cons m at 0 h)
      ∙ ap (λ (n : ℕ). take at m ++ n ∷ wiped f map (max far (get_or map at 0)) (drop (suc at) m) (at + 1)) (sym now)
      ∙ sym (append_snoc (take at m) y (wiped f map (max far (get_or map at 0)) (drop (suc at) m) (at + 1)))
      ∙ sym (ap (λ (l : List ℕ). l ++ wiped f map far' (drop (at + 1) (set m at y)) (at + 1))
      (ap (λ (n : ℕ). take n (set m at y)) z ∙ take-suc-set m at y h)
      ∙ ap (λ (l : List ℕ). take at m ++ (y ∷ []) ++ wiped f map far' l (at + 1))
      (ap (λ (n : ℕ). drop n (set m at y)) z ∙ drop-set-lt (suc at) m at y (omega arith))
      ∙ ap (λ (n : ℕ). take at m ++ (y ∷ []) ++ wiped f map n (drop (suc at) m) (at + 1)) far-is)

pub ruleset wipes = (wipe-done, wipe-more)

-- ---- `mark_message`: what a sweep with the farthest end keeps is what is covered
module _ (f : ℕ → Bool) (map : List ℕ) (clear : Clear map) (vs : List Vector) where
  wiped-kept : (s : List ℕ) (at : ℕ) → at + length s ≤ length map
      → wiped f (marked_all map vs) (end_before (length map) vs at) s at ≡ kept (λ p. f p || lies_in_one vs p) s at
  unfolding wiped kept
  wiped-kept [] at h = refl
  wiped-kept (x ∷ s) at h =
      rw (far-next map vs clear at (omega arith), vectors-end (length map) at vs (omega arith))
      (ap (λ (l : List ℕ). cond (f at || ltb at (end_before (length map) vs (at + 1))) x 0 ∷ l) (wiped-kept s (at + 1) (omega arith)))

module _ (m : List ℕ) (kind : ℕ) (kind-is : kind ≡ (head_of m).kind) (h : header_of (shape_of kind) ≤ length m)
    (map map0 map1 : List ℕ) (sized : length map ≡ length m) (same : length map0 ≡ length map) (clear : Clear map0)
    (e : map1 ≡ marked_all map0 (vectors_of (content_of (shape_of kind) m))) where
  all : vectors_of (content_in m) ≡ vectors_in m
  unfolding vectors_in
  all = let fits : header_in m ≤ length m = rw kind-is at h in sym (rw (le-leb _ _ fits) refl)

  cover-kept : (d : List ℕ) → length d ≡ length m → wiped (headed kind) map1 0 d 0 ≡ kept (is_covered m) d 0
  cover-kept d d-is =
      let vs = vectors_of (content_of (shape_of kind) m) in
      ap (λ (l : List ℕ). wiped (headed kind) l 0 d 0) e
      ∙ ap (λ (n : ℕ). wiped (headed kind) (marked_all map0 vs) n d 0) (sym (end_none (length map0) vs))
      ∙ wiped-kept (headed kind) map0 clear vs d 0 (omega arith)
      ∙ ap (λ (k : ℕ). kept (λ p. headed k p || lies_in_one (vectors_of (content_of (shape_of k) m)) p) d 0) kind-is
      ∙ ap (λ (ws : List Vector). kept (λ p. headed (head_of m).kind p || lies_in_one ws p) d 0) all

  module _ (sized1 : length map1 ≡ length m) (rest : List ℕ) where
    front : take (length m) (map1 ++ rest) ≡ map1
    front = take_at map1 rest (length m) sized1

    pub marks-all : Marks kind m (take (length m) (map1 ++ rest))
    marks-all = rw front (sized1, cover-kept)

-- ---- what a message has room for
module _ (map m : List ℕ) (room : Room (length map) m) where
  pub room-kind : 8 + 4 ≤ length m
  room-kind = omega (arith, room.header, header-least (shape_of (head_of m).kind))

  pub room-cells : length (take (length m) map) ≡ length m
  room-cells = length-take-le (length m) map room.within

  pub room-few : length (take (length m) map) < 2 ^ 32
  room-few = omega (arith, room.few, room-cells)

  pub room_within : length m ≤ length map
  room_within = room.within

  module _ (kind : ℕ) (kind-is : kind ≡ le 4 m 8) where
    pub room-own : kind ≡ (head_of m).kind
    unfolding head_of
    room-own = kind-is

    pub room-header : header_of (shape_of kind) ≤ length m
    room-header = rw room-own room.header

pub ruleset rooms = (room-kind, room-cells, room-few, room_within, room-own, room-header)

-- ---- `blank`
module _ (s : List ℕ) where
  pub read-accepts : (n : ℕ) → told (Ok n) ≡ outcome_of (token_of s) → Accepts s
  read-accepts n e = answer-accepts s (Ok n) e n refl

  pub blank-refused : (f : Refused) → told (Err f) ≡ outcome_of (token_of s)
      → ◌≡◌ {A = Blanking} (record { outcome = told (Err f); octets = s }) (blanking_of s)
  blank-refused f e =
      let same : s ≡ blanked s = sym (ap (λ (q : Reading). blanked_by q s) (answer-refuses s (Err f) e f refl)) in
      ap (λ (o : Outcome). record { outcome = o; octets = s }) e
      ∙ ap (λ (l : List ℕ). record { outcome = outcome_of (token_of s); octets = l }) same
