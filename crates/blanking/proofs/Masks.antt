-- The mask of a token, message by message. In the words of the code.
-- Assumes nothing.
use Prim.Native.Nat.{ℕ, ◌+◌, ◌-◌, ◌<◌, ◌≤◌, ◌^◌}
use mathlib.Core.Path.{◌≡◌, refl, sym, ap, subst, ◌∙◌}
use mathlib.Core.List.{List, ◌∷◌, ◌++◌, append-nil, append_assoc}
use native.Mathlib.Omega.{arith}
use lib.ListN.{length, take, drop, length-append, length-take, length-drop, drop_of_length-le, take-append-drop}
use lib.Seq.{length-take-le, take_all, take_at, drop_at, drop-drop, take-add}
use borrow.Author.Tests.{eq-eqb, ne_eqb}
use Rattle.octets.proofs.Slices.{tail_all}
use Rattle.message.specs.Show.{first_of}
use Rattle.std.proofs.Common.{Ok, Err}
use Rattle.token.specs.declared.Refused.{Refused}
use Rattle.token.specs.Token.{Placed, Reading, Outcome, token_of, outcome_of, told}
use Rattle.token.specs.Split.{join, placed_from}
use Rattle.token.specs.Walk.{Accepts}
use Rattle.token.proofs.Walks.{Left, Turn, turn, whole, accepted-short, answer-accepts, answer-refuses}
use Rattle.coverage.specs.Coverage.{is_covered}
use Rattle.blanking.specs.Covered.{covered_in, covered}
use Rattle.blanking.specs.Blanked.{kept, blanked_by, blanked, Blanking}
use Rattle.blanking.specs.Masked.{masked_by, masking_of}
use Rattle.blanking.specs.Wiped.{headed, wiped, Marks, Room}
use Rattle.blanking.proofs.Sames.{message-room}
use Rattle.blanking.proofs.Keeps.{length-kept, kept_same, kept_append, in-first, behind-first}

-- what is kept of a mask whose first part stands beside the first message
kept-first : (p : ℕ) (m : List ℕ) (ms : List (List ℕ)) (a b : List ℕ) → length a ≡ length m
    → kept (covered_in (placed_from p (m ∷ ms))) (a ++ b) p ≡ kept (is_covered m) a 0 ++ kept (covered_in (placed_from (p + length m) ms)) b (p + length m)
kept-first p m ms a b e =
    kept_append (covered_in (placed_from p (m ∷ ms))) a b p
    ∙ ap (λ (l : List ℕ). l ++ kept (covered_in (placed_from p (m ∷ ms))) b (p + length a))
    (kept_same (covered_in (placed_from p (m ∷ ms))) (is_covered m) a p 0 (λ i h. in-first p m ms i (omega arith)))
    ∙ ap (λ (n : ℕ). kept (is_covered m) a 0 ++ kept (covered_in (placed_from p (m ∷ ms))) b (p + n)) e
    ∙ ap (λ (l : List ℕ). kept (is_covered m) a 0 ++ l)
    (kept_same (covered_in (placed_from p (m ∷ ms))) (covered_in (placed_from (p + length m) ms)) b (p + length m) (p + length m)
    (λ i h. behind-first p m ms i))

-- ---- `cover_messages`: x is what the walk comes to, d₀ the mask at the start, d the mask so far
pub record Masking (x token d₀ d : List ℕ) (at : ℕ) : Type 0 where
  pub left : Left (drop at token)
  pub done : d ≡ take at x ++ drop at d₀
  pub come : drop at x ≡ kept (covered_in (placed_from at left.ms)) (drop at d₀) at
  pub sized : length x ≡ length token
  pub beside : length d₀ ≡ length token
  pub short : length token ≤ 65535
  pub within : at ≤ length token

pub mask_start : (s d : List ℕ) → Accepts s → length d ≡ length s → Masking (kept (covered s) d 0) s d d 0
mask_start s d a e =
    let (w, places) = whole s a in
    record {
      left = w;
      done = refl;
      come = ap (λ (ps : List Placed). kept (covered_in ps) d 0) (sym places);
      sized = length-kept (covered s) d 0 ∙ e;
      beside = e;
      short = accepted-short s a;
      within = omega arith;
    }

-- `blank_messages`: a token is its own mask
pub blank-start : (s : List ℕ) → Accepts s → Masking (blanked s) s s s 0
blank-start s a = subst (λ (l : List ℕ). Masking l s s s 0) (sym (ap (λ (r : Reading). blanked_by r s) a)) (mask_start s s a refl)

-- what is read of a token from a place on: itself, or what it has become where it is its own mask
pub record Unread (token t : List ℕ) (at : ℕ) : Type 0 where
  pub size : length t ≡ length token
  pub rest : drop at t ≡ drop at token

pub unread-token : (token : List ℕ) (at : ℕ) → Unread token token at
unread-token token at = record { size = refl; rest = refl }

module _ (x token d₀ d : List ℕ) (at : ℕ) (on : Masking x token d₀ d at) where
  front_length : length (take at x) ≡ at
  front_length = length-take-le at x (let a = on.sized in let b = on.within in omega arith)

  mask-rest : drop at d ≡ drop at d₀
  mask-rest = ap (drop at) on.done ∙ drop_at (take at x) (drop at d₀) at front_length

  mask-front : take at d ≡ take at x
  mask-front = ap (take at) on.done ∙ take_at (take at x) (drop at d₀) at front_length

  pub mask-length : length d ≡ length token
  mask-length = omega (arith, ap length on.done, length-append (take at x) (drop at d₀), front_length, length-drop at d₀, on.beside, on.within)

  pub mask_end : (t : List ℕ) → Unread token t at → length t ≤ at → d ≡ x
  mask_end t u h =
      let a : at ≡ length token = omega (arith, on.within, u.size) in
      on.done
      ∙ ap (λ (l : List ℕ). l ++ drop at d₀) (take_all at x (let b = on.sized in omega arith))
      ∙ ap (λ (l : List ℕ). x ++ l) (drop_of_length-le d₀ {i = at} (let b = on.beside in omega arith))
      ∙ append-nil x

  module _ (t m : List ℕ) (m-is : m ≡ first_of (take (length t - at) (drop at t))) (more : at < length t) (u : Unread token t at) where
    here : Turn (drop at token) on.left m
    here = turn (drop at token) on.left (omega (arith, length-drop at token, u.size)) m (m-is ∙ ap first_of (tail_all t at ∙ u.rest))

    fits : at + length m ≤ length token
    fits = omega (arith, here.fits, length-drop at token, on.within)

    pub mask_fits : at + length m ≤ length t
    mask_fits = omega (arith, fits, u.size)

    pub mask-within : at + length m ≤ length d
    mask-within = omega (arith, fits, mask-length)

    pub mask-small : at + length m < 2 ^ 64
    mask-small = omega (arith, fits, on.short)

    pub mask-less : length token - (at + length m) < length token - at
    mask-less = omega (arith, here.some, fits)

    gone : at + length m - at ≡ length m
    gone = omega arith

    -- the part that is lent is the message
    lent : take (at + length m - at) (drop at t) ≡ m
    lent =
        ap (λ (n : ℕ). take n (drop at t)) gone
        ∙ ap (take (length m)) (u.rest ∙ sym on.left.joins ∙ ap join here.messages)
        ∙ take_at m (join here.left.ms) (length m) refl

    pub mask-room : (n k : ℕ) → 65535 ≤ k → n ≡ k → Room n (take (at + length m - at) (drop at t))
    mask-room n k h e =
        subst (Room n) (sym lent)
        (record { header = message-room _ _ m here.first; few = omega (arith, fits, on.short); within = omega (arith, fits, on.short) })

    mask-beside : length (take (at + length m - at) (drop at d)) ≡ length (take (at + length m - at) (drop at t))
    mask-beside =
        omega (
          arith,
          length-take (at + length m - at) (drop at d),
          length-take (at + length m - at)
              (drop at t),
          length-drop at d,
          length-drop at t,
          mask-length,
          u.size,
        )

    module _ (y : List ℕ) (y-is : y ≡ kept (is_covered (take (at + length m - at) (drop at t))) (take (at + length m - at) (drop at d)) 0) where
      abbrev next : List ℕ
      next = take at d ++ (y ++ drop (at + length m - at) (drop at d))

      a : List ℕ
      a = take (length m) (drop at d₀)

      b : List ℕ
      b = drop (length m) (drop at d₀)

      a-length : length a ≡ length m
      unfolding a
      a-length = length-take-le (length m) (drop at d₀) (let z = on.beside in omega (arith, length-drop at d₀, fits))

      y_kept : y ≡ kept (is_covered m) a 0
      unfolding a
      y_kept =
          y-is
          ∙ ap (λ (l : List ℕ). kept (is_covered l) (take (at + length m - at) (drop at d)) 0) lent
          ∙ ap (λ (n : ℕ). kept (is_covered m) (take n (drop at d)) 0) gone
          ∙ ap (λ (l : List ℕ). kept (is_covered m) (take (length m) l) 0) mask-rest

      y-length : length y ≡ length m
      y-length = ap length y_kept ∙ length-kept (is_covered m) a 0 ∙ a-length

      split : drop at x ≡ y ++ kept (covered_in (placed_from (at + length m) here.left.ms)) b (at + length m)
      unfolding a b
      split =
          on.come
          ∙ ap (λ (ms : List (List ℕ)). kept (covered_in (placed_from at ms)) (drop at d₀) at) here.messages
          ∙ ap (λ (l : List ℕ). kept (covered_in (placed_from at (m ∷ here.left.ms))) l at) (sym (take-append-drop (length m) (drop at d₀)))
          ∙ kept-first at m here.left.ms a b a-length
          ∙ ap (λ (l : List ℕ). l ++ kept (covered_in (placed_from (at + length m) here.left.ms)) b (at + length m)) (sym y_kept)

      mask-on : Masking x token d₀ next (at + length m)
      unfolding a b
      mask-on = record {
        left = record {
          q = here.left.q;
          v = here.left.v;
          ms = here.left.ms;
          joins = here.left.joins ∙ tail_all (drop at token) (length m) ∙ drop-drop (length m) at token;
          numbered = here.left.numbered;
        };
        done =
            ap (λ (l : List ℕ). l ++ (y ++ drop (at + length m - at) (drop at d))) mask-front
            ∙ ap (λ (l : List ℕ). take at x ++ (y ++ l))
            (ap (λ (n : ℕ). drop n (drop at d)) gone ∙ ap (drop (length m)) mask-rest ∙ drop-drop (length m) at d₀)
            ∙ sym (append_assoc (take at x) y (drop (at + length m) d₀))
            ∙ ap (λ (l : List ℕ). l ++ drop (at + length m) d₀)
            (ap (λ (l : List ℕ). take at x ++ l)
            (sym (ap (take (length m)) split ∙ take_at y (kept (covered_in (placed_from (at + length m) here.left.ms)) b (at + length m))
            (length m) y-length)) ∙ sym (take-add at (length m) x));
        come =
            sym (drop-drop (length m) at x)
            ∙ ap (drop (length m)) split
            ∙ drop_at y (kept (covered_in (placed_from (at + length m) here.left.ms)) b (at + length m)) (length m) y-length
            ∙ ap (λ (l : List ℕ). kept (covered_in (placed_from (at + length m) here.left.ms)) l (at + length m)) (drop-drop (length m) at d₀);
        sized = on.sized;
        beside = on.beside;
        short = on.short;
        within = fits;
      }

    part_length : length (take (at + length m - at) (drop at t)) ≡ at + length m - at
    part_length = ap length lent ∙ sym gone

    pub mask-cells : at + length m - at ≤ length t
    mask-cells = omega (arith, fits, u.size)

    module _ (kind : ℕ) (map : List ℕ)
        (marks : Marks kind (take (at + length m - at) (drop at t)) (take (length (take (at + length m - at) (drop at t))) map)) where
      pub mask-front-cells : length (take (at + length m - at) map) ≡ length (take (at + length m - at) (drop at d))
      mask-front-cells = ap (λ (n : ℕ). length (take n map)) (sym part_length) ∙ marks.0 ∙ sym mask-beside

      pub mask-turn : (y : List ℕ) → y ≡ wiped (headed kind) (take (at + length m - at) map) 0 (take (at + length m - at) (drop at d)) 0
          → Masking x token d₀ (take at d ++ (y ++ drop (at + length m - at) (drop at d))) (at + length m)
      mask-turn y y-is =
          mask-on y
          (y-is
          ∙ ap (λ (n : ℕ). wiped (headed kind) (take n map) 0 (take (at + length m - at) (drop at d)) 0) (sym part_length)
          ∙ marks.1 (take (at + length m - at) (drop at d)) mask-beside)

-- where the mask is the token, its rest is not written yet
pub unread-mask : (x s d : List ℕ) (at : ℕ) → Masking x s s d at → Unread s d at
unread-mask x s d at on = record { size = mask-length x s s d at on; rest = mask-rest x s s d at on }

pub ruleset masks = (
  mask_start,
  blank-start,
  unread-token,
  unread-mask,
  mask-length,
  mask_end,
  mask_fits,
  mask-within,
  mask-small,
  mask-less,
  mask-room,
  mask-cells,
  mask-front-cells,
  mask-turn,
)

-- ---- `cover`
module _ (s d : List ℕ) where
  pub cover-other : (n : ℕ) → told (Ok n) ≡ outcome_of (token_of s) → (length d ≡ length s → ⊥)
      → ◌≡◌ {A = Blanking} (record { outcome = told (Ok n); octets = d }) (masking_of s d)
  cover-other n e h =
      let same : d ≡ masked_by (token_of s) s d =
      sym (ap (λ (q : Reading). masked_by q s d) (answer-accepts s (Ok n) e n refl) ∙ simp (ne_eqb (length d) (length s) h)) in
      ap (λ (o : Outcome). record { outcome = o; octets = d }) e
      ∙ ap (λ (l : List ℕ). record { outcome = outcome_of (token_of s); octets = l }) same

  pub cover-done : (n : ℕ) → told (Ok n) ≡ outcome_of (token_of s) → length d ≡ length s → (x : List ℕ) → x ≡ kept (covered s) d 0
      → ◌≡◌ {A = Blanking} (record { outcome = told (Ok n); octets = x }) (masking_of s d)
  cover-done n e h x x-is =
      let same : x ≡ masked_by (token_of s) s d =
      x-is ∙ sym (ap (λ (q : Reading). masked_by q s d) (answer-accepts s (Ok n) e n refl) ∙ simp (eq-eqb (length d) (length s) h)) in
      ap (λ (o : Outcome). record { outcome = o; octets = x }) e
      ∙ ap (λ (l : List ℕ). record { outcome = outcome_of (token_of s); octets = l }) same

  pub cover-refused : (f : Refused) → told (Err f) ≡ outcome_of (token_of s)
      → ◌≡◌ {A = Blanking} (record { outcome = told (Err f); octets = d }) (masking_of s d)
  cover-refused f e =
      let same : d ≡ masked_by (token_of s) s d = sym (ap (λ (q : Reading). masked_by q s d) (answer-refuses s (Err f) e f refl)) in
      ap (λ (o : Outcome). record { outcome = o; octets = d }) e
      ∙ ap (λ (l : List ℕ). record { outcome = outcome_of (token_of s); octets = l }) same
