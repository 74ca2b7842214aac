-- The small functions, in the words of the code.
-- Assumes nothing.
use Prim.Native.Nat.{ℕ}
use mathlib.Core.Path.{◌≡◌, refl, sym, ap, ◌∙◌}
use mathlib.Core.Bool.{Bool, true, false, ◌&&◌}
use mathlib.Core.List.{List, [], ◌∷◌}
use native.Mathlib.Omega.{arith}
use lib.ListN.{length}
use lib.Dec.{eqb}
use borrow.Author.Tests.{eq-eqb, ne_eqb}
use Rattle.schemes.specs.Lists.{place}
use Rattle.schemes.specs.Answers.{left_of}
use Rattle.schemes.specs.declared.Left.{Left}
use Rattle.conversation.specs.declared.Record.{Record}
use Rattle.conversation.specs.Choosing.{open_to, first_place, chose, may_choose}
use Rattle.conversation.specs.Turns.{writes}
use Rattle.sides.specs.Turning.{with_marks, begun}

-- the first open place
module _ (ks : List ℕ) (z : Left) (is : z ≡ left_of ks) where
  pub open_none : z.left ≡ 0 → 255 ≡ first_place ks
  unfolding left_of
  open_none h = go ks (sym (ap (λ (x : Left). x.left) is) ∙ h) where
    go : (l : List ℕ) → length l ≡ 0 → 255 ≡ first_place l
    go [] e = refl
    go (k ∷ l) e = absurd (omega arith)

  pub open-first : (z.left ≡ 0 → ⊥) → z.place ≡ first_place ks
  unfolding left_of
  open-first h = ap (λ (x : Left). x.place) is ∙ go ks (λ e. h (ap (λ (x : Left). x.left) is ∙ e)) where
    go : (l : List ℕ) → (length l ≡ 0 → ⊥) → (left_of l).place ≡ first_place l
    go [] g = absurd (g refl)
    go (k ∷ l) g = refl

pub ruleset opens = (open_none, open-first)

-- the record after the choice, and the one in which a turn begins
abbrev chosen_as : Record → ℕ → ℕ → Bool → Bool → Record
chosen_as w marks place attested confirmed = record {
  acceptor = w.acceptor;
  stage = 3;
  position = 0;
  list = w.list;
  count = w.count;
  conversation = w.conversation;
  marks = marks;
  common = w.common;
  kept = w.kept;
  metadata = w.metadata;
  requested = w.requested;
  chosen = place;
  attested = attested;
  confirmed = confirmed;
  sequence = w.sequence;
  used = w.used;
}

pub chosen_is : (w : Record) (marks place : ℕ) (v h : Bool) → place ≡ first_place (open_to w marks) → v ≡ (w.attested && eqb place w.requested)
    → h ≡ (w.confirmed && eqb place w.requested) → chosen_as w marks place v h ≡ chose w marks
chosen_is w marks place v h p-is v-is h-is =
    ap (λ (x : Bool). chosen_as w marks place x h) v-is
    ∙ ap (λ (x : Bool). chosen_as w marks place (w.attested && eqb place w.requested) x) h-is
    ∙ ap (λ (k : ℕ). chosen_as w marks k (w.attested && eqb k w.requested) (w.confirmed && eqb k w.requested)) p-is

module _ (w : Record) (marks : ℕ) (b : Bool) (b-is : b ≡ may_choose w) where
  pub begun-chosen : b ≡ true → (r : Record) → r ≡ chose w marks → r ≡ begun marks w
  unfolding begun
  begun-chosen e r r-is = rw (sym b-is ∙ e) r-is

  module _ (e : b ≡ false) (token : ℕ) (token-is : token ≡ writes w) where
    pub begun-same : (token ≡ 1 → ⊥) → w ≡ begun marks w
    unfolding begun
    begun-same h = rw (sym b-is ∙ e, ne_eqb (writes w) 1 (λ z. h (token-is ∙ z)))

    pub begun-marked : token ≡ 1 → with_marks marks w ≡ begun marks w
    unfolding begun
    begun-marked h = rw (sym b-is ∙ e, eq-eqb (writes w) 1 (sym token-is ∙ h))

pub ruleset begins = (chosen_is, begun-chosen, begun-same, begun-marked)
