-- A message of a token by its index, and item k of a list. In the words of the code.
-- Assumes nothing.
use Prim.Native.Nat.{ℕ, zero, suc, ◌+◌, ◌<◌, ◌≤◌, ◌^◌}
use mathlib.Core.Path.{◌≡◌, refl, sym, ap, subst, ◌∙◌}
use mathlib.Core.Logic.{◌⊎◌, inl, inr}
use mathlib.Core.List.{List, [], ◌∷◌}
use native.Mathlib.Omega.{arith}
use lib.ListN.{length, take, drop, get_or, length-append, length-take, length-drop, get_or-eq_default}
use lib.Dec.{leb}
use lib.IntN.{pos, neg_ℤ}
use borrow.Author.Tests.{leb-true, leb-false, le-leb, lt-leb}
use Rattle.octets.proofs.Bools.{which}
use Rattle.message.specs.Layout.{head_of}
use Rattle.token.specs.Token.{Placed, Reading, Accepted, Refused, token_of}
use Rattle.token.specs.Split.{Message, Numbered, join, placed_from}
use Rattle.token.specs.Walk.{messages_of, message_at, Accepts}
use Rattle.token.proofs.Splits.{message-length}
use Rattle.token.proofs.Walks.{whole, accepted-short}
use Rattle.put.specs.Put.{put, Written}
use Rattle.table.specs.Table.{placed_at, fields_in}
use Rattle.replies.specs.Replies.{Reply, given, refused, and_then, reading_reply, messages_reply, item_at, fits, message_in, answer_of, lent, written_in, field_answer, conversation_answer}

-- ---- item k of a list
pub item-given : {A : Type 0} (xs : List A) (k : ℕ) (d : A) → k < length xs → item_at xs k ≡ given (get_or xs k d)
unfolding item_at
item-given [] k d h = absurd (omega arith)
item-given (x ∷ xs) zero d h = refl
item-given (x ∷ xs) (suc k) d h = item-given xs k d (omega arith)

pub item_refused : {A : Type 0} (xs : List A) (k : ℕ) → length xs ≤ k → item_at xs k ≡ refused 19
unfolding item_at
item_refused [] k h = refl
item_refused (x ∷ xs) zero h = absurd (omega arith)
item_refused (x ∷ xs) (suc k) h = item_refused xs k (omega arith)

-- ---- message k where it stands
abbrev beyond : Placed
beyond = record { place = 0; octets = [] }

pub record Stands (end : ℕ) (m : Placed) : Type 0 where
  pub number : ℕ
  pub conversation : List ℕ
  pub passes : Message number conversation m.octets
  pub ends : m.place + length m.octets ≤ end

stands : (ms : List (List ℕ)) (place q : ℕ) (v : List ℕ) → Numbered q v ms → (k : ℕ) → k < length (placed_from place ms)
    → Stands (place + length (join ms)) (get_or (placed_from place ms) k beyond)
stands [] place q v e k h = absurd (omega arith)
stands (m ∷ ms) place q v e zero h = record { number = q; conversation = v; passes = e.0; ends = omega (arith, length-append m (join ms)) }
stands (m ∷ ms) place q v e (suc k) h =
    let w = stands ms (place + length m) (q + 1) v e.1 k (omega arith) in
    record { number = w.number; conversation = w.conversation; passes = w.passes; ends = omega (arith, w.ends, length-append m (join ms)) }

-- a token that has a message is accepted
accepts : (r : Reading) (k : ℕ) → k < length (messages_of r) → r ≡ Accepted (messages_of r)
accepts (Accepted ms) k h = refl
accepts (Refused n p) k h = absurd (omega arith)

pub there : (s : List ℕ) (k : ℕ) → k < length (messages_of (token_of s)) → Stands 65535 (message_at s k)
there s k h =
    let a = accepts (token_of s) k h in
    let (w, places) = whole s a in
    let x = stands w.ms 0 w.q w.v w.numbered k (omega (arith, ap length places)) in
    let y : Stands (length (join w.ms)) (message_at s k) =
    subst (λ (ps : List Placed). Stands (length (join w.ms)) (get_or ps k beyond)) places
    (record { number = x.number; conversation = x.conversation; passes = x.passes; ends = omega (arith, x.ends) }) in
    record {
      number = y.number;
      conversation = y.conversation;
      passes = y.passes;
      ends = omega (arith, y.ends, ap length w.joins, accepted-short s a);
    }

none : (s : List ℕ) (k : ℕ) → length (messages_of (token_of s)) ≤ k → message_at s k ≡ beyond
none s k h = get_or-eq_default (messages_of (token_of s)) beyond {n = k} h

inside-or-not : (a b : ℕ) → (a < b) ⊎ (b ≤ a)
inside-or-not a b = elim (which (leb b a)) [
  | inl e ↦ inr (leb-true _ _ e)
  | inr e ↦ inl (leb-false _ _ e)
]

-- a place is small, also where there is no message
pub message-early : (s : List ℕ) (k p : ℕ) → p ≡ (message_at s k).place → p < 2 ^ 32
message-early s k p e = elim (inside-or-not k (length (messages_of (token_of s)))) [
  | inl h ↦ omega (arith, (there s k h).ends)
  | inr h ↦ omega (arith, ap (λ (m : Placed). m.place) (none s k h))
]

-- a token that is refused has no message
pub message-refused : (s : List ℕ) (k n : ℕ) → messages_reply s ≡ refused n → message_in s k ≡ refused n
unfolding message_in
message-refused s k n e = ap (λ (r : Reply (List Placed)). and_then r (λ ms. item_at ms k)) e

module _ (s : List ℕ) (k n : ℕ) (e : message_in s k ≡ refused n) where
  pub message-lacks : (g : Placed → Reply ℕ) → neg_ℤ (pos n) ≡ answer_of (and_then (message_in s k) g)
  message-lacks g = sym (ap (λ (x : Reply Placed). answer_of (and_then x g)) e)

  pub lacks-lent : (d : List ℕ) (g : Placed → Reply (List ℕ)) → lent (neg_ℤ (pos n)) d ≡ written_in d (and_then (message_in s k) g)
  lacks-lent d g = sym (ap (λ (x : Reply Placed). written_in d (and_then x g)) e)

-- m is what `message_at` answers
module _ (s : List ℕ) (k : ℕ) (m : List ℕ) (m-is : m ≡ (message_at s k).octets) where
  module _ (empty : length m ≡ 0) where
    outside : length (messages_of (token_of s)) ≤ k
    outside = elim (inside-or-not k (length (messages_of (token_of s)))) [
      | inl h ↦ let w =
          there s k h in absurd (omega (arith, ap length m-is, message-length w.number w.conversation (message_at s k).octets w.passes))
      | inr h ↦ h
    ]

    pub none-beyond : Accepts s → message_in s k ≡ refused 19
    unfolding message_in
    none-beyond a = ap (λ (r : Reading). and_then (reading_reply r) (λ ms. item_at ms k)) a ∙ item_refused (messages_of (token_of s)) k outside

  module _ (some : length m ≡ 0 → ⊥) where
    inside : k < length (messages_of (token_of s))
    inside = elim (inside-or-not k (length (messages_of (token_of s)))) [
      | inl h ↦ h
      | inr h ↦ absurd (some (ap length (m-is ∙ ap (λ (x : Placed). x.octets) (none s k h))))
    ]

    pub stand : Stands 65535 (message_at s k)
    stand = there s k inside

    pub message-given : message_in s k ≡ given (message_at s k)
    unfolding message_in
    message-given =
        ap (λ (r : Reading). and_then (reading_reply r) (λ ms. item_at ms k)) (accepts (token_of s) k inside)
        ∙ item-given (messages_of (token_of s)) k beyond inside

    pub message-long : 40 ≤ length m
    message-long = omega (arith, ap length m-is, message-length stand.number stand.conversation (message_at s k).octets stand.passes)

    module _ (p : ℕ) (p-is : p ≡ (message_at s k).place) where
      message-is : placed_at p m ≡ message_at s k
      message-is = rw (p-is, m-is)

      module _ (xs : List ℕ) (xs-is : xs ≡ fields_in (placed_at p m)) (i : ℕ) where
        pub field-given : i < 5 → pos (get_or xs i 0) ≡ field_answer s k i
        field-given h =
            ap (λ (l : List ℕ). pos (get_or l i 0)) (xs-is ∙ ap fields_in message-is)
            ∙ sym (ap (λ (x : Reply Placed). answer_of (and_then x (λ m. item_at (fields_in m) i))) message-given
            ∙ ap answer_of (item-given (fields_in (message_at s k)) i 0 h))

        pub field-beyond : 5 ≤ i → neg_ℤ (pos 19) ≡ field_answer s k i
        field-beyond h =
            sym (ap (λ (x : Reply Placed). answer_of (and_then x (λ m. item_at (fields_in m) i))) message-given
            ∙ ap answer_of (item_refused (fields_in (message_at s k)) i h))

    -- the conversation, where it fits
    id-long : length (head_of (message_at s k).octets).conversation ≡ 16
    unfolding head_of
    id-long = let e : length m ≡ length (message_at s k).octets = ap length m-is in simp (length-take, length-drop) (omega (arith, message-long))

    module _ (d : List ℕ) where
      pub conversation-full : length d < 16 → lent (neg_ℤ (pos 16)) d ≡ conversation_answer s k d
      conversation-full h =
          sym (ap (λ (x : Reply Placed). written_in d (and_then x (λ m. fits (length d) (head_of m.octets).conversation))) message-given
          ∙ (let g : length d < length (head_of (message_at s k).octets).conversation = omega (arith, id-long) in simp (lt-leb _ _ g)))

      module _ (h : 16 ≤ length d) (d' v : List ℕ) (n : ℕ) (v-is : v ≡ take 16 (drop 24 m)) (w : Written d 0 (length v) v d' n) where
        abbrev c : List ℕ
        c = (head_of (message_at s k).octets).conversation

        is : v ≡ c
        is = v-is ∙ ap (λ (l : List ℕ). take 16 (drop 24 l)) m-is ∙ (unfold head_of in refl)

        after : n ≡ length v
        after = omega (arith, w.after)

        pub conversation-short : n < 2 ^ 63
        conversation-short = omega (arith, after, ap length is, id-long)

        pub conversation-put : lent (pos n) d' ≡ conversation_answer s k d
        conversation-put =
            let g : length c ≤ length d = omega (arith, id-long) in
            ap (λ (x : ℕ). lent (pos x) d') (after ∙ ap length is)
            ∙ ap (lent (pos (length c))) (w.holds ∙ ap (put d 0) is)
            ∙ sym (ap (λ (x : Reply Placed). written_in d (and_then x (λ m. fits (length d) (head_of m.octets).conversation))) message-given
            ∙ simp (le-leb _ _ g))

pub ruleset messages =
    (conversation-full, conversation-short, conversation-put, message-lacks, lacks-lent, message-long, message-early, field-given, field-beyond)
