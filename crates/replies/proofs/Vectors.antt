-- The vectors of a message by number. In the words of the code.
-- Assumes nothing.
use Prim.Native.Nat.{ℕ, ◌+◌, ◌<◌, ◌≤◌, ◌^◌}
use mathlib.Core.Path.{◌≡◌, refl, sym, ap, subst, ◌∙◌}
use mathlib.Core.Logic.{inl, inr}
use mathlib.Core.List.{List}
use native.Mathlib.Omega.{arith}
use lib.ListN.{length}
use lib.Dec.{eqb}
use borrow.Author.Tests.{eqb-false}
use Rattle.octets.proofs.Bools.{which}
use lib.IntN.{pos, neg_ℤ}
use Rattle.vector.specs.declared.Vector.{Vector}
use Rattle.vector.specs.Vector.{extent}
use Rattle.token.specs.Token.{Placed}
use Rattle.token.specs.Split.{Message}
use Rattle.token.specs.Walk.{message_at}
use Rattle.coverage.specs.Coverage.{vectors_in, no_vector, vector_in}
use Rattle.table.specs.Table.{vector_place, Held}
use Rattle.table.proofs.Numbers.{lies-inside, vector-short}
use Rattle.table.proofs.Entries.{message-held, vectors-small}
use Rattle.replies.specs.Replies.{Reply, given, and_then, item_at, message_in, answer_of, vectors_answer, vector_place_answer, vector_length_answer}
use Rattle.replies.proofs.Messages.{item-given, item_refused, message-given, message-early, stand}

-- m is what `message_at` answers
module _ (s : List ℕ) (k : ℕ) (m : List ℕ) (m-is : m ≡ (message_at s k).octets) (some : length m ≡ 0 → ⊥) where
  held : (p : ℕ) → p ≡ (message_at s k).place → Held p m
  held p p-is =
      let w = stand s k m m-is some in
      let e : Message w.number w.conversation m = subst (Message w.number w.conversation) (sym m-is) w.passes in
      message-held p w.number w.conversation m e (omega (arith, w.ends, ap length m-is))

  module _ (i : ℕ) (v : Vector) (v-is : v ≡ vector_in m i) (a : ℕ) where
    pub length-small : a ≡ extent v → a < 2 ^ 63
    length-small e = omega (arith, vector-short (message_at s k).place m (held (message_at s k).place refl) i v v-is)

    pub place-small : (j p : ℕ) → p ≡ (message_at s j).place → a ≡ vector_place p v → a < 2 ^ 63
    unfolding vector_place
    place-small j p p-is e = elim (which (eqb (extent v) 0)) [
      | inl z ↦ let b : a ≡ p = e ∙ simp z in omega (arith, message-early s j p p-is)
      | inr z ↦ let b : a ≡ p + v.offset.0 =
          e ∙ simp z in omega (
            arith,
            message-early s j p p-is,
            lies-inside (message_at s k).place m (held (message_at s k).place refl) i v v-is (eqb-false _ _ z),
            (held
                (message_at s k).place refl).ends,
          )
    ]

  module _ (n : ℕ) (n-is : n ≡ length (vectors_in m)) where
    pub vectors-few : n < 2 ^ 63
    vectors-few = omega (arith, vectors-small (message_at s k).place m (held (message_at s k).place refl) n n-is)

    pub vectors-number : pos n ≡ vectors_answer s k
    vectors-number =
        ap pos (n-is ∙ ap (λ (l : List ℕ). length (vectors_in l)) m-is)
        ∙ sym (ap (λ (x : Reply Placed). answer_of (and_then x (λ m. given (length (vectors_in m.octets))))) (message-given s k m m-is some))

    module _ (i : ℕ) where
      here : (g : Placed → Vector → Reply ℕ)
          → and_then (message_in s k) (λ x. and_then (item_at (vectors_in x.octets) i) (g x)) ≡ and_then (item_at (vectors_in m) i) (g (message_at s k))
      here g =
          ap (λ (x : Reply Placed). and_then x (λ x. and_then (item_at (vectors_in x.octets) i) (g x))) (message-given s k m m-is some)
          ∙ ap (λ (l : List ℕ). and_then (item_at (vectors_in l) i) (g (message_at s k))) (sym m-is)

      module _ (beyond : n ≤ i) where
        pub vector-beyond : (g : Placed → Vector → Reply ℕ)
            → neg_ℤ (pos 19) ≡ answer_of (and_then (message_in s k) (λ x. and_then (item_at (vectors_in x.octets) i) (g x)))
        vector-beyond g =
            sym (ap answer_of
            (here g ∙ ap (λ (x : Reply Vector). and_then x (g (message_at s k))) (item_refused (vectors_in m) i (omega (arith, n-is)))))

        pub place-beyond : neg_ℤ (pos 19) ≡ vector_place_answer s k i
        place-beyond = vector-beyond (λ x v. given (vector_place x.place v))

        pub length-beyond : neg_ℤ (pos 19) ≡ vector_length_answer s k i
        length-beyond = vector-beyond (λ x v. given (extent v))

      module _ (inside : i < n) (v : Vector) (v-is : v ≡ vector_in m i) where
        inside-all : i < length (vectors_in m)
        inside-all = omega (arith, n-is)

        given_is : (g : Placed → Vector → Reply ℕ)
            → g (message_at s k) v ≡ and_then (message_in s k) (λ x. and_then (item_at (vectors_in x.octets) i) (g x))
        given_is g =
            ap (g (message_at s k)) v-is
            ∙ sym (here g ∙ ap (λ (x : Reply Vector). and_then x (g (message_at s k))) (item-given (vectors_in m) i no_vector inside-all))

        module _ (a : ℕ) (a-is : a ≡ extent v) where
          pub length-given : pos a ≡ vector_length_answer s k i
          length-given = ap pos a-is ∙ ap answer_of (given_is (λ x v. given (extent v)))

        module _ (p : ℕ) (p-is : p ≡ (message_at s k).place) (a : ℕ) (a-is : a ≡ vector_place p v) where
          pub place-given : pos a ≡ vector_place_answer s k i
          place-given =
              ap pos (a-is ∙ ap (λ (x : ℕ). vector_place x v) p-is)
              ∙ ap answer_of (given_is (λ x v. given (vector_place x.place v)))

pub ruleset counts = (vectors-few, vectors-number)

pub ruleset places = (place-beyond, place-small, place-given)

pub ruleset lengths = (length-beyond, length-small, length-given)
