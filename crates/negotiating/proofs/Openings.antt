-- Opening, in the words of the code.
-- Assumes nothing.
use Prim.Native.Nat.{ℕ, ◌+◌, ◌/◌, ◌%◌, ◌≤◌}
use mathlib.Core.Path.{◌≡◌, refl, sym, ap, ◌∙◌}
use mathlib.Core.Bool.{Bool, true, false, cond, ◌&&◌}
use mathlib.Core.List.{List, [], ◌++◌}
use native.Mathlib.Nat.{sub-zero}
use native.Mathlib.Omega.{arith}
use lib.ListN.{length, drop, replicate}
use lib.Dec.{eqb, leb}
use lib.Seq.{take-length}
use borrow.Author.Tests.{eqb-true, leb-true}
use Rattle.octets.proofs.Bools.{and_l, and_r}
use Rattle.message.specs.Show.{ids_of}
use Rattle.message.proofs.Ids.{length_ids}
use Rattle.schemes.specs.Lists.{distinct, one_to16, list_ok}
use Rattle.schemes.specs.Sets.{pad_to}
use Rattle.schemes.proofs.Offers.{paste-pad}
use Rattle.conversation.specs.declared.Record.{Record}
use Rattle.conversation.specs.declared.Answer.{Answer}
use Rattle.conversation.specs.State.{fresh}
use Rattle.conversation.specs.Outcomes.{zero_id, answered}
use Rattle.conversation.specs.Writing.{opening}

-- a list in front of zeros
pub in-zeros : (n : ℕ) (own : List ℕ) → length own ≤ n → own ++ drop (length own) (replicate n 0) ≡ pad_to n own
in-zeros n own h =
    let e : 0 + length own ≡ length own = omega arith in
    ap (λ (v : List ℕ). v ++ drop (length own) (replicate n 0)) (sym (take-length own))
    ∙ rw e at (simp sub-zero at (paste-pad n [] own 0 (length own) refl refl (omega arith)))

pub freshly : (acceptor : Bool) (own conversation v : List ℕ) → length own ≤ 256 → v ≡ own
    → ◌≡◌ {A = Record}
    (record {
      acceptor = acceptor;
      stage = 0;
      position = 0;
      list = v ++ drop (length own) (replicate 256 0);
      count = length own / 16;
      conversation = conversation;
      marks = 0;
      common = 0;
      kept = replicate 16 0;
      metadata = 0;
      requested = 255;
      chosen = 255;
      attested = false;
      confirmed = false;
      sequence = 0;
      used = 0;
    })
    (fresh acceptor own conversation)
freshly acceptor own conversation v h v-is = rw (v-is, in-zeros 256 own h)

-- an own list fits the record's array
pub own-fits : (own : List ℕ) → list_ok own ≡ true → length own ≤ 256
unfolding list_ok
own-fits own h =
    let n : ℕ = length (ids_of own) in
    let e : eqb (length own % 16) 0 ≡ true = and_l (eqb (length own % 16) 0) (one_to16 (ids_of own)) h in
    let f : leb 1 n && leb n 16 ≡ true =
    and_l (leb 1 n && leb n 16) (distinct (ids_of own)) (and_r (eqb (length own % 16) 0) (one_to16 (ids_of own)) h) in
    let g : leb n 16 ≡ true = and_r (leb 1 n) (leb n 16) f in
    omega (arith, eqb-true (length own % 16) 0 e, leb-true n 16 g, length_ids (length own / 16) own)

module _ (acceptor : Bool) (own conversation : List ℕ) (b : Bool) (b-is : b ≡ list_ok own) (next : Record) (a : Answer) where
  pub opens : b ≡ true → (id : List ℕ) → id ≡ cond acceptor zero_id conversation → next ≡ fresh acceptor own id → a ≡ answered 0 0 next
      → a ≡ opening acceptor own conversation
  unfolding opening
  opens t id id-is n-is a-is = a-is ∙ rw (← b-is, t, n-is, id-is)

  pub opens_not : b ≡ false → next ≡ fresh acceptor [] zero_id → a ≡ answered 19 0 next → a ≡ opening acceptor own conversation
  unfolding opening
  opens_not t n-is a-is = a-is ∙ rw (← b-is, t, n-is)

pub list-fits : (own : List ℕ) (b : Bool) → b ≡ list_ok own → b ≡ true → length own ≤ 256
list-fits own b e t = own-fits own (sym e ∙ t)
