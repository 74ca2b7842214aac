-- 14 and 15 of one message, and what is carried on, in the words of the code.
-- Assumes nothing.
use Prim.Native.Nat.{ℕ, ◌+◌, ◌≤◌}
use mathlib.Core.Path.{◌≡◌, refl, sym, ap, ◌∙◌}
use mathlib.Core.Bool.{Bool, true, false, cond, not}
use mathlib.Core.List.{List}
use native.Mathlib.Omega.{arith}
use lib.Dec.{eqb}
use borrow.Author.Tests.{ne_eqb, eqb-true, eqb-false}
use Rattle.std.proofs.Common.{Option, None, Some, Result, Ok, Err}
use Rattle.std.specs.Option.{ok_or}
use Rattle.refusal.specs.declared.Refusal.{Refusal}
use Rattle.refusal.specs.declared.Refusal.TheVariants as refusal
use Rattle.refusal.specs.Refusals.{number_of}
use Rattle.octets.specs.Octets.{le}
use Rattle.message.specs.Layout.{head_of}
use Rattle.conversation.specs.declared.Record.{Record}
use Rattle.conversation.specs.declared.Scan.{Scan}
use Rattle.conversation.specs.Turns.{class_of, after, reads}
use Rattle.conversation.specs.Places.{allowed}
use Rattle.conversation.specs.Admitting.{scheme_in, scheme_fits, confirmed_for, passed, on, stop, or_stop, admit_class, admit}

-- the place in the turn, from what the code has for it
none-for : (p : Option ℕ) (e f : Refusal) → ok_or p e ≡ Err f → (p ≡ None) × (f ≡ e)
none-for None e f h = (refl, cc)
none-for (Some x) e f h = let z : ◌≡◌ {A = ℕ} 0 1 = cc in absurd (omega arith)

some-for : (p : Option ℕ) (e : Refusal) (x : ℕ) → ok_or p e ≡ Ok x → p ≡ Some x
some-for None e x h = let z : ◌≡◌ {A = ℕ} 0 1 = cc in absurd (omega arith)
some-for (Some y) e x h = cc

none_allowed : (n : ℕ) → None ≡ allowed n → n ≡ 0
none_allowed n h = go (eqb n 0) refl h where
  go : (b : Bool) → eqb n 0 ≡ b → None ≡ cond b None (Some n) → n ≡ 0
  go true e q = eqb-true n 0 e
  go false e q = let z : ◌≡◌ {A = ℕ} 0 1 = cc in absurd (omega arith)

some-allowed : (n x : ℕ) → Some x ≡ allowed n → (n ≡ x) × (n ≡ 0 → ⊥)
some-allowed n x h = go (eqb n 0) refl h where
  go : (b : Bool) → eqb n 0 ≡ b → Some x ≡ cond b None (Some n) → (n ≡ x) × (n ≡ 0 → ⊥)
  go true e q = let z : ◌≡◌ {A = ℕ} 0 1 = cc in absurd (omega arith)
  go false e q = (cc, eqb-false n 0 e)

module _ (r : Record) (t : List ℕ) (c : Scan) (m : List ℕ) (number : ℕ) (number_is : number ≡ le 4 m 8) (kind : ℕ)
    (kind-is : kind ≡ class_of (not r.acceptor) number) (token : ℕ) (token-is : token ≡ reads r) (h : Bool)
    (h-is : h ≡ confirmed_for r c (scheme_in m)) (p : Option ℕ) (p-is : p ≡ allowed (after token c.position h kind)) (q : Result ℕ Refusal)
    (q-is : q ≡ ok_or p refusal.OutOfTurn) where
  by_kind : admit r t c m ≡ admit_class r t c m kind
  unfolding admit head_of
  by_kind = ap (admit_class r t c m) (sym (kind-is ∙ ap (class_of (not r.acceptor)) number_is))

  by_place : after token c.position h kind ≡ after (reads r) c.position (confirmed_for r c (scheme_in m)) kind
  by_place =
      ap (λ (k : ℕ). after k c.position h kind) token-is ∙ ap (λ (b : Bool). after (reads r) c.position b kind) h-is

  pub admit-14 : (e : Refusal) → q ≡ Err e → stop (number_of e) ≡ admit r t c m
  admit-14 e w =
      let n = none-for p refusal.OutOfTurn e (sym q-is ∙ w) in
      let z : after (reads r) c.position (confirmed_for r c (scheme_in m)) kind ≡ 0 = sym by_place ∙ none_allowed _ (sym n.0 ∙ p-is) in
      sym (by_kind ∙ rw (z, n.1))

  module _ (position : ℕ) (some : q ≡ Ok position) (b : Bool) (b-is : b ≡ scheme_fits r t c kind (scheme_in m)) where
    there : (after token c.position h kind ≡ position) × (after token c.position h kind ≡ 0 → ⊥)
    there = some-allowed _ position (sym (some-for p refusal.OutOfTurn position (sym q-is ∙ some)) ∙ p-is)

    position-is : after (reads r) c.position (confirmed_for r c (scheme_in m)) kind ≡ position
    position-is = sym by_place ∙ there.0

    not-none : position ≡ 0 → ⊥
    not-none z = there.1 (there.0 ∙ z)

    pub admit-15 : b ≡ false → stop 15 ≡ admit r t c m
    admit-15 e = sym (by_kind ∙ rw (position-is, ne_eqb _ _ not-none, ← b-is, e))

    pub admit-on : b ≡ true → (x : Scan) → x ≡ passed r c kind position (scheme_in m) → on x ≡ admit r t c m
    admit-on e x x-is = sym (by_kind ∙ simp (position-is, ne_eqb _ _ not-none, ← b-is, e, ← x-is))

-- a message counts once at most among the metadata
once : (b : Bool) (n : ℕ) → cond b (n + 1) n ≤ n + 1
once true n = omega arith
once false n = omega arith

pub admitted-named : (r : Record) (t : List ℕ) (c : Scan) (m : List ℕ) (d : Scan) → admit r t c m ≡ on d → d.named ≤ c.named + 1
unfolding admit passed
admitted-named r t c m d e = by (class_of (not r.acceptor) (head_of m).kind) e where
  go : (a b : Bool) (s : Scan) → s.named ≤ c.named + 1 → or_stop a 14 (or_stop b 15 (on s)) ≡ on d → d.named ≤ c.named + 1
  go true true s w q = let f : s ≡ d = cc in omega (arith, ap (λ (z : Scan). z.named) f)
  go true false s w q = let z : ◌≡◌ {A = ℕ} 0 1 = cc in absurd (omega arith)
  go false b s w q = let z : ◌≡◌ {A = ℕ} 0 1 = cc in absurd (omega arith)

  by : (kind : ℕ) → admit_class r t c m kind ≡ on d → d.named ≤ c.named + 1
  by kind q =
      go (not (eqb (after (reads r) c.position (confirmed_for r c (scheme_in m)) kind) 0)) (scheme_fits r t c kind (scheme_in m))
      (passed r c kind (after (reads r) c.position (confirmed_for r c (scheme_in m)) kind) (scheme_in m)) (once (eqb kind 2) c.named) q
