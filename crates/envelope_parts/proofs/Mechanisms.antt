-- The mechanisms shown one by one are those of the list; NEGOEX is recognised exactly.
-- Assumes nothing.
use Prim.Native.Nat.{ℕ, zero, suc}
use mathlib.Core.Path.{◌≡◌, refl}
use mathlib.Core.Bool.{true, false}
use mathlib.Core.List.{List, [], ◌∷◌}
use mathlib.Core.Logic.{◌⊎◌, inl, inr}
use lib.ListN.{length, get_or}
use borrow.Author.Tests.{le-leb}
use Rattle.octets.proofs.Bools.{which}
use Rattle.octets.proofs.Same.{same-eq, same_refl}
use Rattle.der.specs.Got.{ok}
use Rattle.der.specs.Element.{frame, cut, any, Part}
use Rattle.der.proofs.Gots.{bind_ok, check-ok, no_ok}
use Rattle.envelope.specs.Envelope.{negoex}
use Rattle.envelope.specs.Reading.{filled, identifiers_of, list_of}
use Rattle.envelope.proofs.Identifiers.{filled-false}
use Rattle.envelope_parts.specs.Parts.{identifier_of, mechanism_of}
use Rattle.envelope_parts.specs.Claims.{EachMechanism, NegoexExactly, Dotted}

nothing : (k : ℕ) → identifier_of k [] ≡ []
unfolding identifier_of cut frame
nothing zero = refl
nothing (suc k) = refl

abbrev Shows : ℕ → Type 0
Shows j = (v : List ℕ) (ms : List (List ℕ)) (k : ℕ) → identifiers_of j v ≡ ok ms → identifier_of k v ≡ get_or ms k []

-- an empty list, whatever is allowed
empty : (v : List ℕ) (ms : List (List ℕ)) (k : ℕ) → filled v ≡ false → [] ≡ ms → identifier_of k v ≡ get_or ms k []
empty v ms k b is = rw (filled-false v b, ← is) (nothing k)

one : (j : ℕ) (v : List ℕ) (ms : List (List ℕ)) (k : ℕ) (q : Part (List ℕ)) (l : List (List ℕ)) → cut 0x06 any v ≡ ok q
    → identifiers_of j q.rest ≡ ok l → q.value ∷ l ≡ ms → Shows j
    → identifier_of k v ≡ get_or ms k []
unfolding identifier_of
one j v ms zero q l e1 e3 is f = rw (← is, e1)
one j v ms (suc k) q l e1 e3 is f = rw (← is, e1) (f q.rest l k e3)

shows : (j : ℕ) → Shows j
unfolding identifiers_of
shows zero v ms k e = go (which (filled v)) where
  go : (filled v ≡ true) ⊎ (filled v ≡ false) → identifier_of k v ≡ get_or ms k []
  go (inl b) = let (q, e1, e2) = bind_ok (cut 0x06 any v) _ ms (rw b at e) in no_ok 23 ms e2
  go (inr b) = empty v ms k b (cc (rw b at e))
shows (suc j) v ms k e = go (which (filled v)) (shows j) where
  go : (filled v ≡ true) ⊎ (filled v ≡ false) → Shows j → identifier_of k v ≡ get_or ms k []
  go (inl b) f =
      let (q, e1, e2) = bind_ok (cut 0x06 any v) _ ms (rw b at e) in
      let (l, e3, e4) = bind_ok (identifiers_of j q.rest) _ ms e2 in
      one j v ms k q l e1 e3 (cc) f
  go (inr b) f = empty v ms k b (cc (rw b at e))

pub each-mechanism : EachMechanism
unfolding mechanism_of list_of
each-mechanism v ms k short e = rw (le-leb (length v) 65535 short) (shows 16 v ms k (check-ok (filled v) 20 (identifiers_of 16 v) ms e).1)

pub negoex-exactly : NegoexExactly
negoex-exactly v = (same-eq v negoex, λ e. rw e (same_refl negoex))

pub dotted : Dotted
dotted = (refl, refl)
