-- 15: which scheme a message may name, in the words of the code.
-- Assumes nothing.
use Prim.Native.Nat.{ℕ, ◌*◌, ◌<◌}
use mathlib.Core.Path.{◌≡◌, sym, ap, ◌∙◌}
use mathlib.Core.Bool.{◌||◌, ◌&&◌, Bool}
use mathlib.Core.List.{List}
use native.Mathlib.Omega.{arith}
use lib.Dec.{eqb}
use lib.ListN.{length}
use borrow.Author.Tests.{lt-ltb}
use Rattle.octets.specs.Octets.{octets, same_octets, same_id}
use Rattle.message.specs.Show.{ids_of}
use Rattle.message.proofs.Ids.{id-at}
use Rattle.schemes.specs.Lists.{Id}
use Rattle.schemes.proofs.Ids.{same-as}
use Rattle.conversation.specs.declared.Record.{Record}
use Rattle.conversation.specs.Turns.{reads}
use Rattle.conversation.specs.Writing.{starts_with}
use Rattle.conversation.specs.Admitting.{is_at, exchange_fits}
use Rattle.calls.specs.Calls.{Inside}
use Rattle.conversation.specs.Claims.{Arrays}
use Rattle.calls.proofs.Sizes.{own-sized}
use Rattle.admitting.specs.Admissions.{listed_in}
use Rattle.admitting.proofs.Lists.{listed_by_lem}

-- the own scheme at a place
module _ (r : Record) (k : ℕ) (id : List ℕ) where
  pub at_same : Inside r → Arrays r → k < r.count → (b : Bool) → b ≡ same_id id (octets 16 r.list (16 * k)) → b ≡ is_at r k id
  at_same i z h b b-is =
      let w : length (octets 16 r.list (16 * k)) ≡ 16 = own-sized r z k (omega (arith, i.few)) in
      rw (lt-ltb _ _ h) (b-is ∙ same-as id (octets 16 r.list (16 * k)) w ∙ ap (same_octets id) (sym (id-at r.count r.list k h)))

-- an exchange of the first token or of the reply
pub exchange_is : (r : Record) (t id l : List ℕ) → l ≡ listed_in t → (token : ℕ) → token ≡ reads r
    → exchange_fits r t id ≡ (starts_with (ids_of l) id && (eqb token 0 || is_at r r.requested id))
exchange_is r t id l l-is token token-is =
    rw token-is (ap (λ (x : List Id). starts_with x id && (eqb (reads r) 0 || is_at r r.requested id)) (sym (listed_by_lem t l l-is)))
