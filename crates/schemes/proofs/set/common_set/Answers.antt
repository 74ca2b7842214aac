use Prim.Native.Nat.{ℕ}
use mathlib.Core.Path.{◌∙◌, sym}
use mathlib.Core.List.{[]}
use lib.ListN.{get_or}
use borrow.Author.Rules.{rules}
use borrow.Author.Tests.{tests}
use Rattle.message.specs.Show.{ids_at, ids_of}
use Rattle.message.proofs.Ids.{length_ids}
use Rattle.schemes.specs.Lists.{Id, mem}
use Rattle.schemes.proofs.Builds.{set-at, listed-at}
use Rattle.schemes.proofs.set.common_set.Goals as goal

pub returns : goal.returns
returns c =
    let peer = ids_of c.args.peer.now in
    let own = ids_at c.args.n c.args.own.now in
    c.set_where.ensures (λ (k : ℕ). mem (get_or own k []) peer) (λ k b low q. search (rules, tests, listed-at))
    ∙ set-at (λ (x : Id). mem x peer) [] own c.args.n (sym (length_ids c.args.n c.args.own.now))
