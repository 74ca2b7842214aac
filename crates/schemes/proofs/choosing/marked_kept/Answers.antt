use Prim.Native.Nat.{ℕ}
use mathlib.Core.Path.{◌≡◌, ◌∙◌}
use lib.ListN.{length, get_or}
use borrow.Author.Rules.{rules}
use borrow.Author.Tests.{tests}
use Rattle.schemes.specs.Lists.{bit}
use Rattle.schemes.proofs.Builds.{set-at}
use Rattle.schemes.proofs.choosing.marked_kept.Goals as goal

pub returns : goal.returns
returns c =
    let sized : 16 ≡ length c.args.kept = search rules in
    c.set_where.ensures (λ (k : ℕ). bit c.args.marks (get_or c.args.kept k 0)) (λ k b low q. search (rules, tests))
    ∙ set-at (λ (k : ℕ). bit c.args.marks k) 0 c.args.kept 16 sized
