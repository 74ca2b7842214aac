use Prim.Native.Nat.{ℕ}
use mathlib.Core.Path.{◌≡◌, ◌∙◌}
use mathlib.Core.Bool.{not}
use native.Mathlib.Omega.{arith}
use lib.ListN.{length, take}
use borrow.Author.Rules.{rules}
use borrow.Author.Tests.{tests}
use Rattle.std.proofs.lemmas.Iterator.{YieldsList-from_slice}
use Rattle.std.proofs.lemmas.Iterator.Search.{all_from_yields_List}
use Rattle.octets.specs.Octets.{signed32, negative}
use Rattle.elements.proofs.Limits.{ordinary-all}
use Rattle.elements.proofs.are_ordinary.Goals as goal

pub returns : goal.returns
returns c =
    let whole : length c.args.e.types ≡ 8 = search rules in
    all_from_yields_List (λ (t : ℕ). not (negative (signed32 t))) _ _ c.all.result c.all.ensures.ran
    (YieldsList-from_slice (take c.args.e.count c.args.e.types) cc)
    (λ x b q k. search (rules, tests))
    ∙ ordinary-all c.args.e.count 0 c.args.e.types (omega arith)
