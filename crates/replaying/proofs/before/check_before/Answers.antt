use borrow.Author.Rules.{rules}
use Rattle.replaying.proofs.Befores.{ends-list-i, ends-list-a, ends-files}
use Rattle.replaying.proofs.before.check_before.Goals.{then-not-given_ok-via-then-not-given_ok, then-not-given_ok-via-else-not-given_ok+then-not-given_ok-2}
use Rattle.replaying.proofs.before.check_before.Goals as goal

pub returns-then-not-given_ok : goal.returns-then-not-given_ok
returns-then-not-given_ok c = elim c.then-not-given_ok.branch [
  | then-not-given_ok-via-then-not-given_ok w ↦ ends-list-i _ _ _ _ _ _ c.given_ok.ensures (search rules) _ c.refuse.ensures
  | then-not-given_ok-via-else-not-given_ok+then-not-given_ok-2 w ↦
      ends-list-a _ _ _ _ _ _ c.given_ok.ensures (search rules) _ w.given_ok-else-not-given_ok.ensures (search rules) _ c.refuse.ensures
]

pub returns : goal.returns
returns c = ends-files _ _ _ _ _ _ c.given_ok.ensures (search rules) _ c.given_ok-else-not-given_ok.ensures (search rules) _ c.check_files.ensures
