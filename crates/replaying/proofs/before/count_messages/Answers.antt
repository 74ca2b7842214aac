use Rattle.replaying.specs.Playing.{whose_as}
use Rattle.replaying.proofs.Befores.{file-counted, file-refused}
use Rattle.replaying.proofs.before.count_messages.Goals as goal

pub returns-in-None-clause-ending : goal.returns-in-None-clause-ending
returns-in-None-clause-ending c = rw c.in-Some.is (file-counted (whose_as c.args.whose) _ _ c.cut_file-cut.ensures c.in-None.is).0

pub returns-in-None-clause-messages : goal.returns-in-None-clause-messages
returns-in-None-clause-messages c = rw c.in-Some.is (file-counted (whose_as c.args.whose) _ _ c.cut_file-cut.ensures c.in-None.is).1

pub returns-in-Some-refused-clause-ending : goal.returns-in-Some-refused-clause-ending
returns-in-Some-refused-clause-ending c =
    rw c.in-Some.is (file-refused (whose_as c.args.whose) _ _ c.cut_file-cut.ensures _ c.in-Some-refused.is _ c.number.ensures)
