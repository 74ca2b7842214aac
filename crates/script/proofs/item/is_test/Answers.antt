use Rattle.script.proofs.Items.{test-last, test_word}
use borrow.Author.Tests.{lt-leb}
use Rattle.script.proofs.item.is_test.Goals as goal

pub returns-then-behind-line : goal.returns-then-behind-line
returns-then-behind-line c =
    let h = c.eq.ensures in let a = c.as_slice.ensures in test_word _ _ _ c.behind.ensures.fields c.if-behind-line.true _ c.field.ensures _
    (rw a at c.eq.ensures)

pub returns-else-behind-line : goal.returns-else-behind-line
returns-else-behind-line c = rw (lt-leb _ _ c.if-behind-line.false) (test-last _ _ _ c.behind.ensures.fields c.if-behind-line.false)
