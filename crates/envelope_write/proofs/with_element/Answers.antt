use Rattle.envelope_write.proofs.Sums.{with-limit}
use borrow.Author.Rules.{rules}
use Rattle.envelope_write.proofs.with_element.Goals as goal

pub overflow_add-n : goal.overflow_add-n
overflow_add-n c = let h = with-limit _ _ c.if-m-gt65535.false c.element_size.ensures in search rules
