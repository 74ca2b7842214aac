use Rattle.std.proofs.Common.{rules}
use Rattle.replies.proofs.Messages.{messages}
use Rattle.replies.proofs.message_field.Goals as goal

pub fields-list-requires : goal.fields-list-requires
fields-list-requires c = (search messages, search (messages, c.in_ok-m.ensures.0, c.in_ok-m.ensures.1))

pub returns-then-field-lt5 : goal.returns-then-field-lt5
returns-then-field-lt5 c = (search (messages, c.in_ok-m.ensures.0, c.in_ok-m.ensures.1), search rules)

pub returns : goal.returns
returns c = (search (messages, c.in_ok-m.ensures.0, c.in_ok-m.ensures.1), tt)
