use Rattle.replies.proofs.Messages.{messages}
use Rattle.replies.proofs.put_conversation.Goals as goal

pub returns-then-buffer-lt-ID : goal.returns-then-buffer-lt-ID
returns-then-buffer-lt-ID c = (search (messages, c.in_ok-m.ensures.0, c.in_ok-m.ensures.1), tt)

pub slice_bounds-put_octets-end : goal.slice_bounds-put_octets-end
slice_bounds-put_octets-end c = search (messages, c.in_ok-m.ensures.0, c.in_ok-m.ensures.1)

pub returns : goal.returns
returns c = (search (messages, c.in_ok-m.ensures.0, c.in_ok-m.ensures.1), search (messages, c.in_ok-m.ensures.0, c.in_ok-m.ensures.1))
