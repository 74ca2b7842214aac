use Rattle.std.proofs.Common.{rules, refl, inl}
use Rattle.std.specs.Iterator.Adapters.{enumerate_source, enumerate_count}
use Rattle.messages.proofs.Steps.{some_left, none_left}
use Rattle.entries.proofs.Walked.{shows, Shown, shown-count}
use Rattle.entries.specs.Entries.{entries_of}
use Rattle.token.specs.Token.{token_of}
use Rattle.token.specs.Walk.{messages_of}
use Rattle.entries.proofs.put_entries.Goals as goal

pub loop-message-init : goal.loop-message-init
loop-message-init c =
    let w : Shown (entries_of (messages_of (token_of c.args.token.now))) c.args.d.now c.args.from
    (enumerate_source c.into_iter-message-iterator.result).rest.now
    (enumerate_source c.into_iter-message-iterator.result).place.0 (enumerate_count c.into_iter-message-iterator.result) c.args.from c.args.d.now 0 =
    search (rules, shows) in
    ((tt, tt, inl (search shown-count)), tt, refl, w)

pub put_message-next-requires : goal.put_message-next-requires
put_message-next-requires c =
    let p = c.in-Some.ensures.steps.0 in (rw p.stands (search (shows, some_left, p)), search (shows, some_left, p))

pub less_those_of-skip-requires : goal.less_those_of-skip-requires
less_those_of-skip-requires c = let p = c.in-Some.ensures.steps.0 in search (shows, some_left, p)

pub loop-message-preserved : goal.loop-message-preserved
loop-message-preserved c =
    let p = c.in-Some.ensures.steps.0 in
    let w : Shown (entries_of (messages_of (token_of c.args.token.now))) c.args.d.now c.args.from (enumerate_source c.next.new.self).rest.now
    (enumerate_source c.next.new.self).place.0 (enumerate_count c.next.new.self) c.less_those_of-skip.result c.put_message-next.new.d
    c.put_message-next.result =
    search (rules, shows, some_left, p) in
    ((tt, tt, inl (search shown-count)), tt, search rules, w)

pub returns : goal.returns
returns c = search (shows, none_left, c.in-None.ensures.steps.0.0)
