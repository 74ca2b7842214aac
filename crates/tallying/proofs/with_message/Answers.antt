use Rattle.tallying.proofs.Steps.{messages, ready-bare, message-is}
use Prim.Native.Nat.{◌<◌, ◌^◌}
use lib.ListN.{length}
use borrow.Author.Rules.{rules}
use Rattle.tallying.proofs.with_message.Goals as goal

pub one_more-requires : goal.one_more-requires
one_more-requires c = search messages

pub with_offer-table-requires : goal.with_offer-table-requires
with_offer-table-requires c = search messages

pub overflow_add-result-2 : goal.overflow_add-result-2
overflow_add-result-2 c = record { fits = search (rules, messages) }

pub overflow_add-result-3 : goal.overflow_add-result-3
overflow_add-result-3 c =
    let o = (c.count_octets-octets.result) in
    let small : o.bare < 2 ^ 32 = search rules in
    record { fits = ready-bare c.args.t c.args.m.now (length c.args.map.now) c.requires o.bare small }

pub returns : goal.returns
returns c =
    message-is c.args.t c.args.m.now _ c.le_u32-kind.ensures _ c.count_octets-octets.ensures _ c.one_more.ensures _
    c.with_offer-table.ensures
