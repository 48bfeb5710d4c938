use Rattle.std.proofs.Common.{arith, ap, ◌∙◌, ◌++◌, List, ℕ}
use Rattle.std.proofs.lemmas.Result.{err_from_is_err_and}
use Rattle.rsl_account_file.proofs.ReplyLists.{replies_end, reply_fails, reply_read}
use Rattle.rsl_account_file.proofs.replies.replies_of.Goals as goal

pub returns-in_err-reply_item-clause-fault : goal.returns-in_err-reply_item-clause-fault
returns-in_err-reply_item-clause-fault c =
    let p = err_from_is_err_and c.from_residual.result c.from_residual.ensures.1 in
    rw (p.1, p.2)
    (λ other. reply_fails c.args.names.now c.args.part c.args.name.now c.args.items.now c.loop-item.item-index c.item-item.result c.loop-item-test.true c.item-item.is c.loop-item.place c.loop-item.attributes.items _ c.in_err-reply_item.field-0.0 c.loop-item.invariant.read (c.in_err-reply_item.ensures.fault other))

pub loop-item-preserved : goal.loop-item-preserved
loop-item-preserved c = record {
  read = reply_read c.args.names.now c.args.part c.args.name.now c.args.items.now c.loop-item.item-index c.item-item.result c.loop-item-test.true c.item-item.is c.loop-item.place c.loop-item.attributes.items _ c.in_ok-reply_item.field-0 _ c.loop-item.invariant.read c.in_ok-reply_item.ensures.ok
      c.in_ok-push.ensures.items;
  counted = omega (arith, c.loop-item.invariant.counted);
}

pub returns-clause-ok : goal.returns-clause-ok
returns-clause-ok c =
    replies_end c.args.names.now c.args.part c.args.name.now c.args.items.now c.loop-item.item-index c.loop-item.place c.loop-item.attributes.items _ (omega (arith, c.loop-item-test.false)) c.loop-item.invariant.read
