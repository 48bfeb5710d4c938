use Rattle.std.proofs.Common.{[], map, sym, ap, List, ◌∙◌}
use Rattle.std.proofs.lemmas.Result.{IfOk-weaker, IfErr-weaker}
use Rattle.toml.specs.View.{view}
use Rattle.toml.specs.declared.value.Value.{Value}
use Rattle.rsl_account_file.specs.File.{replies_from}
use Rattle.rsl_account_file.proofs.ReplyLists.{reply_list-array}
use Rattle.rsl_account_file.proofs.replies.reply_list.Goals as goal

pub returns-in-Some-clause-ok : goal.returns-in-Some-clause-ok
returns-in-Some-clause-ok c =
    let list = reply_list-array c.args.names.now c.args.part c.args.name.now (view c.args.list.now) c.in-Some.items.now.items (sym c.in-Some.ensures)
    ∙ ap (λ (l : List Value). replies_from c.args.names.now c.args.part c.args.name.now 1 [] (map view l)) (sym c.as_slice.ensures.value) in
    IfOk-weaker c.replies_of.result _ _ (λ octets read. list ∙ read) c.replies_of.ensures.ok

pub returns-in-Some-clause-fault : goal.returns-in-Some-clause-fault
returns-in-Some-clause-fault c =
    let list = reply_list-array c.args.names.now c.args.part c.args.name.now (view c.args.list.now) c.in-Some.items.now.items (sym c.in-Some.ensures)
    ∙ ap (λ (l : List Value). replies_from c.args.names.now c.args.part c.args.name.now 1 [] (map view l)) (sym c.as_slice.ensures.value) in
    IfErr-weaker c.replies_of.result _ _ (λ fault fails other. list ∙ fails other) c.replies_of.ensures.fault
