use Rattle.rsl_account_file.proofs.Values.{tables_right, others_than_tables, wrong_count}
use Rattle.rsl_account_file.proofs.table.tables_of_list.Goals.{else-are_tables-via-then-are_tables+else-takes_count, else-are_tables-via-else-are_tables}
use Rattle.rsl_account_file.proofs.table.tables_of_list.Goals as goal

pub returns-then-takes_count : goal.returns-then-takes_count
returns-then-takes_count c = tables_right c.args.field c.args.items.now c.if-are_tables.ensures c.if-takes_count.ensures

pub returns-else-are_tables : goal.returns-else-are_tables
returns-else-are_tables c =
    elim c.else-are_tables.branch [
      | else-are_tables-via-then-are_tables+else-takes_count w ↦ wrong_count c.args.field c.args.items.now w.if-are_tables.ensures w.if-takes_count.ensures
      | else-are_tables-via-else-are_tables w ↦ others_than_tables c.args.field c.args.items.now w.if-are_tables.ensures
    ]
