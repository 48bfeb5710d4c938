use Rattle.rld_config.proofs.Tables.{tables_right, others_than_tables, wrong_count}
use Rattle.rld_config.proofs.value.tables_of_list.Goals.{else-are_tables-via-then-are_tables+else-is_between, else-are_tables-via-else-are_tables}
use Rattle.rld_config.proofs.value.tables_of_list.Goals as goal

pub returns-then-is_between-clause-value : goal.returns-then-is_between-clause-value
returns-then-is_between-clause-value c = tables_right c.args.most c.args.items.now c.if-are_tables.ensures c.if-is_between.ensures

pub returns-else-are_tables-clause-value : goal.returns-else-are_tables-clause-value
returns-else-are_tables-clause-value c =
    elim c.else-are_tables.branch [
      | else-are_tables-via-then-are_tables+else-is_between w ↦ wrong_count c.args.most c.args.items.now w.if-are_tables.ensures w.if-is_between.ensures
      | else-are_tables-via-else-are_tables w ↦ others_than_tables c.args.most c.args.items.now w.if-are_tables.ensures
    ]
