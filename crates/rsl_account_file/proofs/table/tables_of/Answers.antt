use Rattle.std.proofs.Common.{sym, ap, map, ◌∙◌}
use Rattle.toml.specs.View.{view}
use Rattle.rsl_account_file.specs.File.{tables_of_list}
use Rattle.rsl_account_file.proofs.Values.{tables_of-array}
use Rattle.rsl_account_file.proofs.table.tables_of.Goals as goal

pub returns : goal.returns
returns c =
    c.tables_of_list.ensures
    ∙ ap (λ items. tables_of_list c.args.field (map view items)) c.as_slice.ensures.value
    ∙ sym (tables_of-array c.args.field (view c.args.value.now) c.in_ok-as_array.field-0.now.items (sym c.in_ok-as_array.ensures))
