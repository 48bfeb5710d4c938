use Rattle.std.proofs.Common.{sym, ap, ◌∙◌}
use Rattle.toml.specs.View.{view}
use Rattle.rsl_account_file.proofs.Names.{of_keys, unknown_name}
use Rattle.rsl_account_file.proofs.table.unknown_name.Goals as goal

pub loop-name-init : goal.loop-name-init
loop-name-init c =
    of_keys c.args.part (view c.args.table.now) c.in_ok-as_table.field-0.now (sym c.in_ok-as_table.ensures)
    ∙ ap (unknown_name c.args.part) (sym (c.into_iter-name-iterator.ensures.into_iter_gives ∙ c.keys-name-items.ensures.rest))
