use Rattle.std.proofs.Common.{sym, ap, ◌∙◌}
use Rattle.toml.specs.View.{view}
use Rattle.rld_config.proofs.PassedNames.{of_names, first_name}
use Rattle.rld_config.proofs.passed.name_in.Goals as goal

pub loop-name-init : goal.loop-name-init
loop-name-init c =
    of_names c.args.part (view c.args.table.now) c.in_ok-as_table.field-0.now (sym c.in_ok-as_table.ensures)
    ∙ ap (first_name c.args.part) (sym (c.into_iter-name-iterator.ensures.into_iter_gives ∙ c.keys-name-items.ensures.rest))
