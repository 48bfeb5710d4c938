use Rattle.std.proofs.Common.{sym, ap, map, ◌∙◌}
use Rattle.toml.specs.View.{view}
use Rattle.rld_config.proofs.PassedNames.{items_of-array}
use Rattle.rld_config.proofs.passed.items_of.Goals as goal

pub returns-in-Some : goal.returns-in-Some
returns-in-Some c =
    ap (map view) c.as_slice.ensures.value
    ∙ sym (items_of-array (view c.args.value.now) c.in-Some.items.now.items (sym c.in-Some.ensures))
