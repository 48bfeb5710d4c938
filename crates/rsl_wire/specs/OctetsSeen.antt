-- The octets of a string, wherever they are.
use Rattle.std.specs.Prelude.{List, ℕ, take}
use Rattle.rsl_wire.specs.declared.octets.Held.{Held}
use Rattle.rsl_wire.specs.declared.octets.Held.TheVariants.{Short, Long}

abbrev pub octets_held : Held → List ℕ
octets_held (Short short) = take short.len short.octets
octets_held (Long octets) = octets.value.items
