-- How a `Text` is seen.
use Rattle.std.specs.Prelude.{ℕ, List, take, string_bytes}
use Rattle.rsl_accounts.specs.declared.text.Held.{Held}
use Rattle.rsl_accounts.specs.declared.text.Held.TheVariants.{Short, Long}

-- the octets of a text, wherever they are
abbrev pub text_held : Held → List ℕ
text_held (Short short) = take short.len short.octets
text_held (Long text) = string_bytes text
