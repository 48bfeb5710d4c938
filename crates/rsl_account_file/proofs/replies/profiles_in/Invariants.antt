use Rattle.std.proofs.Common.{◌≡◌, []}
use Rattle.toml.specs.View.{members_view, table_view}
use Rattle.rsl_account_file.specs.File.{profiles_from}
use Rattle.rsl_account_file.proofs.replies.profiles_in.Given as goal

abbrev pub invariant-loop-name : goal.invariant-loop-name
invariant-loop-name l = profiles_from l.version l.names l.profiles.items (members_view l.name-iterator) ≡ profiles_from l.version l.names [] (table_view l.table)
