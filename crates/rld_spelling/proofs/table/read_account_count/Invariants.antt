use Rattle.std.proofs.Common.{◌≡◌, ◌-◌}
use Rattle.rld_spelling.specs.Lists.{values_at}
use Rattle.rld_spelling.proofs.Callers.{with_front}
use Rattle.rld_spelling.specs.TableSpelled.{account_at}
use Rattle.rld_spelling.proofs.table.read_account_count.Given as goal

abbrev pub invariant-loop : goal.invariant-loop
invariant-loop l =
    with_front (l.accounts.items) (values_at (account_at) (l.count - l.counter) l.reader) ≡ values_at (account_at) l.count l.fn.reader
