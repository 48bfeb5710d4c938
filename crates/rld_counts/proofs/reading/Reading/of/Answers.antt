use Rattle.std.proofs.Common.{rules, length}
use Rattle.rld_counts.proofs.Sums.{added_to_none}
use Rattle.rld_counts.proofs.reading.Reading.of.Goals as goal

pub returns-clause-counted : goal.returns-clause-counted
returns-clause-counted c had counted =
    added_to_none (length c.args.room.clients) c.args.room c.args.cell.now _ (search rules) c.requires had counted
