use Rattle.std.proofs.Common.{[]}
use Rattle.rsl_record.proofs.Chains.{astray_empty}
use Rattle.rsl_record.proofs.record.Record.lowest_astray.Goals as goal

pub returns : goal.returns
returns c = c.lowest_astray.ensures c.args.self.now.given.now (c.lowest_astray-astray.ensures [] (astray_empty c.args.shards))
