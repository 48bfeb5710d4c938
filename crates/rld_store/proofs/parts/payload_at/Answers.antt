use Rattle.rld_store.proofs.Replaying.{there_in}
use Rattle.rld_store.proofs.parts.payload_at.Goals as goal

pub returns : goal.returns
returns c = there_in c.args.payloads.now c.args.index _ c.requires
