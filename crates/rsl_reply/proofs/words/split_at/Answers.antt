use Rattle.rsl_reply.proofs.Splits.{split_found}
use Rattle.rsl_reply.proofs.words.split_at.Goals as goal

pub returns : goal.returns
returns c = split_found c.args.separator c.args.text.now c.split_once.result (c.split_once.ensures.byte c.requires (λ w o h. h))
