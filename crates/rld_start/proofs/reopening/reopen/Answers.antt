use Rattle.std.proofs.Common.{subst}
use Rattle.std.specs.Arc.{arc_value}
use Rattle.rld_log.specs.declared.reading.Frames.{Frames}
use Rattle.rld_store.specs.Opening.{IsThereIn}
use Rattle.rld_start.proofs.reopening.reopen.Goals as goal

pub returns-in-Ok-clause-there : goal.returns-in-Ok-clause-there
returns-in-Ok-clause-there c =
    subst (λ (frames : Frames). IsThereIn (arc_value c.args.config) frames.octets.items c.in_ok-opened.opened.header
    c.in_ok-opened.opened.store.books c.in_ok-opened.opened.moves)
    c.into_log-frames.ensures.frames c.in_ok-opened.ensures.there
