use Rattle.rsl_session.specs.BookStep.{sweep}
use Rattle.std.proofs.Common.{◌∙◌, ap}
use Rattle.circular_buffer.specs.Buffer.{Buffer}
use Rattle.rsl_book.specs.declared.kept.Kept.{Kept}
use Rattle.rsl_book.specs.declared.kept.DecidedAsk.{DecidedAsk}
use Rattle.rsl_book.specs.declared.kept.EndedSession.{EndedSession}
use Rattle.rsl_book.specs.Seen.{asks_seen, stops_seen}
use Rattle.rsl_book.proofs.Insides.{same_value}
use Rattle.rsl_book.proofs.Swept.{asks_swept, stops_swept}
use Rattle.rsl_book.proofs.book.Book.sweep_at.Goals as goal

pub returns : goal.returns
unfolding sweep
returns c =
    let inside = c.self.inside in
    rw (← c.self.view_is)
    (same_value inside.rules inside.clock inside.accepts inside.over c.sweep.ensures.links
    (ap (λ (ring : Buffer (Kept DecidedAsk)). asks_seen inside.servers ring.items) c.sweep-2.ensures ∙ asks_swept inside.servers c.args.nas.now c.args.delay inside.clock inside.asks.items)
    (ap (λ (ring : Buffer (Kept EndedSession)). stops_seen inside.servers ring.items) c.sweep-3.ensures ∙ stops_swept inside.servers c.args.nas.now c.args.delay inside.clock inside.stops.items))
