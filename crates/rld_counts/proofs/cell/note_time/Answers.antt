use Rattle.rld_counts.proofs.Noting.{none_timed, time_counted}
use Rattle.rld_counts.proofs.cell.note_time.Goals as goal

pub returns-in-Some : goal.returns-in-Some
returns-in-Some c = λ all was. time_counted all c.args.counted c.args.times.now c.note.new.self c.in-Some.micros c.in-Some.is c.note.ensures.noted was

pub returns-in-None : goal.returns-in-None
returns-in-None c = λ all was. none_timed all c.args.counted c.args.times.now c.in-None.is was
