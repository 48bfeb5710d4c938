use Rattle.std.proofs.Common.{refl}
use Rattle.rld_log.proofs.Losing.{not_made}
use Rattle.rld_log.proofs.memory.MemoryLogLog.append.Goals as goal

pub returns-in_err-copy-clause-crash : goal.returns-in_err-copy-clause-crash
returns-in_err-copy-clause-crash c = λ told. not_made c.args.self.now.synced.items c.args.self.now.steps.items c.args.self.now.steps.items c.args.octets.now refl

pub returns-in_err-note-clause-crash : goal.returns-in_err-note-clause-crash
returns-in_err-note-clause-crash c = λ told. not_made c.args.self.now.synced.items c.args.self.now.steps.items c.note.new.steps.items c.args.octets.now c.in_err-note.ensures.err

pub returns-in_err-note-2-clause-crash : goal.returns-in_err-note-2-clause-crash
returns-in_err-note-2-clause-crash c = λ told. not_made c.args.self.now.synced.items c.args.self.now.steps.items c.note-2.new.steps.items c.args.octets.now c.in_err-note-2.ensures.err
