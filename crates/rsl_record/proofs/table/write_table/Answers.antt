use Rattle.std.proofs.Common.{◌∙◌, sym, subst}
use Rattle.std.proofs.lemmas.List.{append-nil}
use Rattle.std.specs.Io.KnownBytes.{Appends}
use Rattle.rsl_record.specs.Table.{header}
use Rattle.rsl_record.proofs.TableLaws.{titles}
use Rattle.rsl_record.proofs.table.write_table.Goals as goal

pub loop-row-init : goal.loop-row-init
loop-row-init g c =
    subst (Appends (g.W.Write.contents c.args.writer.now) (g.W.Write.contents c.write_all.new.self))
    (c.as_bytes.ensures.value ∙ titles ∙ sym (append-nil header)) c.in_ok-write_all.ensures.bytes
