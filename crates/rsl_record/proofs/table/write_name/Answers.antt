use Rattle.std.proofs.Common.{◌∙◌, ap, subst}
use Rattle.std.specs.Fmt.{styled_text}
use Rattle.std.specs.Io.KnownBytes.{Appends}
use Rattle.rsl_record.proofs.TableLaws.{name_text}
use Rattle.rsl_record.proofs.table.write_name.Goals as goal

pub returns : goal.returns
returns g c =
    let text = ap (λ options. styled_text options c.args.name.now) c.laid_out.ensures ∙ name_text c.args.name.now c.requires in
    subst (Appends (g.W.Write.contents c.args.writer.now) (g.W.Write.contents c.write.new.self)) text c.in_ok-write.ensures.bytes
