use Rattle.std.proofs.Common.{◌∷◌, ◌∙◌, ap, subst}
use Rattle.std.specs.Fmt.{styled_decimal}
use Rattle.std.specs.Io.KnownBytes.{Appends}
use Rattle.rsl_record.proofs.TableLaws.{number_text}
use Rattle.rsl_record.proofs.table.write_number.Goals as goal

pub returns : goal.returns
returns g c =
    let text = ap (λ options. 32 ∷ styled_decimal options c.args.number) c.laid_out.ensures ∙ number_text c.args.number in
    subst (Appends (g.W.Write.contents c.args.writer.now) (g.W.Write.contents c.write.new.self)) text c.in_ok-write.ensures.bytes
