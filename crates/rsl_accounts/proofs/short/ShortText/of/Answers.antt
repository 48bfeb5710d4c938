use Rattle.std.proofs.Common.{◌∙◌}
use Rattle.rsl_accounts.proofs.Texts.{front_is_utf8}
use Rattle.rsl_accounts.proofs.short.ShortText.of.Goals as goal

pub invariant_of-result : goal.invariant_of-result
invariant_of-result c =
    record {
      few = c.if-len-gt-SHORT_LEN.false;
      utf8 = front_is_utf8 c.args.text.now c.copy_from_slice.new.self _ (c.copy_from_slice.ensures.after ∙ c.as_bytes.ensures.value) c.utf8.text;
    }
