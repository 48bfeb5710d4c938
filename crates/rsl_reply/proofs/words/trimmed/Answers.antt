use Rattle.std.proofs.Common.{ap, ◌∙◌}
use Rattle.std.proofs.lemmas.Str.Ascii.{trim_ascii_start_is, trim_ascii_end_is}
use Rattle.rsl_reply.specs.Words.{ended, trimmed}
use Rattle.rsl_reply.proofs.words.trimmed.Goals as goal

pub returns : goal.returns
unfolding trimmed
returns c =
    let start = c.trim_ascii_start-begun.result.now in
    trim_ascii_end_is start c.trim_ascii_end.result.now c.trim_ascii_end.ensures.value
    ∙ ap ended (trim_ascii_start_is c.args.text.now start c.trim_ascii_start-begun.ensures.value)
