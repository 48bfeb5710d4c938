use Rattle.std.proofs.Common.{◌∙◌}
use Rattle.rld_words.proofs.Seconds.{number_parsed}
use Rattle.rld_words.proofs.patience.number_of.Goals as goal

pub returns : goal.returns
returns c = λ number small e.
    c.ok.ensures.value ∙ number_parsed c.args.word.now c.parse.result c.parse.ensures.value.0 number small e
