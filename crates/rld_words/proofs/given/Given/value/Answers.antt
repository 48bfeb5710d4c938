use Rattle.std.proofs.Common.{ap, ◌∙◌, map}
use Rattle.std.specs.Prelude.{ℕ, find, List, option_map}
use Rattle.rld_words.specs.Given.{is_of, used_as}
use Rattle.rld_words.specs.declared.flag.Flag.{Flag}
use Rattle.rld_words.specs.declared.given.Used.{Used}
use Rattle.rld_words.proofs.Seen.{value_seen}
use Rattle.rld_words.proofs.given.Given.value.Goals as goal

pub returns : goal.returns
returns c =
    ap (option_map (λ word. word.now)) c.value_among.ensures
    ∙ value_seen c.args.flag c.as_slice.result.now
    ∙ ap (λ (given : List Used). option_map (λ (used : Flag × List ℕ). used.1) (find (is_of c.args.flag) (map used_as given))) c.as_slice.ensures.value
