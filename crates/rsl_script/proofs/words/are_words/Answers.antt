use Rattle.std.proofs.Common.{rules, ◌==◌, length, not, ◌∙◌}
use Rattle.std.proofs.lemmas.Iterator.{YieldsList-from_slice}
use Rattle.std.proofs.lemmas.Iterator.Search.{all_from_yields_List}
use borrow.Author.Tests.{tests}
use Rattle.rsl_script.proofs.Mapped.{list_all_map}
use Rattle.rsl_script.proofs.words.are_words.Goals as goal

pub returns : goal.returns
returns c =
    all_from_yields_List (λ word. not (length word.now == 0)) _ _ _ c.all.ensures.ran (YieldsList-from_slice c.args.words.now c.iter.ensures.rest) (λ x b q k. search (rules, tests))
    ∙ list_all_map (λ word. not (length word == 0)) (λ word. word.now) c.args.words.now
