use Rattle.std.proofs.Common.{lit<, List, ap, ◌∙◌, ◌++◌, map}
use Rattle.std.proofs.lemmas.Iterator.Adapters.{fact_from_extend}
use Rattle.std.proofs.lemmas.Iterator.Consumers.{YieldsList-at}
use Rattle.std.proofs.lemmas.Iterator.Splits.{YieldsList-from_str_split}
use Rattle.rsl_script.proofs.words.line_words.Goals as goal

pub returns : goal.returns
returns c =
    rw c.in_ok-extend.was at (fact_from_extend (λ word. word.now) c.extend.result c.extend.ensures.ran
    (λ it b. YieldsList-at b (YieldsList-from_str_split 32 c.args.line.now (lit< tt) c.split.ensures.text c.split.ensures.has_more c.split.ensures.pattern))
    (λ xs e h. ap (map (λ word. word.now)) (h.0 ∙ ap (λ (old : List _). old ++ xs) c.in_ok-words.ensures.items) ∙ e))
