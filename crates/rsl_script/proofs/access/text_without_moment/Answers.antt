use Rattle.std.proofs.Common.{ℕ, List, [], ◌∷◌, ◌++◌, ap, sym, ◌∙◌, get_or}
use Rattle.rsl_script.proofs.Joined.{join_more}
use Rattle.rsl_script.proofs.Requests.{no_word}
use Rattle.rsl_script.specs.Access.{method_word}
use Rattle.rsl_script.proofs.access.text_without_moment.Goals as goal

pub loop-word-preserved : goal.loop-word-preserved
loop-word-preserved c =
    c.in_ok-push_str-3.ensures.bytes
    ∙ ap (λ (x : List ℕ). x ++ (get_or c.args.words.now c.loop-word.word-index no_word).now) (c.in_ok-push_str-2.ensures.bytes ∙ ap (λ (x : List ℕ). x ++ 32 ∷ []) c.loop-word.invariant)
    ∙ sym (join_more 32 (method_word c.args.method) c.args.words.now c.loop-word.word-index no_word c.loop-word-test.true)
