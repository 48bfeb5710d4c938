use Rattle.std.proofs.Common.{◌≡◌, ◌++◌, string_bytes, map, drop}
use Rattle.rld_commands.specs.Asking.{words_text}
use Rattle.rld_commands.proofs.ask.push_words.Given as goal

-- what is written, and the words that are left
abbrev pub invariant-loop-word : goal.invariant-loop-word
invariant-loop-word l =
    string_bytes l.fn.line ++ words_text (map (λ word. word.now) l.words)
    ≡ string_bytes l.line ++ words_text (map (λ word. word.now) (drop l.word-index l.words))
