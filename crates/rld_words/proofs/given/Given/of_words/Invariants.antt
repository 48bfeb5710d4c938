use Rattle.std.proofs.Common.{◌≡◌, drop, map}
use Rattle.std.specs.Prelude.{string_bytes}
use Rattle.rld_words.specs.Given.{nothing, seen, with_words}
use Rattle.rld_words.proofs.given.Given.of_words.Given as goal

-- what the words that are left make of what is given is what all make of nothing
abbrev pub invariant-loop-word : goal.invariant-loop-word
invariant-loop-word l =
    with_words l.topic (seen l.given) (map string_bytes (drop l.word-index l.words)) ≡ with_words l.topic nothing (map string_bytes l.words)
