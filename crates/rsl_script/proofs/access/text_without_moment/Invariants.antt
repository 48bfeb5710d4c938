use Rattle.std.proofs.Common.{◌≡◌, ◌∷◌, map, take}
use Rattle.std.specs.List.{join_with_byte}
use Rattle.std.specs.String.{string_bytes}
use Rattle.rsl_script.specs.Access.{method_word}
use Rattle.rsl_script.proofs.access.text_without_moment.Given as goal

abbrev pub invariant-loop-word : goal.invariant-loop-word
invariant-loop-word l = string_bytes l.text ≡ join_with_byte 32 (method_word l.fn.method ∷ map (λ word. word.now) (take l.word-index l.words))
