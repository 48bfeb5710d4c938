use Rattle.std.proofs.Common.{◌≡◌, ℕ, List, ◌++◌, ap, ◌∙◌, append_assoc}
use Rattle.rld_look.specs.Line.{more_words}
use Rattle.rld_look.proofs.line.push_more.Goals as goal

two_added : (old one new x y z : List ℕ) → one ≡ old ++ x → new ≡ one ++ y → y ≡ z → new ≡ old ++ (x ++ z)
two_added old one new x y z first second is =
    second ∙ ap (λ (l : List ℕ). one ++ l) is ∙ ap (λ (l : List ℕ). l ++ z) first ∙ append_assoc old x z

pub returns : goal.returns
unfolding more_words
returns c =
    two_added _ _ _ _ _ _ c.in_ok-push_text.ensures c.in_ok-push_text-2.ensures c.word.ensures
