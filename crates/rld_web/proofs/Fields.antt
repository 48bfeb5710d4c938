-- Fields that are added one after the other.
use Rattle.std.proofs.Common.{◌≡◌, List, [], ◌∷◌, ◌++◌, ap, ◌∙◌}

pub five_fields : {X : Type 0} (f0 f1 f2 f3 f4 f5 : List X) (a b c d e : X)
    → f0 ≡ [] → f1 ≡ f0 ++ a ∷ [] → f2 ≡ f1 ++ b ∷ [] → f3 ≡ f2 ++ c ∷ [] → f4 ≡ f3 ++ d ∷ [] → f5 ≡ f4 ++ e ∷ []
    → f5 ≡ a ∷ b ∷ c ∷ d ∷ e ∷ []
five_fields f0 f1 f2 f3 f4 f5 a b c d e none one two three four five =
    five ∙ ap (λ l. l ++ e ∷ [])
    (four ∙ ap (λ l. l ++ d ∷ []) (three ∙ ap (λ l. l ++ c ∷ []) (two ∙ ap (λ l. l ++ b ∷ []) (one ∙ ap (λ l. l ++ a ∷ []) none))))
