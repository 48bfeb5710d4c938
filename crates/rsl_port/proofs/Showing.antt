-- How what a clock or a pause has shown adds up.
use Rattle.std.proofs.Common.{List, [], ◌++◌, Option, Some, None, append-nil, ap, ◌∙◌}
use Rattle.std.proofs.lemmas.List.{append_assoc}
use Rattle.rsl_port.specs.Shown.{HasShown}

-- a clock that was not read has shown nothing
pub none_shown : {A : Type 0} → (shown : Option (List A)) → HasShown [] shown shown
none_shown None = tt
none_shown (Some values) = search append-nil

-- values after values
pub more_shown : {A : Type 0} → (first then : List A) (old mid new : Option (List A)) → HasShown first old mid
    → HasShown then mid new → HasShown (first ++ then) old new
more_shown first then old mid None before after = tt
more_shown first then old None (Some now) before after = absurd after
more_shown first then None (Some values) (Some now) before after = absurd before
more_shown first then (Some start) (Some values) (Some now) before after =
    after ∙ ap (λ xs. xs ++ then) before ∙ append_assoc start first then
