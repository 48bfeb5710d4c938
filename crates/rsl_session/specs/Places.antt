-- Each link without a bundle takes one place. A bundle of k links takes k places divided by the
-- ports, rounded up.
use Rattle.std.specs.Prelude.{ℕ, ◌+◌, List, [], ◌∷◌, map, Bool, false, if◌then◌else◌, is_none, count_by, sum_by, Option, Some, None}
use Rattle.std.specs.Int.{div_ceil}
use Rattle.std.specs.List.{list_any}
use Rattle.rsl_accounts.specs.declared.rules.Rules.{Rules}
use Rattle.rsl_session.specs.declared.bundle.Bundle.{Bundle}
use Rattle.rsl_session.specs.Past.{Past}
use Rattle.rsl_session.specs.Same.{same_bundle}
use Rattle.rsl_session.specs.Binding.{bundle_at}
use Rattle.rsl_session.specs.Held.{held_links}

-- whether a link's bundle is this one
abbrev pub is_bundle : Bundle → Option Bundle → Bool
is_bundle bundle None = false
is_bundle bundle (Some other) = same_bundle other bundle

-- the bundles of some links, each once
unfoldable pub each_bundle : List (Option Bundle) → List Bundle
each_bundle [] = []
each_bundle (None ∷ bundles) = each_bundle bundles
each_bundle (Some bundle ∷ bundles) =
    if list_any (is_bundle bundle) bundles
    then each_bundle bundles
    else bundle ∷ each_bundle bundles

-- the places of some links, by their bundles
unfoldable pub places_of : ℕ → List (Option Bundle) → ℕ
places_of ports bundles =
    count_by is_none bundles
    + sum_by (λ bundle. div_ceil (count_by (is_bundle bundle) bundles) ports) (each_bundle bundles)

-- the bundles of some links
unfoldable pub bundles : Past → List ℕ → List (Option Bundle)
bundles past some = map (λ link. bundle_at link past) some

-- the places held
unfoldable pub places : Rules → Past → ℕ
places rules past = places_of rules.ports (bundles past (held_links rules past))
