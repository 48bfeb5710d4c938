-- The links that are held after some events, as one pass over the events carries them.
use Rattle.std.specs.Prelude.{◌≡◌, ℕ, List, [], ◌∷◌, filter, map, max, ◌||◌, not}
use Rattle.rsl_accounts.specs.declared.rules.Rules.{Rules}
use Rattle.rsl_session.specs.declared.past_event.PastEvent.{PastEvent}
use Rattle.rsl_session.specs.declared.outcome.Outcome.{Outcome}
use Rattle.rsl_session.specs.declared.outcome.Outcome.TheVariants.{Took}
use Rattle.rsl_session.specs.Past.{Past}
use Rattle.rsl_session.specs.Clock.{clock}
use Rattle.rsl_session.specs.Held.{ends, held_links, yields}
use Rattle.rsl_rule.specs.Standing.{standing_of}
use Rattle.rsl_rule.specs.declared.holding.HeldLink.{HeldLink}
use Rattle.rsl_rule.specs.declared.holding.Holding.{Holding}

-- links, each with how it stands
unfoldable pub standings : Past → List ℕ → List HeldLink
standings past links = map (λ link. record { link = link; standing = standing_of link past }) links

-- the held links that an event does not free
abbrev pub lasting : Rules → PastEvent → Past → List ℕ
lasting rules entry past =
    filter (λ link. not (ends rules past entry.event link
    || yields link entry.outcome)) (held_links rules past)

-- the number of the link that an event took, or 0
unfoldable pub taken_by : Outcome → ℕ
taken_by (Took taken) = taken
taken_by _ = 0

-- the greatest number of a link that an event took
unfoldable pub furthest_taken : Past → ℕ
furthest_taken [] = 0
furthest_taken (entry ∷ past) = max (furthest_taken past) (taken_by entry.outcome)

-- what is held after a whole past
pub record IsHolding (rules : Rules) (past : Past) (holding : Holding) : Type 0 where
  pub each : holding.links.items ≡ standings past (held_links rules past)
  pub now : holding.clock ≡ clock past
  pub greatest : holding.furthest ≡ furthest_taken past
