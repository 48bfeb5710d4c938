-- What a sweep ends and what it spares.
use Rattle.std.specs.Prelude.{◌≡◌, ◌≢◌, ◌⊎◌, ◌↔◌, ℕ, ◌+◌, ◌∷◌, ◌<◌, All, Contains, Some}
use Rattle.rsl_accounts.specs.declared.rules.Rules.{Rules}
use Rattle.rsl_event.specs.declared.event.Event.{Event}
use Rattle.rsl_event.specs.declared.nas.Nas.{Nas}
use Rattle.rsl_session.specs.Past.{Past}
use Rattle.rsl_session.specs.Clock.{clock}
use Rattle.rsl_session.specs.Link.{nas_at, opened_at}
use Rattle.rsl_session.specs.Held.{held_before, held_links}
use Rattle.rsl_session.specs.Rule.{entry_of}

-- a link is at another access server, or opened less than the delay ago, by the clock after the event
abbrev pub IsSpared : Rules → Past → Event → Nas → (delay link : ℕ) → Type 0
IsSpared rules past event nas delay link =
    (nas_at link past ≢ Some nas)
    ⊎ (clock (entry_of rules past event ∷ past) < opened_at link past + delay)

-- an event swept an access server, with this delay
pub record HasSwept (rules : Rules) (past : Past) (event : Event) (nas : Nas) (delay : ℕ)
    : Type 0 where
  -- the links that are held after it are exactly those that were held as it came and are spared
  pub held : (link : ℕ) → Contains (held_links rules (entry_of rules past event ∷ past)) link
      ↔ (Contains (held_before rules past event) link × IsSpared rules past event nas delay link)
  -- without a delay none at that access server is held
  pub all_end : delay ≡ 0
      → All (λ link. nas_at link past ≢ Some nas) (held_links rules (entry_of rules past event ∷ past))
