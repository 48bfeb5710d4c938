-- Which links of all accounts an operator wants to see: those that have all that is given.
use Rattle.std.specs.Prelude.{ℕ, ◌-◌, List, Bool, true, false, ◌&&◌, nat_le, nat_lt, Option, None, Some, if◌then◌else◌}
use Rattle.rsl_accounts.specs.Configuration.{same_octets}
use Rattle.rsl_event.specs.Same.{same_name}
use Rattle.rsl_event.specs.declared.nas.NasName.{NasName}
use Rattle.rsl_session.specs.declared.saved.SavedHolder.{SavedHolder}
use Rattle.rsl_session.specs.declared.saved.SavedHolder.TheVariants as holders
use Rattle.rsl_session.specs.declared.saved.SavedLink.{SavedLink}
use Rattle.rld_control.specs.declared.wanted.LinkState.{LinkState}
use Rattle.rld_control.specs.declared.wanted.LinkState.TheVariants.{Reserved, Live, Stale}
use Rattle.rld_control.specs.declared.wanted.Wanted.{Wanted}

-- reserved, or with a session that is live if touched less than the live time ago, else stale
abbrev pub state_of : (live age : ℕ) → SavedHolder → LinkState
state_of live age (holders.Reserved number) = Reserved
state_of live age (holders.Bound session) = if nat_lt age live then Live else Stale

abbrev pub same_state : LinkState → LinkState → Bool
same_state Reserved Reserved = true
same_state Reserved Live = false
same_state Reserved Stale = false
same_state Live Reserved = false
same_state Live Live = true
same_state Live Stale = false
same_state Stale Reserved = false
same_state Stale Live = false
same_state Stale Stale = true

abbrev pub is_named : (wanted : Option NasName) → NasName → Bool
is_named None name = true
is_named (Some wanted) name = same_name name wanted

abbrev pub is_at : (wanted : Option (List ℕ)) → (address : List ℕ) → Bool
is_at None address = true
is_at (Some wanted) address = same_octets address wanted

abbrev pub is_in : (wanted : Option LinkState) → LinkState → Bool
is_in None _ = true
is_in (Some wanted) state = same_state state wanted

-- a link whose client has this address, of an account with this live time
abbrev pub is_wanted : Wanted → (address : List ℕ) → (live now : ℕ) → SavedLink → Bool
is_wanted wanted address live now link =
    is_named wanted.nas link.nas.name
    && is_at wanted.client address
    && is_in wanted.state (state_of live (now - link.touched) link.holder)
    && nat_le wanted.older (now - link.touched)
