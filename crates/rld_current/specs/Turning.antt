-- Turns with what is present.
use Rattle.std.specs.Prelude.{◌≡◌, ⊤, ℕ, List, None, Option, IfSome, Result, Ok, Err}
use Rattle.rld_edges.specs.declared.fault.RunFault.{RunFault}
use Rattle.rld_edges.specs.declared.fault.RunFault.TheVariants.{Down, Unsynced}
use Rattle.rld_networks.specs.declared.network.Network.{Network}
use Rattle.rld_store.specs.Recorded.{RecordedSeen}
use Rattle.rld_store.specs.declared.fault.RecordFault.{RecordFault}
use Rattle.rld_store.specs.declared.fault.RecordFault.TheVariants.{Ended}
use Rattle.rld_turn.specs.Present.{ServiceSeen}
use Rattle.rld_turn.specs.Told.{Told}
use Rattle.rld_turn.specs.Turned.{IsDecidedBy, State}
use Rattle.rsl_accounts.specs.Configuration.{Configuration, client_number}
use Rattle.rsl_event.specs.declared.meaning.Port.{Port}
use Rattle.rsl_port.specs.declared.datagram_port.PortFault.{PortFault}

-- These accounts, networks and boot number are served. Peers that stand for no client have some address that no
-- client has.
pub record IsServiceOf (config : Configuration) (networks : List Network) (boot : ℕ) (service : ServiceSeen)
    : Type 0 where
  pub config_is : service.config ≡ config
  pub networks_are : service.networks ≡ networks
  pub boot_is : service.boot ≡ boot
  pub nobody_is : client_number config service.nobody ≡ None

-- a turn with these accounts, networks and boot number, which is recorded in this table or not at all
pub record HasTurnedWith (config : Configuration) (networks : List Network) (boot table : ℕ) (port : Port)
    (Tells : Type 0) (recorded : Option RecordedSeen) (old new : State)
    (knew knows : List Told → Type 0) : Type 0 where
  pub service : ServiceSeen
  pub served : IsServiceOf config networks boot service
  pub decided : IsDecidedBy service port Tells recorded old new knew knows
  pub of_table : IfSome recorded (λ one. one.table ≡ table)

-- the fault of a worker whose turn ended so: another turn follows unless the port failed, or nothing more can be
-- recorded
abbrev pub outcome_of : {T U : Type 0} → Result T PortFault → Result U RecordFault → Result (Unit {0}) RunFault
outcome_of (Err fault) recorded = Err Down
outcome_of (Ok none) (Err Ended) = Err Unsynced
outcome_of (Ok none) recorded = Ok tt

-- such a fault
abbrev pub IsFaultOfTurn : RunFault → Type 0
IsFaultOfTurn Down = ⊤
IsFaultOfTurn Unsynced = ⊤
IsFaultOfTurn _ = ⊥
