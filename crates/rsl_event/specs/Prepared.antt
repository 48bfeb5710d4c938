-- A datagram that was understood.
use Rattle.std.specs.Prelude.{◌≡◌, ℕ, ◌<◌, ◌≤◌, List, length, Result, Ok, Err}
use Rattle.rsl_accounts.specs.Configuration.{Configuration}
use Rattle.rsl_wire.specs.Attributes.{attribute_list, attributes_in}
use Rattle.rsl_event.specs.Meaning.{Fails}
use Rattle.rsl_event.specs.Request.{most_proxy_len, proxy_len}
use Rattle.rsl_event.specs.declared.event.Act.{Act}
use Rattle.rsl_event.specs.declared.event.Act.TheVariants.{Sweep, Tick}
use Rattle.rsl_event.specs.declared.meaning_kind.MeaningKind.{MeaningKind}
use Rattle.rsl_event.specs.declared.meaning_kind.MeaningKind.TheVariants as kinds
use Rattle.rsl_event.specs.declared.meaning.Dropped.{Dropped}
use Rattle.rsl_event.specs.declared.meaning.Meaning.{Meaning}
use Rattle.rsl_event.specs.declared.meaning.Meaning.TheVariants.{Bare, Own}
use Rattle.rsl_event.specs.declared.meaning.Prepared.{Prepared}
use Rattle.rsl_event.specs.declared.preparation.Detailed.{Detailed}
use Rattle.rsl_event.specs.Signature.{rule_of}

-- what was prepared, without its detail
abbrev pub prepared_in : Result Detailed Dropped → Result Prepared Dropped
prepared_in (Ok found) = Ok found.prepared
prepared_in (Err dropped) = Err dropped

-- what `prepare` gives is as it is defined
abbrev pub GivesPrepared : Result Prepared Dropped → Result Meaning Dropped → Type 0
GivesPrepared (Ok prepared) defined = defined ≡ Ok prepared.meaning
GivesPrepared (Err dropped) defined = Fails dropped defined

-- the attributes of a request are well formed, and its Proxy-States have room in a reply
pub record HasProxyStates (config : Configuration) (attributes : List ℕ) : Type 0 where
  pub formed : attribute_list attributes ≡ Ok (attributes_in attributes)
  pub short : proxy_len (attributes_in attributes) ≤ most_proxy_len (rule_of config)

-- the account of a meaning is one of the configuration
abbrev pub HasAccount : Configuration → Meaning → Type 0
HasAccount config (Own account act) = account < length config.accounts
HasAccount config _ = Unit {0}

-- an account that asks is one of the configuration
abbrev pub HasAsker : Configuration → MeaningKind → Type 0
HasAsker config (kinds.Ask account) = account < length config.accounts
HasAsker config _ = Unit {0}

-- a reply that repeats Proxy-States has room for them
abbrev pub HasRoomForReply : Configuration → (attributes : List ℕ) → Meaning → Type 0
HasRoomForReply config attributes Bare = Unit {0}
HasRoomForReply config attributes _ = HasProxyStates config attributes

-- a reply to a meaning of this kind, if it repeats Proxy-States, has room for them
abbrev pub HasRoomFor : Configuration → (attributes : List ℕ) → MeaningKind → Type 0
HasRoomFor config attributes kinds.Bare = Unit {0}
HasRoomFor config attributes _ = HasProxyStates config attributes

-- an act of one account: an ask, an alive or a stop
abbrev pub IsOfOneAccount : Act → Type 0
IsOfOneAccount (Sweep nas delay) = ⊥
IsOfOneAccount Tick = ⊥
IsOfOneAccount _ = Unit {0}

-- an own act is an act of one account
abbrev pub HasOwnAct : Meaning → Type 0
HasOwnAct (Own account act) = IsOfOneAccount act
HasOwnAct _ = Unit {0}

-- a `Prepared` that `prepare` gives for this configuration
pub record IsPrepared (config : Configuration) (prepared : Prepared) : Type 0 where
  pub client : prepared.client < length config.clients
  pub account : HasAccount config prepared.meaning
  pub room : HasRoomForReply config prepared.packet.attrs.now prepared.meaning

-- what a reply needs: a packet of a client, with a meaning of this kind
pub record CanReply (config : Configuration) (client : ℕ) (attributes : List ℕ) (kind : MeaningKind)
    : Type 0 where
  pub known : client < length config.clients
  pub asker : HasAsker config kind
  pub room : HasRoomFor config attributes kind
