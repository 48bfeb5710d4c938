-- The tables of an account file, and the keys that each may have.
use Rattle.std.specs.Prelude.{ℕ, List, [], ◌∷◌, Bool, bytes_eq}
use Rattle.std.specs.List.{list_any}
use Rattle.rsl_accounts.specs.declared.field.Field.{Field}
use Rattle.rsl_accounts.specs.declared.field.Field.TheVariants as field
use Rattle.rsl_accounts.specs.declared.part.Part.{Part}
use Rattle.rsl_accounts.specs.declared.part.Part.TheVariants.{Head, Client, Account, Disconnect, Profile}
use Rattle.rsl_accounts.specs.Field.{field_key}

-- the fields that a table may have
abbrev pub fields_of : Part → List Field
fields_of Head =
    field.Version ∷ field.Shards ∷ field.ReserveSecs ∷ field.LiveSecs ∷ field.GraceSecs
    ∷ field.ClosedSecs ∷ field.KeepSecs ∷ field.InterimSecs ∷ field.Client ∷ field.Account
    ∷ field.Profile ∷ field.PortLimit ∷ field.Station ∷ field.DelayTime ∷ []
fields_of Client =
    field.Address ∷ field.Secret ∷ field.Signed ∷ field.Trusted ∷ field.Disconnect ∷ []
fields_of Account =
    field.Name ∷ field.Password ∷ field.Places ∷ field.Ports ∷ field.ServiceType
    ∷ field.FramedProtocol ∷ field.SessionTimeout ∷ field.IdleTimeout ∷ field.OwnLive
    ∷ field.OwnGrace ∷ field.InterimSecs ∷ field.Disabled ∷ field.Reply ∷ field.Profile
    ∷ field.PortLimit ∷ field.Station ∷ []
fields_of Disconnect = field.Port ∷ []
fields_of Profile = field.Reply ∷ []

-- whether a table may have this key
abbrev pub knows : Part → (name : List ℕ) → Bool
knows part name = list_any (λ field. bytes_eq name (field_key field)) (fields_of part)
