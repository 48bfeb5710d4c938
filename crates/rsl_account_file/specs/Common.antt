-- What the head of an account file has for its accounts.
use Rattle.std.specs.Prelude.{Bool, ℕ, List}
use Rattle.std.specs.List.{flat_map}
use Rattle.rsl_reply.specs.declared.attribute.ReplyAttribute.{ReplyAttribute}
use Rattle.rsl_reply.specs.declared.dictionary.Dictionary.{Dictionary}

-- a profile: its name, and the attributes of its list
pub record ProfileSeen : Type 0 where
  pub name : List ℕ
  pub attributes : List ReplyAttribute

-- the names of attributes, whether accepts have a Port-Limit, where an account does not say so, and the
-- profiles
pub record Common : Type 0 where
  pub names : Dictionary
  pub port_limit : Bool
  pub profiles : List ProfileSeen

-- the octets of attributes, one after the other
abbrev pub octets_of : List ReplyAttribute → List ℕ
octets_of attributes = flat_map (λ attribute. attribute.octets) attributes
