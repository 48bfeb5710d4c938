-- The Accounting-Request by which an access server says that a session has ended (RFC 2866 section
-- 4.1).
use Rattle.std.specs.Prelude.{◌≡◌, ◌==◌, ℕ, Bool, false, ◌&&◌, List, [], ◌∷◌, if◌then◌else◌, length, replicate, Ok, Some}
use Rattle.std.specs.List.{list_any}
use Rattle.rsl_accounts.specs.Configuration.{Configuration, account_number, client_number, same_octets}
use Rattle.rsl_auth.specs.Authenticator.{sealed}
use Rattle.rsl_wire.specs.Attributes.{Attribute, attribute_of, list_octets}
use Rattle.rsl_wire.specs.Packet.{packet_octets}
use Rattle.rsl_event.specs.Answer.{number_attribute}
use Rattle.rsl_event.specs.Meaning.{meaning}
use Rattle.rsl_event.specs.Request.{secret_of}
use Rattle.rsl_event.specs.Same.{same_nas}
use Rattle.rsl_event.specs.declared.codes.TheConstants.{ACCOUNTING_REQUEST, USER_NAME, NAS_IDENTIFIER, NAS_IP_ADDRESS, NAS_IPV6_ADDRESS, ACCT_STATUS_TYPE, ACCT_SESSION_ID, STOP}
use Rattle.rsl_event.specs.declared.event.Act.TheVariants as acts
use Rattle.rsl_event.specs.declared.event.Source.{Source}
use Rattle.rsl_event.specs.declared.meaning.Meaning.TheVariants.{Own}
use Rattle.rsl_event.specs.declared.meaning.Port.TheVariants.{Acct}
use Rattle.rsl_event.specs.declared.nas.NasName.{NasName}
use Rattle.rsl_event.specs.declared.nas.NasName.TheVariants.{Identifier, Address, Unnamed}
use Rattle.rsl_session.specs.Book.{BookLink}
use Rattle.rsl_session.specs.BookLinks.{is_link_of}
use Rattle.rsl_session.specs.declared.saved.SavedHolder.{SavedHolder}
use Rattle.rsl_session.specs.declared.saved.SavedHolder.TheVariants.{Reserved, Bound}
use Rattle.rsl_session.specs.declared.saved.SavedLink.{SavedLink}
use Rattle.rsl_session.specs.declared.session.Session.{Session}
use Rattle.rsl_shard.specs.declared.moved.Move.{Move}
use Rattle.rsl_shard.specs.declared.moved.Move.TheVariants as moves
use Rattle.rld_control.specs.declared.named.NamedSession.{NamedSession}
use Rattle.rld_control.specs.declared.stop.Stop.{Stop}

-- the Type of an address: of 16 octets it is a NAS-IPv6-Address (RFC 3162 section 2.1)
abbrev pub address_kind : (address : List ℕ) → ℕ
address_kind address = if length address == 16 then NAS_IPV6_ADDRESS else NAS_IP_ADDRESS

-- the name of an access server
abbrev pub nas_attributes : NasName → List Attribute
nas_attributes (Identifier name) = attribute_of NAS_IDENTIFIER name ∷ []
nas_attributes (Address address) = attribute_of (address_kind address) address ∷ []
nas_attributes Unnamed = []

abbrev pub stop_attributes : NamedSession → List Attribute
stop_attributes named =
    attribute_of USER_NAME named.account
    ∷ number_attribute ACCT_STATUS_TYPE STOP
    ∷ attribute_of ACCT_SESSION_ID named.session
    ∷ nas_attributes named.nas

-- the octets of an Accounting-Request to a server that shares this secret: the Request
-- Authenticator is computed over sixteen zero octets in its place
unfoldable pub request_octets : List Attribute → (secret : List ℕ) → List ℕ
request_octets attributes secret =
    sealed
    (packet_octets (record {
      code = ACCOUNTING_REQUEST;
      id = 0;
      authenticator = replicate 16 0;
      attributes = list_octets attributes;
    }))
    (replicate 16 0) secret

abbrev pub stop_octets : NamedSession → (secret : List ℕ) → List ℕ
stop_octets named secret = request_octets (stop_attributes named) secret

-- a Stop of the named session: at its account, its client and its access server
pub record IsStopOf (config : Configuration) (named : NamedSession) (stop : Stop) : Type 0 where
  pub account : account_number config named.account ≡ Some stop.account
  pub client : client_number config named.client ≡ Some stop.nas.client
  pub nas : stop.nas.name ≡ named.nas
  pub session : stop.session ≡ named.session
  pub octets : stop.octets.items ≡ stop_octets named (secret_of config stop.nas.client)

-- its datagram, from the client's address, means that Stop to the server
abbrev pub MeansStop : Configuration → (boot : ℕ) → Source → Stop → Type 0
MeansStop config boot source stop =
    meaning config boot Acct source stop.octets.items ≡ Ok (Own stop.account (acts.Stop stop.nas stop.session))

-- the session that a Stop ends
abbrev pub session_of : Stop → Session
session_of stop = record { nas = stop.nas; id = stop.session }

-- whether a link of a book is bound to it, by the session rule
abbrev pub is_held : Stop → List BookLink → Bool
is_held stop links = list_any (is_link_of (session_of stop)) links

-- the same of a link as it is saved
abbrev pub is_holder : (session : List ℕ) → SavedHolder → Bool
is_holder session (Reserved number) = false
is_holder session (Bound id) = same_octets id session

abbrev pub is_ended : Stop → SavedLink → Bool
is_ended stop link = same_nas link.nas stop.nas && is_holder stop.session link.holder

-- the move that a Stop is to the books at a moment
abbrev pub move_of : Stop → (moment : ℕ) → Move
move_of stop moment =
    moves.Own stop.account (record { moment = moment; act = acts.Stop stop.nas stop.session })
