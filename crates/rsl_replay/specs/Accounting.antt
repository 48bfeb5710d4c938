-- The Accounting-Request that a line stands for (RFC 2866 section 4.1).
use Rattle.std.specs.Prelude.{ℕ, List, [], ◌∷◌, ◌++◌, replicate, Option, Some, None}
use Rattle.rsl_auth.specs.Authenticator.{sealed}
use Rattle.rsl_wire.specs.Attributes.{Attribute, attribute_of, list_octets}
use Rattle.rsl_wire.specs.Packet.{packet_octets}
use Rattle.rsl_event.specs.Answer.{number_attribute, class_attribute}
use Rattle.rsl_event.specs.Status.{status_number}
use Rattle.rsl_event.specs.declared.codes.TheConstants.{ACCOUNTING_REQUEST, USER_NAME, CALLING_STATION_ID, NAS_IDENTIFIER, ACCT_STATUS_TYPE, ACCT_DELAY_TIME, ACCT_SESSION_ID, ACCT_MULTI_SESSION_ID}
use Rattle.rsl_replay.specs.Attributes.{text_attribute}
use Rattle.rsl_script.specs.declared.request.AccountingRequest.{AccountingRequest}
use Rattle.rsl_script.specs.declared.request.AccountingRequest.TheVariants.{Session, Server}

-- the Class of this boot number, if the line has a class number
abbrev pub class_attributes : (boot : ℕ) → (number : Option ℕ) → List Attribute
class_attributes boot None = []
class_attributes boot (Some number) = class_attribute boot number ∷ []

-- the Acct-Delay-Time (RFC 2866 section 5.2), if the line has a delay
abbrev pub delay_attributes : (delay : Option ℕ) → List Attribute
delay_attributes None = []
delay_attributes (Some delay) = number_attribute ACCT_DELAY_TIME delay ∷ []

-- the attributes of the request, as far as the line has them
unfoldable pub accounting_attributes : (boot : ℕ) → AccountingRequest → List Attribute
accounting_attributes boot (Session status nas name session bundle class station) =
    number_attribute ACCT_STATUS_TYPE (status_number status)
    ∷ text_attribute NAS_IDENTIFIER nas
    ++ attribute_of USER_NAME name
    ∷ attribute_of ACCT_SESSION_ID session
    ∷ text_attribute ACCT_MULTI_SESSION_ID bundle
    ++ class_attributes boot class
    ++ text_attribute CALLING_STATION_ID station
accounting_attributes boot (Server status nas delay) =
    number_attribute ACCT_STATUS_TYPE (status_number status)
    ∷ text_attribute NAS_IDENTIFIER nas
    ++ delay_attributes delay

-- the octets of the request to a server that shares this secret: the Request Authenticator is made
-- over sixteen zero octets in its place
unfoldable pub accounting_octets : (boot : ℕ) → AccountingRequest → (secret : List ℕ) → List ℕ
accounting_octets boot request secret =
    sealed
    (packet_octets (record {
      code = ACCOUNTING_REQUEST;
      id = 0;
      authenticator = replicate 16 0;
      attributes = list_octets (accounting_attributes boot request);
    }))
    (replicate 16 0) secret
