-- The names of the causes for which a datagram is dropped.
use Rattle.std.specs.Prelude.{ℕ, List, codes}
use Rattle.rsl_event.specs.declared.meaning.Dropped.{Dropped}
use Rattle.rsl_event.specs.declared.meaning.Dropped.TheVariants.{Short, BadLength, UnknownClient, WrongCode, BadAuthenticator, Malformed, BadSignature, Unsigned, UnsignedProxy, ProxyTooLong, NoStatus, NoSession, NoMemory}

abbrev pub drop_name : Dropped → List ℕ
drop_name Short = codes "Short"
drop_name BadLength = codes "BadLength"
drop_name UnknownClient = codes "UnknownClient"
drop_name WrongCode = codes "WrongCode"
drop_name BadAuthenticator = codes "BadAuthenticator"
drop_name Malformed = codes "Malformed"
drop_name BadSignature = codes "BadSignature"
drop_name Unsigned = codes "Unsigned"
drop_name UnsignedProxy = codes "UnsignedProxy"
drop_name ProxyTooLong = codes "ProxyTooLong"
drop_name NoStatus = codes "NoStatus"
drop_name NoSession = codes "NoSession"
drop_name NoMemory = codes "NoMemory"
