-- The lines of sessions: an object of JSON each, whose moments are seconds since 1970; or a record
-- of CSV (RFC 4180) each, whose moments are dates of UTC.
use Rattle.std.specs.Prelude.{ℕ, List, [], ◌++◌, codes, Option, Some, None, Bool, true, ◌&&◌, nat_le, nat_lt, length, if◌then◌else◌}
use Rattle.std.specs.Fmt.{decimal}
use Rattle.std.specs.Option.{option_map_or}
use Rattle.rsl_accounts.specs.Configuration.{Configuration}
use Rattle.rsl_event.specs.declared.nas.NasName.{NasName}
use Rattle.rsl_event.specs.declared.nas.NasName.TheVariants.{Identifier, Address, Unnamed}
use Rattle.rld_lines.specs.Lines.{account_name, client_address}
use Rattle.rld_text.specs.Json.{member_front, string_member}
use Rattle.rld_text.specs.Links.{server_members}
use Rattle.rld_values.specs.Dates.{date_or_number, http_date}
use Rattle.rld_values.specs.Values.{dotted, escaped, hex}
use Rattle.rld_export.specs.declared.export.Wanted.{Wanted}
use Rattle.rld_export.specs.declared.form.Form.{Form}
use Rattle.rld_export.specs.declared.form.Form.TheVariants.{Csv, Json}
use Rattle.rld_export.specs.declared.session.End.{End}
use Rattle.rld_export.specs.declared.session.Held.{Held}
use Rattle.rld_export.specs.declared.session.Why.{Why}
use Rattle.rld_export.specs.declared.session.Why.TheVariants.{Stop, Off, Silent, Yielded, Changed}
use Rattle.rld_export.specs.declared.span.Span.{Span}

abbrev pub why_word : Why → List ℕ
why_word Stop = codes "stop"
why_word Off = codes "off"
why_word Silent = codes "silent"
why_word Yielded = codes "yielded"
why_word Changed = codes "changed"

-- ---- JSON

-- a moment, if there is one
abbrev pub moment_or_null : Option ℕ → List ℕ
moment_or_null None = codes "null"
moment_or_null (Some moment) = decimal moment

unfoldable pub moment_member : (name : List ℕ) → Option ℕ → List ℕ
moment_member name moment = member_front name ++ moment_or_null moment

abbrev pub end_members : Option End → List ℕ
end_members None = codes ",\"ended\":null,\"why\":null"
end_members (Some end) =
    moment_member (codes "ended") (Some end.at) ++ string_member (codes "why") (why_word end.why)

-- a session of an account, at the client of this address
unfoldable pub session_object : (account client : List ℕ) → Held → Option End → List ℕ
session_object account client held end =
    server_members account client held.session.nas.name
    ++ (string_member (codes "session") held.session.id
    ++ (moment_member (codes "began") held.began
    ++ (moment_member (codes "seen") (Some held.seen)
    ++ (end_members end ++ codes "}\n"))))

-- ---- CSV

-- the names of the columns
abbrev pub columns : List ℕ
columns = codes "account,client,nas,nas_address,session,began,seen,ended,why\n"

-- octets between quotation marks: escaped, they have none
unfoldable pub quoted : List ℕ → List ℕ
quoted octets = codes "\"" ++ (escaped octets ++ codes "\"")

-- the name of an access server, in two columns
abbrev pub nas_columns : NasName → List ℕ
nas_columns (Identifier name) = quoted name ++ codes ",,"
nas_columns (Address address) = codes "," ++ (hex address ++ codes ",")
nas_columns Unnamed = codes ",,"

-- a date, if there is a moment
abbrev pub date_or_nothing : (dates : ℕ → List ℕ) → Option ℕ → List ℕ
date_or_nothing dates None = []
date_or_nothing dates (Some moment) = date_or_number (http_date dates moment) moment

abbrev pub end_columns : (dates : ℕ → List ℕ) → Option End → List ℕ
end_columns dates None = codes ",\n"
end_columns dates (Some end) =
    date_or_nothing dates (Some end.at) ++ (codes "," ++ (why_word end.why ++ codes "\n"))

unfoldable pub server_columns : (account client : List ℕ) → NasName → List ℕ
server_columns account client name =
    quoted account ++ (codes "," ++ (dotted client ++ (codes "," ++ nas_columns name)))

unfoldable pub session_record : (dates : ℕ → List ℕ) → (account client : List ℕ) → Held → Option End → List ℕ
session_record dates account client held end =
    server_columns account client held.session.nas.name
    ++ (quoted held.session.id ++ (codes ","
    ++ (date_or_nothing dates held.began ++ (codes ","
    ++ (date_or_nothing dates (Some held.seen) ++ (codes ","
    ++ end_columns dates end))))))

-- ---- a session as a line

abbrev pub session_line : (dates : ℕ → List ℕ) → Form → (account client : List ℕ) → Held → Option End → List ℕ
session_line dates Json account client held end = session_object account client held end
session_line dates Csv account client held end = session_record dates account client held end

-- ---- which sessions are printed

-- it began before the end of the span, or before the first log
abbrev pub began_before : (until : ℕ) → Option ℕ → Bool
began_before until began = option_map_or (λ moment. nat_lt moment until) began true

-- it ended in the span or after it, or is still held
abbrev pub ended_from : (since : ℕ) → Option End → Bool
ended_from since end = option_map_or (λ (end : End). nat_le since end.at) end true

-- a session that was held at some moment of the span
unfoldable pub is_of : Span → Held → Option End → Bool
is_of span held end = began_before span.until held.began && ended_from span.since end

-- the line of a session by the numbers of its account and its client, if the configuration has them
abbrev pub line_of_known : (dates : ℕ → List ℕ) → Form → Configuration → (account : ℕ) → Held → Option End → List ℕ
line_of_known dates form config account held end =
    if nat_lt account (length config.accounts) && nat_lt held.session.nas.client (length config.clients)
    then session_line dates form (account_name config account) (client_address config held.session.nas.client) held end
    else []

abbrev pub line_if_wanted : (dates : ℕ → List ℕ) → Wanted → Configuration → (account : ℕ) → Held → Option End → List ℕ
line_if_wanted dates wanted config account held end =
    if is_of wanted.span held end then line_of_known dates wanted.form config account held end else []
