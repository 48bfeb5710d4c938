-- The lines of refusals. No value in them has a space or a line feed.
use Rattle.std.specs.Prelude.{ℕ, ◌==◌, List, [], ◌++◌, codes, if◌then◌else◌, Option, Some, None}
use Rattle.std.specs.Fmt.{decimal}
use Rattle.std.specs.List.{flat_map}
use Rattle.std.specs.Net.Text.{ip_text}
use Rattle.std.specs.declared.net.ip_addr.IpAddr.{IpAddr}
use Rattle.std.specs.declared.net.ip_addr.IpAddr.TheVariants.{V4, V6}
use Rattle.rld_counts.specs.Counts.{count_in}
use Rattle.rld_counts.specs.Fates.{at, causes_at, kind_of, name_of, word_of}
use Rattle.rld_counts.specs.declared.cause.Cause.{Cause}
use Rattle.rld_counts.specs.declared.fate.Fate.{Fate}
use Rattle.rld_counts.specs.declared.gate.Gate.{Gate}
use Rattle.rld_counts.specs.declared.gate.Gate.TheVariants.{Auth, Acct, Ask}
use Rattle.rld_counts.specs.declared.kind.Kind.{Kind}
use Rattle.rld_counts.specs.declared.kind.Kind.TheVariants as kinds
use Rattle.rld_values.specs.Values.{dotted, escaped, hex}
use Rattle.rsl_event.specs.declared.event.Source.{Source}
use Rattle.rsl_event.specs.declared.nas.NasName.{NasName}
use Rattle.rsl_event.specs.declared.nas.NasName.TheVariants.{Identifier, Address, Unnamed}
use Rattle.rld_look.specs.declared.line.Places.{Places}
use Rattle.rld_look.specs.declared.priority.Priority.{Priority}
use Rattle.rld_look.specs.declared.priority.Priority.TheVariants.{Error, Warning, Notice}
use Rattle.rld_look.specs.declared.priority.Sink.{Sink}
use Rattle.rld_look.specs.declared.priority.Sink.TheVariants.{Journal, Plain}
use Rattle.rld_look.specs.declared.refusal.Refusal.{Refusal}

-- a mark that journald reads at the front of a line
abbrev pub mark_of : Sink → Priority → List ℕ
mark_of Plain priority = []
mark_of Journal Error = codes "<3>"
mark_of Journal Warning = codes "<4>"
mark_of Journal Notice = codes "<5>"

-- rejects are notices, all else is a warning
abbrev pub priority_of : Kind → Priority
priority_of kinds.LimitRejected = Notice
priority_of kinds.Rejected = Notice
priority_of kinds.Accepted = Warning
priority_of kinds.Accounted = Warning
priority_of kinds.NoAccount = Warning
priority_of kinds.Dropped = Warning
priority_of kinds.Failed = Warning

-- ---- a refusal

unfoldable pub front_words : Sink → Fate → List ℕ
front_words sink fate =
    mark_of sink (priority_of (kind_of fate.cause)) ++ (codes "refused port=" ++ word_of fate.gate)

-- an address before a port: one of IPv6 in brackets (RFC 3986 section 3.2.2)
abbrev pub address_words : IpAddr → List ℕ
address_words (V4 address) = ip_text (V4 address)
address_words (V6 address) = codes "[" ++ (ip_text (V6 address) ++ codes "]")

-- the client that a peer stands for; of a peer that stands for none, its own address
abbrev pub client_words : (client : Option ℕ) → Source → (peer : IpAddr) → List ℕ
client_words (Some client) source peer = dotted source.address
client_words None source peer = address_words peer

unfoldable pub source_words : Refusal → List ℕ
source_words refusal =
    codes " client=" ++ (client_words refusal.client refusal.source refusal.peer
    ++ (codes ":" ++ decimal refusal.source.port))

abbrev pub nas_words : NasName → List ℕ
nas_words (Identifier name) = codes " nas=" ++ escaped name
nas_words (Address address) = codes " nas-address=" ++ hex address
nas_words Unnamed = []

abbrev pub account_words : Option (List ℕ) → List ℕ
account_words None = []
account_words (Some name) = codes " account=" ++ escaped name

unfoldable pub asker_words : Refusal → List ℕ
asker_words refusal = nas_words refusal.nas ++ account_words refusal.name

unfoldable pub cause_words : Cause → List ℕ
cause_words cause = codes " cause=" ++ name_of cause

abbrev pub held_words : Option Places → List ℕ
held_words None = codes "\n"
held_words (Some places) = codes " held=" ++ (decimal places.held ++ (codes "/" ++ (decimal places.all ++ codes "\n")))

unfoldable pub line_of : Sink → Refusal → Option Places → List ℕ
line_of sink refusal places =
    front_words sink refusal.fate ++ (source_words refusal
    ++ (asker_words refusal ++ (cause_words refusal.fate.cause ++ held_words places)))

-- ---- the refusals that were left out

unfoldable pub number_words : Sink → Cause → (number : ℕ) → List ℕ
number_words sink cause number = mark_of sink (priority_of (kind_of cause)) ++ decimal number

unfoldable pub more_words : Gate → List ℕ
more_words gate = codes " more refused port=" ++ word_of gate

unfoldable pub left_out_line : Sink → Fate → (number : ℕ) → List ℕ
left_out_line sink fate number =
    number_words sink fate.cause number ++ (more_words fate.gate ++ (cause_words fate.cause ++ codes "\n"))

abbrev pub left_out_if_any : Sink → Fate → (number : ℕ) → List ℕ
left_out_if_any sink fate number = if number == 0 then [] else left_out_line sink fate number

abbrev pub left_out_at : Sink → (counts : List ℕ) → Gate → List ℕ
left_out_at sink counts gate =
    flat_map (λ cause. left_out_if_any sink (at gate cause) (count_in counts (at gate cause))) (causes_at gate)

unfoldable pub left_out_lines : Sink → (counts : List ℕ) → List ℕ
left_out_lines sink counts =
    left_out_at sink counts Auth ++ (left_out_at sink counts Acct ++ left_out_at sink counts Ask)
