-- Books as octets: all that the book of an account holds.
use Rattle.std.specs.Prelude.{ℕ, List, [], ◌∷◌, ◌++◌, length, Bool, ◌||◌, Option, None, IfSome, is_some, Ok, nat_eq, nat_lt, if◌then◌else◌, map}
use Rattle.std.specs.List.{flat_map}
use Rattle.rld_spelling.specs.declared.fault.Cause.TheVariants.{CutShort, OutOfRange, UnknownTag}
use Rattle.rld_spelling.specs.Field.{Field, Reading, fault_at, made_of, both, checked, seen_as, optional, option_spelled, short, short_at, flag, flag_spelled}
use Rattle.rld_spelling.specs.Lists.{list_of}
use Rattle.rld_spelling.specs.Numbers.{number, number_at, number_octets}
use Rattle.rsl_event.specs.declared.event.Decision.{Decision}
use Rattle.rsl_event.specs.declared.event.Decision.TheVariants as decisions
use Rattle.rsl_event.specs.declared.event.Key.{Key}
use Rattle.rsl_event.specs.declared.nas.Nas.{Nas}
use Rattle.rsl_session.specs.declared.kept.KeptAsk.{KeptAsk}
use Rattle.rsl_session.specs.declared.kept.KeptStop.{KeptStop}
use Rattle.rsl_session.specs.declared.saved.SavedBook.{SavedBook}
use Rattle.rsl_session.specs.declared.saved.SavedHolder.{SavedHolder}
use Rattle.rsl_session.specs.declared.saved.SavedHolder.TheVariants as holders
use Rattle.rsl_session.specs.declared.saved.SavedLink.{SavedLink}
use Rattle.rld_spelling.specs.declared.book.Held.{Held}
use Rattle.rld_spelling.specs.Requests.{key_field, key_octets}
use Rattle.rld_spelling.specs.Servers.{nas_field, nas_octets}

-- ---- decisions on asks

unfoldable pub decision_octets : Decision → List ℕ
decision_octets decisions.Done = 0 ∷ []
decision_octets (decisions.Accept number) = 1 ∷ number_octets number
decision_octets decisions.LimitReject = 2 ∷ []

abbrev pub decision_behind : (tag : ℕ) → List ℕ → Reading Decision
decision_behind tag rest =
    if nat_eq tag 0 then Ok (decisions.Done, rest)
    else (if nat_eq tag 1 then made_of (λ number. decisions.Accept number) (number_at rest)
    else (if nat_eq tag 2 then Ok (decisions.LimitReject, rest)
    else fault_at UnknownTag (tag ∷ rest)))

unfoldable pub decision_at : List ℕ → Reading Decision
decision_at [] = fault_at CutShort []
decision_at (tag ∷ rest) = decision_behind tag rest

abbrev pub DecisionFits : Decision → Type 0
DecisionFits (decisions.Accept n) = number.Fits n
DecisionFits _ = Unit {0}

abbrev pub decision_field : Field Decision
decision_field = record { spell = decision_octets; read = decision_at; Fits = DecisionFits }

-- ---- what holds a link, when it opened, and its station
--
-- The tags 0 and 1 are those of format 1, which did not know when a link opened, nor its station. A
-- link of which that is still unknown keeps them.

abbrev pub HolderFits : SavedHolder → Type 0
HolderFits (holders.Reserved n) = number.Fits n
HolderFits (holders.Bound session) = short.Fits session

-- the clock when a link opened, and its station, of which one at least is known
abbrev pub Since : Type 0
Since = ℕ × Option (List ℕ)

abbrev pub is_known : Since → Bool
is_known since = nat_lt 0 since.0 || is_some since.1

abbrev pub since_field : Field Since
since_field = checked OutOfRange is_known (both number (optional short))

unfoldable pub since_at : List ℕ → Reading Since
since_at octets = since_field.read octets

abbrev pub with_since : (front : List ℕ) → Since → List ℕ
with_since front since = front ++ (number_octets since.0 ++ option_spelled short since.1)

abbrev pub holder_octets : SavedHolder → Since → List ℕ
holder_octets (holders.Reserved number) since =
    if is_known since then 2 ∷ with_since (number_octets number) since
    else 0 ∷ number_octets number
holder_octets (holders.Bound session) since =
    if is_known since then 3 ∷ with_since (short.spell session) since
    else 1 ∷ short.spell session

unfoldable pub held_octets : Held → List ℕ
held_octets held = holder_octets held.holder (held.opened, held.station)

abbrev pub held_since : SavedHolder → Since → Held
held_since holder since = record { holder = holder; opened = since.0; station = since.1 }

abbrev pub reserved_by : ℕ → Held
reserved_by number = held_since (holders.Reserved number) (0, None)

abbrev pub bound_to : List ℕ → Held
bound_to session = held_since (holders.Bound session) (0, None)

abbrev pub reserved_since : ℕ × Since → Held
reserved_since parts = held_since (holders.Reserved parts.0) parts.1

abbrev pub bound_since : List ℕ × Since → Held
bound_since parts = held_since (holders.Bound parts.0) parts.1

abbrev pub held_behind : (tag : ℕ) → List ℕ → Reading Held
held_behind tag rest =
    if nat_eq tag 0 then made_of reserved_by (number_at rest)
    else (if nat_eq tag 1 then made_of bound_to (short_at rest)
    else (if nat_eq tag 2 then made_of reserved_since ((both number since_field).read rest)
    else (if nat_eq tag 3 then made_of bound_since ((both short since_field).read rest)
    else fault_at UnknownTag (tag ∷ rest))))

unfoldable pub held_at : List ℕ → Reading Held
held_at [] = fault_at CutShort []
held_at (tag ∷ rest) = held_behind tag rest

abbrev pub HeldFits : Held → Type 0
HeldFits held =
    HolderFits held.holder × (number.Fits held.opened × IfSome held.station short.Fits)

abbrev pub held_field : Field Held
held_field = record { spell = held_octets; read = held_at; Fits = HeldFits }

-- ---- links: the access server, what holds it, its bundle, and the clock at its last touch

abbrev pub held_of : SavedLink → Held
held_of link = held_since link.holder (link.opened, link.station)

abbrev pub LinkParts : Type 0
LinkParts = Nas × (Held × (Option (List ℕ) × ℕ))

abbrev pub link_of : LinkParts → SavedLink
link_of parts = record {
  nas = parts.0;
  holder = parts.1.0.holder;
  bundle = parts.1.1.0;
  station = parts.1.0.station;
  opened = parts.1.0.opened;
  touched = parts.1.1.1;
}

abbrev pub link_parts : SavedLink → LinkParts
link_parts link = (link.nas, (held_of link, (link.bundle, link.touched)))

unfoldable pub link_octets : SavedLink → List ℕ
link_octets link =
    nas_octets link.nas ++ (held_octets (held_of link)
    ++ (option_spelled short link.bundle ++ number_octets link.touched))

abbrev pub link_as : (clients : ℕ) → Field SavedLink
link_as clients =
    seen_as link_of link_parts
    (both (nas_field clients) (both held_field (both (optional short) number)))

unfoldable pub link_at : (clients : ℕ) → List ℕ → Reading SavedLink
link_at clients octets = (link_as clients).read octets

unfoldable pub LinkFits : (clients : ℕ) → SavedLink → Type 0
LinkFits clients link = (link_as clients).Fits link

abbrev pub link_field : (clients : ℕ) → Field SavedLink
link_field clients =
    record { spell = link_octets; read = link_at clients; Fits = LinkFits clients }

-- ---- the last fresh asks

abbrev pub KeptAskParts : Type 0
KeptAskParts = Key × (Nas × (Decision × (ℕ × Bool)))

abbrev pub kept_ask_of : KeptAskParts → KeptAsk
kept_ask_of parts = record {
  key = parts.0;
  nas = parts.1.0;
  decision = parts.1.1.0;
  at = parts.1.1.1.0;
  swept = parts.1.1.1.1;
}

abbrev pub kept_ask_parts : KeptAsk → KeptAskParts
kept_ask_parts ask = (ask.key, (ask.nas, (ask.decision, (ask.at, ask.swept))))

unfoldable pub kept_ask_octets : KeptAsk → List ℕ
kept_ask_octets ask =
    key_octets ask.key ++ (nas_octets ask.nas ++ (decision_octets ask.decision
    ++ (number_octets ask.at ++ flag_spelled ask.swept)))

abbrev pub kept_ask_as : (clients : ℕ) → Field KeptAsk
kept_ask_as clients =
    seen_as kept_ask_of kept_ask_parts
    (both key_field (both (nas_field clients) (both decision_field (both number flag))))

unfoldable pub kept_ask_at : (clients : ℕ) → List ℕ → Reading KeptAsk
kept_ask_at clients octets = (kept_ask_as clients).read octets

unfoldable pub KeptAskFits : (clients : ℕ) → KeptAsk → Type 0
KeptAskFits clients kept_ask = (kept_ask_as clients).Fits kept_ask

abbrev pub kept_ask_field : (clients : ℕ) → Field KeptAsk
kept_ask_field clients =
    record { spell = kept_ask_octets; read = kept_ask_at clients; Fits = KeptAskFits clients }

-- ---- the last stops

abbrev pub KeptStopParts : Type 0
KeptStopParts = Nas × (List ℕ × (ℕ × Bool))

abbrev pub kept_stop_of : KeptStopParts → KeptStop
kept_stop_of parts = record {
  session = record { nas = parts.0; id = parts.1.0 };
  at = parts.1.1.0;
  swept = parts.1.1.1;
}

abbrev pub kept_stop_parts : KeptStop → KeptStopParts
kept_stop_parts stop = (stop.session.nas, (stop.session.id, (stop.at, stop.swept)))

unfoldable pub kept_stop_octets : KeptStop → List ℕ
kept_stop_octets stop =
    nas_octets stop.session.nas ++ (short.spell stop.session.id
    ++ (number_octets stop.at ++ flag_spelled stop.swept))

abbrev pub kept_stop_as : (clients : ℕ) → Field KeptStop
kept_stop_as clients =
    seen_as kept_stop_of kept_stop_parts (both (nas_field clients) (both short (both number flag)))

unfoldable pub kept_stop_at : (clients : ℕ) → List ℕ → Reading KeptStop
kept_stop_at clients octets = (kept_stop_as clients).read octets

unfoldable pub KeptStopFits : (clients : ℕ) → KeptStop → Type 0
KeptStopFits clients kept_stop = (kept_stop_as clients).Fits kept_stop

abbrev pub kept_stop_field : (clients : ℕ) → Field KeptStop
kept_stop_field clients =
    record { spell = kept_stop_octets; read = kept_stop_at clients; Fits = KeptStopFits clients }

-- ---- the whole book

-- a saved book, without the addresses of its lists
pub record BookSeen : Type 0 where
  pub clock : ℕ
  pub accepts : ℕ
  pub over : ℕ
  pub links : List SavedLink
  pub asks : List KeptAsk
  pub stops : List KeptStop

abbrev pub book_seen : SavedBook → BookSeen
book_seen book = record {
  clock = book.clock;
  accepts = book.accepts;
  over = book.over;
  links = book.links.items;
  asks = book.asks.items;
  stops = book.stops.items;
}

abbrev pub BookParts : Type 0
BookParts = ℕ × (ℕ × (ℕ × (List SavedLink × (List KeptAsk × List KeptStop))))

abbrev pub book_of : BookParts → BookSeen
book_of parts = record {
  clock = parts.0;
  accepts = parts.1.0;
  over = parts.1.1.0;
  links = parts.1.1.1.0;
  asks = parts.1.1.1.1.0;
  stops = parts.1.1.1.1.1;
}

abbrev pub book_parts : BookSeen → BookParts
book_parts book = (book.clock, (book.accepts, (book.over, (book.links, (book.asks, book.stops)))))

-- each list after its number
unfoldable pub links_octets : List SavedLink → List ℕ
links_octets links = number_octets (length links) ++ flat_map link_octets links

unfoldable pub links_at : (clients : ℕ) → List ℕ → Reading (List SavedLink)
links_at clients octets = (list_of (link_field clients)).read octets

abbrev pub links_field : (clients : ℕ) → Field (List SavedLink)
links_field clients =
    record { spell = links_octets; read = links_at clients; Fits = (list_of (link_field clients)).Fits }

unfoldable pub asks_octets : List KeptAsk → List ℕ
asks_octets asks = number_octets (length asks) ++ flat_map kept_ask_octets asks

unfoldable pub asks_at : (clients : ℕ) → List ℕ → Reading (List KeptAsk)
asks_at clients octets = (list_of (kept_ask_field clients)).read octets

abbrev pub asks_field : (clients : ℕ) → Field (List KeptAsk)
asks_field clients =
    record { spell = asks_octets; read = asks_at clients; Fits = (list_of (kept_ask_field clients)).Fits }

unfoldable pub stops_octets : List KeptStop → List ℕ
stops_octets stops = number_octets (length stops) ++ flat_map kept_stop_octets stops

unfoldable pub stops_at : (clients : ℕ) → List ℕ → Reading (List KeptStop)
stops_at clients octets = (list_of (kept_stop_field clients)).read octets

abbrev pub stops_field : (clients : ℕ) → Field (List KeptStop)
stops_field clients =
    record { spell = stops_octets; read = stops_at clients; Fits = (list_of (kept_stop_field clients)).Fits }

unfoldable pub book_octets : BookSeen → List ℕ
book_octets book =
    number_octets book.clock ++ (number_octets book.accepts ++ (number_octets book.over
    ++ (links_octets book.links ++ (asks_octets book.asks ++ stops_octets book.stops))))

abbrev pub book_as : (clients : ℕ) → Field BookSeen
book_as clients =
    seen_as book_of book_parts
    (both number (both number (both number
    (both (links_field clients) (both (asks_field clients) (stops_field clients))))))

unfoldable pub book_at : (clients : ℕ) → List ℕ → Reading BookSeen
book_at clients octets = (book_as clients).read octets

unfoldable pub BookFits : (clients : ℕ) → BookSeen → Type 0
BookFits clients book = (book_as clients).Fits book

abbrev pub book_field : (clients : ℕ) → Field BookSeen
book_field clients =
    record { spell = book_octets; read = book_at clients; Fits = BookFits clients }

-- books after their number
abbrev pub books_field : (clients : ℕ) → Field (List BookSeen)
books_field clients = list_of (book_field clients)

abbrev pub books_seen : List SavedBook → List BookSeen
books_seen books = map book_seen books
