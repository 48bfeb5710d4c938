-- What is seen of a book once its inside has changed, and the room that it has.
use Rattle.std.proofs.Common.{◌≡◌, ℕ, Bool, ◌+◌, ◌*◌, ◌-◌, ◌^◌, ◌<◌, ◌≤◌, max, min, List, [], ◌∷◌, ◌++◌, length, length-append, map, take, not, refl, ap, sym, ◌∙◌, subst, arith}
use Rattle.std.specs.Prelude.{Option, None, filter, count_by}
use Rattle.std.proofs.lemmas.List.Sums.{count_by-le-length}
use Rattle.std.proofs.lemmas.List.{take-map, map-append, length-map}
use Rattle.std.proofs.Math.Nat.{mul-le-mul_right}
use Rattle.std.proofs.lemmas.Bool.{le-leb, lt-leb}
use Rattle.rsl_session.specs.declared.session.Session.{Session}
use Rattle.rsl_accounts.specs.declared.rules.Rules.{Rules}
use Rattle.rsl_event.specs.declared.nas.Nas.{Nas}
use Rattle.rsl_session.specs.declared.bundle.Bundle.{Bundle}
use Rattle.rsl_session.specs.declared.kept.KeptAsk.{KeptAsk}
use Rattle.rsl_session.specs.declared.kept.KeptStop.{KeptStop}
use Rattle.rsl_session.specs.Places.{places_of, each_bundle}
use Rattle.rsl_session.specs.Book.{Book, BookLink, Reserved, Bound, bundles_in, places_in}
use Rattle.rsl_session.specs.BookLinks.{lapses_at}
use Rattle.rsl_session.specs.BookStep.{come_to, open_link}
use Rattle.rsl_session.proofs.Callers.{length-le-places}
use Rattle.rsl_book.specs.declared.book.Book.TheInside.{Inside}
use Rattle.rsl_links.specs.declared.links.Links.{Links}
use Rattle.rsl_links.specs.declared.link.Link.{Link}
use Rattle.rsl_links.specs.declared.link.Holder.TheVariants.{Reserved as LinkReserved}
use Rattle.rsl_book.specs.declared.kept.Kept.{Kept}
use Rattle.rsl_book.specs.declared.kept.DecidedAsk.{DecidedAsk}
use Rattle.rsl_book.specs.declared.kept.EndedSession.{EndedSession}
use Rattle.rsl_book.specs.Seen.{ask_seen, asks_seen, stop_seen, stops_seen}
use Rattle.rsl_book.specs.RuledBook.{RuledBook, IsWithinLimit}
use Rattle.rsl_book.specs.BookSeen.{IsSound, running, book_seen}
use Rattle.rsl_links.specs.Seen.{link_seen, links_seen, server_at, bundle_with, holder_at}
use Rattle.rsl_links.specs.declared.link.Holder.{Holder as LinkHolder}
use Rattle.rsl_links.specs.Counted.{AreCounted}
use Rattle.rsl_links.specs.Named.{AreIndexed}
use Rattle.rsl_links.proofs.Callers.{length-bundles, bundles-push}
use Rattle.rsl_links.proofs.Callers.{indexed_none}
use Rattle.rsl_links.proofs.Callers.{own_bundle}

-- two values that agree in all but the lists, and in these
pub same_value : (rules : Rules) (clock accepts over : ℕ) {l m : List BookLink} {a b : List KeptAsk} {s t : List KeptStop} → l ≡ m → a ≡ b → s ≡ t
    → (let one : RuledBook = record { rules = rules; book = record { clock = clock; links = l; accepts = accepts; asks = a; stops = s; over = over } } in
    let other : RuledBook = record { rules = rules; book = record { clock = clock; links = m; accepts = accepts; asks = b; stops = t; over = over } } in one ≡ other)
same_value rules clock accepts over links asks stops = rw (links, asks, stops) refl

pub same_book : (clock accepts over : ℕ) {l m : List BookLink} {a b : List KeptAsk} {s t : List KeptStop} → l ≡ m → a ≡ b → s ≡ t
    → (let one : Book = record { clock = clock; links = l; accepts = accepts; asks = a; stops = s; over = over } in
    let other : Book = record { clock = clock; links = m; accepts = accepts; asks = b; stops = t; over = over } in one ≡ other)
same_book clock accepts over links asks stops = rw (links, asks, stops) refl

-- the places of a sound book
pub held_places : (book : Inside) → IsSound book → book.links.places ≡ places_in book.rules (running book)
unfolding places_in
held_places book sound = sound.counted.places ∙ ap (λ ports. places_of ports (bundles_in (links_seen book.servers book.links.list.items))) sound.ports

pub within_limit : (book : Inside) → IsSound book → IsWithinLimit (book_seen book)
within_limit book sound = record { limit = subst (λ n. n ≤ book.rules.places) (held_places book sound) sound.limit }

pub length-seen : (servers : List Nas) (links : List Link) → length (links_seen servers links) ≡ length links
unfolding links_seen
length-seen servers links = length-map links (link_seen servers)

-- a position within the links that are seen is one within the links
pub within_seen : (book : Inside) (value : RuledBook) (at : ℕ) → book_seen book ≡ value → at < length value.book.links → at < length book.links.list.items
within_seen book value at is within =
    let long = ap (λ (one : RuledBook). length one.book.links) is in
    let seen = length-seen book.servers book.links.list.items in
    omega (arith, long, seen, within)

-- as many links as the places have ports, at most
pub few_links : (servers : List Nas) (links : Links) (limit ports : ℕ) → AreCounted servers links → links.places ≤ limit → links.ports ≡ ports → length links.list.items ≤ limit * ports
few_links servers links limit ports counted within same =
    let most = length-le-places links.ports (bundles_in (links_seen servers links.list.items)) counted.a_port in
    let all = length-bundles servers links.list.items in
    let some : length links.list.items ≤ links.places * links.ports = subst (λ n. length links.list.items ≤ n * links.ports) (sym counted.places) (subst (λ n. n ≤ places_of links.ports (bundles_in (links_seen servers links.list.items)) * links.ports) all most) in
    let bound : links.places * links.ports ≤ limit * links.ports = mul-le-mul_right links.ports within in
    subst (λ n. length links.list.items ≤ limit * n) same (omega arith)

pub few_of : (p : BookLink → Bool) (book : Inside) → IsSound book → count_by p (links_seen book.servers book.links.list.items) ≤ 1024
few_of p book sound =
    let some = count_by-le-length p (links_seen book.servers book.links.list.items) in
    let seen = length-seen book.servers book.links.list.items in
    let few = few_links book.servers book.links book.rules.places book.rules.ports sound.counted sound.limit sound.ports in
    let fit = sound.fit in
    let most : book.rules.places * book.rules.ports ≤ 64 * book.rules.ports = mul-le-mul_right book.rules.ports fit.places in
    omega (arith, some, seen, few, most, fit.ports)

pub room_in_table : (book : Inside) → IsSound book → length book.links.list.items + book.asks.capacity + book.stops.capacity < length book.servers
room_in_table book sound =
    let few = few_links book.servers book.links book.rules.places book.rules.ports sound.counted sound.limit sound.ports in
    let table = sound.table in
    let asks = sound.asks in
    let stops = sound.stops in
    omega arith

-- one link more, for which there is a place, has room
pub room_for_one : (servers : List Nas) (links : Links) (limit ports r capacity : ℕ) (b : Option Bundle) → AreCounted servers links
    → places_of links.ports (bundles_in (links_seen servers links.list.items) ++ b ∷ []) ≡ places_of links.ports (bundles_in (links_seen servers links.list.items)) + r
    → links.places + r ≤ limit → links.ports ≡ ports → limit * ports ≤ capacity → length links.list.items < capacity
room_for_one servers links limit ports r capacity b counted more within same room =
    let most = length-le-places links.ports (bundles_in (links_seen servers links.list.items) ++ b ∷ []) counted.a_port in
    let all = length-bundles servers links.list.items in
    let one_more = length-append (bundles_in (links_seen servers links.list.items)) (b ∷ []) in
    let sum : places_of links.ports (bundles_in (links_seen servers links.list.items) ++ b ∷ []) ≤ limit = let c = counted.places in omega arith in
    let bound : places_of links.ports (bundles_in (links_seen servers links.list.items) ++ b ∷ []) * links.ports ≤ limit * links.ports = mul-le-mul_right links.ports sum in
    let fits : limit * links.ports ≤ capacity = subst (λ n. limit * n ≤ capacity) (sym same) room in
    omega arith

-- links are counted the same where they are seen the same
pub counted_again : (old new : List Nas) (links : Links) → links_seen new links.list.items ≡ links_seen old links.list.items → (AreIndexed old links.list.items → AreIndexed new links.list.items) → AreCounted old links → AreCounted new links
counted_again old new links same stay counted =
    record { a_port = counted.a_port; places = counted.places ∙ ap (λ seen. places_of links.ports (bundles_in seen)) (sym same); indexed = stay counted.indexed }

-- the clock moves, and links lapse
pub come_seen : (book : Inside) (clock : ℕ) (links : List Link) (moment : ℕ) → clock ≡ max book.clock moment
    → links_seen book.servers links ≡ filter (λ (link : BookLink). not (lapses_at book.rules clock link)) (links_seen book.servers book.links.list.items)
    → (let made : RuledBook = record {
      rules = book.rules;
      book = record { clock = clock; links = links_seen book.servers links; accepts = book.accepts; asks = asks_seen book.servers book.asks.items; stops = stops_seen book.servers book.stops.items; over = book.over };
    } in let wanted : RuledBook = record { rules = book.rules; book = come_to book.rules (running book) moment } in made ≡ wanted)
unfolding come_to
come_seen book clock links moment moved lapsed = rw (lapsed, moved) refl

-- an ask or a stop is kept in front of the others
pub pushed_ask : (old new : List Nas) (ask : Kept DecidedAsk) (asks : List (Kept DecidedAsk)) (nas : Nas) (n capacity : ℕ) → capacity ≡ n → server_at new ask.nas ≡ nas → asks_seen new asks ≡ asks_seen old asks
    → (let kept : KeptAsk = record { key = ask.subject.key; nas = nas; decision = ask.subject.decision; at = ask.at; swept = ask.swept } in
    asks_seen new (take capacity (ask ∷ asks)) ≡ take n (kept ∷ asks_seen old asks))
unfolding asks_seen ask_seen
pushed_ask old new ask asks nas n capacity same stands seen =
    sym (take-map (ask_seen new) capacity (ask ∷ asks)) ∙ rw (same, seen, stands) refl

pub pushed_stop : (old new : List Nas) (stop : Kept EndedSession) (stops : List (Kept EndedSession)) (nas : Nas) (n capacity : ℕ) → capacity ≡ n → server_at new stop.nas ≡ nas → stops_seen new stops ≡ stops_seen old stops
    → (let kept : KeptStop = record { session = record { nas = nas; id = stop.subject.id }; at = stop.at; swept = stop.swept } in
    stops_seen new (take capacity (stop ∷ stops)) ≡ take n (kept ∷ stops_seen old stops))
unfolding stops_seen stop_seen
pushed_stop old new stop stops nas n capacity same stands seen =
    sym (take-map (stop_seen new) capacity (stop ∷ stops)) ∙ rw (same, seen, stands) refl

-- a link opens after the others
pub opened_seen : (old new : List Nas) (link : Link) (links all : List Link) (seen : BookLink) → all ≡ links ++ link ∷ [] → links_seen new links ≡ links_seen old links → link_seen new link ≡ seen
    → links_seen new all ≡ links_seen old links ++ seen ∷ []
unfolding links_seen
opened_seen old new link links all seen is same here =
    ap (map (link_seen new)) is ∙ map-append (link_seen new) links (link ∷ []) ∙ rw (same, here) refl

pub opened_within : (servers : List Nas) (old new : Links) (link : Link) (limit r : ℕ) → AreCounted servers old → AreCounted servers new → new.list.items ≡ old.list.items ++ link ∷ [] → new.ports ≡ old.ports
    → places_of old.ports (bundles_in (links_seen servers old.list.items) ++ bundle_with (server_at servers link.nas) link.bundle ∷ []) ≡ places_of old.ports (bundles_in (links_seen servers old.list.items)) + r
    → old.places + r ≤ limit → new.places ≤ limit
opened_within servers old new link limit r counted after is ports more within =
    let all : bundles_in (links_seen servers new.list.items) ≡ bundles_in (links_seen servers old.list.items) ++ bundle_with (server_at servers link.nas) link.bundle ∷ [] =
    ap (λ links. bundles_in (links_seen servers links)) is ∙ bundles-push servers link old.list.items ∙ ap (λ b. bundles_in (links_seen servers old.list.items) ++ b ∷ []) (own_bundle servers link) in
    let sum : new.places ≡ places_of old.ports (bundles_in (links_seen servers old.list.items)) + r =
    after.places ∙ ap (λ n. places_of n (bundles_in (links_seen servers new.list.items))) ports ∙ ap (places_of old.ports) all ∙ more in
    let before = counted.places in
    omega arith

pub reserved_seen : (servers : List Nas) (nas number clock : ℕ) (station : Option (List ℕ)) (at : Nas) → server_at servers nas ≡ at
    → (let link : Link = record { nas = nas; holder = LinkReserved number; bundle = None; station = station; opened = clock; touched = clock } in
    let seen : BookLink = record { nas = at; holder = Reserved number; bundle = None; station = station; opened = clock; touched = clock } in link_seen servers link ≡ seen)
unfolding link_seen
reserved_seen servers nas number clock station at stands = rw stands refl

pub as_saved_seen : (servers : List Nas) (nas opened touched : ℕ) (holder : LinkHolder) (bundle station : Option (List ℕ)) (at : Nas) → server_at servers nas ≡ at
    → (let link : Link = record { nas = nas; holder = holder; bundle = bundle; station = station; opened = opened; touched = touched } in
    let seen : BookLink = record { nas = at; holder = holder_at at holder; bundle = bundle_with at bundle; station = station; opened = opened; touched = touched } in link_seen servers link ≡ seen)
unfolding link_seen
as_saved_seen servers nas opened touched holder bundle station at stands = rw stands refl

-- no links take no place
pub counted_none : (servers : List Nas) (links : Links) → links.list.items ≡ [] → links.places ≡ 0 → 1 ≤ links.ports → AreCounted servers links
unfolding bundles_in links_seen places_of each_bundle
counted_none servers links none zero_places a_port = record { a_port = a_port; places = zero_places ∙ rw none refl; indexed = indexed_none servers links.list.items none }

pub none_seen : (servers : List Nas) (links : List Link) → links ≡ [] → links_seen servers links ≡ []
unfolding links_seen
none_seen servers links none = rw none refl

pub no_asks_seen : (servers : List Nas) (asks : List (Kept DecidedAsk)) → asks ≡ [] → asks_seen servers asks ≡ []
unfolding asks_seen
no_asks_seen servers asks none = rw none refl

pub no_stops_seen : (servers : List Nas) (stops : List (Kept EndedSession)) → stops ≡ [] → stops_seen servers stops ≡ []
unfolding stops_seen
no_stops_seen servers stops none = rw none refl

pub new_table : (most links room : ℕ) → most ≡ links → room ≡ most + 8 + 16 + 1 → links + 24 < room
new_table most links room same is = omega arith

-- the places with a link more, as the table is before its access server is put there
pub open_sum : (old new : List Nas) (links : Links) (ports at r : ℕ) (nas : Nas) (bundle : Option (List ℕ)) → links_seen new links.list.items ≡ links_seen old links.list.items → server_at new at ≡ nas → links.ports ≡ ports
    → AreCounted old links
    → places_of links.ports (bundles_in (links_seen new links.list.items) ++ bundle_with (server_at new at) bundle ∷ []) ≡ places_of links.ports (bundles_in (links_seen new links.list.items)) + r
    → places_of ports (bundles_in (links_seen old links.list.items) ++ bundle_with nas bundle ∷ []) ≡ links.places + r
open_sum old new links ports at r nas bundle same stands is counted more =
    sym (ap (λ p. places_of p (bundles_in (links_seen old links.list.items) ++ bundle_with nas bundle ∷ [])) is)
    ∙ sym (ap (λ seen. places_of links.ports (bundles_in seen ++ bundle_with nas bundle ∷ [])) same)
    ∙ sym (ap (λ (one : Nas). places_of links.ports (bundles_in (links_seen new links.list.items) ++ bundle_with one bundle ∷ [])) stands)
    ∙ more ∙ ap (λ seen. places_of links.ports (bundles_in seen) + r) same ∙ ap (λ n. n + r) (sym counted.places)

pub open_yes : (rules : Rules) (book : Book) (session : Session) (bundle : Option Bundle) (station : Option (List ℕ)) → places_of rules.ports (bundles_in book.links ++ bundle ∷ []) ≤ rules.places
    → open_link rules book session bundle station
    ≡ record book { links = book.links ++ record { nas = session.nas; holder = Bound session; bundle = bundle; station = station; opened = book.clock; touched = book.clock } ∷ [] }
unfolding open_link
open_yes rules book session bundle station fits = rw (le-leb (places_of rules.ports (bundles_in book.links ++ bundle ∷ [])) rules.places fits) refl

pub open_not : (rules : Rules) (book : Book) (session : Session) (bundle : Option Bundle) (station : Option (List ℕ)) → rules.places < places_of rules.ports (bundles_in book.links ++ bundle ∷ [])
    → open_link rules book session bundle station ≡ record book { over = min (book.over + 1) (2 ^ 64 - 1) }
unfolding open_link
open_not rules book session bundle station full = rw (lt-leb (places_of rules.ports (bundles_in book.links ++ bundle ∷ [])) rules.places full) refl

-- a book in which a link was opened, and one in which there was no place for it
pub has_opened : (value new : RuledBook) (clock : ℕ) (nas : Nas) (id : List ℕ) (bundle : Option Bundle) (station : Option (List ℕ)) → clock ≡ value.book.clock
    → places_of value.rules.ports (bundles_in value.book.links ++ bundle ∷ []) ≤ value.rules.places
    → new ≡ record value { book = record value.book { links = value.book.links ++ record { nas = nas; holder = Bound (record { nas = nas; id = id }); bundle = bundle; station = station; opened = clock; touched = clock } ∷ [] } }
    → new ≡ record value { book = open_link value.rules value.book (record { nas = nas; id = id }) bundle station }
has_opened value new clock nas id bundle station same fits is =
    is
    ∙ ap (λ (now : ℕ). let made : RuledBook = record value { book = record value.book { links = value.book.links ++ record { nas = nas; holder = Bound (record { nas = nas; id = id }); bundle = bundle; station = station; opened = now; touched = now } ∷ [] } } in made) same
    ∙ ap (λ (book : Book). let made : RuledBook = record value { book = book } in made)
    (sym (open_yes value.rules value.book (record { nas = nas; id = id }) bundle station fits))

pub has_not_opened : (value new : RuledBook) (over : ℕ) (session : Session) (bundle : Option Bundle) (station : Option (List ℕ)) → over ≡ min (value.book.over + 1) (2 ^ 64 - 1)
    → value.rules.places < places_of value.rules.ports (bundles_in value.book.links ++ bundle ∷ [])
    → new ≡ record value { book = record value.book { over = over } }
    → new ≡ record value { book = open_link value.rules value.book session bundle station }
has_not_opened value new over session bundle station counted full is =
    is
    ∙ ap (λ (count : ℕ). let made : RuledBook = record value { book = record value.book { over = count } } in made) counted
    ∙ ap (λ (book : Book). let made : RuledBook = record value { book = book } in made)
    (sym (open_not value.rules value.book session bundle station full))

pub length-asks : (servers : List Nas) (asks : List (Kept DecidedAsk)) → length (asks_seen servers asks) ≡ length asks
unfolding asks_seen
length-asks servers asks = length-map asks (ask_seen servers)

pub length-stops : (servers : List Nas) (stops : List (Kept EndedSession)) → length (stops_seen servers stops) ≡ length stops
unfolding stops_seen
length-stops servers stops = length-map stops (stop_seen servers)

pub few_after : (servers : List Nas) (book : Inside) (links : Links) (n : ℕ) → IsSound book → AreCounted servers links → links.places ≤ book.links.places → links.ports ≡ book.links.ports → n ≡ length links.list.items
    → n + book.asks.capacity + book.stops.capacity < length book.servers
few_after servers book links n sound counted fewer ports is =
    let few = few_links servers links book.rules.places book.rules.ports counted (let limit = sound.limit in omega arith) (ports ∙ sound.ports) in
    let table = sound.table in
    let asks = sound.asks in
    let stops = sound.stops in
    omega arith

pub counted_copy : (servers copied : List Nas) (links copy : Links) → copied ≡ servers → copy.list.items ≡ links.list.items → copy.ports ≡ links.ports → copy.places ≡ links.places → AreCounted servers links → AreCounted copied copy
counted_copy servers copied links copy same list ports places counted =
    record {
      a_port = let some = counted.a_port in omega arith;
      places = places ∙ counted.places ∙ sym (ap (λ n. places_of n (bundles_in (links_seen copied copy.list.items))) ports ∙ ap (λ one. places_of links.ports (bundles_in (links_seen one copy.list.items))) same ∙ ap (λ xs. places_of links.ports (bundles_in (links_seen servers xs))) list);
      indexed = subst (λ one. AreIndexed one copy.list.items) (sym same) (subst (λ xs. AreIndexed servers xs) (sym list) counted.indexed);
    }
