-- What the code makes of links, asks and stops, one after another.
use Rattle.std.proofs.Common.{◌≡◌, ℕ, ◌+◌, ◌-◌, ◌<◌, ◌≤◌, List, [], ◌∷◌, ◌++◌, take, map, get_or, Bool, true, false, cond, Option, Some, None, refl, ap, sym, ◌∙◌, arith, append-nil, length}
use Rattle.std.specs.Prelude.{count_by, filter, is_some, slice_get}
use Rattle.std.specs.Int.{div_ceil}
use Rattle.std.specs.Option.{option_map, unwrap_or}
use Rattle.std.proofs.lemmas.Bool.{le-leb, lt-leb}
use Rattle.std.proofs.lemmas.List.{map_push, take_all, take_more}
use Rattle.std.proofs.lemmas.List.Sums.{sum_by-append, sum_by-cons}
use Rattle.std.proofs.lemmas.Option.{get_or_from_slice_get, slice_get_within}
use Rattle.rsl_accounts.specs.declared.rules.Rules.{Rules}
use Rattle.rsl_event.specs.declared.nas.Nas.{Nas}
use Rattle.rsl_session.specs.Saved.{saved_book, saved_bundle, saved_holder, saved_link, saved_links}
use Rattle.rsl_session.specs.declared.saved.SavedBook.{SavedBook}
use Rattle.rsl_session.specs.declared.saved.SavedHolder.{SavedHolder}
use Rattle.rsl_session.specs.declared.saved.SavedHolder.TheVariants as saved
use Rattle.rsl_session.specs.declared.saved.SavedLink.{SavedLink}
use Rattle.rsl_session.specs.Book.{BookLink, bundles_in}
use Rattle.rsl_session.specs.Places.{each_bundle, is_bundle, places_of}
use Rattle.rsl_session.specs.declared.bundle.Bundle.{Bundle}
use Rattle.rsl_session.specs.declared.kept.KeptAsk.{KeptAsk}
use Rattle.rsl_session.specs.declared.kept.KeptStop.{KeptStop}
use Rattle.rsl_session.proofs.Callers.{places_of-Some, places_of_alone, places_of_front}
use Rattle.rld_books.specs.Carried.{Next, asks_on, carried_ask, carried_book, carried_bundle, carried_holder, carried_link, carried_nas, carried_stop, finds_place, goes_on, links_on, placed, stops_on}

-- ---- lists that grow by one

next_is : {X : Type 0} (xs : List X) (i : ℕ) (x : X) → i < length xs → x ≡ get_or xs i x → take (i + 1) xs ≡ take i xs ++ x ∷ []
next_is xs i x within is = take_more xs i x within ∙ ap (λ y. take i xs ++ y ∷ []) (sym is)

bundles_push : (links : List BookLink) (link : BookLink) → bundles_in (links ++ link ∷ []) ≡ bundles_in links ++ link.bundle ∷ []
unfolding bundles_in
bundles_push links link = map_push (λ (one : BookLink). one.bundle) links link

saved_push : (links : List SavedLink) (link : SavedLink) → saved_links (links ++ link ∷ []) ≡ saved_links links ++ saved_link link ∷ []
unfolding saved_links
saved_push links link = map_push saved_link links link

-- ---- places

-- the links of a bundle, with one more looked at
pub counted_more : (bundle : Bundle) (links : List SavedLink) (i count more : ℕ) (link : SavedLink) → i < length links → link ≡ get_or links i link
    → count ≡ count_by (is_bundle bundle) (bundles_in (saved_links (take i links))) → more ≡ cond (is_bundle bundle (saved_link link).bundle) 1 0
    → count + more ≡ count_by (is_bundle bundle) (bundles_in (saved_links (take (i + 1) links)))
counted_more bundle links i count more link within is so_far this =
    let had : List (Option Bundle) = bundles_in (saved_links (take i links)) in
    let grown : bundles_in (saved_links (take (i + 1) links)) ≡ had ++ (saved_link link).bundle ∷ [] =
    ap (λ l. bundles_in (saved_links l)) (next_is links i link within is) ∙ ap bundles_in (saved_push (take i links) link) ∙ bundles_push (saved_links (take i links)) (saved_link link) in
    let split : count_by (is_bundle bundle) (had ++ (saved_link link).bundle ∷ []) ≡ count_by (is_bundle bundle) had + count_by (is_bundle bundle) ((saved_link link).bundle ∷ []) =
    sum_by-append (λ x. cond (is_bundle bundle x) 1 0) had ((saved_link link).bundle ∷ []) in
    let one : count_by (is_bundle bundle) ((saved_link link).bundle ∷ []) ≡ cond (is_bundle bundle (saved_link link).bundle) 1 0 + 0 =
    sum_by-cons (λ x. cond (is_bundle bundle x) 1 0) (saved_link link).bundle [] in
    omega (arith, so_far, this, split, one, ap (count_by (is_bundle bundle)) grown)

pub counted_all : (bundle : Bundle) (links : List SavedLink) (i : ℕ) → length links ≤ i
    → count_by (is_bundle bundle) (bundles_in (saved_links (take i links))) ≡ count_by (is_bundle bundle) (bundles_in (saved_links links))
counted_all bundle links i past = ap (λ l. count_by (is_bundle bundle) (bundles_in (saved_links l))) (take_all i links past)

-- a link more without a bundle, and with one
pub more_alone : (ports : ℕ) (links : List SavedLink) (link : SavedLink) → 1 ≤ ports → link.bundle ≡ None
    → places_of ports (bundles_in (saved_links links) ++ (saved_link link).bundle ∷ []) ≡ places_of ports (bundles_in (saved_links links)) + 1
unfolding saved_link
more_alone ports links link some is =
    let xs : List (Option Bundle) = bundles_in (saved_links links) in
    ap (λ (bundle : Option (List ℕ)). places_of ports (xs ++ saved_bundle link.nas bundle ∷ [])) is
    ∙ places_of_alone ports xs [] (omega (arith, some)) ∙ ap (λ ys. places_of ports ys + 1) (append-nil xs)

pub more_bundled : (ports m n : ℕ) (links : List SavedLink) (link : SavedLink) (id : List ℕ) → 1 ≤ ports → link.bundle ≡ Some id
    → m ≡ count_by (is_bundle (record { nas = link.nas; id = id })) (bundles_in (saved_links links)) → n ≡ div_ceil (m + 1) ports - div_ceil m ports
    → places_of ports (bundles_in (saved_links links) ++ (saved_link link).bundle ∷ []) ≡ places_of ports (bundles_in (saved_links links)) + n
unfolding saved_link
more_bundled ports m n links link id some is members grown =
    let xs : List (Option Bundle) = bundles_in (saved_links links) in
    let bundle : Bundle = record { nas = link.nas; id = id } in
    ap (λ (one : Option (List ℕ)). places_of ports (xs ++ saved_bundle link.nas one ∷ [])) is
    ∙ places_of_front ports (Some bundle) xs [] (omega (arith, some)) ∙ ap (λ ys. places_of ports (Some bundle ∷ ys)) (append-nil xs)
    ∙ places_of-Some ports bundle xs (omega (arith, some))
    ∙ ap (λ k. places_of ports xs + (div_ceil k ports - div_ceil (count_by (is_bundle bundle) xs) ports)) (omega arith)
    ∙ ap (λ k. places_of ports xs + (div_ceil (k + 1) ports - div_ceil k ports)) (sym members)
    ∙ ap (λ k. places_of ports xs + k) (sym grown)

-- no link takes a place
pub none_placed : (ports : ℕ) → 0 ≡ places_of ports (bundles_in (saved_links []))
unfolding places_of each_bundle bundles_in saved_links
none_placed ports = refl

-- a link that finds a place, and one that finds none
placed_one : (rules : Rules) (links : List BookLink) (link : BookLink) → placed rules links (link ∷ []) ≡ cond (finds_place rules links link) (links ++ link ∷ []) links
unfolding placed
placed_one rules links link = refl

pub put_in : (rules : Rules) (links new : List SavedLink) (link : SavedLink) (places more : ℕ) → new ≡ links ++ link ∷ []
    → places_of rules.ports (bundles_in (saved_links links) ++ (saved_link link).bundle ∷ []) ≡ places_of rules.ports (bundles_in (saved_links links)) + more
    → places ≡ places_of rules.ports (bundles_in (saved_links links)) → places + more ≤ rules.places
    → saved_links new ≡ placed rules (saved_links links) (saved_link link ∷ [])
put_in rules links new link places more pushed adds counted fits =
    let found : finds_place rules (saved_links links) (saved_link link) ≡ true =
    le-leb (places_of rules.ports (bundles_in (saved_links links) ++ (saved_link link).bundle ∷ [])) rules.places (omega (arith, adds, counted, fits)) in
    ap saved_links pushed ∙ saved_push links link
    ∙ sym (placed_one rules (saved_links links) (saved_link link) ∙ ap (λ (t : Bool). cond t (saved_links links ++ saved_link link ∷ []) (saved_links links)) found)

pub put_out : (rules : Rules) (links : List SavedLink) (link : SavedLink) (places more : ℕ)
    → places_of rules.ports (bundles_in (saved_links links) ++ (saved_link link).bundle ∷ []) ≡ places_of rules.ports (bundles_in (saved_links links)) + more
    → places ≡ places_of rules.ports (bundles_in (saved_links links)) → rules.places < places + more
    → saved_links links ≡ placed rules (saved_links links) (saved_link link ∷ [])
put_out rules links link places more adds counted full =
    let lost : finds_place rules (saved_links links) (saved_link link) ≡ false =
    lt-leb (places_of rules.ports (bundles_in (saved_links links) ++ (saved_link link).bundle ∷ [])) rules.places (omega (arith, adds, counted, full)) in
    sym (placed_one rules (saved_links links) (saved_link link) ∙ ap (λ (t : Bool). cond t (saved_links links ++ saved_link link ∷ []) (saved_links links)) lost)

pub put_counted : (ports : ℕ) (links new : List SavedLink) (link : SavedLink) (places more : ℕ) → new ≡ links ++ link ∷ []
    → places_of ports (bundles_in (saved_links links) ++ (saved_link link).bundle ∷ []) ≡ places_of ports (bundles_in (saved_links links)) + more
    → places ≡ places_of ports (bundles_in (saved_links links)) → places + more ≡ places_of ports (bundles_in (saved_links new))
put_counted ports links new link places more pushed adds counted =
    let grown : bundles_in (saved_links new) ≡ bundles_in (saved_links links) ++ (saved_link link).bundle ∷ [] =
    ap (λ l. bundles_in (saved_links l)) pushed ∙ ap bundles_in (saved_push links link) ∙ bundles_push (saved_links links) (saved_link link) in
    omega (arith, adds, counted, ap (places_of ports) grown)

-- ---- what goes on, one after another

filter_push : {X Y : Type 0} (keep : X → Bool) (change : X → Y) (xs ys : List X) → map change (filter keep (xs ++ ys)) ≡ map change (filter keep xs) ++ map change (filter keep ys)
filter_push keep change [] ys = refl
filter_push keep change (x ∷ xs) ys = by (keep x) (filter_push keep change xs ys)
  where
    by : (t : Bool) → map change (filter keep (xs ++ ys)) ≡ map change (filter keep xs) ++ map change (filter keep ys)
        → map change (cond t (x ∷ filter keep (xs ++ ys)) (filter keep (xs ++ ys))) ≡ map change (cond t (x ∷ filter keep xs) (filter keep xs)) ++ map change (filter keep ys)
    by true rest = ap (λ l. change x ∷ l) rest
    by false rest = rest

placed-append : (rules : Rules) (links more rest : List BookLink) → placed rules (placed rules links more) rest ≡ placed rules links (more ++ rest)
unfolding placed
placed-append rules links [] rest = refl
placed-append rules links (link ∷ more) rest =
    by (finds_place rules links link) (placed-append rules (links ++ link ∷ []) more rest) (placed-append rules links more rest)
  where
    by : (t : Bool) → placed rules (placed rules (links ++ link ∷ []) more) rest ≡ placed rules (links ++ link ∷ []) (more ++ rest)
        → placed rules (placed rules links more) rest ≡ placed rules links (more ++ rest)
        → placed rules (cond t (placed rules (links ++ link ∷ []) more) (placed rules links more)) rest
        ≡ cond t (placed rules (links ++ link ∷ []) (more ++ rest)) (placed rules links (more ++ rest))
    by true with without = with
    by false with without = without

links_on-push : (next : Next) (links : List BookLink) (link : BookLink) → links_on next (links ++ link ∷ []) ≡ links_on next links ++ links_on next (link ∷ [])
unfolding links_on
links_on-push next links link = filter_push (λ (one : BookLink). goes_on next one.nas) (carried_link next) links (link ∷ [])

-- with a link more that was looked at
pub links_more : (next : Next) (rules : Rules) (links : List SavedLink) (i : ℕ) (link : SavedLink) (had new : List BookLink) → i < length links → link ≡ get_or links i link
    → had ≡ placed rules [] (links_on next (saved_links (take i links))) → new ≡ placed rules had (links_on next (saved_link link ∷ []))
    → new ≡ placed rules [] (links_on next (saved_links (take (i + 1) links)))
links_more next rules links i link had new within is so_far this =
    let before : List BookLink = links_on next (saved_links (take i links)) in
    this ∙ ap (λ l. placed rules l (links_on next (saved_link link ∷ []))) so_far
    ∙ placed-append rules [] before (links_on next (saved_link link ∷ []))
    ∙ ap (placed rules []) (sym (links_on-push next (saved_links (take i links)) (saved_link link)))
    ∙ ap (λ l. placed rules [] (links_on next l)) (sym (saved_push (take i links) link))
    ∙ ap (λ l. placed rules [] (links_on next (saved_links l))) (sym (next_is links i link within is))

pub asks_more : (next : Next) (asks : List KeptAsk) (i : ℕ) (ask : KeptAsk) (had new : List KeptAsk) → i < length asks → ask ≡ get_or asks i ask
    → had ≡ asks_on next (take i asks) → new ≡ had ++ asks_on next (ask ∷ []) → new ≡ asks_on next (take (i + 1) asks)
unfolding asks_on
asks_more next asks i ask had new within is so_far this =
    this ∙ ap (λ l. l ++ asks_on next (ask ∷ [])) so_far ∙ sym (filter_push (λ (one : KeptAsk). goes_on next one.nas) (carried_ask next) (take i asks) (ask ∷ []))
    ∙ ap (asks_on next) (sym (next_is asks i ask within is))

pub asks_all : (next : Next) (asks : List KeptAsk) (i : ℕ) → length asks ≤ i → asks_on next (take i asks) ≡ asks_on next asks
asks_all next asks i past = ap (asks_on next) (take_all i asks past)

pub stops_more : (next : Next) (stops : List KeptStop) (i : ℕ) (stop : KeptStop) (had new : List KeptStop) → i < length stops → stop ≡ get_or stops i stop
    → had ≡ stops_on next (take i stops) → new ≡ had ++ stops_on next (stop ∷ []) → new ≡ stops_on next (take (i + 1) stops)
unfolding stops_on
stops_more next stops i stop had new within is so_far this =
    this ∙ ap (λ l. l ++ stops_on next (stop ∷ [])) so_far ∙ sym (filter_push (λ (one : KeptStop). goes_on next one.session.nas) (carried_stop next) (take i stops) (stop ∷ []))
    ∙ ap (stops_on next) (sym (next_is stops i stop within is))

pub stops_all : (next : Next) (stops : List KeptStop) (i : ℕ) → length stops ≤ i → stops_on next (take i stops) ≡ stops_on next stops
stops_all next stops i past = ap (stops_on next) (take_all i stops past)

-- ---- one of them

-- one that goes on, and one that does not
one_on : {X Y : Type 0} (keep : X → Bool) (change : X → Y) (x : X) → keep x ≡ true → map change (filter keep (x ∷ [])) ≡ change x ∷ []
one_on keep change x goes = ap (λ (t : Bool). map change (cond t (x ∷ []) [])) goes

one_gone : {X Y : Type 0} (keep : X → Bool) (change : X → Y) (x : X) → keep x ≡ false → map change (filter keep (x ∷ [])) ≡ []
one_gone keep change x gone = ap (λ (t : Bool). map change (cond t (x ∷ []) [])) gone

pub link_on : (next : Next) (link : SavedLink) (client : ℕ) → next link.nas.client ≡ Some client → links_on next (saved_link link ∷ []) ≡ carried_link next (saved_link link) ∷ []
unfolding links_on saved_link
link_on next link client is = one_on (λ (one : BookLink). goes_on next one.nas) (carried_link next) (saved_link link) (ap is_some is)

pub link_gone : (next : Next) (link : SavedLink) → next link.nas.client ≡ None → links_on next (saved_link link ∷ []) ≡ []
unfolding links_on saved_link
link_gone next link is = one_gone (λ (one : BookLink). goes_on next one.nas) (carried_link next) (saved_link link) (ap is_some is)

pub placed_none : (rules : Rules) (links : List BookLink) → placed rules links [] ≡ links
unfolding placed
placed_none rules links = refl

pub ask_on : (next : Next) (ask : KeptAsk) (client : ℕ) → next ask.nas.client ≡ Some client → asks_on next (ask ∷ []) ≡ carried_ask next ask ∷ []
unfolding asks_on
ask_on next ask client is = one_on (λ (one : KeptAsk). goes_on next one.nas) (carried_ask next) ask (ap is_some is)

pub ask_gone : (next : Next) (ask : KeptAsk) → next ask.nas.client ≡ None → asks_on next (ask ∷ []) ≡ []
unfolding asks_on
ask_gone next ask is = one_gone (λ (one : KeptAsk). goes_on next one.nas) (carried_ask next) ask (ap is_some is)

pub stop_on : (next : Next) (stop : KeptStop) (client : ℕ) → next stop.session.nas.client ≡ Some client → stops_on next (stop ∷ []) ≡ carried_stop next stop ∷ []
unfolding stops_on
stop_on next stop client is = one_on (λ (one : KeptStop). goes_on next one.session.nas) (carried_stop next) stop (ap is_some is)

pub stop_gone : (next : Next) (stop : KeptStop) → next stop.session.nas.client ≡ None → stops_on next (stop ∷ []) ≡ []
unfolding stops_on
stop_gone next stop is = one_gone (λ (one : KeptStop). goes_on next one.session.nas) (carried_stop next) stop (ap is_some is)

-- ---- what is made of one

holder_on : (next : Next) (nas : Nas) (holder : SavedHolder) → saved_holder (carried_nas next nas) holder ≡ carried_holder next (saved_holder nas holder)
holder_on next nas (saved.Reserved number) = refl
holder_on next nas (saved.Bound id) = refl

bundle_on : (next : Next) (nas : Nas) (bundle : Option (List ℕ)) → saved_bundle (carried_nas next nas) bundle ≡ option_map (carried_bundle next) (saved_bundle nas bundle)
bundle_on next nas None = refl
bundle_on next nas (Some id) = refl

-- an access server under the number of its client
pub nas_on : (next : Next) (nas made : Nas) (client : ℕ) → next nas.client ≡ Some client → made ≡ record { client = client; name = nas.name } → made ≡ carried_nas next nas
nas_on next nas made client is are = are ∙ ap (λ (o : Option ℕ). record { client = unwrap_or o nas.client; name = nas.name }) (sym is)

pub link_made : (next : Next) (link made : SavedLink) (client : ℕ) → next link.nas.client ≡ Some client → made.nas ≡ record { client = client; name = link.nas.name }
    → made.holder ≡ link.holder → made.bundle ≡ link.bundle → made.station ≡ link.station → made.opened ≡ link.opened → made.touched ≡ link.touched → saved_link made ≡ carried_link next (saved_link link)
unfolding saved_link
link_made next link made client is nas holder bundle station opened touched =
    let server : made.nas ≡ carried_nas next link.nas = nas_on next link.nas made.nas client is nas in
    let held : saved_holder made.nas made.holder ≡ carried_holder next (saved_holder link.nas link.holder) =
    ap (λ (n : Nas). saved_holder n made.holder) server ∙ ap (saved_holder (carried_nas next link.nas)) holder ∙ holder_on next link.nas link.holder in
    let bundled : saved_bundle made.nas made.bundle ≡ option_map (carried_bundle next) (saved_bundle link.nas link.bundle) =
    ap (λ (n : Nas). saved_bundle n made.bundle) server ∙ ap (saved_bundle (carried_nas next link.nas)) bundle ∙ bundle_on next link.nas link.bundle in
    (λ i. record { nas = server i; holder = held i; bundle = bundled i; station = station i; opened = opened i; touched = touched i })

pub book_made : (next : Next) (rules : Rules) (kept made : SavedBook) → made.clock ≡ kept.clock → saved_links made.links.items ≡ placed rules [] (links_on next (saved_links kept.links.items))
    → made.accepts ≡ kept.accepts → made.asks.items ≡ asks_on next kept.asks.items → made.stops.items ≡ stops_on next kept.stops.items → made.over ≡ kept.over
    → saved_book made ≡ carried_book next rules (saved_book kept)
unfolding saved_book carried_book
book_made next rules kept made clock links accepts asks stops over =
    (λ i. record { clock = clock i; links = links i; accepts = accepts i; asks = asks i; stops = stops i; over = over i })

-- ---- a list that is made of another one, element by element

pub one_more : {X Y : Type 0} (f : X → Y) (xs : List X) (i : ℕ) (x : X) (made : List Y) (y : Y)
    → slice_get xs i ≡ Some x → made ≡ map f (take i xs) → y ≡ f x → made ++ y ∷ [] ≡ map f (take (i + 1) xs)
one_more f xs i x made y there so_far is =
    ap (λ l. l ++ y ∷ []) so_far
    ∙ ap (λ z. map f (take i xs) ++ z ∷ []) is
    ∙ sym (map_push f (take i xs) x)
    ∙ ap (λ z. map f (take i xs ++ z ∷ [])) (sym (get_or_from_slice_get xs i x x there))
    ∙ ap (map f) (sym (take_more xs i x (slice_get_within xs i x there)))

-- ---- where nothing was looked at

pub asks_none : (next : Next) → asks_on next [] ≡ []
unfolding asks_on
asks_none next = refl

pub stops_none : (next : Next) → stops_on next [] ≡ []
unfolding stops_on
stops_none next = refl

pub links_none : (next : Next) (rules : Rules) → saved_links [] ≡ placed rules [] (links_on next (saved_links []))
unfolding placed links_on saved_links
links_none next rules = refl

pub none_counted : (bundle : Bundle) → 0 ≡ count_by (is_bundle bundle) (bundles_in (saved_links []))
unfolding bundles_in saved_links
none_counted bundle = refl

pub at_most_one : (t : Bool) (more : ℕ) → more ≡ cond t 1 0 → more ≤ 1
at_most_one true more is = omega (arith, is)
at_most_one false more is = omega (arith, is)
