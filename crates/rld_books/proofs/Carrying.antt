-- What goes on of a book.
use Rattle.std.proofs.Common.{◌≡◌, ℕ, ◌-◌, ◌<◌, ◌≤◌, max, List, [], ◌∷◌, ◌++◌, map, Bool, true, false, ◌&&◌, ◌||◌, ◌==◌, cond, Option, Some, None, refl, ap, sym, ◌∙◌, subst, arith, append-nil, append_assoc}
use Rattle.std.specs.Prelude.{filter, find, is_some, nat_lt, not}
use Rattle.std.specs.List.{AllByRecursion, list_any}
use Rattle.std.specs.Option.{option_map, unwrap_or}
use Rattle.std.proofs.lemmas.Bool.{eq-eqb, eqb-true, false≢true, false_from_ne_true, le-leb, leb-true, leb-false}
use Rattle.std.proofs.lemmas.List.{map-append}
use Rattle.std.proofs.lemmas.List.Elements.{All-from_recursion}
use Rattle.rsl_accounts.specs.Configuration.{same_octets}
use Rattle.rsl_accounts.specs.declared.rules.Rules.{Rules}
use Rattle.rsl_event.specs.declared.event.Key.{Key}
use Rattle.rsl_event.specs.declared.nas.Nas.{Nas}
use Rattle.rsl_session.specs.Saved.{saved_book, saved_bundle, saved_link, saved_links}
use Rattle.rsl_session.specs.declared.saved.SavedLink.{SavedLink}
use Rattle.rsl_session.specs.Ask.{repeats}
use Rattle.rsl_session.specs.Book.{BookLink, bundles_in, places_in}
use Rattle.rsl_session.specs.BookStep.{ask, come_to, step}
use Rattle.rsl_session.specs.Closed.{closes}
use Rattle.rsl_session.specs.Places.{places_of, each_bundle}
use Rattle.rsl_session.specs.Same.{same_bundle, same_name, same_nas, same_session}
use Rattle.rsl_session.specs.declared.bundle.Bundle.{Bundle}
use Rattle.rsl_session.specs.declared.kept.KeptAsk.{KeptAsk}
use Rattle.rsl_session.specs.declared.kept.KeptStop.{KeptStop}
use Rattle.rsl_session.specs.declared.session.Session.{Session}
use Rattle.rld_books.specs.Carried.{Next, asks_on, carried_ask, carried_book, carried_bundle, carried_link, carried_nas, carried_session, carried_stop, finds_place, goes_on, links_on, placed, stops_on}
use Rattle.rld_books.specs.Laws.{ClosedSessionsStay, IsNext, IsOneToOne, NobodyNewComesIn, NothingGoneIsLeft, PlacesStayWithinTheLimit, RepeatsOpenNothing, SessionsStay}
use Rattle.rld_books.proofs.Places.{AreOf, fewer, front_fits, full, same_places}

-- ---- access servers under other numbers

-- two clients that go on have one number exactly where they are one client
same_clients : (next : Next) (one other : ℕ) → IsOneToOne next → is_some (next one) ≡ true → is_some (next other) ≡ true
    → (unwrap_or (next one) one == unwrap_or (next other) other) ≡ (one == other)
same_clients next one other once goes also = by (next one) (next other) refl refl
  where
    by : (o p : Option ℕ) → next one ≡ o → next other ≡ p → (unwrap_or (next one) one == unwrap_or (next other) other) ≡ (one == other)
    by None p is are = absurd (false≢true (ap is_some (sym is) ∙ goes))
    by (Some m) None is are = absurd (false≢true (ap is_some (sym are) ∙ also))
    by (Some m) (Some n) is are =
        ap (λ (o : Option ℕ). unwrap_or o one == unwrap_or (next other) other) is ∙ ap (λ (o : Option ℕ). m == unwrap_or o other) are ∙ told (m == n) refl
      where
        told : (t : Bool) → (m == n) ≡ t → (m == n) ≡ (one == other)
        told true same = same ∙ sym (eq-eqb one other (once one other m is (are ∙ ap Some (sym (eqb-true m n same)))))
        told false apart =
            apart ∙ sym (false_from_ne_true (one == other) (λ (same : (one == other) ≡ true).
            let equal : one ≡ other = eqb-true one other same in
            let numbers : Some m ≡ Some n = sym is ∙ ap next equal ∙ are in
            false≢true (sym apart ∙ eq-eqb m n (ap (λ (o : Option ℕ). unwrap_or o 0) numbers))))

same_servers : (next : Next) (one other : Nas) → IsOneToOne next → goes_on next one ≡ true → goes_on next other ≡ true
    → same_nas (carried_nas next one) (carried_nas next other) ≡ same_nas one other
unfolding same_nas
same_servers next one other once goes also = ap (λ (t : Bool). t && same_name one.name other.name) (same_clients next one.client other.client once goes also)

same_bundles : (next : Next) → IsOneToOne next → (one other : Bundle) → goes_on next one.nas ≡ true → goes_on next other.nas ≡ true
    → same_bundle (carried_bundle next one) (carried_bundle next other) ≡ same_bundle one other
unfolding same_bundle
same_bundles next once one other goes also = ap (λ (t : Bool). t && same_octets one.id other.id) (same_servers next one.nas other.nas once goes also)

same_sessions : (next : Next) → IsOneToOne next → (one other : Session) → goes_on next one.nas ≡ true → goes_on next other.nas ≡ true
    → same_session (carried_session next one) (carried_session next other) ≡ same_session one other
unfolding same_session
same_sessions next once one other goes also = ap (λ (t : Bool). t && same_octets one.id other.id) (same_servers next one.nas other.nas once goes also)

-- ---- links that find a place

bundles_more : (links more : List BookLink) → bundles_in (links ++ more) ≡ bundles_in links ++ bundles_in more
unfolding bundles_in
bundles_more links more = map-append (λ (link : BookLink). link.bundle) links more

bundles_push : (links : List BookLink) (link : BookLink) → bundles_in (links ++ link ∷ []) ≡ bundles_in links ++ link.bundle ∷ []
unfolding bundles_in
bundles_push links link = bundles_more links (link ∷ [])

-- where all of them find places, none is left out
all_placed : (rules : Rules) (links more : List BookLink) → 0 < rules.ports → places_of rules.ports (bundles_in (links ++ more)) ≤ rules.places
    → placed rules links more ≡ links ++ more
unfolding placed bundles_in
all_placed rules links [] some fits = sym (append-nil links)
all_placed rules links (link ∷ more) some fits =
    let split : bundles_in (links ++ link ∷ more) ≡ (bundles_in links ++ link.bundle ∷ []) ++ bundles_in more =
    bundles_more links (link ∷ more) ∙ sym (append_assoc (bundles_in links) (link.bundle ∷ []) (bundles_in more)) in
    let front = front_fits rules.ports some (bundles_in links ++ link.bundle ∷ []) (bundles_in more) in
    let same = ap (places_of rules.ports) split in
    let found : finds_place rules links link ≡ true = le-leb (places_of rules.ports (bundles_in links ++ link.bundle ∷ [])) rules.places (omega (arith, front, same, fits)) in
    let whole : (links ++ link ∷ []) ++ more ≡ links ++ link ∷ more = append_assoc links (link ∷ []) more in
    ap (λ (t : Bool). cond t (placed rules (links ++ link ∷ []) more) (placed rules links more)) found
    ∙ all_placed rules (links ++ link ∷ []) more some (subst (λ (l : List BookLink). places_of rules.ports (bundles_in l) ≤ rules.places) (sym whole) fits)
    ∙ whole

-- and whatever they are, what is placed is within the limit
placed_within : (rules : Rules) (links more : List BookLink) → places_of rules.ports (bundles_in links) ≤ rules.places
    → places_of rules.ports (bundles_in (placed rules links more)) ≤ rules.places
unfolding placed
placed_within rules links [] fits = fits
placed_within rules links (link ∷ more) fits = by (finds_place rules links link) refl (placed_within rules (links ++ link ∷ []) more) (placed_within rules links more fits)
  where
    by : (t : Bool) → finds_place rules links link ≡ t
        → (places_of rules.ports (bundles_in (links ++ link ∷ [])) ≤ rules.places → places_of rules.ports (bundles_in (placed rules (links ++ link ∷ []) more)) ≤ rules.places)
        → places_of rules.ports (bundles_in (placed rules links more)) ≤ rules.places
        → places_of rules.ports (bundles_in (cond t (placed rules (links ++ link ∷ []) more) (placed rules links more))) ≤ rules.places
    by true found with without = with (subst (λ (l : List (Option Bundle)). places_of rules.ports l ≤ rules.places) (sym (bundles_push links link)) (leb-true (places_of rules.ports (bundles_in links ++ link.bundle ∷ [])) rules.places found))
    by false lost with without = without

-- ---- the laws

no_places : (ports : ℕ) → places_of ports [] ≤ 0
unfolding places_of each_bundle
no_places ports = omega arith

pub limit_holds : PlacesStayWithinTheLimit
unfolding places_in carried_book bundles_in
limit_holds next rules book = placed_within rules [] (links_on next book.links) (omega (arith, no_places rules.ports))

at_server : (next : Next) (nas : Nas) (id : Option (List ℕ)) (xs : List (Option Bundle)) → goes_on next nas ≡ true → AreOf (λ (bundle : Bundle). goes_on next bundle.nas ≡ true) xs
    → AreOf (λ (bundle : Bundle). goes_on next bundle.nas ≡ true) (saved_bundle nas id ∷ xs)
unfolding AreOf
at_server next nas None xs goes all = all
at_server next nas (Some id) xs goes all = (goes, all)

-- the bundles of links that go on are at access servers that do
of_those : (next : Next) (links : List SavedLink) → AreOf (λ (bundle : Bundle). goes_on next bundle.nas ≡ true)
    (map (λ (link : BookLink). link.bundle) (filter (λ (link : BookLink). goes_on next link.nas) (map saved_link links)))
unfolding AreOf saved_link
of_those next [] = tt
of_those next (link ∷ links) = by (goes_on next link.nas) refl (of_those next links)
  where
    rest : List BookLink
    rest = filter (λ (one : BookLink). goes_on next one.nas) (map saved_link links)

    by : (t : Bool) → goes_on next link.nas ≡ t → AreOf (λ (bundle : Bundle). goes_on next bundle.nas ≡ true) (map (λ (one : BookLink). one.bundle) rest)
        → AreOf (λ (bundle : Bundle). goes_on next bundle.nas ≡ true) (map (λ (one : BookLink). one.bundle) (cond t (saved_link link ∷ rest) rest))
    by true goes all = at_server next link.nas link.bundle (map (λ (one : BookLink). one.bundle) rest) goes all
    by false gone all = all

named : (next : Next) (links : List BookLink) → map (λ (link : BookLink). link.bundle) (map (carried_link next) links) ≡ map (option_map (carried_bundle next)) (map (λ (link : BookLink). link.bundle) links)
named next [] = refl
named next (link ∷ links) = ap (λ (l : List (Option Bundle)). option_map (carried_bundle next) link.bundle ∷ l) (named next links)

pub stay : SessionsStay
unfolding places_in carried_book bundles_in links_on saved_book saved_links
stay next rules kept fit once within =
    let links : List BookLink = map saved_link kept.links.items in
    let some : 0 < rules.ports = omega (arith, fit.a_port) in
    let keep : BookLink → Bool = λ (link : BookLink). goes_on next link.nas in
    let bundle : BookLink → Option Bundle = λ (link : BookLink). link.bundle in
    let names = ap (places_of rules.ports) (named next (filter keep links)) in
    let same = same_places (λ (one : Bundle). goes_on next one.nas ≡ true) (carried_bundle next) (same_bundles next once) rules.ports (map bundle (filter keep links)) some (of_those next kept.links.items) in
    let less = fewer rules.ports some bundle keep [] links in
    all_placed rules [] (links_on next links) some (omega (arith, names, same, less, within))

find_among : {X : Type 0} (test keep : X → Bool) (xs : List X) (x : X) → find test xs ≡ Some x → keep x ≡ true → find test (filter keep xs) ≡ Some x
find_among test keep [] x is keeps = is
find_among test keep (y ∷ xs) x is keeps = by (test y) (keep y) refl refl is (λ later. find_among test keep xs x later keeps)
  where
    same : Some y ≡ Some x → y ≡ x
    same e = cc

    by : (t k : Bool) → test y ≡ t → keep y ≡ k → cond t (Some y) (find test xs) ≡ Some x → (find test xs ≡ Some x → find test (filter keep xs) ≡ Some x)
        → find test (cond k (y ∷ filter keep xs) (filter keep xs)) ≡ Some x
    by true true passes kept is rest = ap (λ (t : Bool). cond t (Some y) (find test (filter keep xs))) passes ∙ is
    by true false passes left is rest = absurd (false≢true (sym left ∙ ap keep (same is) ∙ keeps))
    by false true fails kept is rest = ap (λ (t : Bool). cond t (Some y) (find test (filter keep xs))) fails ∙ rest is
    by false false fails left is rest = rest is

find_mapped : {X : Type 0} (test : X → Bool) (change : X → X) (same : (x : X) → test (change x) ≡ test x) (xs : List X) (x : X) → find test xs ≡ Some x → find test (map change xs) ≡ Some (change x)
find_mapped test change same [] x is = absurd (none is)
  where
    none : None ≡ Some x → ⊥
    none e = cc
find_mapped test change same (y ∷ xs) x is = by (test y) refl is (find_mapped test change same xs x)
  where
    first : Some y ≡ Some x → y ≡ x
    first e = cc

    by : (t : Bool) → test y ≡ t → cond t (Some y) (find test xs) ≡ Some x → (find test xs ≡ Some x → find test (map change xs) ≡ Some (change x)) → find test (change y ∷ map change xs) ≡ Some (change x)
    by true passes is rest = ap (λ (t : Bool). cond t (Some (change y)) (find test (map change xs))) (same y ∙ passes) ∙ ap (λ z. Some (change z)) (first is)
    by false fails is rest = ap (λ (t : Bool). cond t (Some (change y)) (find test (map change xs))) (same y ∙ fails) ∙ rest is

same_repeat : (next : Next) (rules : Rules) (key : Key) (now : ℕ) (kept : KeptAsk) → repeats rules key now (carried_ask next kept) ≡ repeats rules key now kept
unfolding repeats
same_repeat next rules key now kept = refl

repeat_found : (next : Next) (rules : Rules) (key : Key) (now : ℕ) (asks : List KeptAsk) (kept : KeptAsk) → find (repeats rules key now) asks ≡ Some kept → goes_on next kept.nas ≡ true
    → find (repeats rules key now) (asks_on next asks) ≡ Some (carried_ask next kept)
unfolding asks_on
repeat_found next rules key now asks kept found goes =
    find_mapped (repeats rules key now) (carried_ask next) (same_repeat next rules key now) (filter (λ (one : KeptAsk). goes_on next one.nas) asks) kept
    (find_among (repeats rules key now) (λ (one : KeptAsk). goes_on next one.nas) asks kept found goes)

pub repeats_stay : RepeatsOpenNothing
unfolding step come_to carried_book
repeats_stay next rules book key nas station moment kept found goes =
    ap (λ (o : Option KeptAsk). ask rules (come_to rules (carried_book next rules book) moment) key nas station o)
    (repeat_found next rules key (max book.clock moment) book.asks kept found goes)

any_on : {X : Type 0} (test other : X → Bool) (keep : X → Bool) (change : X → X) (xs : List X)
    → ((x : X) → keep x ≡ true → other (change x) ≡ test x) → ((x : X) → keep x ≡ false → test x ≡ false)
    → list_any other (map change (filter keep xs)) ≡ list_any test xs
any_on test other keep change [] same gone = refl
any_on test other keep change (x ∷ xs) same gone = by (keep x) refl (any_on test other keep change xs same gone)
  where
    by : (t : Bool) → keep x ≡ t → list_any other (map change (filter keep xs)) ≡ list_any test xs
        → list_any other (map change (cond t (x ∷ filter keep xs) (filter keep xs))) ≡ (test x || list_any test xs)
    by true kept rest = ap (λ (t : Bool). t || list_any other (map change (filter keep xs))) (same x kept) ∙ ap (λ (t : Bool). test x || t) rest
    by false left rest = rest ∙ ap (λ (t : Bool). t || list_any test xs) (sym (gone x left))

-- a session at a client that goes on is none at a client that is gone
apart_gone : (next : Next) (one other : Session) → goes_on next one.nas ≡ false → goes_on next other.nas ≡ true → same_session one other ≡ false
unfolding same_session same_nas
apart_gone next one other gone goes =
    ap (λ (t : Bool). t && same_name one.nas.name other.nas.name && same_octets one.id other.id)
    (false_from_ne_true (one.nas.client == other.nas.client)
    (λ (same : (one.nas.client == other.nas.client) ≡ true).
    false≢true (sym gone ∙ ap (λ (client : ℕ). is_some (next client)) (eqb-true one.nas.client other.nas.client same) ∙ goes)))

pub closed_stay : ClosedSessionsStay
unfolding carried_book stops_on closes
closed_stay next rules book session now once goes =
    any_on (closes rules session now) (closes rules (carried_session next session) now) (λ (stop : KeptStop). goes_on next stop.session.nas) (carried_stop next) book.stops
    (λ stop kept. ap (λ (t : Bool). t && nat_lt (now - stop.at) rules.closed && not stop.swept) (same_sessions next once stop.session session kept goes))
    (λ stop gone. ap (λ (t : Bool). t && nat_lt (now - stop.at) rules.closed && not stop.swept) (apart_gone next stop.session session gone goes))

-- ---- nothing of a client that is gone

is_next : (next : Next) (client : ℕ) → is_some (next client) ≡ true → IsNext next (unwrap_or (next client) client)
is_next next client goes = by (next client) refl
  where
    by : (o : Option ℕ) → next client ≡ o → IsNext next (unwrap_or (next client) client)
    by None is = absurd (false≢true (ap is_some (sym is) ∙ goes))
    by (Some number) is = (client, is ∙ ap Some (sym (ap (λ (o : Option ℕ). unwrap_or o client) is)))

all_on : {X : Type 0} (next : Next) (nas : X → Nas) (change : X → X) (names : (x : X) → nas (change x) ≡ carried_nas next (nas x)) (xs : List X)
    → AllByRecursion (λ x. IsNext next (nas x).client) (map change (filter (λ x. goes_on next (nas x)) xs))
all_on next nas change names [] = tt
all_on next nas change names (x ∷ xs) = by (goes_on next (nas x)) refl (all_on next nas change names xs)
  where
    by : (t : Bool) → goes_on next (nas x) ≡ t → AllByRecursion (λ y. IsNext next (nas y).client) (map change (filter (λ y. goes_on next (nas y)) xs))
        → AllByRecursion (λ y. IsNext next (nas y).client) (map change (cond t (x ∷ filter (λ y. goes_on next (nas y)) xs) (filter (λ y. goes_on next (nas y)) xs)))
    by true goes rest = (subst (λ (n : Nas). IsNext next n.client) (sym (names x)) (is_next next (nas x).client goes), rest)
    by false gone rest = rest

with_one : (P : BookLink → Type 0) (xs : List BookLink) (link : BookLink) → AllByRecursion P xs → P link → AllByRecursion P (xs ++ link ∷ [])
with_one P [] link none is = (is, tt)
with_one P (x ∷ xs) link some is = (some.0, with_one P xs link some.1 is)

placed_all : (rules : Rules) (P : BookLink → Type 0) (links more : List BookLink) → AllByRecursion P links → AllByRecursion P more → AllByRecursion P (placed rules links more)
unfolding placed
placed_all rules P links [] are all = are
placed_all rules P links (link ∷ more) are all =
    by (finds_place rules links link) (placed_all rules P (links ++ link ∷ []) more (with_one P links link are all.0) all.1) (placed_all rules P links more are all.1)
  where
    by : (t : Bool) → AllByRecursion P (placed rules (links ++ link ∷ []) more) → AllByRecursion P (placed rules links more)
        → AllByRecursion P (cond t (placed rules (links ++ link ∷ []) more) (placed rules links more))
    by true with without = with
    by false with without = without

pub nothing_gone : NothingGoneIsLeft
unfolding carried_book links_on asks_on stops_on
nothing_gone next rules book = record {
  links = All-from_recursion (λ (link : BookLink). IsNext next link.nas.client) (placed rules [] (links_on next book.links))
      (placed_all rules (λ (link : BookLink). IsNext next link.nas.client) [] (links_on next book.links) tt
      (all_on next (λ (link : BookLink). link.nas) (carried_link next) (λ link. refl) book.links));
  asks = All-from_recursion (λ (ask : KeptAsk). IsNext next ask.nas.client) (asks_on next book.asks)
      (all_on next (λ (ask : KeptAsk). ask.nas) (carried_ask next) (λ ask. refl) book.asks);
  stops = All-from_recursion (λ (stop : KeptStop). IsNext next stop.session.nas.client) (stops_on next book.stops)
      (all_on next (λ (stop : KeptStop). stop.session.nas) (carried_stop next) (λ stop. refl) book.stops);
}

-- ---- where a link finds no place, each place is held

placed_grows : (rules : Rules) (links more : List BookLink) → 0 < rules.ports → places_of rules.ports (bundles_in links) ≤ places_of rules.ports (bundles_in (placed rules links more))
unfolding placed
placed_grows rules links [] some = omega arith
placed_grows rules links (link ∷ more) some = by (finds_place rules links link) (placed_grows rules (links ++ link ∷ []) more some) (placed_grows rules links more some)
  where
    by : (t : Bool) → places_of rules.ports (bundles_in (links ++ link ∷ [])) ≤ places_of rules.ports (bundles_in (placed rules (links ++ link ∷ []) more))
        → places_of rules.ports (bundles_in links) ≤ places_of rules.ports (bundles_in (placed rules links more))
        → places_of rules.ports (bundles_in links) ≤ places_of rules.ports (bundles_in (cond t (placed rules (links ++ link ∷ []) more) (placed rules links more)))
    by true with without =
        let same = ap (places_of rules.ports) (bundles_more links (link ∷ [])) in
        omega (arith, same, front_fits rules.ports some (bundles_in links) (bundles_in (link ∷ [])), with)
    by false with without = without

left_out : (rules : Rules) (links more : List BookLink) → 0 < rules.ports → places_of rules.ports (bundles_in links) ≤ rules.places
    → (placed rules links more ≡ links ++ more → ⊥) → places_of rules.ports (bundles_in (placed rules links more)) ≡ rules.places
unfolding placed
left_out rules links [] some fits other = absurd (other (sym (append-nil links)))
left_out rules links (link ∷ more) some fits other = by (finds_place rules links link) refl other (left_out rules (links ++ link ∷ []) more some)
  where
    by : (t : Bool) → finds_place rules links link ≡ t → (cond t (placed rules (links ++ link ∷ []) more) (placed rules links more) ≡ links ++ link ∷ more → ⊥)
        → (places_of rules.ports (bundles_in (links ++ link ∷ [])) ≤ rules.places → (placed rules (links ++ link ∷ []) more ≡ (links ++ link ∷ []) ++ more → ⊥)
        → places_of rules.ports (bundles_in (placed rules (links ++ link ∷ []) more)) ≡ rules.places)
        → places_of rules.ports (bundles_in (cond t (placed rules (links ++ link ∷ []) more) (placed rules links more))) ≡ rules.places
    by true found apart rest =
        rest (subst (λ (l : List (Option Bundle)). places_of rules.ports l ≤ rules.places) (sym (bundles_push links link)) (leb-true (places_of rules.ports (bundles_in links ++ link.bundle ∷ [])) rules.places found))
        (λ same. apart (same ∙ append_assoc links (link ∷ []) more))
    by false lost apart rest =
        let tight = leb-false (places_of rules.ports (bundles_in links ++ link.bundle ∷ [])) rules.places lost in
        let one = full rules.ports some link.bundle (bundles_in links) in
        omega (arith, tight, one, fits, placed_grows rules links more some, placed_within rules links more fits)

pub nobody_new : NobodyNewComesIn
unfolding places_in carried_book bundles_in
nobody_new next rules book fit other =
    left_out rules [] (links_on next book.links) (omega (arith, fit.a_port)) (omega (arith, no_places rules.ports)) other
