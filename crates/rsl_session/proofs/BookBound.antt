-- A book within its limit: how many links it can have, and that no step takes it past its limit.
use Rattle.std.proofs.Common.{◌≡◌, ℕ, zero, suc, ◌+◌, ◌-◌, ◌*◌, ◌^◌, min, max, ◌<◌, ◌≤◌, List, [], ◌∷◌, ◌++◌, length, map, Bool, true, false, cond, not, refl, ap, subst, ◌⊎◌, inl, inr, arith, append_assoc, append-nil}
use Rattle.std.specs.Prelude.{Option, Some, None, count_by, sum_by, filter, find, is_none, nat_le, nat_lt}
use Rattle.std.specs.Int.{div_ceil}
use Rattle.std.specs.List.{list_any}
use Rattle.std.specs.Option.{option_or}
use Rattle.std.proofs.lemmas.Bool.{leb-true}
use Rattle.std.proofs.lemmas.Grind.{div_ceil_times}
use Rattle.std.proofs.lemmas.List.{map-append, length-map}
use Rattle.std.proofs.lemmas.List.Sums.{sum_by-cons}
use Rattle.rsl_accounts.specs.Limits.{RulesFit}
use Rattle.rsl_accounts.specs.declared.rules.Rules.{Rules}
use Rattle.rsl_event.specs.declared.event.Act.{Act}
use Rattle.rsl_event.specs.declared.event.Act.TheVariants.{Ask, Alive, Stop, Sweep, Tick}
use Rattle.rsl_event.specs.declared.event.Event.{Event}
use Rattle.rsl_event.specs.declared.event.Key.{Key}
use Rattle.rsl_event.specs.declared.nas.Nas.{Nas}
use Rattle.rsl_session.specs.declared.bundle.Bundle.{Bundle}
use Rattle.rsl_session.specs.declared.kept.KeptAsk.{KeptAsk}
use Rattle.rsl_session.specs.declared.session.Session.{Session}
use Rattle.rsl_session.specs.Same.{same_bundle}
use Rattle.rsl_session.specs.Places.{places_of, each_bundle, is_bundle}
use Rattle.rsl_session.specs.Closed.{closes}
use Rattle.rsl_session.specs.Book.{Book, BookLink, Bound, bundles_in, places_in}
use Rattle.rsl_session.specs.BookLinks.{lapses_at, is_link_of, can_be_taken, can_return, can_yield, is_swept, fits_beside, touch, take_for, change_first, without_first}
use Rattle.rsl_session.specs.BookStep.{come_to, keep_ask, refuse, accept_beside, ask_for_place, placed_ask, ask_of_station, fresh_ask, ask, open_link, bind, alive, stop, sweep, act_on, step}
use Rattle.rsl_session.proofs.Sameness.{bundle_cases, same_bundle-refl}
use Rattle.rsl_session.proofs.Counting.{fewer, length-le-places, places_of-le, places_of_alone, places_of_more}

wider : (n p l : ℕ) → n ≤ l → n * p ≤ l * p
wider n p l within = grind arith

pub links_bounded : (rules : Rules) (book : Book) → RulesFit rules → places_in rules book ≤ rules.places
    → (length book.links ≤ rules.places * rules.ports) × (places_in rules book ≤ length book.links)
unfolding places_in bundles_in
links_bounded rules book fit within =
    let some : 0 < rules.ports = omega (arith, fit.a_port) in
    let bundles : List (Option Bundle) = map (λ (link : BookLink). link.bundle) book.links in
    let long : length bundles ≡ length book.links = length-map book.links (λ (link : BookLink). link.bundle) in
    let held = length-le-places rules.ports bundles some in
    let most = places_of-le rules.ports bundles some in
    let wide = wider (places_of rules.ports bundles) rules.ports rules.places within in
    (omega arith, omega arith)

-- links that are left out free places, and a link that joins a bundle takes no more
fewer_links : (ports : ℕ) → 0 < ports → (keep : BookLink → Bool) (links : List BookLink)
    → places_of ports (bundles_in (filter keep links)) ≤ places_of ports (bundles_in links)
unfolding bundles_in
fewer_links ports some keep links = fewer ports some (λ (link : BookLink). link.bundle) keep [] links

changed_links : (ports : ℕ) → 0 < ports → (p : BookLink → Bool) (f : BookLink → BookLink)
    → ((link : BookLink) → ((f link).bundle ≡ link.bundle) ⊎ (link.bundle ≡ None))
    → (before : List (Option Bundle)) (links : List BookLink)
    → places_of ports (before ++ bundles_in (change_first p f links)) ≤ places_of ports (before ++ bundles_in links)
unfolding bundles_in change_first
changed_links ports some p f joins before [] = omega arith
changed_links ports some p f joins before (link ∷ links) =
    by_cases ports some p f before link links (p link) (joins link) (changed_links ports some p f joins (before ++ link.bundle ∷ []) links) where
      by_cases : (ports : ℕ) → 0 < ports → (p : BookLink → Bool) (f : BookLink → BookLink)
          (before : List (Option Bundle)) (link : BookLink) (links : List BookLink) (here : Bool)
          → ((f link).bundle ≡ link.bundle) ⊎ (link.bundle ≡ None)
          → places_of ports ((before ++ link.bundle ∷ []) ++ map (λ (one : BookLink). one.bundle) (change_first p f links)) ≤ places_of ports ((before ++ link.bundle ∷ []) ++ map (λ (one : BookLink). one.bundle) links)
          → places_of ports (before ++ map (λ (one : BookLink). one.bundle) (cond here (f link ∷ links) (link ∷ change_first p f links))) ≤ places_of ports (before ++ link.bundle ∷ map (λ (one : BookLink). one.bundle) links)
      by_cases ports some p f before link links true (inl same) rest = rw same (omega arith)
      by_cases ports some p f before link links true (inr none) rest =
          let more = places_of_more ports (f link).bundle before (map (λ (one : BookLink). one.bundle) links) some in
          let one = places_of_alone ports before (map (λ (one : BookLink). one.bundle) links) some in
          let was : places_of ports (before ++ link.bundle ∷ map (λ (one : BookLink). one.bundle) links) ≡ places_of ports (before ++ None ∷ map (λ (one : BookLink). one.bundle) links) =
          ap (λ bundle. places_of ports (before ++ bundle ∷ map (λ (one : BookLink). one.bundle) links)) none in
          omega (arith, more, one, was)
      by_cases ports some p f before link links false joins rest =
          rw (append_assoc before (link.bundle ∷ []) (map (λ (one : BookLink). one.bundle) (change_first p f links)), append_assoc before (link.bundle ∷ []) (map (λ (one : BookLink). one.bundle) links)) at rest

joins_or_keeps : (old new : Option Bundle) → (option_or old new ≡ old) ⊎ (old ≡ None)
joins_or_keeps None new = inr refl
joins_or_keeps (Some bundle) new = inl refl

-- one more link stands last
one_more : (ports : ℕ) (links : List BookLink) (link : BookLink)
    → places_of ports (bundles_in (links ++ link ∷ [])) ≡ places_of ports (bundles_in links ++ link.bundle ∷ [])
unfolding bundles_in
one_more ports links link = ap (places_of ports) (map-append (λ (one : BookLink). one.bundle) links (link ∷ []))

accepted_within : (rules : Rules) (links : List BookLink) (book : Book) (key : Key) (nas : Nas) (station : Option (List ℕ))
    → 0 < rules.ports → fits_beside rules links ≡ true
    → places_in rules (accept_beside links book key nas station).0 ≤ rules.places
unfolding places_in accept_beside fits_beside
accepted_within rules links book key nas station some fits =
    let room = leb-true (places_of rules.ports (bundles_in links) + 1) rules.places fits in
    let alone = places_of_alone rules.ports (bundles_in links) [] some in
    let flat : places_of rules.ports (bundles_in links ++ []) ≡ places_of rules.ports (bundles_in links) = ap (places_of rules.ports) (append-nil (bundles_in links)) in
    rw (one_more rules.ports links _) (omega arith)

asked_within : (rules : Rules) (book : Book) (key : Key) (nas : Nas) (station : Option (List ℕ)) → 0 < rules.ports
    → places_in rules book ≤ rules.places → (found : Option KeptAsk)
    → places_in rules (ask rules book key nas station found).0 ≤ rules.places
unfolding places_in refuse keep_ask placed_ask fresh_ask
asked_within rules book key nas station some within (Some kept) = within
asked_within rules book key nas station some within None = numbered (nat_lt book.accepts (2 ^ 64 - 1)) where
  without : List BookLink
  without = without_first (can_yield rules book.clock book.links) book.links

  in_place : (fits : Bool) → fits_beside rules without ≡ fits
      → places_in rules (cond fits (accept_beside without book key nas station) (refuse book key nas)).0 ≤ rules.places
  in_place true fits = accepted_within rules without book key nas station some fits
  in_place false fits = within

  unfitting : (found : Option BookLink)
      → places_in rules (ask_for_place rules book key nas station found).0 ≤ rules.places
  unfitting None = within
  unfitting (Some link) = in_place (fits_beside rules without) refl

  placed : (free : Bool) → fits_beside rules book.links ≡ free
      → places_in rules (cond free (accept_beside book.links book key nas station) (ask_for_place rules book key nas station (find (can_yield rules book.clock book.links) book.links))).0 ≤ rules.places
  placed true fits = accepted_within rules book.links book key nas station some fits
  placed false fits = unfitting _

  returned : List BookLink
  returned = without_first (can_return station book.links) book.links

  freed : (fits : Bool) → fits_beside rules returned ≡ fits
      → places_in rules (cond fits (accept_beside returned book key nas station) (placed_ask rules book key nas station)).0 ≤ rules.places
  freed true fits = accepted_within rules returned book key nas station some fits
  freed false fits = placed (fits_beside rules book.links) refl

  fresh : (found : Option BookLink)
      → places_in rules (ask_of_station rules book key nas station found).0 ≤ rules.places
  fresh None = placed (fits_beside rules book.links) refl
  fresh (Some link) = freed (fits_beside rules returned) refl

  numbered : (left : Bool)
      → places_in rules (cond left (fresh_ask rules book key nas station) (refuse book key nas)).0 ≤ rules.places
  numbered true = fresh _
  numbered false = within

alive_within : (rules : Rules) (book : Book) (session : Session) (bundle : Option Bundle) (class : Option ℕ) (station : Option (List ℕ))
    → 0 < rules.ports → places_in rules book ≤ rules.places → (found : Option BookLink)
    → places_in rules (alive rules book session bundle class station found) ≤ rules.places
unfolding places_in touch take_for open_link
alive_within rules book session bundle class station some within (Some link) =
    omega (arith, within, changed_links rules.ports some (is_link_of session) (touch book.clock bundle station) (λ one. joins_or_keeps one.bundle bundle) [] book.links)
alive_within rules book session bundle class station some within None = by_closed (list_any (closes rules session book.clock) book.stops) where
  by_room : (room : Bool)
      → nat_le (places_of rules.ports (bundles_in book.links ++ bundle ∷ [])) rules.places ≡ room
      → places_in rules (cond room
      (record book { links = book.links ++ record { nas = session.nas; holder = Bound session; bundle = bundle; station = station; opened = book.clock; touched = book.clock } ∷ [] })
      (record book { over = min (book.over + 1) (2 ^ 64 - 1) })) ≤ rules.places
  by_room true room = rw (one_more rules.ports book.links _) (leb-true (places_of rules.ports (bundles_in book.links ++ bundle ∷ [])) rules.places room)
  by_room false room = within

  by_reservation : (taken : Option BookLink)
      → places_in rules (bind rules book session bundle class station taken) ≤ rules.places
  by_reservation (Some link) =
      omega (arith, within, changed_links rules.ports some (can_be_taken session.nas class) (take_for session book.clock bundle station) (λ one. joins_or_keeps one.bundle bundle) [] book.links)
  by_reservation None = by_room (nat_le (places_of rules.ports (bundles_in book.links ++ bundle ∷ [])) rules.places) refl

  by_closed : (closed : Bool)
      → places_in rules (cond closed book (bind rules book session bundle class station (find (can_be_taken session.nas class) book.links))) ≤ rules.places
  by_closed true = within
  by_closed false = by_reservation _

come_within : (rules : Rules) (book : Book) (moment : ℕ) → 0 < rules.ports
    → places_in rules book ≤ rules.places → places_in rules (come_to rules book moment) ≤ rules.places
unfolding places_in come_to
come_within rules book moment some within = omega (arith, within, fewer_links rules.ports some (λ link. not (lapses_at rules (max book.clock moment) link)) book.links)

act_within : (rules : Rules) (book : Book) → 0 < rules.ports → places_in rules book ≤ rules.places
    → (act : Act) → places_in rules (act_on rules book act).0 ≤ rules.places
unfolding places_in stop sweep
act_within rules book some within (Ask key nas station) = asked_within rules book key nas station some within _
act_within rules book some within (Alive nas id bundle class station) = alive_within rules book _ _ class station some within _
act_within rules book some within (Stop nas id) = omega (arith, within, fewer_links rules.ports some (λ link. not (is_link_of (record { nas = nas; id = id }) link)) book.links)
act_within rules book some within (Sweep nas delay) = omega (arith, within, fewer_links rules.ports some (λ link. not (is_swept nas delay book.clock link)) book.links)
act_within rules book some within Tick = within

pub step_within : (rules : Rules) (book : Book) (event : Event) → RulesFit rules
    → places_in rules book ≤ rules.places → places_in rules (step rules book event).0 ≤ rules.places
unfolding step
step_within rules book event fit within =
    let some : 0 < rules.ports = omega (arith, fit.a_port) in
    act_within rules (come_to rules book event.moment) some (come_within rules book event.moment some within) event.act
