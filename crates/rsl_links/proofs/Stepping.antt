-- The parts of a step, as the code takes them one by one, are the step.
use Rattle.std.proofs.Common.{◌≡◌, ℕ, ◌+◌, ◌-◌, ◌<◌, ◌≤◌, List, ◌++◌, map, take, drop, Bool, true, false, refl, ap, sym, ◌∙◌, inl, inr, arith}
use Rattle.std.specs.Prelude.{Option, None, find, nat_le, nat_lt}
use Rattle.std.proofs.lemmas.Bool.{cases_lt, le-leb, le-ltb, leb-true, lt-leb, lt-ltb}
use Rattle.std.proofs.lemmas.List.{take-map, drop-map, map-append}
use Rattle.rsl_accounts.specs.declared.rules.Rules.{Rules}
use Rattle.rsl_event.specs.declared.event.Decision.{Decision}
use Rattle.rsl_event.specs.declared.event.Key.{Key}
use Rattle.rsl_event.specs.declared.nas.Nas.{Nas}
use Rattle.rsl_event.specs.declared.nas.NasName.TheVariants.{Unnamed}
use Rattle.rsl_session.specs.declared.session.Session.{Session}
use Rattle.rsl_session.specs.Places.{places_of}
use Rattle.rsl_session.specs.Book.{Book, BookLink, Reserved, places_in, bundles_in}
use Rattle.rsl_session.specs.BookLinks.{is_link_of, can_be_taken, can_return, can_yield, fits_beside, touch, take_for}
use Rattle.rsl_session.specs.BookStep.{refuse, keep_ask, accept_beside, placed_ask, fresh_ask, bind, alive}
use Rattle.rsl_links.specs.declared.link.Link.{Link}
use Rattle.rsl_links.specs.First.{IsFirst, change_at}
use Rattle.rsl_links.specs.Seen.{links_seen, link_seen, bundle_with}
use Rattle.rsl_links.specs.Steps.{touch_here, take_here, without_at}
use Rattle.rsl_links.proofs.Found.{found_at, changed_at, without_found, touched_here, taken_here}

some_link : BookLink
some_link = record { nas = record { client = 0; name = Unnamed }; holder = Reserved 0; bundle = None; station = None; opened = 0; touched = 0 }

pub seen_without : (servers : List Nas) (xs : List Link) (at : ℕ) → links_seen servers (take at xs ++ drop (at + 1) xs) ≡ without_at at (links_seen servers xs)
unfolding links_seen without_at
seen_without servers xs at =
    map-append (link_seen servers) (take at xs) (drop (at + 1) xs)
    ∙ ap (λ ys. ys ++ map (link_seen servers) (drop (at + 1) xs)) (sym (take-map (link_seen servers) at xs))
    ∙ ap (λ ys. take at (map (link_seen servers) xs) ++ ys) (sym (drop-map (link_seen servers) (at + 1) xs))

-- an ask that is accepted beside the links that are left is accepted so once the others are gone
pub accept_left : (links : List BookLink) (book : Book) (key : Key) (nas : Nas) (station : Option (List ℕ)) → accept_beside links (record book { links = links }) key nas station ≡ accept_beside links book key nas station
unfolding accept_beside keep_ask
accept_left links book key nas station = refl

-- a fresh ask to which no link of its station yields
pub placed_fits : (rules : Rules) (book : Book) (key : Key) (nas : Nas) (station : Option (List ℕ)) (made : Book × Decision) → places_in rules book < rules.places → made ≡ accept_beside book.links book key nas station
    → made ≡ placed_ask rules book key nas station
unfolding placed_ask fits_beside places_in
placed_fits rules book key nas station made free is =
    let fits : nat_le (places_of rules.ports (bundles_in book.links) + 1) rules.places ≡ true = le-leb _ _ (omega arith) in
    is ∙ rw fits refl

full_book : (rules : Rules) (book : Book) → rules.places ≤ places_in rules book → fits_beside rules book.links ≡ false
unfolding fits_beside places_in
full_book rules book full = lt-leb _ _ (omega (arith, full))

module _ (rules : Rules) (book : Book) (key : Key) (nas : Nas) (station : Option (List ℕ)) (made : Book × Decision) where
  pub placed_full : rules.places ≤ places_in rules book → find (can_yield rules book.clock book.links) book.links ≡ None → made ≡ refuse book key nas → made ≡ placed_ask rules book key nas station
  unfolding placed_ask
  placed_full full none is = is ∙ rw (full_book rules book full, none) refl

  pub placed_in_place : (at : ℕ) → rules.places ≤ places_in rules book → IsFirst (can_yield rules book.clock book.links) book.links at → fits_beside rules (without_at at book.links) ≡ true
      → made ≡ accept_beside (without_at at book.links) book key nas station → made ≡ placed_ask rules book key nas station
  unfolding placed_ask
  placed_in_place at full first fits is =
      let found = found_at (can_yield rules book.clock book.links) book.links at some_link first in
      let rest = without_found (can_yield rules book.clock book.links) book.links at first in
      is ∙ rw (full_book rules book full, found, rest, fits) refl

  pub placed_tight : (at : ℕ) → rules.places ≤ places_in rules book → IsFirst (can_yield rules book.clock book.links) book.links at → fits_beside rules (without_at at book.links) ≡ false
      → made ≡ refuse book key nas → made ≡ placed_ask rules book key nas station
  unfolding placed_ask
  placed_tight at full first tight is =
      let found = found_at (can_yield rules book.clock book.links) book.links at some_link first in
      let rest = without_found (can_yield rules book.clock book.links) book.links at first in
      is ∙ rw (full_book rules book full, found, rest, tight) refl

  -- a fresh ask, by the link of its station
  pub fresh_alone : find (can_return station book.links) book.links ≡ None → made ≡ placed_ask rules book key nas station → made ≡ fresh_ask rules book key nas station
  unfolding fresh_ask
  fresh_alone none is = is ∙ rw none refl

  pub fresh_in_place : (at : ℕ) → IsFirst (can_return station book.links) book.links at → fits_beside rules (without_at at book.links) ≡ true
      → made ≡ accept_beside (without_at at book.links) book key nas station → made ≡ fresh_ask rules book key nas station
  unfolding fresh_ask
  fresh_in_place at first fits is =
      let found = found_at (can_return station book.links) book.links at some_link first in
      let rest = without_found (can_return station book.links) book.links at first in
      is ∙ rw (found, rest, fits) refl

  pub fresh_tight : (at : ℕ) → IsFirst (can_return station book.links) book.links at → fits_beside rules (without_at at book.links) ≡ false
      → made ≡ placed_ask rules book key nas station → made ≡ fresh_ask rules book key nas station
  unfolding fresh_ask
  fresh_tight at first tight is =
      let found = found_at (can_return station book.links) book.links at some_link first in
      let rest = without_found (can_return station book.links) book.links at first in
      is ∙ rw (found, rest, tight) refl

-- whether one more link without a bundle fits once a link has ended, by whether a place is free then
pub fits_freed : (rules : Rules) (book : Book) (at freed : ℕ) (fits : Bool) → places_in rules book ≡ places_of rules.ports (bundles_in (without_at at book.links)) + freed → fits ≡ nat_lt (places_in rules book - freed) rules.places
    → fits ≡ fits_beside rules (without_at at book.links)
unfolding fits_beside places_in
fits_freed rules book at freed fits frees is =
    is ∙ ap (λ n. nat_lt n rules.places) left ∙ lt_is (places_of rules.ports (bundles_in (without_at at book.links))) rules.places
  where
    left : places_of rules.ports (bundles_in book.links) - freed ≡ places_of rules.ports (bundles_in (without_at at book.links))
    left = omega (arith, frees)

    lt_is : (a b : ℕ) → nat_lt a b ≡ nat_le (a + 1) b
    lt_is a b = elim (cases_lt a b) [
      | inl low ↦ lt-ltb a b low ∙ sym (le-leb (a + 1) b (omega (arith, low)))
      | inr high ↦ le-ltb a b high ∙ sym (lt-leb (a + 1) b (omega (arith, high)))
    ]

pub room_without : (rules : Rules) (book : Book) (at : ℕ) → fits_beside rules (without_at at book.links) ≡ true
    → (let ended : Book = record book { links = without_at at book.links } in places_in rules ended + 1 ≤ rules.places)
unfolding fits_beside places_in
room_without rules book at fits = leb-true (places_of rules.ports (bundles_in (without_at at book.links)) + 1) rules.places fits

-- an alive
pub alive_renews : (rules : Rules) (book : Book) (session : Session) (bundle : Option (List ℕ)) (class : Option ℕ) (station : Option (List ℕ)) (at : ℕ) → IsFirst (is_link_of session) book.links at
    → record book { links = change_at at (touch_here book.clock bundle station) book.links } ≡ alive rules book session (bundle_with session.nas bundle) class station (find (is_link_of session) book.links)
alive_renews rules book session bundle class station at first =
    let found = found_at (is_link_of session) book.links at some_link first in
    let changed = changed_at (is_link_of session) (touch book.clock (bundle_with session.nas bundle) station) (touch_here book.clock bundle station) book.links at
    (λ link is. touched_here session book.clock bundle station link is) first in
    rw (found, changed) refl

pub bind_takes : (rules : Rules) (book : Book) (nas : Nas) (id : List ℕ) (bundle : Option (List ℕ)) (class : Option ℕ) (station : Option (List ℕ)) (at : ℕ) → IsFirst (can_be_taken nas class) book.links at
    → record book { links = change_at at (take_here book.clock id bundle station) book.links } ≡ bind rules book (record { nas = nas; id = id }) (bundle_with nas bundle) class station (find (can_be_taken nas class) book.links)
bind_takes rules book nas id bundle class station at first =
    let found = found_at (can_be_taken nas class) book.links at some_link first in
    let changed = changed_at (can_be_taken nas class) (take_for (record { nas = nas; id = id }) book.clock (bundle_with nas bundle) station) (take_here book.clock id bundle station) book.links at
    (λ link is. taken_here nas class book.clock id bundle station link is) first in
    rw (found, changed) refl
