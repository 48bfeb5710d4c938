-- A book keeps at most 8 asks and 16 stops.
use Rattle.std.proofs.Common.{◌≡◌, ℕ, ◌+◌, ◌-◌, ◌^◌, min, ◌≤◌, List, [], ◌∷◌, ◌++◌, length, take, Bool, true, false, cond, refl, arith}
use Rattle.std.specs.Prelude.{Option, Some, None, find, nat_le, nat_lt}
use Rattle.std.specs.List.{list_any}
use Rattle.std.proofs.lemmas.List.{length-take, length-map}
use Rattle.rsl_accounts.specs.declared.rules.Rules.{Rules}
use Rattle.rsl_event.specs.declared.event.Act.{Act}
use Rattle.rsl_event.specs.declared.event.Act.TheVariants.{Ask, Alive, Stop, Sweep, Tick}
use Rattle.rsl_event.specs.declared.event.Decision.{Decision}
use Rattle.rsl_event.specs.declared.event.Decision.TheVariants.{Accept, LimitReject}
use Rattle.rsl_event.specs.declared.event.Event.{Event}
use Rattle.rsl_event.specs.declared.event.Key.{Key}
use Rattle.rsl_event.specs.declared.nas.Nas.{Nas}
use Rattle.rsl_session.specs.declared.bundle.Bundle.{Bundle}
use Rattle.rsl_session.specs.declared.kept.KeptAsk.{KeptAsk}
use Rattle.rsl_session.specs.declared.session.Session.{Session}
use Rattle.rsl_session.specs.Places.{places_of}
use Rattle.rsl_session.specs.Ask.{repeats}
use Rattle.rsl_session.specs.Binding.{bundle_of}
use Rattle.rsl_session.specs.Closed.{closes}
use Rattle.rsl_session.specs.Book.{Book, BookLink, Bound, bundles_in}
use Rattle.rsl_session.specs.BookLinks.{is_link_of, can_be_taken, can_return, can_yield, fits_beside, without_first}
use Rattle.rsl_session.specs.BookStep.{come_to, keep_ask, refuse, accept_beside, ask_for_place, placed_ask, ask_of_station, fresh_ask, ask, open_link, bind, alive, stop, sweep, sweep_ask, sweep_stop, act_on, step}

-- the kept asks and stops are at most so many
at_most : {A : Type 0} (n : ℕ) (xs : List A) → length (take n xs) ≤ n
at_most n xs = omega (arith, length-take n xs)

alive_keeps : (rules : Rules) (book : Book) (session : Session) (bundle : Option Bundle) (class : Option ℕ)
    (station : Option (List ℕ)) (found : Option BookLink)
    → ((alive rules book session bundle class station found).asks ≡ book.asks) × ((alive rules book session bundle class station found).stops ≡ book.stops)
unfolding open_link
alive_keeps rules book session bundle class station (Some link) = (refl, refl)
alive_keeps rules book session bundle class station None = by_closed (list_any (closes rules session book.clock) book.stops) where
  Keeps : Book → Type 0
  Keeps next = (next.asks ≡ book.asks) × (next.stops ≡ book.stops)

  by_room : (room : Bool) → Keeps (cond room
      (record book { links = book.links ++ record { nas = session.nas; holder = Bound session; bundle = bundle; station = station; opened = book.clock; touched = book.clock } ∷ [] })
      (record book { over = min (book.over + 1) (2 ^ 64 - 1) }))
  by_room true = (refl, refl)
  by_room false = (refl, refl)

  by_reservation : (taken : Option BookLink) → Keeps (bind rules book session bundle class station taken)
  by_reservation (Some link) = (refl, refl)
  by_reservation None = by_room (nat_le (places_of rules.ports (bundles_in book.links ++ bundle ∷ [])) rules.places)

  by_closed : (closed : Bool)
      → Keeps (cond closed book (bind rules book session bundle class station (find (can_be_taken session.nas class) book.links)))
  by_closed true = (refl, refl)
  by_closed false = by_reservation (find (can_be_taken session.nas class) book.links)

ask_keeps : (rules : Rules) (book : Book) (key : Key) (nas : Nas) (station : Option (List ℕ)) (found : Option KeptAsk)
    → length book.asks ≤ 8
    → (length (ask rules book key nas station found).0.asks ≤ 8) × ((ask rules book key nas station found).0.stops ≡ book.stops)
unfolding keep_ask refuse accept_beside placed_ask fresh_ask
ask_keeps rules book key nas station (Some kept) within = (within, refl)
ask_keeps rules book key nas station None within = numbered (nat_lt book.accepts (2 ^ 64 - 1)) where
  Keeps : Book × Decision → Type 0
  Keeps next = (length next.0.asks ≤ 8) × (next.0.stops ≡ book.stops)

  refused : Keeps (refuse book key nas)
  refused = (at_most 8 (record { key = key; nas = nas; decision = LimitReject; at = book.clock; swept = false } ∷ book.asks), refl)

  accepted : (links : List BookLink) → Keeps (accept_beside links book key nas station)
  accepted links = (at_most 8 (record { key = key; nas = nas; decision = Accept book.accepts; at = book.clock; swept = false } ∷ book.asks), refl)

  in_place : (fits : Bool)
      → Keeps (cond fits (accept_beside (without_first (can_yield rules book.clock book.links) book.links) book key nas station) (refuse book key nas))
  in_place true = accepted (without_first (can_yield rules book.clock book.links) book.links)
  in_place false = refused

  unfitting : (found : Option BookLink) → Keeps (ask_for_place rules book key nas station found)
  unfitting None = refused
  unfitting (Some link) = in_place (fits_beside rules (without_first (can_yield rules book.clock book.links) book.links))

  placed : (free : Bool)
      → Keeps (cond free (accept_beside book.links book key nas station) (ask_for_place rules book key nas station (find (can_yield rules book.clock book.links) book.links)))
  placed true = accepted book.links
  placed false = unfitting (find (can_yield rules book.clock book.links) book.links)

  freed : (fits : Bool)
      → Keeps (cond fits (accept_beside (without_first (can_return station book.links) book.links) book key nas station) (placed_ask rules book key nas station))
  freed true = accepted (without_first (can_return station book.links) book.links)
  freed false = placed (fits_beside rules book.links)

  fresh : (found : Option BookLink) → Keeps (ask_of_station rules book key nas station found)
  fresh None = placed (fits_beside rules book.links)
  fresh (Some link) = freed (fits_beside rules (without_first (can_return station book.links) book.links))

  numbered : (left : Bool) → Keeps (cond left (fresh_ask rules book key nas station) (refuse book key nas))
  numbered true = fresh (find (can_return station book.links) book.links)
  numbered false = refused

act_keeps : (rules : Rules) (book : Book) (act : Act) → length book.asks ≤ 8 → length book.stops ≤ 16
    → (length (act_on rules book act).0.asks ≤ 8) × (length (act_on rules book act).0.stops ≤ 16)
unfolding stop sweep
act_keeps rules book (Ask key nas station) asks stops =
    let kept = ask_keeps rules book key nas station (find (repeats rules key book.clock) book.asks) asks in
    (kept.0, rw kept.1 stops)
act_keeps rules book (Alive nas id bundle class station) asks stops =
    let kept = alive_keeps rules book (record { nas = nas; id = id }) (bundle_of (Alive nas id bundle class station)) class station (find (is_link_of (record { nas = nas; id = id })) book.links) in
    (rw kept.0 asks, rw kept.1 stops)
act_keeps rules book (Stop nas id) asks stops = (asks, at_most 16 (record { session = record { nas = nas; id = id }; at = book.clock; swept = false } ∷ book.stops))
act_keeps rules book (Sweep nas delay) asks stops = (omega (arith, asks, length-map book.asks (sweep_ask nas delay book.clock)), omega (arith, stops, length-map book.stops (sweep_stop nas delay book.clock)))
act_keeps rules book Tick asks stops = (asks, stops)

pub step_keeps : (rules : Rules) (book : Book) (event : Event) → length book.asks ≤ 8 → length book.stops ≤ 16
    → (length (step rules book event).0.asks ≤ 8) × (length (step rules book event).0.stops ≤ 16)
unfolding step come_to
step_keeps rules book event asks stops = act_keeps rules (come_to rules book event.moment) event.act asks stops
