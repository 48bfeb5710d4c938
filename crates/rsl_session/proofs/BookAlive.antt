-- An alive does to the book of a past what the rule says that it does.
use Rattle.std.proofs.Common.{◌≡◌, ℕ, suc, ◌+◌, ◌-◌, ◌^◌, ◌≤◌, min, List, [], ◌∷◌, ◌++◌, length, map, Bool, true, false, cond, ◌&&◌, refl, ap, sym, ◌∙◌, arith}
use Rattle.std.specs.Prelude.{Option, Some, None, find, is_some, is_none}
use Rattle.std.specs.Option.{option_map}
use Rattle.std.proofs.lemmas.Bool.{and_parts, ne_eqb}
use Rattle.rsl_accounts.specs.declared.rules.Rules.{Rules}
use Rattle.rsl_event.specs.declared.event.Event.{Event}
use Rattle.rsl_event.specs.declared.event.Act.TheVariants.{Alive}
use Rattle.rsl_event.specs.declared.nas.Nas.{Nas}
use Rattle.rsl_session.specs.declared.past_event.PastEvent.{PastEvent}
use Rattle.rsl_session.specs.declared.outcome.Outcome.{Outcome}
use Rattle.rsl_session.specs.declared.outcome.Outcome.TheVariants.{Opened, Took, Renewed, Ignored, Over}
use Rattle.rsl_session.specs.declared.session.Session.{Session}
use Rattle.rsl_session.specs.Past.{Past}
use Rattle.rsl_session.specs.Clock.{clock_at}
use Rattle.rsl_session.specs.Link.{opens, nas_of, number_of}
use Rattle.rsl_session.specs.Binding.{touches, bundle_of, session_of, session_at, is_bound_to, is_reserved}
use Rattle.rsl_session.specs.Station.{station_of}
use Rattle.rsl_session.specs.Held.{held_links, held_before, ended_by, yields, is_at}
use Rattle.rsl_session.specs.Ask.{fresh_decision}
use Rattle.rsl_session.specs.Closed.{is_closed}
use Rattle.rsl_session.specs.Alive.{alive_outcome, unbound_outcome, link_of, reservation_of, has_room, is_chosen, is_number, over_count}
use Rattle.rsl_session.specs.Link.{number_at}
use Rattle.rsl_session.specs.Rule.{IsRuled}
use Rattle.rsl_session.specs.Book.{BookLink, Bound}
use Rattle.rsl_session.specs.BookLinks.{is_link_of, can_be_taken, touch, take_for, change_first}
use Rattle.rsl_session.specs.BookStep.{alive, bind, open_link}
use Rattle.rsl_session.specs.BookOf.{book_of, link_view}
use Rattle.rsl_session.proofs.Ending.{gives_way}
use Rattle.rsl_session.proofs.BookLists.{find_view, found_is, found_in}
use Rattle.rsl_session.proofs.BookViews.{did, view_renewed, view_taken, view_opened}
use Rattle.rsl_session.proofs.BookKnown.{is_known, known_in, held_before_known}
use Rattle.rsl_session.proofs.BookKept.{asks_same, stops_same, accepts_same, over_same, over_more}
use Rattle.rsl_session.proofs.BookTests.{link_of_is, chosen_is, bundles_are}
use Rattle.rsl_session.proofs.BookGrown.{views_opened, views_changed, all_left}
use Rattle.rsl_session.proofs.BookAt.{book_come, settled, links_same}

-- an alive at a moment
abbrev pub alive_at : ℕ → Nas → List ℕ → Option (List ℕ) → Option ℕ → Option (List ℕ) → Event
alive_at moment nas id bundle class station = record { moment = moment; act = Alive nas id bundle class station }

-- what an alive does leaves the accept number, the kept asks and the kept stops
settled_alive : (rules : Rules) (moment : ℕ) (nas : Nas) (id : List ℕ) (bundle : Option (List ℕ))
    (class : Option ℕ) (station : Option (List ℕ)) (past : Past) (outcome : Outcome)
    (links : List BookLink) (over : ℕ)
    → fresh_decision outcome ≡ None → is_some (number_of outcome) ≡ false
    → links ≡ map (link_view (did (alive_at moment nas id bundle class station) outcome ∷ past))
    (held_links rules (did (alive_at moment nas id bundle class station) outcome ∷ past))
    → over ≡ over_count (did (alive_at moment nas id bundle class station) outcome ∷ past)
    → record (book_come rules past (alive_at moment nas id bundle class station)) { links = links; over = over } ≡ book_of rules (did (alive_at moment nas id bundle class station) outcome ∷ past)
unfolding book_come
settled_alive rules moment nas id bundle class station past outcome links over undecided unnumbered is_links is_over =
    let entry : PastEvent = did (alive_at moment nas id bundle class station) outcome in
    settled rules (alive_at moment nas id bundle class station) past outcome
    (record (book_come rules past (alive_at moment nas id bundle class station)) { links = links; over = over })
    refl is_links (sym (accepts_same entry past unnumbered)) (sym (asks_same entry past refl undecided)) (sym (stops_same entry past refl refl)) is_over

-- what each outcome of an alive makes of the book
ignored : (rules : Rules) (moment : ℕ) (nas : Nas) (id : List ℕ) (bundle : Option (List ℕ)) (class : Option ℕ) (station : Option (List ℕ))
    (past : Past) → IsRuled rules past
    → book_come rules past (alive_at moment nas id bundle class station) ≡ book_of rules (did (alive_at moment nas id bundle class station) Ignored ∷ past)
unfolding book_come opens touches gives_way ended_by yields fresh_decision number_of
ignored rules moment nas id bundle class station past ruled =
    let entry : PastEvent = did (alive_at moment nas id bundle class station) Ignored in
    settled_alive rules moment nas id bundle class station past Ignored _ _ refl refl
    (links_same rules entry past ruled refl (λ link. refl) (λ link. refl))
    (sym (over_same entry past refl))

overflowed : (rules : Rules) (moment : ℕ) (nas : Nas) (id : List ℕ) (bundle : Option (List ℕ))
    (class : Option ℕ) (station : Option (List ℕ)) (past : Past) → IsRuled rules past
    → record (book_come rules past (alive_at moment nas id bundle class station)) { over = min (over_count past + 1) (2 ^ 64 - 1) } ≡ book_of rules (did (alive_at moment nas id bundle class station) Over ∷ past)
unfolding book_come opens touches gives_way ended_by yields fresh_decision number_of
overflowed rules moment nas id bundle class station past ruled =
    let entry : PastEvent = did (alive_at moment nas id bundle class station) Over in
    settled_alive rules moment nas id bundle class station past Over _ _ refl refl
    (links_same rules entry past ruled refl (λ link. refl) (λ link. refl))
    (sym (over_more entry past refl))

opened : (rules : Rules) (moment : ℕ) (nas : Nas) (id : List ℕ) (bundle : Option (List ℕ)) (class : Option ℕ) (station : Option (List ℕ))
    (past : Past) → IsRuled rules past
    → record (book_come rules past (alive_at moment nas id bundle class station)) {
      links = map (link_view past) (held_before rules past (alive_at moment nas id bundle class station))
          ++ record { nas = nas; holder = Bound (record { nas = nas; id = id }); bundle = bundle_of (Alive nas id bundle class station); station = station; opened = clock_at past (alive_at moment nas id bundle class station); touched = clock_at past (alive_at moment nas id bundle class station) } ∷ [];
    } ≡ book_of rules (did (alive_at moment nas id bundle class station) Opened ∷ past)
unfolding book_come opens touches gives_way ended_by yields fresh_decision number_of nas_of session_of station_of
opened rules moment nas id bundle class station past ruled =
    let event : Event = alive_at moment nas id bundle class station in
    let entry : PastEvent = did event Opened in
    settled_alive rules moment nas id bundle class station past Opened _ _ refl refl
    (sym (views_opened rules entry past ruled refl (λ link within. ne_eqb link (suc (length past)) (λ same. omega (arith, within, same)))
    ∙ ap (λ left. map (link_view past) left ++ link_view (entry ∷ past) (suc (length past)) ∷ []) (all_left rules entry past (λ link. refl))
    ∙ ap (λ view. map (link_view past) (held_before rules past event) ++ view ∷ []) (view_opened rules event past (record { nas = nas; id = id }) ruled refl refl)))
    (sym (over_same entry past refl))

renewed : (rules : Rules) (moment : ℕ) (nas : Nas) (id : List ℕ) (bundle : Option (List ℕ)) (class : Option ℕ) (station : Option (List ℕ))
    (past : Past) (link : ℕ) → IsRuled rules past
    → link_of rules past (alive_at moment nas id bundle class station) (record { nas = nas; id = id }) ≡ Some link
    → record (book_come rules past (alive_at moment nas id bundle class station)) {
      links = change_first (is_link_of (record { nas = nas; id = id })) (touch (clock_at past (alive_at moment nas id bundle class station)) (bundle_of (Alive nas id bundle class station)) station)
          (map (link_view past) (held_before rules past (alive_at moment nas id bundle class station)));
    } ≡ book_of rules (did (alive_at moment nas id bundle class station) (Renewed link) ∷ past)
unfolding book_come opens touches gives_way ended_by yields fresh_decision number_of link_of station_of
renewed rules moment nas id bundle class station past link ruled found =
    let event : Event = alive_at moment nas id bundle class station in
    let entry : PastEvent = did event (Renewed link) in
    let session : Session = record { nas = nas; id = id } in
    let within : link ≤ length past = known_in past link (found_in (is_bound_to past session) (is_known past) (held_before rules past event) link (held_before_known rules past event ruled) found) in
    settled_alive rules moment nas id bundle class station past (Renewed link) _ _ refl refl
    (sym (views_changed rules entry past (is_bound_to past session) (is_link_of session) (touch (clock_at past event) (bundle_of event.act) station) link ruled
    refl (λ other. refl) (λ other. refl) (λ other known. link_of_is past session other) found (view_renewed event past link within)))
    (sym (over_same entry past refl))

chosen_is_reserved : (past : Past) (nas : Nas) (class : Option ℕ) (link : ℕ)
    → is_chosen past nas class link ≡ true → session_at link past ≡ None
unfolding is_chosen is_reserved
chosen_is_reserved past nas class link chosen = none (session_at link past)
    (and_parts (is_none (session_at link past)) (is_at past nas link)
    (and_parts (is_none (session_at link past) && is_at past nas link) (is_number class (number_at link past)) chosen).0).0 where
      none : (session : Option Session) → is_none session ≡ true → session ≡ None
      none None is = refl
      none (Some session) is = cc

took : (rules : Rules) (moment : ℕ) (nas : Nas) (id : List ℕ) (bundle : Option (List ℕ)) (class : Option ℕ) (station : Option (List ℕ))
    (past : Past) (link : ℕ) → IsRuled rules past
    → reservation_of rules past (alive_at moment nas id bundle class station) nas class ≡ Some link
    → record (book_come rules past (alive_at moment nas id bundle class station)) {
      links = change_first (can_be_taken nas class)
          (take_for (record { nas = nas; id = id }) (clock_at past (alive_at moment nas id bundle class station)) (bundle_of (Alive nas id bundle class station)) station)
          (map (link_view past) (held_before rules past (alive_at moment nas id bundle class station)));
    } ≡ book_of rules (did (alive_at moment nas id bundle class station) (Took link) ∷ past)
unfolding book_come opens touches gives_way ended_by yields fresh_decision number_of reservation_of session_of station_of
took rules moment nas id bundle class station past link ruled found =
    let event : Event = alive_at moment nas id bundle class station in
    let entry : PastEvent = did event (Took link) in
    let session : Session = record { nas = nas; id = id } in
    let within : link ≤ length past = known_in past link (found_in (is_chosen past nas class) (is_known past) (held_before rules past event) link (held_before_known rules past event ruled) found) in
    let reserved = chosen_is_reserved past nas class link (found_is (is_chosen past nas class) (held_before rules past event) link found) in
    settled_alive rules moment nas id bundle class station past (Took link) _ _ refl refl
    (sym (views_changed rules entry past (is_chosen past nas class) (can_be_taken nas class) (take_for session (clock_at past event) (bundle_of event.act) station) link ruled
    refl (λ other. refl) (λ other. refl) (λ other known. chosen_is past nas class other known) found (view_taken event past link session within reserved refl)))
    (sym (over_same entry past refl))

-- an alive, by each of its cases
pub alive_joins : (rules : Rules) (moment : ℕ) (nas : Nas) (id : List ℕ) (bundle : Option (List ℕ))
    (class : Option ℕ) (station : Option (List ℕ)) (past : Past) → IsRuled rules past
    → (found : Option ℕ) → link_of rules past (alive_at moment nas id bundle class station)
    (record { nas = nas; id = id }) ≡ found
    → alive rules (book_come rules past (alive_at moment nas id bundle class station)) (record { nas = nas; id = id })
    (bundle_of (Alive nas id bundle class station)) class station
    (option_map (link_view past) found)
    ≡ book_of rules (did (alive_at moment nas id bundle class station) (alive_outcome rules past (alive_at moment nas id bundle class station) (record { nas = nas; id = id }) class found) ∷ past)
unfolding book_come open_link is_closed has_room reservation_of
alive_joins rules moment nas id bundle class station past ruled (Some link) found = renewed rules moment nas id bundle class station past link ruled found
alive_joins rules moment nas id bundle class station past ruled None found =
    by_closed (is_closed rules past event session) where
      event : Event
      event = alive_at moment nas id bundle class station

      session : Session
      session = record { nas = nas; id = id }

      by_room : (room : Bool)
          → cond room
          (record (book_come rules past event) { links = map (link_view past) (held_before rules past event) ++ record { nas = nas; holder = Bound session; bundle = bundle_of event.act; station = station; opened = clock_at past event; touched = clock_at past event } ∷ [] })
          (record (book_come rules past event) { over = min (over_count past + 1) (2 ^ 64 - 1) })
          ≡ book_of rules (did event (cond room Opened Over) ∷ past)
      by_room true = opened rules moment nas id bundle class station past ruled
      by_room false = overflowed rules moment nas id bundle class station past ruled

      by_reservation : (taken : Option ℕ) → reservation_of rules past event nas class ≡ taken
          → bind rules (book_come rules past event) session (bundle_of event.act) class station (option_map (link_view past) taken)
          ≡ book_of rules (did event (unbound_outcome rules past event taken) ∷ past)
      by_reservation (Some link) is = took rules moment nas id bundle class station past link ruled is
      by_reservation None is = rw (bundles_are past (held_before rules past event)) (by_room (has_room rules past event))

      reservation : find (can_be_taken nas class)
          (map (link_view past) (held_before rules past event)) ≡ option_map (link_view past)
          (find (is_chosen past nas class) (held_before rules past event))
      reservation = find_view (link_view past) (is_known past) (can_be_taken nas class) (is_chosen past nas class) (λ link known. chosen_is past nas class link known)
          (held_before rules past event) (held_before_known rules past event ruled)

      by_closed : (closed : Bool)
          → cond closed (book_come rules past event)
          (bind rules (book_come rules past event) session (bundle_of event.act) class station (find (can_be_taken nas class) (map (link_view past) (held_before rules past event))))
          ≡ book_of rules (did event (cond closed Ignored (unbound_outcome rules past event (reservation_of rules past event nas class))) ∷ past)
      by_closed true = ignored rules moment nas id bundle class station past ruled
      by_closed false = rw reservation (by_reservation (reservation_of rules past event nas class) refl)
