-- The step of the book of a past is the book of the past with the event.
use Rattle.std.proofs.Common.{◌≡◌, ℕ, ◌≤◌, List, [], ◌∷◌, ◌++◌, map, Bool, true, false, cond, not, refl, ap, sym, ◌∙◌, subst}
use Rattle.std.specs.Prelude.{Option, Some, None, filter, find}
use Rattle.std.specs.Option.{option_map}
use Rattle.rsl_accounts.specs.Limits.{RulesFit}
use Rattle.rsl_accounts.specs.declared.rules.Rules.{Rules}
use Rattle.rsl_event.specs.declared.event.Event.{Event}
use Rattle.rsl_event.specs.declared.event.Act.{Act}
use Rattle.rsl_event.specs.declared.event.Act.TheVariants.{Ask, Alive, Stop, Sweep, Tick}
use Rattle.rsl_event.specs.declared.event.Decision.{Decision}
use Rattle.rsl_event.specs.declared.event.Decision.TheVariants.{Done}
use Rattle.rsl_event.specs.declared.nas.Nas.{Nas}
use Rattle.rsl_session.specs.declared.past_event.PastEvent.{PastEvent}
use Rattle.rsl_session.specs.declared.outcome.Outcome.TheVariants.{Opened, Ignored, Over, Passed}
use Rattle.rsl_session.specs.declared.session.Session.{Session}
use Rattle.rsl_session.specs.Past.{Past}
use Rattle.rsl_session.specs.Clock.{clock, clock_at}
use Rattle.rsl_session.specs.Link.{links, opens, number_of}
use Rattle.rsl_session.specs.Binding.{touches, is_bound_to}
use Rattle.rsl_session.specs.Held.{held_links, held_before, ended_by, yields, is_at}
use Rattle.rsl_session.specs.Places.{places, places_of}
use Rattle.rsl_session.specs.Ask.{repeated_ask, fresh_asks, fresh_decision, accepts}
use Rattle.rsl_session.specs.Closed.{is_closed, stops}
use Rattle.rsl_session.specs.Alive.{alive_outcome, unbound_outcome, link_of, reservation_of, has_room, over_count}
use Rattle.rsl_session.specs.Rule.{IsRuled, decision_of, decisions, decisions_from, entry_of, outcome_by, outcome_of, past_from, past_of, places_after}
use Rattle.rsl_session.specs.Book.{Book, BookLink, new_book, places_in}
use Rattle.rsl_session.specs.BookLinks.{is_link_of, is_swept}
use Rattle.rsl_session.specs.BookStep.{act_on, step, stop, sweep, book_after, decided_by}
use Rattle.rsl_session.specs.BookOf.{book_of, link_view}
use Rattle.rsl_session.proofs.Ending.{gives_way}
use Rattle.rsl_session.proofs.Limit.{places_after-le}
use Rattle.rsl_session.proofs.BookLists.{filter_view, filter_same, find_view, or_false}
use Rattle.rsl_session.proofs.BookViews.{did}
use Rattle.rsl_session.proofs.BookKnown.{is_known, held_before_known}
use Rattle.rsl_session.proofs.BookKept.{asks_same, asks_swept, stops_same, stops_more, stops_swept, accepts_same, over_same}
use Rattle.rsl_session.proofs.BookTests.{link_of_is, swept_is, bundles_are}
unfoldable use Rattle.rsl_session.proofs.BookTests.{is_swept_at}
use Rattle.rsl_session.proofs.BookGrown.{views_quiet}
use Rattle.rsl_session.proofs.BookAt.{book_come, book_same, come, settled, links_same}
use Rattle.rsl_session.proofs.BookAsk.{ask_joins}
use Rattle.rsl_session.proofs.BookAlive.{alive_joins}

-- the views of the links that a stop or a sweep leaves
left_by_act : (rules : Rules) (event : Event) (past : Past) (p : BookLink → Bool) (q : ℕ → Bool)
    → IsRuled rules past
    → ((link : ℕ) → is_known past link ≡ true → p (link_view past link) ≡ q link)
    → ((link : ℕ) → gives_way (did event Passed) past link ≡ q link)
    → filter (λ link. not (p link))
    (map (link_view past) (held_before rules past event)) ≡ map (link_view (did event Passed ∷ past))
    (held_links rules (did event Passed ∷ past))
unfolding opens touches
left_by_act rules event past p q ruled is ends =
    filter_view (link_view past) (is_known past) (λ link. not (p link)) (λ link. not (q link)) (λ link known. ap not (is link known)) (held_before rules past event) (held_before_known rules past event ruled)
    ∙ ap (map (link_view past)) (filter_same (λ link. not (q link)) (λ link. not (gives_way (did event Passed) past link)) (λ link. ap not (sym (ends link))) (held_before rules past event))
    ∙ sym (views_quiet rules (did event Passed) past ruled refl (λ link within. refl))

stop_joins : (rules : Rules) (moment : ℕ) (nas : Nas) (id : List ℕ) (past : Past) → IsRuled rules past
    → stop (book_come rules past (record { moment = moment; act = Stop nas id }))
    (record { nas = nas; id = id }) ≡ book_of rules (did (record { moment = moment; act = Stop nas id }) Passed ∷ past)
unfolding book_come stop clock_at gives_way ended_by yields fresh_decision number_of
stop_joins rules moment nas id past ruled =
    let event : Event = record { moment = moment; act = Stop nas id } in
    let entry : PastEvent = did event Passed in
    let session : Session = record { nas = nas; id = id } in
    settled rules event past Passed (stop (book_come rules past event) session) refl
    (left_by_act rules event past (is_link_of session) (is_bound_to past session) ruled (λ link known. link_of_is past session link) (λ link. or_false (is_bound_to past session link)))
    (sym (accepts_same entry past refl)) (sym (asks_same entry past refl refl)) (stops_more moment Passed past nas id) (sym (over_same entry past refl))

sweep_joins : (rules : Rules) (moment : ℕ) (nas : Nas) (delay : ℕ) (past : Past) → IsRuled rules past
    → sweep (book_come rules past (record { moment = moment; act = Sweep nas delay })) nas delay ≡ book_of rules (did (record { moment = moment; act = Sweep nas delay }) Passed ∷ past)
unfolding book_come sweep clock_at gives_way ended_by yields fresh_decision number_of is_swept_at
sweep_joins rules moment nas delay past ruled =
    let event : Event = record { moment = moment; act = Sweep nas delay } in
    let entry : PastEvent = did event Passed in
    settled rules event past Passed (sweep (book_come rules past event) nas delay) refl
    (left_by_act rules event past (is_swept nas delay (clock_at past event)) (is_swept_at past nas delay (clock_at past event)) ruled (λ link known. swept_is past nas delay (clock_at past event) link known) (λ link. or_false (is_swept_at past nas delay (clock_at past event) link)))
    (sym (accepts_same entry past refl)) (asks_swept moment Passed past nas delay) (stops_swept moment Passed past nas delay) (sym (over_same entry past refl))

tick_joins : (rules : Rules) (moment : ℕ) (past : Past) → IsRuled rules past
    → book_come rules past (record { moment = moment; act = Tick }) ≡ book_of rules (did (record { moment = moment; act = Tick }) Passed ∷ past)
unfolding book_come opens touches gives_way ended_by yields fresh_decision number_of
tick_joins rules moment past ruled =
    let event : Event = record { moment = moment; act = Tick } in
    let entry : PastEvent = did event Passed in
    settled rules event past Passed (book_come rules past event) refl
    (links_same rules entry past ruled refl (λ link. refl) (λ link. refl))
    (sym (accepts_same entry past refl)) (sym (asks_same entry past refl refl)) (sym (stops_same entry past refl refl)) (sym (over_same entry past refl))

-- an alive gets no decision
unbound_done : (rules : Rules) (past : Past) (event : Event) (taken : Option ℕ)
    → decision_of (unbound_outcome rules past event taken) ≡ Done
unbound_done rules past event (Some link) = refl
unbound_done rules past event None = by_room (has_room rules past event) where
  by_room : (room : Bool) → decision_of (cond room Opened Over) ≡ Done
  by_room true = refl
  by_room false = refl

alive_done : (rules : Rules) (past : Past) (event : Event) (session : Session) (class found : Option ℕ)
    → decision_of (alive_outcome rules past event session class found) ≡ Done
alive_done rules past event session class (Some link) = refl
alive_done rules past event session class None = by_closed (is_closed rules past event session) where
  by_closed : (closed : Bool)
      → decision_of (cond closed Ignored (unbound_outcome rules past event (reservation_of rules past event session.nas class))) ≡ Done
  by_closed true = refl
  by_closed false = unbound_done rules past event _

act_joins : (rules : Rules) (past : Past) (moment : ℕ) (act : Act) → IsRuled rules past
    → act_on rules (book_come rules past (record { moment = moment; act = act })) act
    ≡ (
      book_of rules (did (record { moment = moment; act = act }) (outcome_by rules past (record { moment = moment; act = act }) act) ∷ past),
      decision_of (outcome_by rules past (record { moment = moment; act = act }) act),
    )
unfolding book_come repeated_ask link_of
act_joins rules past moment (Ask key nas station) ruled =
    ask_joins rules moment key nas station past ruled (repeated_ask rules past (record { moment = moment; act = Ask key nas station }) key)
act_joins rules past moment (Alive nas id bundle class station) ruled =
    let event : Event = record { moment = moment; act = Alive nas id bundle class station } in
    let session : Session = record { nas = nas; id = id } in
    let found : find (is_link_of session) (map (link_view past) (held_before rules past event)) ≡ option_map (link_view past) (find (is_bound_to past session) (held_before rules past event)) =
    find_view (link_view past) (is_known past) (is_link_of session) (is_bound_to past session) (λ link known. link_of_is past session link) (held_before rules past event) (held_before_known rules past event ruled) in
    rw (found, alive_done rules past event session class (link_of rules past event session))
    (ap (λ book. (book, Done)) (alive_joins rules moment nas id bundle class station past ruled (link_of rules past event session) refl))
act_joins rules past moment (Stop nas id) ruled = ap (λ book. (book, Done)) (stop_joins rules moment nas id past ruled)
act_joins rules past moment (Sweep nas delay) ruled = ap (λ book. (book, Done)) (sweep_joins rules moment nas delay past ruled)
act_joins rules past moment Tick ruled = ap (λ book. (book, Done)) (tick_joins rules moment past ruled)

pub joins : (rules : Rules) (past : Past) (event : Event) → IsRuled rules past
    → step rules (book_of rules past) event ≡ (book_of rules (entry_of rules past event ∷ past), decision_of (outcome_of rules past event))
unfolding step entry_of outcome_of
joins rules past event ruled = rw (come rules past event) (act_joins rules past event.moment event.act ruled)

-- over whole lists: the book of a past, stepped by each of some events
pub book_after_is : (rules : Rules) (past : Past) (events : List Event) → IsRuled rules past
    → book_after rules (book_of rules past) events ≡ book_of rules (past_from rules past events)
unfolding book_after past_from IsRuled entry_of
book_after_is rules past [] ruled = refl
book_after_is rules past (event ∷ events) ruled =
    ap (λ (next : Book × Decision). book_after rules next.0 events) (joins rules past event ruled) ∙ book_after_is rules (entry_of rules past event ∷ past) events (refl, ruled)

pub decided_by_is : (rules : Rules) (past : Past) (events : List Event) → IsRuled rules past
    → decided_by rules (book_of rules past) events ≡ decisions_from rules past events
unfolding decided_by decisions_from IsRuled entry_of
decided_by_is rules past [] ruled = refl
decided_by_is rules past (event ∷ events) ruled =
    ap (λ (next : Book × Decision). next.1 ∷ decided_by rules next.0 events) (joins rules past event ruled)
    ∙ ap (λ ds. decision_of (outcome_of rules past event) ∷ ds) (decided_by_is rules (entry_of rules past event ∷ past) events (refl, ruled))

-- the book of no past is new
new_is : (rules : Rules) → new_book ≡ book_of rules []
unfolding new_book book_of clock held_links links accepts fresh_asks stops over_count
new_is rules = book_same _ _ refl refl refl refl refl refl

pub books_are : (rules : Rules) (events : List Event)
    → book_after rules new_book events ≡ book_of rules (past_of rules events)
unfolding past_of IsRuled
books_are rules events = ap (λ book. book_after rules book events) (new_is rules) ∙ book_after_is rules [] events tt

pub books_decide : (rules : Rules) (events : List Event)
    → decided_by rules new_book events ≡ decisions rules events
unfolding decisions IsRuled
books_decide rules events = ap (λ book. decided_by rules book events) (new_is rules) ∙ decided_by_is rules [] events tt

pub places_are : (rules : Rules) (past : Past) → places_in rules (book_of rules past) ≡ places rules past
unfolding places_in places book_of
places_are rules past = ap (places_of rules.ports) (bundles_are past (held_links rules past))

pub books_hold : (rules : Rules) (events : List Event)
    → places_in rules (book_after rules new_book events) ≡ places_after rules events
unfolding places_after
books_hold rules events = ap (places_in rules) (books_are rules events) ∙ places_are rules (past_of rules events)

pub books_within : (rules : Rules) (events : List Event) → RulesFit rules
    → places_in rules (book_after rules new_book events) ≤ rules.places
books_within rules events fit = subst (λ n. n ≤ rules.places) (sym (books_hold rules events)) (places_after-le rules events fit)
