-- What a past that follows the rule is: one past for one list of events, and each link in it names a number
-- at which a link opened.
use Rattle.std.proofs.Common.{◌≡◌, ℕ, suc, ◌-◌, ◌^◌, ◌<◌, ◌≤◌, List, [], ◌∷◌, ◌++◌, length, Bool, true, false, cond, refl, ap, sym, ◌∙◌, subst, arith, map, leb}
use Rattle.std.specs.Prelude.{Option, Some, None, filter, find, ⊤, nat_lt}
use Rattle.std.specs.List.{list_all}
use Rattle.std.proofs.lemmas.Bool.{le-leb, leb-true, and_from, and_parts, ne_eqb}
use Rattle.rsl_accounts.specs.declared.rules.Rules.{Rules}
use Rattle.rsl_event.specs.declared.event.Event.{Event}
use Rattle.rsl_event.specs.declared.event.Act.{Act}
use Rattle.rsl_event.specs.declared.event.Act.TheVariants.{Ask, Alive, Stop, Sweep, Tick}
use Rattle.rsl_session.specs.declared.past_event.PastEvent.{PastEvent}
use Rattle.rsl_session.specs.declared.outcome.Outcome.{Outcome}
use Rattle.rsl_session.specs.declared.outcome.Outcome.TheVariants.{Accepted, AcceptedInPlace, Refused, Repeated, Opened, Took, Renewed, Ignored, Over, Passed}
use Rattle.rsl_session.specs.declared.kept.KeptAsk.{KeptAsk}
use Rattle.rsl_session.specs.declared.session.Session.{Session}
use Rattle.rsl_session.specs.Past.{Past}
use Rattle.rsl_session.specs.Link.{links, opens}
use Rattle.rsl_session.specs.Binding.{session_at, bound_by, bundle_at, bundled_by, binds, touches}
use Rattle.rsl_session.specs.Touch.{touched_at}
use Rattle.rsl_session.specs.Station.{is_of_station, station_at, station_of, stationed_by}
use Rattle.rsl_session.specs.Held.{held_links, held_before}
use Rattle.rsl_session.specs.Ask.{ask_outcome, fresh_outcome, placed_outcome, returning_outcome, first_touched, station_link, station_links, unfitting_outcome, repeated_ask, has_a_place, has_a_place_without, yielding_link, idle_links, accepts}
use Rattle.rsl_session.specs.Lapse.{is_idle}
use Rattle.rsl_session.specs.Alive.{alive_outcome, unbound_outcome, link_of, reservation_of, has_room, is_chosen}
use Rattle.rsl_session.specs.Closed.{is_closed}
use Rattle.rsl_session.specs.Rule.{IsRuled, outcome_of, outcome_by, past_from, past_of, entry_of}

pub IsRuled-past_from : (rules : Rules) (past : Past) (events : List Event) → IsRuled rules past → IsRuled rules (past_from rules past events)
unfolding past_from IsRuled entry_of
IsRuled-past_from rules past [] ruled = ruled
IsRuled-past_from rules past (event ∷ events) ruled =
    IsRuled-past_from rules (entry_of rules past event ∷ past) events (refl, ruled)

pub IsRuled-past_of : (rules : Rules) (events : List Event) → IsRuled rules (past_of rules events)
unfolding past_of IsRuled
IsRuled-past_of rules events = IsRuled-past_from rules [] events tt

-- two pasts of the same events that follow the rule are equal
make_entry : Event → Outcome → PastEvent
make_entry event outcome = record { event = event; outcome = outcome }

same_entries : (e f : PastEvent) (p q : Past) → e.event ≡ f.event → e.outcome ≡ f.outcome → p ≡ q → e ∷ p ≡ f ∷ q
unfolding make_entry
same_entries e f p q event outcome rest =
    let entry : make_entry e.event e.outcome ≡ make_entry f.event f.outcome = cc in
    cons_entries (make_entry e.event e.outcome) (make_entry f.event f.outcome) p q entry rest where
      cons_entries : (e f : PastEvent) (p q : Past) → e ≡ f → p ≡ q → e ∷ p ≡ f ∷ q
      cons_entries e f p q a b = cc

pub same_past : (rules : Rules) (p q : Past) → IsRuled rules p → IsRuled rules q → map (λ (e : PastEvent). e.event) p ≡ map (λ (e : PastEvent). e.event) q → p ≡ q
unfolding IsRuled
same_past rules [] [] ruled_p ruled_q events = refl
same_past rules [] (f ∷ q) ruled_p ruled_q events = cc
same_past rules (e ∷ p) [] ruled_p ruled_q events = cc
same_past rules (e ∷ p) (f ∷ q) ruled_p ruled_q events =
    let event : e.event ≡ f.event = cc in
    let older : map (λ (e : PastEvent). e.event) p ≡ map (λ (e : PastEvent). e.event) q = cc in
    let rest : p ≡ q = same_past rules p q ruled_p.1 ruled_q.1 older in
    let outcome : e.outcome ≡ f.outcome = ruled_p.0 ∙ ap (outcome_of rules p) event ∙ ap (λ past. outcome_of rules past f.event) rest ∙ sym ruled_q.0 in
    same_entries e f p q event outcome rest

-- what passes a test, and then is found, passes it
find_passes : (p q : ℕ → Bool) (xs : List ℕ) (x : ℕ) → list_all q xs ≡ true → find p xs ≡ Some x → q x ≡ true
find_passes p q [] x all found = cc
find_passes p q (y ∷ xs) x all found = by_cases p q y xs x (p y) (and_parts (q y) (list_all q xs) all) found (find_passes p q xs x) where
  by_cases : (p q : ℕ → Bool) (y : ℕ) (xs : List ℕ) (x : ℕ) (here : Bool) → (q y ≡ true) × (list_all q xs ≡ true)
      → cond here (Some y) (find p xs) ≡ Some x → (list_all q xs ≡ true → find p xs ≡ Some x → q x ≡ true) → q x ≡ true
  by_cases p q y xs x true all found rest = let same : y ≡ x = cc in subst (λ n. q n ≡ true) same all.0
  by_cases p q y xs x false all found rest = rest all.1 found

list_all-filter : (p q : ℕ → Bool) (xs : List ℕ) → list_all q xs ≡ true → list_all q (filter p xs) ≡ true
list_all-filter p q [] all = refl
list_all-filter p q (x ∷ xs) all = by_cases p q x xs (p x) (and_parts (q x) (list_all q xs) all) (list_all-filter p q xs) where
  by_cases : (p q : ℕ → Bool) (x : ℕ) (xs : List ℕ) (here : Bool) → (q x ≡ true) × (list_all q xs ≡ true)
      → (list_all q xs ≡ true → list_all q (filter p xs) ≡ true) → list_all q (cond here (x ∷ filter p xs) (filter p xs)) ≡ true
  by_cases p q x xs true all rest = and_from _ _ all.0 (rest all.1)
  by_cases p q x xs false all rest = rest all.1

list_all_weaker : (p q : ℕ → Bool) (weaker : (x : ℕ) → p x ≡ true → q x ≡ true) (xs : List ℕ) → list_all p xs ≡ true → list_all q xs ≡ true
list_all_weaker p q weaker [] all = refl
list_all_weaker p q weaker (x ∷ xs) all =
    let parts = and_parts (p x) (list_all p xs) all in
    and_from _ _ (weaker x parts.0) (list_all_weaker p q weaker xs parts.1)

list_all_push : (q : ℕ → Bool) (xs : List ℕ) (x : ℕ) → list_all q xs ≡ true → q x ≡ true → list_all q (xs ++ x ∷ []) ≡ true
list_all_push q [] x all here = and_from _ _ here refl
list_all_push q (y ∷ xs) x all here =
    let parts = and_parts (q y) (list_all q xs) all in
    and_from _ _ parts.0 (list_all_push q xs x parts.1 here)

-- a link has opened: its number is one of the past
pub is_in : Past → ℕ → Bool
is_in past link = leb link (length past)

pub is_in-true : (past : Past) (link : ℕ) → is_in past link ≡ true → link ≤ length past
unfolding is_in
is_in-true past link h = leb-true link (length past) h

is_in-older : (entry : PastEvent) (past : Past) (link : ℕ) → is_in past link ≡ true → is_in (entry ∷ past) link ≡ true
unfolding is_in
is_in-older entry past link h = le-leb link (suc (length past)) (omega (arith, leb-true link (length past) h))

is_in-newest : (entry : PastEvent) (past : Past) → is_in (entry ∷ past) (suc (length past)) ≡ true
unfolding is_in
is_in-newest entry past = le-leb (suc (length past)) (suc (length past)) (omega arith)

pub links-in : (past : Past) → list_all (is_in past) (links past) ≡ true
unfolding links
links-in [] = refl
links-in (entry ∷ past) = by_cases entry past (opens entry.outcome) (list_all_weaker (is_in past) (is_in (entry ∷ past)) (is_in-older entry past) (links past) (links-in past)) where
  by_cases : (entry : PastEvent) (past : Past) (new : Bool) → list_all (is_in (entry ∷ past)) (links past) ≡ true
      → list_all (is_in (entry ∷ past)) (cond new (links past ++ suc (length past) ∷ []) (links past)) ≡ true
  by_cases entry past true older = list_all_push (is_in (entry ∷ past)) (links past) (suc (length past)) older (is_in-newest entry past)
  by_cases entry past false older = older

pub held_before-in : (rules : Rules) (past : Past) (event : Event) → list_all (is_in past) (held_before rules past event) ≡ true
unfolding held_links held_before
held_before-in rules past event = list_all-filter _ (is_in past) _ (list_all-filter _ (is_in past) (links past) (links-in past))

-- an alive takes or renews a link that has opened
link_in : (rules : Rules) (past : Past) (event : Event) (session : Session) (link : ℕ) → link_of rules past event session ≡ Some link → link ≤ length past
unfolding link_of
link_in rules past event session link found = is_in-true past link (find_passes _ (is_in past) _ link (held_before-in rules past event) found)

reservation_in : (rules : Rules) (past : Past) (event : Event) (nas : _) (class : Option ℕ) (link : ℕ) → reservation_of rules past event nas class ≡ Some link → link ≤ length past
unfolding reservation_of
reservation_in rules past event nas class link found =
    is_in-true past link (find_passes (is_chosen past nas class) (is_in past) (held_before rules past event) link (held_before-in rules past event) found)

-- an ask takes the place of a link that has opened: of one of these that were held
first_in : (rules : Rules) (past : Past) (event : Event) (passes : ℕ → Bool) (link : ℕ)
    → first_touched past (filter passes (held_before rules past event)) ≡ Some link → link ≤ length past
unfolding first_touched
first_in rules past event passes link found =
    is_in-true past link (find_passes _ (is_in past) (filter passes (held_before rules past event)) link
    (list_all-filter passes (is_in past) _ (held_before-in rules past event)) found)

yielding_in : (rules : Rules) (past : Past) (event : Event) (link : ℕ) → yielding_link rules past event ≡ Some link → link ≤ length past
unfolding yielding_link idle_links
yielding_in rules past event link found = first_in rules past event (is_idle rules past event) link found

returning_in : (rules : Rules) (past : Past) (event : Event) (link : ℕ) → station_link rules past event ≡ Some link → link ≤ length past
unfolding station_link station_links
returning_in rules past event link found = first_in rules past event (is_of_station past (station_of event.act)) link found

-- the link that an outcome names has opened
pub IsOfPast : Past → Outcome → Type 0
IsOfPast past (AcceptedInPlace number yielded) = yielded ≤ length past
IsOfPast past (Took link) = link ≤ length past
IsOfPast past (Renewed link) = link ≤ length past
IsOfPast past _ = ⊤

pub IsOfPast-outcome_of : (rules : Rules) (past : Past) (event : Event) → IsOfPast past (outcome_of rules past event)
unfolding IsOfPast outcome_of fresh_outcome placed_outcome
IsOfPast-outcome_of rules past event = by_act event.act where
  of_ask : (found : Option KeptAsk) → IsOfPast past (ask_outcome rules past event found)
  of_ask (Some ask) = tt
  of_ask None = numbered (nat_lt (accepts past) (2 ^ 64 - 1)) where
    without : (link : ℕ) → link ≤ length past → (fits : Bool) → IsOfPast past (cond fits (AcceptedInPlace (accepts past) link) Refused)
    without link within true = within
    without link within false = tt

    unfitting : (found : Option ℕ) → ((link : ℕ) → found ≡ Some link → link ≤ length past) → IsOfPast past (unfitting_outcome rules past event found)
    unfitting None within = tt
    unfitting (Some link) within = without link (within link refl) (has_a_place_without rules past event link)

    by_place : (free : Bool) → IsOfPast past (cond free (Accepted (accepts past)) (unfitting_outcome rules past event (yielding_link rules past event)))
    by_place true = tt
    by_place false = unfitting _ (yielding_in rules past event)

    placed : IsOfPast past (placed_outcome rules past event)
    placed = by_place (has_a_place rules past event)

    in_place : (link : ℕ) → link ≤ length past → (fits : Bool) → IsOfPast past (cond fits (AcceptedInPlace (accepts past) link) (placed_outcome rules past event))
    in_place link within true = within
    in_place link within false = placed

    fresh : (found : Option ℕ) → ((link : ℕ) → found ≡ Some link → link ≤ length past) → IsOfPast past (returning_outcome rules past event found)
    fresh None within = placed
    fresh (Some link) within = in_place link (within link refl) (has_a_place_without rules past event link)

    numbered : (left : Bool) → IsOfPast past (cond left (fresh_outcome rules past event) Refused)
    numbered true = fresh (station_link rules past event) (returning_in rules past event)
    numbered false = tt

  unbound : (found : Option ℕ) → ((link : ℕ) → found ≡ Some link → link ≤ length past) → IsOfPast past (unbound_outcome rules past event found)
  unbound (Some link) within = within link refl
  unbound None within = opened (has_room rules past event) where
    opened : (room : Bool) → IsOfPast past (cond room Opened Over)
    opened true = tt
    opened false = tt

  of_alive : (session : Session) (class found : Option ℕ) → ((link : ℕ) → found ≡ Some link → link ≤ length past) → IsOfPast past (alive_outcome rules past event session class found)
  of_alive session class (Some link) within = within link refl
  of_alive session class None within = open_or_closed (is_closed rules past event session) where
    open_or_closed : (closed : Bool) → IsOfPast past (cond closed Ignored (unbound_outcome rules past event (reservation_of rules past event session.nas class)))
    open_or_closed true = tt
    open_or_closed false = unbound _ (reservation_in rules past event session.nas class)

  by_act : (act : Act) → IsOfPast past (outcome_by rules past event act)
  by_act (Ask key nas station) = of_ask (repeated_ask rules past event key)
  by_act (Alive nas id bundle class station) = of_alive _ class _ (link_in rules past event (record { nas = nas; id = id }))
  by_act (Stop nas id) = tt
  by_act (Sweep nas delay) = tt
  by_act Tick = tt

-- a link that yields has opened
pub yielded-le : (rules : Rules) (past : Past) (event : Event) (number link : ℕ) → outcome_of rules past event ≡ AcceptedInPlace number link → link ≤ length past
unfolding IsOfPast
yielded-le rules past event number link is = subst (IsOfPast past) is (IsOfPast-outcome_of rules past event)

-- what an event does touches no link that opens later
pub touches_later : (past : Past) (outcome : Outcome) (link : ℕ) → IsOfPast past outcome → suc (length past) < link → touches link (suc (length past)) outcome ≡ false
unfolding IsOfPast touches
touches_later past (Accepted number) link within later = ne_eqb link (suc (length past)) (λ same. omega arith)
touches_later past (AcceptedInPlace number yielded) link within later = ne_eqb link (suc (length past)) (λ same. omega arith)
touches_later past Refused link within later = refl
touches_later past (Repeated decision) link within later = refl
touches_later past Opened link within later = ne_eqb link (suc (length past)) (λ same. omega arith)
touches_later past (Took taken) link within later = ne_eqb link taken (λ same. omega arith)
touches_later past (Renewed renewed) link within later = ne_eqb link renewed (λ same. omega arith)
touches_later past Ignored link within later = refl
touches_later past Over link within later = refl
touches_later past Passed link within later = refl

binds_later : (past : Past) (outcome : Outcome) (link : ℕ) → IsOfPast past outcome → suc (length past) < link → binds link (suc (length past)) outcome ≡ false
unfolding IsOfPast binds
binds_later past (Accepted number) link within later = refl
binds_later past (AcceptedInPlace number yielded) link within later = refl
binds_later past Refused link within later = refl
binds_later past (Repeated decision) link within later = refl
binds_later past Opened link within later = ne_eqb link (suc (length past)) (λ same. omega arith)
binds_later past (Took taken) link within later = ne_eqb link taken (λ same. omega arith)
binds_later past (Renewed renewed) link within later = refl
binds_later past Ignored link within later = refl
binds_later past Over link within later = refl
binds_later past Passed link within later = refl

-- a link that has not opened is bound to no session, and was never touched
pub bound-later : (rules : Rules) (past : Past) (link : ℕ) → IsRuled rules past → length past < link → session_at link past ≡ None
unfolding IsRuled session_at bound_by
bound-later rules [] link ruled later = refl
bound-later rules (entry ∷ past) link ruled later =
    let older : session_at link past ≡ None = bound-later rules past link ruled.1 (omega arith) in
    let within : IsOfPast past entry.outcome = subst (IsOfPast past) (sym ruled.0) (IsOfPast-outcome_of rules past entry.event) in
    rw (older, binds_later past entry.outcome link within later) refl

pub touched-later : (rules : Rules) (past : Past) (link : ℕ) → IsRuled rules past → length past < link → touched_at link past ≡ 0
unfolding IsRuled touched_at
touched-later rules [] link ruled later = refl
touched-later rules (entry ∷ past) link ruled later =
    let within : IsOfPast past entry.outcome = subst (IsOfPast past) (sym ruled.0) (IsOfPast-outcome_of rules past entry.event) in
    rw (touches_later past entry.outcome link within later) (touched-later rules past link ruled.1 (omega arith))

-- a link that has not opened has no bundle
pub bundle_at-later : (rules : Rules) (past : Past) (link : ℕ) → IsRuled rules past → length past < link → bundle_at link past ≡ None
unfolding IsRuled bundle_at bundled_by
bundle_at-later rules [] link ruled later = refl
bundle_at-later rules (entry ∷ past) link ruled later =
    let older : bundle_at link past ≡ None = bundle_at-later rules past link ruled.1 (omega arith) in
    let within : IsOfPast past entry.outcome = subst (IsOfPast past) (sym ruled.0) (IsOfPast-outcome_of rules past entry.event) in
    rw (older, touches_later past entry.outcome link within later) refl

-- a link that has not opened has no station
pub station_at-later : (rules : Rules) (past : Past) (link : ℕ) → IsRuled rules past → length past < link → station_at link past ≡ None
unfolding IsRuled station_at stationed_by
station_at-later rules [] link ruled later = refl
station_at-later rules (entry ∷ past) link ruled later =
    let older : station_at link past ≡ None = station_at-later rules past link ruled.1 (omega arith) in
    let within : IsOfPast past entry.outcome = subst (IsOfPast past) (sym ruled.0) (IsOfPast-outcome_of rules past entry.event) in
    rw (older, touches_later past entry.outcome link within later) refl
