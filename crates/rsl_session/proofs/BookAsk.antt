-- An ask does to the book of a past what the rule says that it does.
use Rattle.std.proofs.Common.{◌≡◌, ℕ, suc, ◌-◌, ◌^◌, [], ◌∷◌, ◌++◌, List, length, map, Bool, true, false, cond, refl, ap, sym, ◌∙◌, arith}
use Rattle.std.specs.Prelude.{Option, Some, None, filter, find, nat_lt}
use Rattle.std.specs.Option.{option_map}
use Rattle.std.proofs.lemmas.Bool.{ne_eqb}
use Rattle.rsl_accounts.specs.declared.rules.Rules.{Rules}
use Rattle.rsl_event.specs.declared.event.Event.{Event}
use Rattle.rsl_event.specs.declared.event.Act.TheVariants.{Ask}
use Rattle.rsl_event.specs.declared.event.Decision.{Decision}
use Rattle.rsl_event.specs.declared.event.Decision.TheVariants.{Accept, LimitReject}
use Rattle.rsl_event.specs.declared.event.Key.{Key}
use Rattle.rsl_event.specs.declared.nas.Nas.{Nas}
use Rattle.rsl_session.specs.declared.past_event.PastEvent.{PastEvent}
use Rattle.rsl_session.specs.declared.outcome.Outcome.{Outcome}
use Rattle.rsl_session.specs.declared.outcome.Outcome.TheVariants.{Accepted, AcceptedInPlace, Refused, Repeated}
use Rattle.rsl_session.specs.declared.kept.KeptAsk.{KeptAsk}
use Rattle.rsl_session.specs.Past.{Past}
use Rattle.rsl_session.specs.Clock.{clock_at}
use Rattle.rsl_session.specs.Link.{opens, nas_of, number_of}
use Rattle.rsl_session.specs.Binding.{touches, bundle_of}
use Rattle.rsl_session.specs.Held.{held_before, ended_by, yields}
use Rattle.rsl_session.specs.Station.{is_of_station, station_of}
use Rattle.rsl_session.specs.Lapse.{is_idle}
use Rattle.rsl_session.specs.Ask.{ask_outcome, fresh_outcome, placed_outcome, returning_outcome, unfitting_outcome, accepts, first_touched, fresh_decision, has_a_place, has_a_place_without, held_without, idle_links, station_link, station_links, yielding_link}
use Rattle.rsl_session.specs.Rule.{IsRuled, decision_of}
use Rattle.rsl_session.specs.Book.{Book, BookLink, is_stale_at}
use Rattle.rsl_session.specs.BookLinks.{can_return, can_yield, is_oldest, is_stationed, without_first}
use Rattle.rsl_session.specs.BookStep.{ask, fresh_ask, placed_ask, ask_of_station, ask_for_place, accept_beside, refuse, keep_ask}
use Rattle.rsl_session.specs.BookOf.{book_of, link_view}
use Rattle.rsl_session.proofs.Ending.{gives_way}
use Rattle.rsl_session.proofs.BookLists.{find_view, without_by_name}
use Rattle.rsl_session.proofs.BookViews.{did, view_accepted, view_accepted_in_place}
use Rattle.rsl_session.proofs.BookKnown.{is_known, held_before_known, held_before_rises}
use Rattle.rsl_session.proofs.BookKept.{asks_same, asks_more, stops_same, accepts_same, accepts_more, over_same}
use Rattle.rsl_session.proofs.BookTests.{fits_is, first_is, is_oldest_of, oldest_is, stale_is, stationed_is}
use Rattle.rsl_session.proofs.BookGrown.{views_opened, all_left}
use Rattle.rsl_session.proofs.BookAt.{book_come, settled, links_same}

-- an ask at a moment
abbrev pub ask_at : ℕ → Key → Nas → Option (List ℕ) → Event
ask_at moment key nas station = record { moment = moment; act = Ask key nas station }

-- what each outcome of an ask makes of the book
repeated : (rules : Rules) (moment : ℕ) (key : Key) (nas : Nas) (station : Option (List ℕ)) (past : Past) (decision : Decision)
    → IsRuled rules past
    → book_come rules past (ask_at moment key nas station) ≡ book_of rules (did (ask_at moment key nas station) (Repeated decision) ∷ past)
unfolding book_come opens touches gives_way ended_by yields fresh_decision number_of
repeated rules moment key nas station past decision ruled =
    let event : Event = ask_at moment key nas station in
    let entry : PastEvent = did event (Repeated decision) in
    settled rules event past (Repeated decision) (book_come rules past event) refl
    (links_same rules entry past ruled refl (λ link. refl) (λ link. refl))
    (sym (accepts_same entry past refl)) (sym (asks_same entry past refl refl)) (sym (stops_same entry past refl refl)) (sym (over_same entry past refl))

refused : (rules : Rules) (moment : ℕ) (key : Key) (nas : Nas) (station : Option (List ℕ)) (past : Past) → IsRuled rules past
    → keep_ask (book_come rules past (ask_at moment key nas station)) key nas LimitReject ≡ book_of rules (did (ask_at moment key nas station) Refused ∷ past)
unfolding book_come keep_ask opens touches gives_way ended_by yields fresh_decision number_of clock_at
refused rules moment key nas station past ruled =
    let event : Event = ask_at moment key nas station in
    let entry : PastEvent = did event Refused in
    settled rules event past Refused (keep_ask (book_come rules past event) key nas LimitReject) refl
    (links_same rules entry past ruled refl (λ link. refl) (λ link. refl))
    (sym (accepts_same entry past refl)) (asks_more moment Refused past key nas station LimitReject refl) (sym (stops_same entry past refl refl)) (sym (over_same entry past refl))

accepted : (rules : Rules) (moment : ℕ) (key : Key) (nas : Nas) (station : Option (List ℕ)) (past : Past) → IsRuled rules past
    → (accept_beside (map (link_view past) (held_before rules past (ask_at moment key nas station))) (book_come rules past (ask_at moment key nas station)) key nas station).0
    ≡ book_of rules (did (ask_at moment key nas station) (Accepted (accepts past)) ∷ past)
unfolding book_come accept_beside keep_ask opens touches gives_way ended_by yields fresh_decision number_of clock_at nas_of bundle_of station_of
accepted rules moment key nas station past ruled =
    let event : Event = ask_at moment key nas station in
    let entry : PastEvent = did event (Accepted (accepts past)) in
    settled rules event past (Accepted (accepts past)) (accept_beside (map (link_view past) (held_before rules past event)) (book_come rules past event) key nas station).0 refl
    (sym (views_opened rules entry past ruled refl (λ link within. ne_eqb link (suc (length past)) (λ same. omega (arith, within, same)))
    ∙ ap (λ left. map (link_view past) left ++ link_view (entry ∷ past) (suc (length past)) ∷ []) (all_left rules entry past (λ link. refl))
    ∙ ap (λ view. map (link_view past) (held_before rules past event) ++ view ∷ []) (view_accepted rules event past (accepts past) nas ruled refl refl)))
    (sym (accepts_more entry past refl)) (asks_more moment (Accepted (accepts past)) past key nas station (Accept (accepts past)) refl)
    (sym (stops_same entry past refl refl)) (sym (over_same entry past refl))

-- of the links that pass a test the one touched longest ago is found in the book, and taken out by its name
found_oldest : (rules : Rules) (event : Event) (past : Past) (p : BookLink → Bool) (q : ℕ → Bool)
    → ((link : ℕ) → p (link_view past link) ≡ q link) → IsRuled rules past
    → find (is_oldest p (map (link_view past) (held_before rules past event))) (map (link_view past) (held_before rules past event))
    ≡ option_map (link_view past) (first_touched past (filter q (held_before rules past event)))
found_oldest rules event past p q is ruled =
    find_view (link_view past) (is_known past) (is_oldest p (map (link_view past) (held_before rules past event))) (is_oldest_of past q (held_before rules past event))
    (λ link known. oldest_is past p q (held_before rules past event) is link) (held_before rules past event) (held_before_known rules past event ruled)
    ∙ ap (option_map (link_view past)) (sym (first_is past q (held_before rules past event)))

without_oldest : (rules : Rules) (event : Event) (past : Past) (p : BookLink → Bool) (q : ℕ → Bool) (link : ℕ)
    → ((other : ℕ) → p (link_view past other) ≡ q other) → IsRuled rules past
    → first_touched past (filter q (held_before rules past event)) ≡ Some link
    → map (link_view past) (held_without rules past event link)
    ≡ without_first (is_oldest p (map (link_view past) (held_before rules past event))) (map (link_view past) (held_before rules past event))
unfolding held_without
without_oldest rules event past p q link is ruled found =
    without_by_name (is_known past) (link_view past) (is_oldest_of past q (held_before rules past event))
    (is_oldest p (map (link_view past) (held_before rules past event))) link
    (λ other known. oldest_is past p q (held_before rules past event) is other) (held_before rules past event) (held_before_rises rules past event) (held_before_known rules past event ruled)
    (sym (first_is past q (held_before rules past event)) ∙ found)

accepted_in_place : (rules : Rules) (moment : ℕ) (key : Key) (nas : Nas) (station : Option (List ℕ)) (past : Past) (link : ℕ)
    → IsRuled rules past
    → (accept_beside (map (link_view past) (held_without rules past (ask_at moment key nas station) link)) (book_come rules past (ask_at moment key nas station)) key nas station).0
    ≡ book_of rules (did (ask_at moment key nas station) (AcceptedInPlace (accepts past) link) ∷ past)
unfolding book_come accept_beside keep_ask held_without opens touches gives_way ended_by yields fresh_decision number_of clock_at nas_of bundle_of station_of
accepted_in_place rules moment key nas station past link ruled =
    let event : Event = ask_at moment key nas station in
    let entry : PastEvent = did event (AcceptedInPlace (accepts past) link) in
    settled rules event past (AcceptedInPlace (accepts past) link) (accept_beside (map (link_view past) (held_without rules past event link)) (book_come rules past event) key nas station).0 refl
    (sym (views_opened rules entry past ruled refl (λ other within. ne_eqb other (suc (length past)) (λ same. omega (arith, within, same)))
    ∙ ap (λ view. map (link_view past) (held_without rules past event link) ++ view ∷ []) (view_accepted_in_place rules event past (accepts past) link nas ruled refl refl)))
    (sym (accepts_more entry past refl)) (asks_more moment (AcceptedInPlace (accepts past) link) past key nas station (Accept (accepts past)) refl)
    (sym (stops_same entry past refl refl)) (sym (over_same entry past refl))

-- an ask, by each of its cases
pub ask_joins : (rules : Rules) (moment : ℕ) (key : Key) (nas : Nas) (station : Option (List ℕ)) (past : Past) → IsRuled rules past
    → (found : Option KeptAsk)
    → ask rules (book_come rules past (ask_at moment key nas station)) key nas station found
    ≡ (book_of rules (did (ask_at moment key nas station) (ask_outcome rules past (ask_at moment key nas station) found) ∷ past), decision_of (ask_outcome rules past (ask_at moment key nas station) found))
unfolding book_come fresh_ask placed_ask fresh_outcome placed_outcome has_a_place has_a_place_without refuse accept_beside can_yield can_return yielding_link idle_links station_link station_links station_of
ask_joins rules moment key nas station past ruled (Some kept) = ap (λ book. (book, kept.decision)) (repeated rules moment key nas station past kept.decision ruled)
ask_joins rules moment key nas station past ruled None = numbered (nat_lt (accepts past) (2 ^ 64 - 1)) where
  event : Event
  event = ask_at moment key nas station

  book : Book
  book = book_come rules past event

  held : List ℕ
  held = held_before rules past event

  after : Outcome → Book × Decision
  after outcome = (book_of rules (did event outcome ∷ past), decision_of outcome)

  is_idle_now : ℕ → Bool
  is_idle_now = is_idle rules past event

  is_of_it : ℕ → Bool
  is_of_it = is_of_station past station

  refusal : refuse book key nas ≡ after Refused
  refusal = ap (λ next. (next, LimitReject)) (refused rules moment key nas station past ruled)

  in_place : (link : ℕ) (fits : Bool) (other : Book × Decision) (outcome : Outcome) → other ≡ after outcome
      → cond fits (accept_beside (map (link_view past) (held_without rules past event link)) book key nas station) other
      ≡ after (cond fits (AcceptedInPlace (accepts past) link) outcome)
  in_place link true other outcome is = ap (λ next. (next, Accept (accepts past))) (accepted_in_place rules moment key nas station past link ruled)
  in_place link false other outcome is = is

  unfitting : (found : Option ℕ) → yielding_link rules past event ≡ found
      → ask_for_place rules book key nas station (option_map (link_view past) found) ≡ after (unfitting_outcome rules past event found)
  unfitting None is = refusal
  unfitting (Some link) is =
      rw (sym (without_oldest rules event past (is_stale_at rules (clock_at past event)) is_idle_now link (stale_is rules past event) ruled is), fits_is rules past (held_without rules past event link))
      (in_place link (has_a_place_without rules past event link) (refuse book key nas) Refused refusal)

  placed_by : (free : Bool)
      → cond free (accept_beside (map (link_view past) held) book key nas station)
      (ask_for_place rules book key nas station (find (is_oldest (is_stale_at rules (clock_at past event)) (map (link_view past) held)) (map (link_view past) held)))
      ≡ after (cond free (Accepted (accepts past)) (unfitting_outcome rules past event (yielding_link rules past event)))
  placed_by true = ap (λ next. (next, Accept (accepts past))) (accepted rules moment key nas station past ruled)
  placed_by false = rw (found_oldest rules event past (is_stale_at rules (clock_at past event)) is_idle_now (stale_is rules past event) ruled) (unfitting (yielding_link rules past event) refl)

  placed : placed_ask rules book key nas station ≡ after (placed_outcome rules past event)
  placed = rw (fits_is rules past held) (placed_by (has_a_place rules past event))

  returning : (found : Option ℕ) → station_link rules past event ≡ found
      → ask_of_station rules book key nas station (option_map (link_view past) found) ≡ after (returning_outcome rules past event found)
  returning None is = placed
  returning (Some link) is =
      rw (sym (without_oldest rules event past (is_stationed station) is_of_it link (stationed_is past station) ruled is), fits_is rules past (held_without rules past event link))
      (in_place link (has_a_place_without rules past event link) (placed_ask rules book key nas station) (placed_outcome rules past event) placed)

  fresh : fresh_ask rules book key nas station ≡ after (fresh_outcome rules past event)
  fresh = rw (found_oldest rules event past (is_stationed station) is_of_it (stationed_is past station) ruled) (returning (station_link rules past event) refl)

  numbered : (left : Bool) → cond left (fresh_ask rules book key nas station)
      (refuse book key nas) ≡ after (cond left (fresh_outcome rules past event) Refused)
  numbered true = fresh
  numbered false = refusal
