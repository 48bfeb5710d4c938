-- The places that an account holds never exceed its limit.
use Rattle.std.proofs.Common.{◌≡◌, ℕ, suc, ◌-◌, ◌^◌, ◌<◌, ◌≤◌, List, [], ◌∷◌, ◌++◌, length, Bool, true, false, cond, ◌&&◌, ◌||◌, not, refl, ap, sym, subst, ◌⊎◌, inl, inr, arith, map, eqb, append-nil}
use Rattle.std.proofs.lemmas.List.{map-append}
use Rattle.std.specs.Prelude.{◌==◌, Option, Some, None, ⊤, filter, nat_lt}
use Rattle.std.specs.Option.{option_or}
use Rattle.std.proofs.lemmas.Bool.{leb-true, eq-eqb}
use Rattle.rsl_accounts.specs.Limits.{RulesFit}
use Rattle.rsl_accounts.specs.declared.rules.Rules.{Rules}
use Rattle.rsl_event.specs.declared.event.Event.{Event}
use Rattle.rsl_event.specs.declared.event.Act.{Act}
use Rattle.rsl_event.specs.declared.event.Act.TheVariants.{Ask, Alive, Stop, Sweep, Tick}
use Rattle.rsl_session.specs.declared.past_event.PastEvent.{PastEvent}
use Rattle.rsl_session.specs.declared.outcome.Outcome.{Outcome}
use Rattle.rsl_session.specs.declared.outcome.Outcome.TheVariants.{Accepted, AcceptedInPlace, Refused, Repeated, Opened, Took, Renewed, Ignored, Over, Passed}
use Rattle.rsl_session.specs.declared.kept.KeptAsk.{KeptAsk}
use Rattle.rsl_session.specs.declared.session.Session.{Session}
use Rattle.rsl_session.specs.declared.bundle.Bundle.{Bundle}
use Rattle.rsl_session.specs.Past.{Past}
use Rattle.rsl_session.specs.Clock.{clock_at}
use Rattle.rsl_session.specs.Link.{opens, links}
use Rattle.rsl_session.specs.Binding.{bundle_at, bundled_by, bundle_of, touches}
use Rattle.rsl_session.specs.Held.{held_links, held_before, ended_by, yields}
use Rattle.rsl_session.specs.Lapse.{lapses}
use Rattle.rsl_session.specs.Places.{places, places_of, bundles, each_bundle}
use Rattle.rsl_session.specs.Ask.{ask_outcome, fresh_outcome, placed_outcome, returning_outcome, station_link, unfitting_outcome, repeated_ask, has_place_beside, has_a_place, held_without, has_a_place_without, yielding_link, accepts}
use Rattle.rsl_session.specs.Alive.{alive_outcome, unbound_outcome, reservation_of, has_room}
use Rattle.rsl_session.specs.Closed.{is_closed}
use Rattle.rsl_session.specs.Rule.{IsRuled, outcome_of, outcome_by, past_of, places_after}
use Rattle.rsl_session.proofs.Counting.{fewer, joined, places_of_front, places_of_more}
use Rattle.rsl_session.proofs.Ruled.{bundle_at-later, IsRuled-past_of}
use Rattle.rsl_session.proofs.Ending.{gives_way, left_by, held-quiet, held-opened, filter-filter, any_link, list_all_any}

-- a link keeps its bundle, or had none
keeps_bundle : (entry : PastEvent) (past : Past) (link : ℕ) → (bundle_at link (entry ∷ past) ≡ bundle_at link past) ⊎ (bundle_at link past ≡ None)
unfolding bundle_at
keeps_bundle entry past link = by_cases (bundle_at link past) (bundled_by link (suc (length past)) entry) where
  by_cases : (old new : Option Bundle) → (option_or old new ≡ old) ⊎ (old ≡ None)
  by_cases None new = inr refl
  by_cases (Some bundle) new = inl refl

-- links take no more places after an event than before it, beside some other links: they may have joined bundles
joined_places : (rules : Rules) (entry : PastEvent) (past : Past) (others : List (Option Bundle)) (some : List ℕ) → 0 < rules.ports
    → places_of rules.ports (others ++ bundles (entry ∷ past) some) ≤ places_of rules.ports (others ++ bundles past some)
unfolding bundles
joined_places rules entry past others some a_port =
    joined rules.ports a_port (λ link. bundle_at link past) (λ link. bundle_at link (entry ∷ past)) (keeps_bundle entry past) others some

-- what an event leaves takes no more places than what stood before it, beside some other links
left_places : (rules : Rules) (entry : PastEvent) (past : Past) (others : List (Option Bundle)) → 0 < rules.ports
    → places_of rules.ports (others ++ bundles past (left_by rules entry past)) ≤ places_of rules.ports (others ++ bundles past (held_before rules past entry.event))
unfolding bundles left_by
left_places rules entry past others a_port =
    fewer rules.ports a_port (λ link. bundle_at link past) (λ link. not (gives_way entry past link)) others (held_before rules past entry.event)

-- and no more than what stood before it without the link that yields
not-gone : (a b : Bool) → not (a || b) ≡ (not b && not a)
not-gone true true = refl
not-gone true false = refl
not-gone false true = refl
not-gone false false = refl

left_without : (rules : Rules) (entry : PastEvent) (past : Past) (number yielded : ℕ) → entry.outcome ≡ AcceptedInPlace number yielded
    → left_by rules entry past ≡ filter (λ link. not (ended_by past (clock_at past entry.event) entry.event.act link)) (held_without rules past entry.event yielded)
unfolding left_by gives_way held_without yields
left_without rules entry past number yielded is =
    rw is (filter-filter any_link (λ link. not (link == yielded)) (λ link. not (ended_by past (clock_at past entry.event) entry.event.act link))
    (λ link. not (ended_by past (clock_at past entry.event) entry.event.act link || (link == yielded)))
    (λ link h. not-gone (ended_by past (clock_at past entry.event) entry.event.act link) (link == yielded))
    (held_before rules past entry.event) (list_all_any (held_before rules past entry.event)))

without_places : (rules : Rules) (entry : PastEvent) (past : Past) (number yielded : ℕ) (others : List (Option Bundle)) → 0 < rules.ports
    → entry.outcome ≡ AcceptedInPlace number yielded
    → places_of rules.ports (others ++ bundles past (left_by rules entry past)) ≤ places_of rules.ports (others ++ bundles past (held_without rules past entry.event yielded))
unfolding bundles
without_places rules entry past number yielded others a_port is =
    rw (left_without rules entry past number yielded is)
    (fewer rules.ports a_port (λ link. bundle_at link past) (λ link. not (ended_by past (clock_at past entry.event) entry.event.act link)) others (held_without rules past entry.event yielded))

before_places : (rules : Rules) (past : Past) (event : Event) → 0 < rules.ports → places_of rules.ports (bundles past (held_before rules past event)) ≤ places rules past
unfolding bundles places held_before
before_places rules past event some = fewer rules.ports some (λ link. bundle_at link past) (λ link. not (lapses rules past event link)) [] (held_links rules past)

-- what a new link found: one that opens has room
HasRoom : Rules → Past → Event → Outcome → Type 0
HasRoom rules past event (Accepted number) = has_a_place rules past event ≡ true
HasRoom rules past event (AcceptedInPlace number yielded) = has_a_place_without rules past event yielded ≡ true
HasRoom rules past event Opened = has_room rules past event ≡ true
HasRoom rules past event _ = ⊤

HasRoom-outcome_of : (rules : Rules) (past : Past) (event : Event) → HasRoom rules past event (outcome_of rules past event)
unfolding HasRoom outcome_of fresh_outcome placed_outcome
HasRoom-outcome_of rules past event = by_act event.act where
  of_ask : (found : Option KeptAsk) → HasRoom rules past event (ask_outcome rules past event found)
  of_ask (Some ask) = tt
  of_ask None = numbered (nat_lt (accepts past) (2 ^ 64 - 1)) where
    without : (link : ℕ) (fits : Bool) → has_a_place_without rules past event link ≡ fits → HasRoom rules past event (cond fits (AcceptedInPlace (accepts past) link) Refused)
    without link true has = has
    without link false has = tt

    unfitting : (found : Option ℕ) → HasRoom rules past event (unfitting_outcome rules past event found)
    unfitting None = tt
    unfitting (Some link) = without link (has_a_place_without rules past event link) refl

    by_place : (free : Bool) → has_a_place rules past event ≡ free → HasRoom rules past event (cond free (Accepted (accepts past)) (unfitting_outcome rules past event (yielding_link rules past event)))
    by_place true has = has
    by_place false has = unfitting _

    placed : HasRoom rules past event (placed_outcome rules past event)
    placed = by_place (has_a_place rules past event) refl

    in_place : (link : ℕ) (fits : Bool) → has_a_place_without rules past event link ≡ fits → HasRoom rules past event (cond fits (AcceptedInPlace (accepts past) link) (placed_outcome rules past event))
    in_place link true has = has
    in_place link false has = placed

    fresh : (found : Option ℕ) → HasRoom rules past event (returning_outcome rules past event found)
    fresh None = placed
    fresh (Some link) = in_place link (has_a_place_without rules past event link) refl

    numbered : (left : Bool) → HasRoom rules past event (cond left (fresh_outcome rules past event) Refused)
    numbered true = fresh (station_link rules past event)
    numbered false = tt

  unbound : (found : Option ℕ) → HasRoom rules past event (unbound_outcome rules past event found)
  unbound (Some link) = tt
  unbound None = opened (has_room rules past event) refl where
    opened : (room : Bool) → has_room rules past event ≡ room → HasRoom rules past event (cond room Opened Over)
    opened true has = has
    opened false has = tt

  of_alive : (session : Session) (class found : Option ℕ) → HasRoom rules past event (alive_outcome rules past event session class found)
  of_alive session class (Some link) = tt
  of_alive session class None = open_or_closed (is_closed rules past event session) where
    open_or_closed : (closed : Bool) → HasRoom rules past event (cond closed Ignored (unbound_outcome rules past event (reservation_of rules past event session.nas class)))
    open_or_closed true = tt
    open_or_closed false = unbound _

  by_act : (act : Act) → HasRoom rules past event (outcome_by rules past event act)
  by_act (Ask key nas station) = of_ask (repeated_ask rules past event key)
  by_act (Alive nas id bundle class station) = of_alive _ class _
  by_act (Stop nas id) = tt
  by_act (Sweep nas delay) = tt
  by_act Tick = tt

quiet_places : (rules : Rules) (entry : PastEvent) (past : Past) → 0 < rules.ports → opens entry.outcome ≡ false → places rules (entry ∷ past) ≤ places rules past
unfolding places
quiet_places rules entry past some quiet =
    let joins = joined_places rules entry past [] (left_by rules entry past) some in
    let left = left_places rules entry past [] some in
    let old = before_places rules past entry.event some in
    rw (held-quiet rules entry past quiet) (omega arith)

-- a new link stands last
new_places : (rules : Rules) (entry : PastEvent) (past : Past) → 0 < rules.ports → opens entry.outcome ≡ true
    → places rules (entry ∷ past) ≤ places_of rules.ports (bundle_at (suc (length past)) (entry ∷ past) ∷ bundles past (left_by rules entry past))
unfolding places bundles
new_places rules entry past some new =
    let f : ℕ → Option Bundle = λ link. bundle_at link (entry ∷ past) in
    let left : List ℕ = left_by rules entry past in
    let split : map f (left ++ suc (length past) ∷ []) ≡ map f left ++ f (suc (length past)) ∷ [] = map-append f left (suc (length past) ∷ []) in
    let moved = places_of_front rules.ports (f (suc (length past))) (map f left) [] some in
    let flat : f (suc (length past)) ∷ map f left ++ [] ≡ f (suc (length past)) ∷ map f left = ap (λ ys. f (suc (length past)) ∷ ys) (append-nil (map f left)) in
    let joins = joined_places rules entry past (f (suc (length past)) ∷ []) left some in
    rw (held-opened rules entry past new, split, moved, flat) joins

-- the bundle of a link that an alive opens
new_bundle : (entry : PastEvent) (past : Past) → bundle_at (suc (length past)) past ≡ None → entry.outcome ≡ Opened → bundle_at (suc (length past)) (entry ∷ past) ≡ bundle_of entry.event.act
unfolding bundle_at bundled_by touches
new_bundle entry past none opened =
    let here : eqb (suc (length past)) (suc (length past)) ≡ true = eq-eqb (suc (length past)) (suc (length past)) refl in
    rw (none, opened, here) refl

quiet_limit : (rules : Rules) (entry : PastEvent) (past : Past) → RulesFit rules → places rules past ≤ rules.places → opens entry.outcome ≡ false → places rules (entry ∷ past) ≤ rules.places
quiet_limit rules entry past fit within quiet =
    omega (arith, quiet_places rules entry past (omega (arith, fit.a_port)) quiet)

limit_more : (rules : Rules) (entry : PastEvent) (past : Past) → RulesFit rules → IsRuled rules past → HasRoom rules past entry.event entry.outcome
    → places rules past ≤ rules.places → (outcome : Outcome) → entry.outcome ≡ outcome → places rules (entry ∷ past) ≤ rules.places
unfolding HasRoom has_a_place has_a_place_without has_place_beside has_room opens
limit_more rules entry past fit ruled room within (Accepted number) is =
    let new : opens entry.outcome ≡ true = ap opens is in
    let some : 0 < rules.ports = omega (arith, fit.a_port) in
    let free : has_a_place rules past entry.event ≡ true = subst (HasRoom rules past entry.event) is room in
    let found = new_places rules entry past some new in
    let left = left_places rules entry past (bundle_at (suc (length past)) (entry ∷ past) ∷ []) some in
    let one = places_of_more rules.ports (bundle_at (suc (length past)) (entry ∷ past)) [] (bundles past (held_before rules past entry.event)) some in
    let limit = leb-true _ _ free in
    omega arith
limit_more rules entry past fit ruled room within (AcceptedInPlace number yielded) is =
    let new : opens entry.outcome ≡ true = ap opens is in
    let some : 0 < rules.ports = omega (arith, fit.a_port) in
    let free : has_a_place_without rules past entry.event yielded ≡ true = subst (HasRoom rules past entry.event) is room in
    let found = new_places rules entry past some new in
    let left = without_places rules entry past number yielded (bundle_at (suc (length past)) (entry ∷ past) ∷ []) some is in
    let one = places_of_more rules.ports (bundle_at (suc (length past)) (entry ∷ past)) [] (bundles past (held_without rules past entry.event yielded)) some in
    let limit = leb-true _ _ free in
    omega arith
limit_more rules entry past fit ruled room within Opened is =
    let new : opens entry.outcome ≡ true = ap opens is in
    let some : 0 < rules.ports = omega (arith, fit.a_port) in
    let free : has_room rules past entry.event ≡ true = subst (HasRoom rules past entry.event) is room in
    let found = new_places rules entry past some new in
    let left = left_places rules entry past (bundle_at (suc (length past)) (entry ∷ past) ∷ []) some in
    let none : bundle_at (suc (length past)) past ≡ None = bundle_at-later rules past (suc (length past)) ruled (omega arith) in
    let bundle : bundle_at (suc (length past)) (entry ∷ past) ≡ bundle_of entry.event.act = new_bundle entry past none is in
    let moved = places_of_front rules.ports (bundle_of entry.event.act) (bundles past (held_before rules past entry.event)) [] some in
    let flat : bundle_of entry.event.act ∷ bundles past (held_before rules past entry.event) ++ [] ≡ bundle_of entry.event.act ∷ bundles past (held_before rules past entry.event) =
    ap (λ ys. bundle_of entry.event.act ∷ ys) (append-nil (bundles past (held_before rules past entry.event))) in
    let limit : places_of rules.ports (bundles past (held_before rules past entry.event) ++ bundle_of entry.event.act ∷ []) ≤ rules.places = leb-true _ _ free in
    let front : places_of rules.ports (bundle_of entry.event.act ∷ bundles past (held_before rules past entry.event)) ≤ rules.places = rw (moved, flat) at limit in
    let bounded : places rules (entry ∷ past) ≤ places_of rules.ports (bundle_of entry.event.act ∷ bundles past (left_by rules entry past)) = rw bundle at found in
    let fewer_left : places_of rules.ports (bundle_of entry.event.act ∷ bundles past (left_by rules entry past))
    ≤ places_of rules.ports (bundle_of entry.event.act ∷ bundles past (held_before rules past entry.event)) = rw bundle at left in
    omega arith
limit_more rules entry past fit ruled room within Refused is = quiet_limit rules entry past fit within (ap opens is)
limit_more rules entry past fit ruled room within (Repeated decision) is = quiet_limit rules entry past fit within (ap opens is)
limit_more rules entry past fit ruled room within (Took link) is = quiet_limit rules entry past fit within (ap opens is)
limit_more rules entry past fit ruled room within (Renewed link) is = quiet_limit rules entry past fit within (ap opens is)
limit_more rules entry past fit ruled room within Ignored is = quiet_limit rules entry past fit within (ap opens is)
limit_more rules entry past fit ruled room within Over is = quiet_limit rules entry past fit within (ap opens is)
limit_more rules entry past fit ruled room within Passed is = quiet_limit rules entry past fit within (ap opens is)

no_places : (rules : Rules) → places rules [] ≤ rules.places
unfolding places held_links links places_of each_bundle bundles
no_places rules = omega arith

-- a past that follows the rule is within the limit
pub places-le : (rules : Rules) (past : Past) → RulesFit rules → IsRuled rules past → places rules past ≤ rules.places
unfolding IsRuled
places-le rules [] fit ruled = no_places rules
places-le rules (entry ∷ past) fit ruled =
    let room : HasRoom rules past entry.event entry.outcome = subst (HasRoom rules past entry.event) (sym ruled.0) (HasRoom-outcome_of rules past entry.event) in
    limit_more rules entry past fit ruled.1 room (places-le rules past fit ruled.1) entry.outcome refl

-- after any events, and so after each of a list
pub places_after-le : (rules : Rules) (events : List Event) → RulesFit rules → places_after rules events ≤ rules.places
unfolding places_after
places_after-le rules events fit = places-le rules (past_of rules events) fit (IsRuled-past_of rules events)
