-- A closed session has no held link: the stop that closes it ended its link, and since then it got none.
use Rattle.std.proofs.Common.{◌≡◌, ℕ, zero, suc, ◌-◌, ◌≤◌, List, [], ◌∷◌, ◌++◌, take, length, Bool, true, false, cond, ◌&&◌, ◌||◌, not, refl, ap, sym, ◌∙◌, subst, inl, inr, arith}
use Rattle.std.specs.Prelude.{Option, Some, None, filter, find, nat_lt}
use Rattle.std.specs.List.{list_any, cons_option}
use Rattle.std.specs.Option.{option_or}
use Rattle.std.proofs.lemmas.Bool.{and_parts, and_from, cases_Bool, ltb-true, lt-ltb, or_parts, not-true, not_from_false}
use Rattle.rsl_accounts.specs.declared.rules.Rules.{Rules}
use Rattle.rsl_event.specs.declared.event.Act.{Act}
use Rattle.rsl_event.specs.declared.event.Act.TheVariants.{Ask, Alive, Stop, Sweep, Tick}
use Rattle.rsl_event.specs.declared.event.Event.{Event}
use Rattle.rsl_event.specs.declared.nas.Nas.{Nas}
use Rattle.rsl_session.specs.declared.past_event.PastEvent.{PastEvent}
use Rattle.rsl_session.specs.declared.outcome.Outcome.TheVariants.{Ignored}
use Rattle.rsl_session.specs.declared.session.Session.{Session}
use Rattle.rsl_session.specs.Same.{same_session}
use Rattle.rsl_session.specs.Past.{Past}
use Rattle.rsl_session.specs.Sweep.{swept_in, voids}
use Rattle.rsl_session.specs.Clock.{clock, clock_at}
use Rattle.rsl_session.specs.Link.{opens}
use Rattle.rsl_session.specs.Binding.{binds, bound_by, is_bound_to, is_session, session_at, session_of}
use Rattle.rsl_session.specs.Lapse.{lapses}
use Rattle.rsl_session.specs.Held.{ended_by, held_before, held_links, yields}
use Rattle.rsl_session.specs.Closed.{closes, is_closed, kept_stop, stops, KEPT_STOPS}
use Rattle.rsl_session.specs.Alive.{alive_outcome, link_of}
use Rattle.rsl_session.specs.Rule.{IsRuled, outcome_by, outcome_of}
use Rattle.rsl_session.proofs.Callers.{same_session-true, bound-later, gives_way, held-opened, held-quiet, left_by}

-- acts that void nothing that others do not
FewerSweeps : List (ℕ × Act) → List (ℕ × Act) → Type 0
FewerSweeps some others = (nas : Nas) (at : ℕ) → swept_in others nas at ≡ false → swept_in some nas at ≡ false

fewer_cons : (act : ℕ × Act) (some others : List (ℕ × Act)) → FewerSweeps some others → FewerSweeps (act ∷ some) (act ∷ others)
unfolding FewerSweeps swept_in
fewer_cons act some others fewer nas at none =
    let parts = or_parts (voids nas at act.0 act.1) (swept_in others nas at) none in
    rw (parts.0, fewer nas at parts.1) refl

fewer_none : (others : List (ℕ × Act)) → FewerSweeps [] others
unfolding FewerSweeps swept_in
fewer_none others nas at none = refl

-- whether a stop of a session, kept so, closes one
closes_so : Rules → Session → ℕ → Session → ℕ → Bool → Bool
closes_so rules session now stopped at swept = same_session stopped session && nat_lt (now - at) rules.closed && not swept

-- what closes a session closed it at each earlier clock, and where fewer entries came since
closes_sooner : (rules : Rules) (session stopped : Session) (now before at : ℕ) (some others : List (ℕ × Act)) → before ≤ now → FewerSweeps some others
    → closes_so rules session now stopped at (swept_in others stopped.nas at) ≡ true → closes_so rules session before stopped at (swept_in some stopped.nas at) ≡ true
unfolding closes_so FewerSweeps
closes_sooner rules session stopped now before at some others sooner fewer closed =
    let parts = and_parts (same_session stopped session && nat_lt (now - at) rules.closed) (not (swept_in others stopped.nas at)) closed in
    let times = and_parts (same_session stopped session) (nat_lt (now - at) rules.closed) parts.0 in
    let late = ltb-true (now - at) rules.closed times.1 in
    and_from _ _ (and_from _ _ times.0 (lt-ltb (before - at) rules.closed (omega arith)))
    (not_from_false (swept_in some stopped.nas at) (fewer stopped.nas at (not-true (swept_in others stopped.nas at) parts.1)))

-- the stops among the last that close a session closed it at each earlier clock
closed_sooner : (rules : Rules) (session : Session) (past : Past) (n m now before : ℕ) (some others : List (ℕ × Act)) → n ≤ m → before ≤ now → FewerSweeps some others
    → list_any (closes rules session now) (take n (stops others past)) ≡ true → list_any (closes rules session before) (take m (stops some past)) ≡ true
unfolding stops closes_so closes
closed_sooner rules session [] zero m now before some others few sooner fewer closed = cc
closed_sooner rules session [] (suc n) m now before some others few sooner fewer closed = cc
closed_sooner rules session (entry ∷ past) n m now before some others few sooner fewer closed =
    let next : ℕ × Act = (clock (entry ∷ past), entry.event.act) in
    by_act entry.event.act closed
    (λ n m few is. closed_sooner rules session past n m now before (next ∷ some) (next ∷ others) few sooner (fewer_cons next some others fewer) is) few
  where
    Rest : Type 0
    Rest = (n m : ℕ) → n ≤ m → list_any (closes rules session now) (take n (stops ((clock (entry ∷ past), entry.event.act) ∷ others) past)) ≡ true
        → list_any (closes rules session before) (take m (stops ((clock (entry ∷ past), entry.event.act) ∷ some) past)) ≡ true

    here : (stopped : Session) (n m : ℕ) → n ≤ m → (closing : Bool) → closes_so rules session now stopped (clock (entry ∷ past)) (swept_in others stopped.nas (clock (entry ∷ past))) ≡ closing
        → (closing || list_any (closes rules session now) (take n (stops ((clock (entry ∷ past), entry.event.act) ∷ others) past))) ≡ true → Rest
        → (closes_so rules session before stopped (clock (entry ∷ past)) (swept_in some stopped.nas (clock (entry ∷ past))) || list_any (closes rules session before) (take m (stops ((clock (entry ∷ past), entry.event.act) ∷ some) past))) ≡ true
    here stopped n m few true is closed rest =
        rw (closes_sooner rules session stopped now before (clock (entry ∷ past)) some others sooner fewer is) refl
    here stopped n m few false is closed rest =
        rw (rest n m few closed) (either (closes_so rules session before stopped (clock (entry ∷ past)) (swept_in some stopped.nas (clock (entry ∷ past))))) where
          either : (a : Bool) → (a || true) ≡ true
          either true = refl
          either false = refl

    by_act : (act : Act) → list_any (closes rules session now) (take n (cons_option (kept_stop (clock (entry ∷ past)) others act) (stops ((clock (entry ∷ past), entry.event.act) ∷ others) past))) ≡ true → Rest → n ≤ m
        → list_any (closes rules session before) (take m (cons_option (kept_stop (clock (entry ∷ past)) some act) (stops ((clock (entry ∷ past), entry.event.act) ∷ some) past))) ≡ true
    by_act (Ask key nas station) closed rest few = rest n m few closed
    by_act (Alive nas id bundle class station) closed rest few = rest n m few closed
    by_act (Sweep nas delay) closed rest few = rest n m few closed
    by_act Tick closed rest few = rest n m few closed
    by_act (Stop nas id) closed rest few = counted n m few closed where
      counted : (n m : ℕ) → n ≤ m → list_any (closes rules session now) (take n (cons_option (kept_stop (clock (entry ∷ past)) others (Stop nas id)) (stops ((clock (entry ∷ past), entry.event.act) ∷ others) past))) ≡ true
          → list_any (closes rules session before) (take m (cons_option (kept_stop (clock (entry ∷ past)) some (Stop nas id)) (stops ((clock (entry ∷ past), entry.event.act) ∷ some) past))) ≡ true
      counted zero m few closed = cc
      counted (suc n) zero few closed = absurd (omega arith)
      counted (suc n) (suc m) few closed = here (record { nas = nas; id = id }) n m (omega arith) _ refl closed rest

-- lists of which none passes a test
none_found : (p : ℕ → Bool) (xs : List ℕ) → list_any p xs ≡ false → find p xs ≡ None
none_found p [] none = refl
none_found p (x ∷ xs) none =
    let parts = or_parts (p x) (list_any p xs) none in
    rw (parts.0, none_found p xs parts.1) refl

none_kept : (p q : ℕ → Bool) (xs : List ℕ) → list_any p xs ≡ false → list_any p (filter q xs) ≡ false
none_kept p q [] none = refl
none_kept p q (x ∷ xs) none = let parts = or_parts (p x) (list_any p xs) none in by_cases (q x) parts.0 (none_kept p q xs parts.1) where
  by_cases : (kept : Bool) → p x ≡ false → list_any p (filter q xs) ≡ false → list_any p (cond kept (x ∷ filter q xs) (filter q xs)) ≡ false
  by_cases true here rest = rw (here, rest) refl
  by_cases false here rest = rest

none_pushed : (p : ℕ → Bool) (xs : List ℕ) (x : ℕ) → list_any p xs ≡ false → p x ≡ false → list_any p (xs ++ x ∷ []) ≡ false
none_pushed p [] x none last = rw last refl
none_pushed p (y ∷ xs) x none last =
    let parts = or_parts (p y) (list_any p xs) none in
    rw (parts.0, none_pushed p xs x parts.1 last) refl

none_same : (p q : ℕ → Bool) → ((x : ℕ) → p x ≡ q x) → (xs : List ℕ) → list_any q xs ≡ false → list_any p xs ≡ false
none_same p q same [] none = refl
none_same p q same (x ∷ xs) none =
    let parts = or_parts (q x) (list_any q xs) none in
    rw (same x, parts.0, none_same p q same xs parts.1) refl

-- no element of which a test holds is left among those of which it does not hold
none_left : (p r : ℕ → Bool) (xs : List ℕ) → list_any p (filter (λ x. not (p x || r x)) xs) ≡ false
none_left p r [] = refl
none_left p r (x ∷ xs) = by_cases (p x) (r x) refl (none_left p r xs) where
  by_cases : (here other : Bool) → p x ≡ here → list_any p (filter (λ x. not (p x || r x)) xs) ≡ false
      → list_any p (cond (not (here || other)) (x ∷ filter (λ x. not (p x || r x)) xs) (filter (λ x. not (p x || r x)) xs)) ≡ false
  by_cases true other is rest = rest
  by_cases false true is rest = rest
  by_cases false false is rest = rw (is, rest) refl

-- whether an event binds some link to a session
BindsNone : Session → PastEvent → Past → Type 0
BindsNone session entry past = (link : ℕ) → is_session (bound_by link (suc (length past)) entry) session ≡ false

bound_stays : (session : Session) (entry : PastEvent) (past : Past) → BindsNone session entry past → (link : ℕ) → is_bound_to (entry ∷ past) session link ≡ is_bound_to past session link
unfolding BindsNone is_bound_to session_at
bound_stays session entry past none link = by_cases (session_at link past) where
  by_cases : (old : Option Session) → is_session (option_or old (bound_by link (suc (length past)) entry)) session ≡ is_session old session
  by_cases None = none link
  by_cases (Some other) = refl

bound_none : (session : Session) (link : ℕ) (past : Past) → session_at link past ≡ None → is_bound_to past session link ≡ false
unfolding is_bound_to
bound_none session link past none = rw none refl

-- where an event binds no link to a session, none is held that it leaves bound
unheld_more : (rules : Rules) (session : Session) (entry : PastEvent) (past : Past) → IsRuled rules past → BindsNone session entry past
    → list_any (is_bound_to past session) (left_by rules entry past) ≡ false → list_any (is_bound_to (entry ∷ past) session) (held_links rules (entry ∷ past)) ≡ false
unheld_more rules session entry past ruled none left =
    let same = bound_stays session entry past none in
    let old : list_any (is_bound_to (entry ∷ past) session) (left_by rules entry past) ≡ false =
    none_same (is_bound_to (entry ∷ past) session) (is_bound_to past session) same (left_by rules entry past) left in
    elim (cases_Bool (opens entry.outcome)) [
      | inl new ↦
          rw (held-opened rules entry past new)
          (none_pushed (is_bound_to (entry ∷ past) session) (left_by rules entry past) (suc (length past)) old
          (same (suc (length past)) ∙ bound_none session (suc (length past)) past (bound-later rules past (suc (length past)) ruled (omega arith))))
      | inr quiet ↦ rw (held-quiet rules entry past quiet) old
    ]

left_none : (rules : Rules) (session : Session) (entry : PastEvent) (past : Past) → list_any (is_bound_to past session) (held_links rules past) ≡ false
    → list_any (is_bound_to past session) (left_by rules entry past) ≡ false
unfolding left_by held_before
left_none rules session entry past none =
    none_kept (is_bound_to past session) (λ link. not (gives_way entry past link)) _ (none_kept (is_bound_to past session) (λ link. not (lapses rules past entry.event link)) (held_links rules past) none)

-- a stop of the session leaves none
left_stopped : (rules : Rules) (session : Session) (entry : PastEvent) (past : Past) (nas : Nas) (id : List ℕ) → entry.event.act ≡ Stop nas id → same_session (record { nas = nas; id = id }) session ≡ true
    → list_any (is_bound_to past session) (left_by rules entry past) ≡ false
unfolding left_by gives_way ended_by held_before lapses clock_at
left_stopped rules session entry past nas id stop same =
    let this : _ ≡ session = same_session-true (record { nas = nas; id = id }) session same in
    rw stop (subst (λ (s : Session). list_any (is_bound_to past s) (filter (λ link. not (is_bound_to past (record { nas = nas; id = id }) link || yields link entry.outcome)) (held_before rules past entry.event)) ≡ false) this
    (none_left (is_bound_to past (record { nas = nas; id = id })) (λ link. yields link entry.outcome) (held_before rules past entry.event)))

-- only an alive binds, and only its own session
binds_none : (session : Session) (entry : PastEvent) (past : Past) → session_of entry.event.act ≡ None → BindsNone session entry past
unfolding BindsNone bound_by
binds_none session entry past none link = rw none (either (binds link (suc (length past)) entry.outcome)) where
  either : (a : Bool) → is_session (cond a None None) session ≡ false
  either true = refl
  either false = refl

binds_another : (session other : Session) (entry : PastEvent) (past : Past) → session_of entry.event.act ≡ Some other → same_session other session ≡ false → BindsNone session entry past
unfolding BindsNone bound_by
binds_another session other entry past some differ link = rw some (either (binds link (suc (length past)) entry.outcome)) where
  either : (a : Bool) → is_session (cond a (Some other) None) session ≡ false
  either true = differ
  either false = refl

binds_ignored : (session : Session) (entry : PastEvent) (past : Past) → entry.outcome ≡ Ignored → BindsNone session entry past
unfolding BindsNone bound_by binds
binds_ignored session entry past ignored link = rw ignored refl

-- an alive of a closed session without a held link is ignored
ignored : (rules : Rules) (past : Past) (event : Event) (nas : Nas) (id : List ℕ) (bundle : Option (List ℕ)) (class : Option ℕ) (station : Option (List ℕ)) → event.act ≡ Alive nas id bundle class station
    → list_any (is_bound_to past (record { nas = nas; id = id })) (held_links rules past) ≡ false → is_closed rules past event (record { nas = nas; id = id }) ≡ true
    → outcome_of rules past event ≡ Ignored
unfolding outcome_of link_of held_before
ignored rules past event nas id bundle class station alive none closed =
    let session : Session = record { nas = nas; id = id } in
    let no_link : link_of rules past event session ≡ None =
    none_found (is_bound_to past session) (held_before rules past event)
    (none_kept (is_bound_to past session) (λ link. not (lapses rules past event link)) (held_links rules past) none) in
    ap (outcome_by rules past event) alive ∙ by_link session (link_of rules past event session) no_link closed where
      by_link : (session : Session) (found : Option ℕ) → found ≡ None → is_closed rules past event session ≡ true → alive_outcome rules past event session class found ≡ Ignored
      by_link session None none shut = rw shut refl
      by_link session (Some link) none shut = cc

-- a session that one of the last stops closes has no held link
unheld : (rules : Rules) (session : Session) (past : Past) (n now : ℕ) (others : List (ℕ × Act)) → IsRuled rules past → n ≤ KEPT_STOPS → clock past ≤ now
    → list_any (closes rules session now) (take n (stops others past)) ≡ true → list_any (is_bound_to past session) (held_links rules past) ≡ false
unfolding IsRuled stops clock closes is_closed clock_at session_of
unheld rules session [] zero now others ruled few later closed = cc
unheld rules session [] (suc n) now others ruled few later closed = cc
unheld rules session (entry ∷ past) n now others ruled few later closed =
    by_act entry.event.act refl closed (λ n few closed. unheld rules session past n now ((clock (entry ∷ past), entry.event.act) ∷ others) ruled.1 few (omega arith) closed)
  where
    Older : Type 0
    Older = (n : ℕ) → n ≤ KEPT_STOPS → list_any (closes rules session now) (take n (stops ((clock (entry ∷ past), entry.event.act) ∷ others) past)) ≡ true → list_any (is_bound_to past session) (held_links rules past) ≡ false

    quiet : session_of entry.event.act ≡ None → list_any (closes rules session now) (take n (stops ((clock (entry ∷ past), entry.event.act) ∷ others) past)) ≡ true → Older
        → list_any (is_bound_to (entry ∷ past) session) (held_links rules (entry ∷ past)) ≡ false
    quiet none closed rest = unheld_more rules session entry past ruled.1 (binds_none session entry past none) (left_none rules session entry past (rest n few closed))

    is_closed_now : list_any (closes rules session (clock (entry ∷ past))) (take KEPT_STOPS (stops [] past)) ≡ true → is_closed rules past entry.event session ≡ true
    is_closed_now closed = closed

    by_act : (act : Act) → entry.event.act ≡ act → list_any (closes rules session now) (take n (cons_option (kept_stop (clock (entry ∷ past)) others act) (stops ((clock (entry ∷ past), entry.event.act) ∷ others) past))) ≡ true → Older
        → list_any (is_bound_to (entry ∷ past) session) (held_links rules (entry ∷ past)) ≡ false
    by_act (Ask key nas station) act closed rest = quiet (ap session_of act) closed rest
    by_act (Sweep nas delay) act closed rest = quiet (ap session_of act) closed rest
    by_act Tick act closed rest = quiet (ap session_of act) closed rest
    by_act (Stop nas id) act closed rest = counted n few closed where
      counted : (n : ℕ) → n ≤ KEPT_STOPS → list_any (closes rules session now) (take n (cons_option (kept_stop (clock (entry ∷ past)) others (Stop nas id)) (stops ((clock (entry ∷ past), entry.event.act) ∷ others) past))) ≡ true
          → list_any (is_bound_to (entry ∷ past) session) (held_links rules (entry ∷ past)) ≡ false
      counted zero few closed = cc
      counted (suc m) few closed =
          unheld_more rules session entry past ruled.1 (binds_none session entry past (ap session_of act))
          (elim (cases_Bool (same_session (record { nas = nas; id = id }) session)) [
            | inl same ↦ left_stopped rules session entry past nas id act same
            | inr other ↦ left_none rules session entry past (rest m (omega arith) (rw other at closed))
          ])
    by_act (Alive nas id bundle class station) act closed rest =
        let before = rest n few closed in
        elim (cases_Bool (same_session (record { nas = nas; id = id }) session)) [
          | inl same ↦
              let this : _ ≡ session = same_session-true (record { nas = nas; id = id }) session same in
              let shut : is_closed rules past entry.event session ≡ true =
              is_closed_now (closed_sooner rules session past n KEPT_STOPS now (clock (entry ∷ past)) [] ((clock (entry ∷ past), entry.event.act) ∷ others) few later (fewer_none ((clock (entry ∷ past), entry.event.act) ∷ others)) closed) in
              let P : Session → Type 0 = λ s. list_any (is_bound_to past s) (held_links rules past) ≡ false in
              let Q : Session → Type 0 = λ s. is_closed rules past entry.event s ≡ true in
              unheld_more rules session entry past ruled.1
              (binds_ignored session entry past (ruled.0 ∙ ignored rules past entry.event nas id bundle class station act (subst P (sym this) before) (subst Q (sym this) shut)))
              (left_none rules session entry past before)
          | inr other ↦
              unheld_more rules session entry past ruled.1 (binds_another session (record { nas = nas; id = id }) entry past (ap session_of act) other) (left_none rules session entry past before)
        ]

-- so no event that finds a session closed finds it bound to a link
pub closed_unheld : (rules : Rules) (past : Past) (event : Event) (session : Session) → IsRuled rules past → is_closed rules past event session ≡ true → link_of rules past event session ≡ None
unfolding is_closed link_of held_before clock_at
closed_unheld rules past event session ruled closed =
    none_found (is_bound_to past session) (held_before rules past event)
    (none_kept (is_bound_to past session) (λ link. not (lapses rules past event link)) (held_links rules past)
    (unheld rules session past KEPT_STOPS (clock_at past event) [] ruled (omega arith) (omega arith) closed))
