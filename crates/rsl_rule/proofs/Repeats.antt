-- A repeat is decided as a fresh ask of its key.
use Rattle.std.proofs.Common.{◌≡◌, ℕ, zero, suc, ◌-◌, ◌^◌, List, [], ◌∷◌, take, Bool, true, false, cond, ◌&&◌, not, refl, ap, sym, ◌∙◌, subst, arith}
use Rattle.std.specs.Prelude.{Option, Some, None, find, nat_lt, Any}
use Rattle.std.specs.List.{cons_option}
use Rattle.std.proofs.lemmas.Bool.{and_parts}
use Rattle.rsl_accounts.specs.declared.rules.Rules.{Rules}
use Rattle.rsl_event.specs.declared.event.Act.{Act}
use Rattle.rsl_event.specs.declared.event.Act.TheVariants.{Ask, Alive, Stop, Sweep, Tick}
use Rattle.rsl_event.specs.declared.event.Decision.{Decision}
use Rattle.rsl_event.specs.declared.event.Event.{Event}
use Rattle.rsl_event.specs.declared.event.Key.{Key}
use Rattle.rsl_session.specs.declared.past_event.PastEvent.{PastEvent}
use Rattle.rsl_session.specs.declared.outcome.Outcome.TheVariants.{Accepted, AcceptedInPlace, Refused, Repeated, Opened, Ignored, Over}
use Rattle.rsl_session.specs.declared.kept.KeptAsk.{KeptAsk}
use Rattle.rsl_session.specs.declared.session.Session.{Session}
use Rattle.rsl_session.specs.Past.{Past}
use Rattle.rsl_session.specs.Same.{same_key}
use Rattle.rsl_session.specs.Clock.{clock, clock_at}
use Rattle.rsl_session.specs.Ask.{accepts, ask_outcome, fresh_outcome, has_a_place_without, placed_outcome, returning_outcome, station_link, unfitting_outcome, yielding_link, fresh_asks, fresh_decision, has_a_place, kept_ask, repeated_ask, repeats, KEPT_ASKS}
use Rattle.rsl_session.specs.Alive.{alive_outcome, unbound_outcome, reservation_of, has_room}
use Rattle.rsl_session.specs.Closed.{is_closed}
use Rattle.rsl_session.specs.Rule.{outcome_of, outcome_by}
use Rattle.rsl_session.proofs.Callers.{same_key-true}
use Rattle.rsl_rule.specs.Laws.{IsFreshDecision, key_of}

any_here : (P : PastEvent → Type 0) (x : PastEvent) (xs : List PastEvent) → P x → Any P (x ∷ xs)
any_here P x xs p = (0, x, (omega arith), refl, p)

any_later : (P : PastEvent → Type 0) (x : PastEvent) (xs : List PastEvent) → Any P xs → Any P (x ∷ xs)
any_later P x xs (k, y, within, is, p) = (suc k, y, (omega arith), is, p)

-- an ask that is kept was fresh
kept_is : (now : ℕ) (since : List (ℕ × Act)) (entry : PastEvent) (act : Act) (decision : Option Decision) (ask : KeptAsk) → entry.event.act ≡ act → fresh_decision entry.outcome ≡ decision
    → kept_ask now since act decision ≡ Some ask → IsFreshDecision (Some ask.key) ask.decision entry
kept_is now since entry (Ask key nas station) (Some decision) ask act fresh kept =
    let same : key ≡ ask.key = cc in
    let decided : decision ≡ ask.decision = cc in
    record { same_key = ap key_of act ∙ ap Some same; decided = fresh ∙ ap Some decided }
kept_is now since entry (Ask key nas station) None ask act fresh kept = cc
kept_is now since entry (Alive nas session bundle class station) (Some decision) ask act fresh kept = cc
kept_is now since entry (Alive nas session bundle class station) None ask act fresh kept = cc
kept_is now since entry (Stop nas session) (Some decision) ask act fresh kept = cc
kept_is now since entry (Stop nas session) None ask act fresh kept = cc
kept_is now since entry (Sweep nas delay) (Some decision) ask act fresh kept = cc
kept_is now since entry (Sweep nas delay) None ask act fresh kept = cc
kept_is now since entry Tick (Some decision) ask act fresh kept = cc
kept_is now since entry Tick None ask act fresh kept = cc

-- a kept ask that is found passes the test, and was fresh
found_is : (p : KeptAsk → Bool) (n : ℕ) (since : List (ℕ × Act)) (past : Past) (ask : KeptAsk) → find p (take n (fresh_asks since past)) ≡ Some ask
    → (p ask ≡ true) × Any (IsFreshDecision (Some ask.key) ask.decision) past
unfolding fresh_asks
found_is p zero since [] ask found = cc
found_is p (suc n) since [] ask found = cc
found_is p n since (entry ∷ past) ask found =
    by_cases n (kept_ask (clock (entry ∷ past)) since entry.event.act (fresh_decision entry.outcome)) refl found (λ m. found_is p m ((clock (entry ∷ past), entry.event.act) ∷ since) past ask) where
      later : (p ask ≡ true) × Any (IsFreshDecision (Some ask.key) ask.decision) past → (p ask ≡ true) × Any (IsFreshDecision (Some ask.key) ask.decision) (entry ∷ past)
      later both = (both.0, any_later (IsFreshDecision (Some ask.key) ask.decision) entry past both.1)

      here : (m : ℕ) (kept : KeptAsk) (test : Bool) → p kept ≡ test → kept_ask (clock (entry ∷ past)) since entry.event.act (fresh_decision entry.outcome) ≡ Some kept
          → cond test (Some kept) (find p (take m (fresh_asks ((clock (entry ∷ past), entry.event.act) ∷ since) past))) ≡ Some ask
          → ((n : ℕ) → find p (take n (fresh_asks ((clock (entry ∷ past), entry.event.act) ∷ since) past)) ≡ Some ask → (p ask ≡ true) × Any (IsFreshDecision (Some ask.key) ask.decision) past)
          → (p ask ≡ true) × Any (IsFreshDecision (Some ask.key) ask.decision) (entry ∷ past)
      here m kept true passes is found rest =
          let same : kept ≡ ask = cc in
          let asked : kept_ask (clock (entry ∷ past)) since entry.event.act (fresh_decision entry.outcome) ≡ Some ask = is ∙ ap Some same in (
            sym (ap p same) ∙ passes,
            any_here (IsFreshDecision (Some ask.key) ask.decision) entry past (kept_is (clock (entry ∷ past)) since entry entry.event.act (fresh_decision entry.outcome) ask refl refl asked),
          )
      here m kept false passes is found rest = later (rest m found)

      by_cases : (n : ℕ) (kept : Option KeptAsk) → kept_ask (clock (entry ∷ past)) since entry.event.act (fresh_decision entry.outcome) ≡ kept
          → find p (take n (cons_option kept (fresh_asks ((clock (entry ∷ past), entry.event.act) ∷ since) past))) ≡ Some ask
          → ((n : ℕ) → find p (take n (fresh_asks ((clock (entry ∷ past), entry.event.act) ∷ since) past)) ≡ Some ask → (p ask ≡ true) × Any (IsFreshDecision (Some ask.key) ask.decision) past)
          → (p ask ≡ true) × Any (IsFreshDecision (Some ask.key) ask.decision) (entry ∷ past)
      by_cases n None is found rest = later (rest n found)
      by_cases zero (Some kept) is found rest = cc
      by_cases (suc m) (Some kept) is found rest = here m kept (p kept) refl is found rest

-- the ask that a repeat repeats
repeated_is : (rules : Rules) (past : Past) (event : Event) (key : Key) (ask : KeptAsk) → repeated_ask rules past event key ≡ Some ask → Any (IsFreshDecision (Some key) ask.decision) past
unfolding repeated_ask repeats
repeated_is rules past event key ask found =
    let is = found_is (repeats rules key (clock_at past event)) KEPT_ASKS [] past ask found in
    let tests = and_parts (same_key ask.key key && nat_lt (clock_at past event - ask.at) rules.keep) (not ask.swept) is.0 in
    let keys = and_parts (same_key ask.key key) (nat_lt (clock_at past event - ask.at) rules.keep) tests.0 in
    let same : ask.key ≡ key = same_key-true ask.key key keys.0 in
    subst (λ (k : Key). Any (IsFreshDecision (Some k) ask.decision) past) same is.1

pub repeats_are : (rules : Rules) (past : Past) (event : Event) (decision : Decision) → outcome_of rules past event ≡ Repeated decision → Any (IsFreshDecision (key_of event.act) decision) past
unfolding outcome_of fresh_outcome placed_outcome
repeats_are rules past event decision = by_act event.act where
  without : (link : ℕ) (fits : Bool) → cond fits (AcceptedInPlace (accepts past) link) Refused ≡ Repeated decision → ⊥
  without link true is = cc
  without link false is = cc

  unfitting : (found : Option ℕ) → unfitting_outcome rules past event found ≡ Repeated decision → ⊥
  unfitting None is = cc
  unfitting (Some link) is = without link (has_a_place_without rules past event link) is

  by_place : (free : Bool) → cond free (Accepted (accepts past)) (unfitting_outcome rules past event (yielding_link rules past event)) ≡ Repeated decision → ⊥
  by_place true is = cc
  by_place false is = unfitting (yielding_link rules past event) is

  in_place : (link : ℕ) (fits : Bool) → cond fits (AcceptedInPlace (accepts past) link) (placed_outcome rules past event) ≡ Repeated decision → ⊥
  in_place link true is = cc
  in_place link false is = by_place (has_a_place rules past event) is

  returning : (found : Option ℕ) → returning_outcome rules past event found ≡ Repeated decision → ⊥
  returning None is = by_place (has_a_place rules past event) is
  returning (Some link) is = in_place link (has_a_place_without rules past event link) is

  numbered : (left : Bool) → cond left (fresh_outcome rules past event) Refused ≡ Repeated decision → ⊥
  numbered true is = returning (station_link rules past event) is
  numbered false is = cc

  of_ask : (key : Key) (found : Option KeptAsk) → repeated_ask rules past event key ≡ found → ask_outcome rules past event found ≡ Repeated decision → Any (IsFreshDecision (Some key) decision) past
  of_ask key (Some ask) found is =
      let same : ask.decision ≡ decision = cc in
      subst (λ (d : Decision). Any (IsFreshDecision (Some key) d) past) same (repeated_is rules past event key ask found)
  of_ask key None found is = absurd (numbered (nat_lt (accepts past) (2 ^ 64 - 1)) is)

  opened : (room : Bool) → cond room Opened Over ≡ Repeated decision → ⊥
  opened true is = cc
  opened false is = cc

  unbound : (found : Option ℕ) → unbound_outcome rules past event found ≡ Repeated decision → ⊥
  unbound (Some link) is = cc
  unbound None is = opened (has_room rules past event) is

  open_or_closed : (closed : Bool) (found : Option ℕ) → cond closed Ignored (unbound_outcome rules past event found) ≡ Repeated decision → ⊥
  open_or_closed true found is = cc
  open_or_closed false found is = unbound found is

  of_alive : (session : Session) (class found : Option ℕ) → alive_outcome rules past event session class found ≡ Repeated decision → ⊥
  of_alive session class (Some link) is = cc
  of_alive session class None is = open_or_closed (is_closed rules past event session) (reservation_of rules past event session.nas class) is

  by_act : (act : Act) → outcome_by rules past event act ≡ Repeated decision → Any (IsFreshDecision (key_of act) decision) past
  by_act (Ask key nas station) is = of_ask key (repeated_ask rules past event key) refl is
  by_act (Alive nas id bundle class station) is = absurd (of_alive _ class _ is)
  by_act (Stop nas id) is = cc
  by_act (Sweep nas delay) is = cc
  by_act Tick is = cc
