-- Where no event after a tick has a lower moment, the same asks and stops are kept without it.
use Rattle.std.proofs.Common.{◌≡◌, ℕ, ◌≤◌, List, [], ◌∷◌, ◌++◌, length, ◌||◌, refl, ap, sym, ◌∙◌, arith}
use Rattle.std.specs.Prelude.{Option, Some, None}
use Rattle.std.specs.List.{cons_option}
use Rattle.rsl_accounts.specs.declared.rules.Rules.{Rules}
use Rattle.rsl_event.specs.declared.event.Event.{Event}
use Rattle.rsl_event.specs.declared.event.Act.{Act}
use Rattle.rsl_event.specs.declared.event.Act.TheVariants.{Ask, Alive, Stop, Sweep, Tick}
use Rattle.rsl_event.specs.declared.event.Decision.{Decision}
use Rattle.rsl_event.specs.declared.event.Key.{Key}
use Rattle.rsl_event.specs.declared.nas.Nas.{Nas}
use Rattle.rsl_session.specs.declared.past_event.PastEvent.{PastEvent}
use Rattle.rsl_session.specs.declared.outcome.Outcome.{Outcome}
use Rattle.rsl_session.specs.declared.outcome.Outcome.TheVariants.{Accepted, AcceptedInPlace, Refused, Repeated, Opened, Took, Renewed, Ignored, Over, Passed}
use Rattle.rsl_session.specs.declared.session.Session.{Session}
use Rattle.rsl_session.specs.Past.{Past}
use Rattle.rsl_session.specs.Clock.{clock}
use Rattle.rsl_session.specs.Link.{number_of}
use Rattle.rsl_session.specs.Ask.{accepts, fresh_asks, fresh_decision, kept_ask, repeated_ask}
use Rattle.rsl_session.specs.Sweep.{swept_in, voids}
use Rattle.rsl_session.specs.Closed.{is_closed, kept_stop, stops}
use Rattle.rsl_rule.proofs.Numbers.{accepts-cons}
use Rattle.rsl_rule.proofs.Shift.{shift_outcome, shift_entry, tick_event, tick_entry, after_tick, clock_at-after_tick, clock_next, number_of-shift}
use Rattle.rsl_rule.proofs.TickHeld.{AreLater}

pub accepts-after_tick : (moment : ℕ) (older newer : Past) → accepts (after_tick moment older newer) ≡ accepts (newer ++ older)
unfolding after_tick shift_entry tick_entry number_of
accepts-after_tick moment older [] = accepts-cons (tick_entry moment) older ∙ omega arith
accepts-after_tick moment older (entry ∷ newer) =
    accepts-cons (shift_entry (length older) entry) (after_tick moment older newer)
    ∙ rw (number_of-shift (length older) entry.outcome, accepts-after_tick moment older newer) refl
    ∙ sym (accepts-cons entry (newer ++ older))

-- kept asks and stops, where the same was voided since
pub SweptAlike : List (ℕ × Act) → List (ℕ × Act) → Type 0
SweptAlike some others = (nas : Nas) (at : ℕ) → swept_in some nas at ≡ swept_in others nas at

pub SweptAlike-cons : (act : ℕ × Act) (some others : List (ℕ × Act)) → SweptAlike some others → SweptAlike (act ∷ some) (act ∷ others)
unfolding SweptAlike swept_in
SweptAlike-cons act some others alike nas at = ap (λ swept. voids nas at act.0 act.1 || swept) (alike nas at)

pub SweptAlike-tick : (now : ℕ) (some others : List (ℕ × Act)) → SweptAlike some others → SweptAlike ((now, Tick) ∷ some) others
unfolding SweptAlike swept_in
SweptAlike-tick now some others alike nas at = alike nas at

pub kept_alike : (now : ℕ) (some others : List (ℕ × Act)) (act : Act) (decision : Option Decision) → SweptAlike some others → kept_ask now some act decision ≡ kept_ask now others act decision
unfolding SweptAlike
kept_alike now some others (Ask key nas station) (Some decision) alike = rw (alike nas now) refl
kept_alike now some others (Ask key nas station) None alike = refl
kept_alike now some others (Alive nas session bundle class station) decision alike = refl
kept_alike now some others (Stop nas session) decision alike = refl
kept_alike now some others (Sweep nas delay) decision alike = refl
kept_alike now some others Tick decision alike = refl

pub asks_alike : (past : Past) (some others : List (ℕ × Act)) → SweptAlike some others → fresh_asks some past ≡ fresh_asks others past
unfolding fresh_asks
asks_alike [] some others alike = refl
asks_alike (entry ∷ past) some others alike =
    rw (kept_alike (clock (entry ∷ past)) some others entry.event.act (fresh_decision entry.outcome) alike, asks_alike past ((clock (entry ∷ past), entry.event.act) ∷ some) ((clock (entry ∷ past), entry.event.act) ∷ others) (SweptAlike-cons (clock (entry ∷ past), entry.event.act) some others alike)) refl

pub fresh-shift : (n : ℕ) (outcome : Outcome) → fresh_decision (shift_outcome n outcome) ≡ fresh_decision outcome
unfolding fresh_decision shift_outcome
fresh-shift n (Accepted number) = refl
fresh-shift n (AcceptedInPlace number yielded) = refl
fresh-shift n Refused = refl
fresh-shift n (Repeated decision) = refl
fresh-shift n Opened = refl
fresh-shift n (Took taken) = refl
fresh-shift n (Renewed renewed) = refl
fresh-shift n Ignored = refl
fresh-shift n Over = refl
fresh-shift n Passed = refl

pub asks_cons : (some : List (ℕ × Act)) (entry : PastEvent) (past : Past) → fresh_asks some (entry ∷ past) ≡ cons_option (kept_ask (clock (entry ∷ past)) some entry.event.act (fresh_decision entry.outcome)) (fresh_asks ((clock (entry ∷ past), entry.event.act) ∷ some) past)
unfolding fresh_asks
asks_cons some entry past = refl

pub tick_asks : (moment : ℕ) (older : Past) (some : List (ℕ × Act)) → fresh_asks some (tick_entry moment ∷ older) ≡ fresh_asks ((clock (tick_entry moment ∷ older), Tick) ∷ some) older
unfolding fresh_asks tick_entry tick_event fresh_decision
tick_asks moment older some = refl

pub asks-after_tick : (moment : ℕ) (older newer : Past) (some others : List (ℕ × Act)) → AreLater moment newer → SweptAlike some others
    → fresh_asks some (after_tick moment older newer) ≡ fresh_asks others (newer ++ older)
unfolding after_tick shift_entry
asks-after_tick moment older [] some others later alike = tick_asks moment older some ∙ asks_alike older ((clock (tick_entry moment ∷ older), Tick) ∷ some) others (SweptAlike-tick (clock (tick_entry moment ∷ older)) some others alike)
asks-after_tick moment older (entry ∷ newer) some others later alike =
    asks_cons some (shift_entry (length older) entry) (after_tick moment older newer)
    ∙ rw (
      clock_next moment older newer entry later.0,
      fresh-shift (length older) entry.outcome,
      kept_alike (clock (entry ∷ newer ++ older)) some others entry.event.act (fresh_decision entry.outcome) alike,
      asks-after_tick moment older newer ((clock (entry ∷ newer ++ older), entry.event.act) ∷ some) ((clock (entry ∷ newer ++ older), entry.event.act) ∷ others) later.1
          (SweptAlike-cons (clock (entry ∷ newer ++ older), entry.event.act) some others alike),
    ) refl
    ∙ sym (asks_cons others entry (newer ++ older))

pub stop_alike : (now : ℕ) (some others : List (ℕ × Act)) (act : Act) → SweptAlike some others → kept_stop now some act ≡ kept_stop now others act
unfolding SweptAlike
stop_alike now some others (Ask key nas station) alike = refl
stop_alike now some others (Alive nas session bundle class station) alike = refl
stop_alike now some others (Stop nas session) alike = rw (alike nas now) refl
stop_alike now some others (Sweep nas delay) alike = refl
stop_alike now some others Tick alike = refl

pub stops_cons : (some : List (ℕ × Act)) (entry : PastEvent) (past : Past) → stops some (entry ∷ past) ≡ cons_option (kept_stop (clock (entry ∷ past)) some entry.event.act) (stops ((clock (entry ∷ past), entry.event.act) ∷ some) past)
unfolding stops
stops_cons some entry past = refl

pub stops_alike : (past : Past) (some others : List (ℕ × Act)) → SweptAlike some others → stops some past ≡ stops others past
unfolding stops
stops_alike [] some others alike = refl
stops_alike (entry ∷ past) some others alike =
    rw (stop_alike (clock (entry ∷ past)) some others entry.event.act alike, stops_alike past ((clock (entry ∷ past), entry.event.act) ∷ some) ((clock (entry ∷ past), entry.event.act) ∷ others) (SweptAlike-cons (clock (entry ∷ past), entry.event.act) some others alike)) refl

pub tick_stops : (moment : ℕ) (older : Past) (some : List (ℕ × Act)) → stops some (tick_entry moment ∷ older) ≡ stops ((clock (tick_entry moment ∷ older), Tick) ∷ some) older
unfolding stops tick_entry tick_event
tick_stops moment older some = refl

pub stops-after_tick : (moment : ℕ) (older newer : Past) (some others : List (ℕ × Act)) → AreLater moment newer → SweptAlike some others
    → stops some (after_tick moment older newer) ≡ stops others (newer ++ older)
unfolding after_tick shift_entry
stops-after_tick moment older [] some others later alike = tick_stops moment older some ∙ stops_alike older ((clock (tick_entry moment ∷ older), Tick) ∷ some) others (SweptAlike-tick (clock (tick_entry moment ∷ older)) some others alike)
stops-after_tick moment older (entry ∷ newer) some others later alike =
    stops_cons some (shift_entry (length older) entry) (after_tick moment older newer)
    ∙ rw (
      clock_next moment older newer entry later.0,
      stop_alike (clock (entry ∷ newer ++ older)) some others entry.event.act alike,
      stops-after_tick moment older newer ((clock (entry ∷ newer ++ older), entry.event.act) ∷ some) ((clock (entry ∷ newer ++ older), entry.event.act) ∷ others) later.1
          (SweptAlike-cons (clock (entry ∷ newer ++ older), entry.event.act) some others alike),
    ) refl
    ∙ sym (stops_cons others entry (newer ++ older))

pub alike_none : SweptAlike [] []
unfolding SweptAlike
alike_none nas at = refl

pub repeated-after_tick : (rules : Rules) (moment : ℕ) (older newer : Past) → AreLater moment newer → (event : Event) → moment ≤ event.moment → (key : Key)
    → repeated_ask rules (after_tick moment older newer) event key ≡ repeated_ask rules (newer ++ older) event key
unfolding repeated_ask
repeated-after_tick rules moment older newer later event at key =
    rw (clock_at-after_tick moment older newer event at, asks-after_tick moment older newer [] [] later alike_none) refl

pub is_closed-after_tick : (rules : Rules) (moment : ℕ) (older newer : Past) → AreLater moment newer → (event : Event) → moment ≤ event.moment → (session : Session)
    → is_closed rules (after_tick moment older newer) event session ≡ is_closed rules (newer ++ older) event session
unfolding is_closed
is_closed-after_tick rules moment older newer later event at session =
    rw (clock_at-after_tick moment older newer event at, stops-after_tick moment older newer [] [] later alike_none) refl
