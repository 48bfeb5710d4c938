-- A tick that is put into a past moves the number of each later event up by one, and so the name of each
-- link that opens later; all else that the rule looks back for stays as it is.
use Rattle.std.proofs.Common.{◌≡◌, ℕ, suc, ◌<◌, ◌≤◌, max, List, [], ◌∷◌, ◌++◌, length, map, Bool, true, false, cond, refl, ap, sym, ◌∙◌, ◌⊎◌, inl, inr, arith, eqb, leb}
use Rattle.std.specs.Prelude.{Option, Some, None}
use Rattle.std.specs.List.{list_all, AllByRecursion}
use Rattle.std.specs.Option.{option_or, option_and_then}
use Rattle.std.proofs.lemmas.Bool.{cases_lt, cases_eq, le-leb, lt-leb, eq-eqb, ne_eqb, and_parts}
use Rattle.std.proofs.lemmas.List.{map-append}
use Rattle.rsl_accounts.specs.declared.rules.Rules.{Rules}
use Rattle.rsl_event.specs.declared.event.Event.{Event}
use Rattle.rsl_event.specs.declared.event.Act.{Act}
use Rattle.rsl_event.specs.declared.event.Act.TheVariants.{Ask, Alive, Stop, Sweep, Tick}
use Rattle.rsl_event.specs.declared.nas.Nas.{Nas}
use Rattle.rsl_session.specs.declared.past_event.PastEvent.{PastEvent}
use Rattle.rsl_session.specs.declared.outcome.Outcome.{Outcome}
use Rattle.rsl_session.specs.declared.outcome.Outcome.TheVariants.{Accepted, AcceptedInPlace, Refused, Repeated, Opened, Took, Renewed, Ignored, Over, Passed}
use Rattle.rsl_session.specs.declared.session.Session.{Session}
use Rattle.rsl_session.specs.declared.bundle.Bundle.{Bundle}
use Rattle.rsl_session.specs.Past.{Past, entry_at}
use Rattle.rsl_session.specs.Clock.{clock, clock_at}
use Rattle.rsl_session.specs.Link.{links, opens, nas_of, nas_at, number_of, number_at, opened_at}
use Rattle.rsl_session.specs.Binding.{binds, touches, bound_by, bundled_by, session_at, bundle_at, is_reserved, is_bound_to}
use Rattle.rsl_session.specs.Touch.{touched_at}
use Rattle.rsl_session.specs.Station.{is_of_station, station_at, stationed_by}
use Rattle.rsl_session.specs.Lapse.{is_idle, lapses}
use Rattle.rsl_session.specs.Held.{is_at, ended_by, yields}
use Rattle.rsl_session.specs.Rule.{IsRuled}
use Rattle.rsl_session.proofs.Callers.{bound-later, bundle_at-later, touched-later, is_in, is_in-true, links-in, station_at-later}

-- the new name of a link, where the tick has the number after n events
pub shift : ℕ → ℕ → ℕ
shift n link = cond (leb link n) link (suc link)

pub shift-old : (n link : ℕ) → link ≤ n → shift n link ≡ link
unfolding shift
shift-old n link old = rw (le-leb link n old) refl

pub shift-new : (n link : ℕ) → n < link → shift n link ≡ suc link
unfolding shift
shift-new n link new = rw (lt-leb link n new) refl

shift-injective : (n a b : ℕ) → shift n a ≡ shift n b → a ≡ b
shift-injective n a b same =
    elim (cases_lt n a) [
      | inl new_a ↦ elim (cases_lt n b) [
        | inl new_b ↦ omega (arith, shift-new n a new_a, shift-new n b new_b)
        | inr old_b ↦ omega (arith, shift-new n a new_a, shift-old n b old_b)
      ]
      | inr old_a ↦ elim (cases_lt n b) [
        | inl new_b ↦ omega (arith, shift-old n a old_a, shift-new n b new_b)
        | inr old_b ↦ omega (arith, shift-old n a old_a, shift-old n b old_b)
      ]
    ]

pub eqb-shift : (n a b : ℕ) → eqb (shift n a) (shift n b) ≡ eqb a b
eqb-shift n a b =
    elim (cases_eq a b) [
      | inl same ↦ eq-eqb (shift n a) (shift n b) (ap (shift n) same) ∙ sym (eq-eqb a b same)
      | inr other ↦ ne_eqb (shift n a) (shift n b) (λ e. other (shift-injective n a b e)) ∙ sym (ne_eqb a b other)
    ]

-- the number k of a later event becomes the next
eqb_next : (n k link : ℕ) → n < k → eqb (shift n link) (suc k) ≡ eqb link k
eqb_next n k link new = ap (eqb (shift n link)) (sym (shift-new n k new)) ∙ eqb-shift n link k

-- what holds of each link that has not opened holds of its new name
shift_later : {A : Type 0} (f : ℕ → A) (d : A) (n link : ℕ) → ((later : ℕ) → n < later → f later ≡ d) → f (shift n link) ≡ f link
shift_later f d n link none =
    elim (cases_lt n link) [
      | inl new ↦ ap f (shift-new n link new) ∙ none (suc link) (omega arith) ∙ sym (none link new)
      | inr old ↦ ap f (shift-old n link old)
    ]

unfoldable pub shift_outcome : ℕ → Outcome → Outcome
shift_outcome n (Accepted number) = Accepted number
shift_outcome n (AcceptedInPlace number yielded) = AcceptedInPlace number (shift n yielded)
shift_outcome n Refused = Refused
shift_outcome n (Repeated decision) = Repeated decision
shift_outcome n Opened = Opened
shift_outcome n (Took link) = Took (shift n link)
shift_outcome n (Renewed link) = Renewed (shift n link)
shift_outcome n Ignored = Ignored
shift_outcome n Over = Over
shift_outcome n Passed = Passed

unfoldable pub shift_entry : ℕ → PastEvent → PastEvent
shift_entry n entry = record { event = entry.event; outcome = shift_outcome n entry.outcome }

unfoldable pub tick_event : ℕ → Event
tick_event moment = record { moment = moment; act = Tick }

unfoldable pub tick_entry : ℕ → PastEvent
tick_entry moment = record { event = tick_event moment; outcome = Passed }

-- a past with the tick between what is older and what is newer
unfoldable pub after_tick : ℕ → Past → Past → Past
after_tick moment older [] = tick_entry moment ∷ older
after_tick moment older (entry ∷ newer) = shift_entry (length older) entry ∷ after_tick moment older newer

pub length-after_tick : (moment : ℕ) (older newer : Past) → length (after_tick moment older newer) ≡ suc (length (newer ++ older))
unfolding after_tick
length-after_tick moment older [] = refl
length-after_tick moment older (entry ∷ newer) = ap suc (length-after_tick moment older newer)

pub older-le : (older newer : Past) → length older ≤ length (newer ++ older)
older-le older [] = omega arith
older-le older (entry ∷ newer) = omega (arith, older-le older newer)

-- the clock
pub clock-after_tick : (moment : ℕ) (older newer : Past) → clock (after_tick moment older newer) ≡ max (clock (newer ++ older)) moment
unfolding clock after_tick tick_entry tick_event shift_entry
clock-after_tick moment older [] = refl
clock-after_tick moment older (entry ∷ newer) =
    ap (λ now. max now entry.event.moment) (clock-after_tick moment older newer) ∙ (omega arith)

pub clock_at-after_tick : (moment : ℕ) (older newer : Past) (event : Event) → moment ≤ event.moment → clock_at (after_tick moment older newer) event ≡ clock_at (newer ++ older) event
unfolding clock_at
clock_at-after_tick moment older newer event early =
    ap (λ now. max now event.moment) (clock-after_tick moment older newer) ∙ (omega arith)

pub clock_next : (moment : ℕ) (older newer : Past) (entry : PastEvent) → moment ≤ entry.event.moment → clock (after_tick moment older (entry ∷ newer)) ≡ clock (entry ∷ newer ++ older)
unfolding clock after_tick shift_entry
clock_next moment older newer entry early =
    ap (λ now. max now entry.event.moment) (clock-after_tick moment older newer) ∙ (omega arith)

-- what an event binds and touches
binds-shift : (n k link : ℕ) (outcome : Outcome) → n < k → binds (shift n link) (suc k) (shift_outcome n outcome) ≡ binds link k outcome
unfolding binds shift_outcome
binds-shift n k link (Accepted number) new = refl
binds-shift n k link (AcceptedInPlace number yielded) new = refl
binds-shift n k link Refused new = refl
binds-shift n k link (Repeated decision) new = refl
binds-shift n k link Opened new = eqb_next n k link new
binds-shift n k link (Took taken) new = eqb-shift n link taken
binds-shift n k link (Renewed renewed) new = refl
binds-shift n k link Ignored new = refl
binds-shift n k link Over new = refl
binds-shift n k link Passed new = refl

touches-shift : (n k link : ℕ) (outcome : Outcome) → n < k → touches (shift n link) (suc k) (shift_outcome n outcome) ≡ touches link k outcome
unfolding touches shift_outcome
touches-shift n k link (Accepted number) new = eqb_next n k link new
touches-shift n k link (AcceptedInPlace number yielded) new = eqb_next n k link new
touches-shift n k link Refused new = refl
touches-shift n k link (Repeated decision) new = refl
touches-shift n k link Opened new = eqb_next n k link new
touches-shift n k link (Took taken) new = eqb-shift n link taken
touches-shift n k link (Renewed renewed) new = eqb-shift n link renewed
touches-shift n k link Ignored new = refl
touches-shift n k link Over new = refl
touches-shift n k link Passed new = refl

-- what yields to an event
pub yields-shift : (n link : ℕ) (outcome : Outcome) → yields (shift n link) (shift_outcome n outcome) ≡ yields link outcome
unfolding yields shift_outcome
yields-shift n link (Accepted number) = refl
yields-shift n link (AcceptedInPlace number yielded) = eqb-shift n link yielded
yields-shift n link Refused = refl
yields-shift n link (Repeated decision) = refl
yields-shift n link Opened = refl
yields-shift n link (Took taken) = refl
yields-shift n link (Renewed renewed) = refl
yields-shift n link Ignored = refl
yields-shift n link Over = refl
yields-shift n link Passed = refl

-- the entry of a number: its access server and number
nas_cons : (number : ℕ) (entry : PastEvent) (past : Past) → nas_at number (entry ∷ past) ≡ cond (eqb number (suc (length past))) (nas_of entry.event.act) (nas_at number past)
unfolding nas_at entry_at
nas_cons number entry past = by_cases (eqb number (suc (length past))) where
  by_cases : (here : Bool) → option_and_then (λ (e : PastEvent). nas_of e.event.act) (cond here (Some entry) (entry_at number past)) ≡ cond here (nas_of entry.event.act) (option_and_then (λ (e : PastEvent). nas_of e.event.act) (entry_at number past))
  by_cases true = refl
  by_cases false = refl

pub number_cons : (number : ℕ) (entry : PastEvent) (past : Past) → number_at number (entry ∷ past) ≡ cond (eqb number (suc (length past))) (number_of entry.outcome) (number_at number past)
unfolding number_at entry_at
number_cons number entry past = by_cases (eqb number (suc (length past))) where
  by_cases : (here : Bool) → option_and_then (λ (e : PastEvent). number_of e.outcome) (cond here (Some entry) (entry_at number past)) ≡ cond here (number_of entry.outcome) (option_and_then (λ (e : PastEvent). number_of e.outcome) (entry_at number past))
  by_cases true = refl
  by_cases false = refl

nas_nil : (number : ℕ) → nas_at number [] ≡ None
unfolding nas_at entry_at
nas_nil number = refl

pub number_nil : (number : ℕ) → number_at number [] ≡ None
unfolding number_at entry_at
number_nil number = refl

nas_later : (past : Past) (number : ℕ) → length past < number → nas_at number past ≡ None
nas_later [] number later = nas_nil number
nas_later (entry ∷ past) number later =
    nas_cons number entry past ∙ rw (ne_eqb number (suc (length past)) (λ same. omega arith)) (nas_later past number (omega arith))

pub number_later : (past : Past) (number : ℕ) → length past < number → number_at number past ≡ None
number_later [] number later = number_nil number
number_later (entry ∷ past) number later =
    number_cons number entry past ∙ rw (ne_eqb number (suc (length past)) (λ same. omega arith)) (number_later past number (omega arith))

pub number_of-shift : (n : ℕ) (outcome : Outcome) → number_of (shift_outcome n outcome) ≡ number_of outcome
unfolding number_of shift_outcome
number_of-shift n (Accepted number) = refl
number_of-shift n (AcceptedInPlace number yielded) = refl
number_of-shift n Refused = refl
number_of-shift n (Repeated decision) = refl
number_of-shift n Opened = refl
number_of-shift n (Took taken) = refl
number_of-shift n (Renewed renewed) = refl
number_of-shift n Ignored = refl
number_of-shift n Over = refl
number_of-shift n Passed = refl

opens-shift : (n : ℕ) (outcome : Outcome) → opens (shift_outcome n outcome) ≡ opens outcome
unfolding opens shift_outcome
opens-shift n (Accepted number) = refl
opens-shift n (AcceptedInPlace number yielded) = refl
opens-shift n Refused = refl
opens-shift n (Repeated decision) = refl
opens-shift n Opened = refl
opens-shift n (Took taken) = refl
opens-shift n (Renewed renewed) = refl
opens-shift n Ignored = refl
opens-shift n Over = refl
opens-shift n Passed = refl

pub nas_at-after_tick : (moment : ℕ) (older newer : Past) (link : ℕ) → nas_at (shift (length older) link) (after_tick moment older newer) ≡ nas_at link (newer ++ older)
unfolding after_tick shift_entry
nas_at-after_tick moment older [] link =
    nas_cons (shift (length older) link) (tick_entry moment) older
    ∙ by_cases link (cases_lt (length older) link)
  where
    by_cases : (link : ℕ) → (length older < link) ⊎ (link ≤ length older)
        → cond (eqb (shift (length older) link) (suc (length older))) (nas_of (tick_entry moment).event.act) (nas_at (shift (length older) link) older) ≡ nas_at link older
    by_cases link (inl new) =
        rw (shift-new (length older) link new, ne_eqb (suc link) (suc (length older)) (λ same. omega arith)) (nas_later older (suc link) (omega arith) ∙ sym (nas_later older link new))
    by_cases link (inr old) =
        rw (shift-old (length older) link old, ne_eqb link (suc (length older)) (λ same. omega arith)) refl
nas_at-after_tick moment older (entry ∷ newer) link =
    nas_cons (shift (length older) link) (shift_entry (length older) entry) (after_tick moment older newer)
    ∙ rw (length-after_tick moment older newer, eqb_next (length older) (suc (length (newer ++ older))) link (omega (arith, older-le older newer)), nas_at-after_tick moment older newer link) refl
    ∙ sym (nas_cons link entry (newer ++ older))

pub number_at-after_tick : (moment : ℕ) (older newer : Past) (link : ℕ) → number_at (shift (length older) link) (after_tick moment older newer) ≡ number_at link (newer ++ older)
unfolding after_tick shift_entry
number_at-after_tick moment older [] link =
    number_cons (shift (length older) link) (tick_entry moment) older
    ∙ by_cases link (cases_lt (length older) link)
  where
    by_cases : (link : ℕ) → (length older < link) ⊎ (link ≤ length older)
        → cond (eqb (shift (length older) link) (suc (length older))) (number_of (tick_entry moment).outcome) (number_at (shift (length older) link) older) ≡ number_at link older
    by_cases link (inl new) =
        rw (shift-new (length older) link new, ne_eqb (suc link) (suc (length older)) (λ same. omega arith)) (number_later older (suc link) (omega arith) ∙ sym (number_later older link new))
    by_cases link (inr old) =
        rw (shift-old (length older) link old, ne_eqb link (suc (length older)) (λ same. omega arith)) refl
number_at-after_tick moment older (entry ∷ newer) link =
    number_cons (shift (length older) link) (shift_entry (length older) entry) (after_tick moment older newer)
    ∙ rw (length-after_tick moment older newer, eqb_next (length older) (suc (length (newer ++ older))) link (omega (arith, older-le older newer)), number_of-shift (length older) entry.outcome, number_at-after_tick moment older newer link) refl
    ∙ sym (number_cons link entry (newer ++ older))

-- when a link opened
opened_cons : (link : ℕ) (entry : PastEvent) (past : Past) → opened_at link (entry ∷ past) ≡ cond (eqb link (suc (length past))) (clock (entry ∷ past)) (opened_at link past)
unfolding opened_at
opened_cons link entry past = refl

opened_later : (past : Past) (link : ℕ) → length past < link → opened_at link past ≡ 0
unfolding opened_at
opened_later [] link later = refl
opened_later (entry ∷ past) link later =
    rw (ne_eqb link (suc (length past)) (λ same. omega arith)) (opened_later past link (omega arith))

pub opened-after_tick : (moment : ℕ) (older newer : Past) → AllByRecursion (λ (entry : PastEvent). moment ≤ entry.event.moment) newer → (link : ℕ)
    → opened_at (shift (length older) link) (after_tick moment older newer) ≡ opened_at link (newer ++ older)
unfolding after_tick shift_entry
opened-after_tick moment older [] early link =
    opened_cons (shift (length older) link) (tick_entry moment) older
    ∙ by_cases link (cases_lt (length older) link)
  where
    by_cases : (link : ℕ) → (length older < link) ⊎ (link ≤ length older)
        → cond (eqb (shift (length older) link) (suc (length older))) (clock (tick_entry moment ∷ older)) (opened_at (shift (length older) link) older) ≡ opened_at link older
    by_cases link (inl new) =
        rw (shift-new (length older) link new, ne_eqb (suc link) (suc (length older)) (λ same. omega arith)) (opened_later older (suc link) (omega arith) ∙ sym (opened_later older link new))
    by_cases link (inr old) =
        rw (shift-old (length older) link old, ne_eqb link (suc (length older)) (λ same. omega arith)) refl
opened-after_tick moment older (entry ∷ newer) early link =
    opened_cons (shift (length older) link) (shift_entry (length older) entry) (after_tick moment older newer)
    ∙ rw (
      clock_next moment older newer entry early.0,
      length-after_tick moment older newer,
      eqb_next (length older) (suc (length (newer ++ older))) link (omega (arith, older-le older newer)),
      opened-after_tick moment older newer early.1 link,
    ) refl
    ∙ sym (opened_cons link entry (newer ++ older))

-- the links
map_same : (f : ℕ → ℕ) (t : ℕ → Bool) → ((x : ℕ) → t x ≡ true → f x ≡ x) → (xs : List ℕ) → list_all t xs ≡ true → map f xs ≡ xs
map_same f t same [] all = refl
map_same f t same (x ∷ xs) all =
    let parts = and_parts (t x) (list_all t xs) all in
    rw (same x parts.0, map_same f t same xs parts.1) refl

pub links-after_tick : (moment : ℕ) (older newer : Past) → links (after_tick moment older newer) ≡ map (shift (length older)) (links (newer ++ older))
unfolding links after_tick tick_entry shift_entry opens
links-after_tick moment older [] =
    sym (map_same (shift (length older)) (is_in older) (λ link within. shift-old (length older) link (is_in-true older link within)) (links older) (links-in older))
links-after_tick moment older (entry ∷ newer) =
    rw (opens-shift (length older) entry.outcome, links-after_tick moment older newer, length-after_tick moment older newer)
    (by_cases (opens entry.outcome))
  where
    by_cases : (new : Bool) → cond new (map (shift (length older)) (links (newer ++ older)) ++ suc (suc (length (newer ++ older))) ∷ []) (map (shift (length older)) (links (newer ++ older)))
        ≡ map (shift (length older)) (cond new (links (newer ++ older) ++ suc (length (newer ++ older)) ∷ []) (links (newer ++ older)))
    by_cases true =
        let name = shift-new (length older) (suc (length (newer ++ older))) (omega (arith, older-le older newer)) in
        sym (map-append (shift (length older)) (links (newer ++ older)) (suc (length (newer ++ older)) ∷ []) ∙ rw name refl)
    by_cases false = refl

module _ (rules : Rules) (moment : ℕ) (older : Past) (ruled : IsRuled rules older) where
  pub bound-after_tick : (newer : Past) (link : ℕ) → session_at (shift (length older) link) (after_tick moment older newer) ≡ session_at link (newer ++ older)
  unfolding session_at bound_by after_tick tick_entry shift_entry binds
  bound-after_tick [] link = by_cases (session_at (shift (length older) link) older) ∙ shift_later (λ l. session_at l older) None (length older) link (λ later new. bound-later rules older later ruled new) where
    by_cases : (o : Option Session) → option_or o None ≡ o
    by_cases None = refl
    by_cases (Some session) = refl
  bound-after_tick (entry ∷ newer) link =
      rw (bound-after_tick newer link, length-after_tick moment older newer, binds-shift (length older) (suc (length (newer ++ older))) link entry.outcome (omega (arith, older-le older newer))) refl

  pub bundle_at-after_tick : (newer : Past) (link : ℕ) → bundle_at (shift (length older) link) (after_tick moment older newer) ≡ bundle_at link (newer ++ older)
  unfolding bundle_at bundled_by after_tick tick_entry shift_entry touches
  bundle_at-after_tick [] link = by_cases (bundle_at (shift (length older) link) older) ∙ shift_later (λ l. bundle_at l older) None (length older) link (λ later new. bundle_at-later rules older later ruled new) where
    by_cases : (o : Option Bundle) → option_or o None ≡ o
    by_cases None = refl
    by_cases (Some bundle) = refl
  bundle_at-after_tick (entry ∷ newer) link =
      rw (bundle_at-after_tick newer link, length-after_tick moment older newer, touches-shift (length older) (suc (length (newer ++ older))) link entry.outcome (omega (arith, older-le older newer))) refl

  pub station_at-after_tick : (newer : Past) (link : ℕ) → station_at (shift (length older) link) (after_tick moment older newer) ≡ station_at link (newer ++ older)
  unfolding station_at stationed_by after_tick tick_entry shift_entry touches
  station_at-after_tick [] link = shift_later (λ l. station_at l older) None (length older) link (λ later new. station_at-later rules older later ruled new)
  station_at-after_tick (entry ∷ newer) link =
      rw (station_at-after_tick newer link, length-after_tick moment older newer, touches-shift (length older) (suc (length (newer ++ older))) link entry.outcome (omega (arith, older-le older newer))) refl

  pub is_of_station-after_tick : (newer : Past) (station : Option (List ℕ)) (link : ℕ)
      → is_of_station (after_tick moment older newer) station (shift (length older) link) ≡ is_of_station (newer ++ older) station link
  unfolding is_of_station
  is_of_station-after_tick newer station link = rw (station_at-after_tick newer link) refl

  pub touched-after_tick : (newer : Past) → AllByRecursion (λ (entry : PastEvent). moment ≤ entry.event.moment) newer → (link : ℕ) → touched_at (shift (length older) link) (after_tick moment older newer) ≡ touched_at link (newer ++ older)
  unfolding touched_at after_tick tick_entry shift_entry touches
  touched-after_tick [] early link = shift_later (λ l. touched_at l older) 0 (length older) link (λ later new. touched-later rules older later ruled new)
  touched-after_tick (entry ∷ newer) early link =
      rw (
        touched-after_tick newer early.1 link,
        length-after_tick moment older newer,
        touches-shift (length older) (suc (length (newer ++ older))) link entry.outcome (omega (arith, older-le older newer)),
        clock_next moment older newer entry early.0,
      ) refl

  pub lapses-after_tick : (newer : Past) → AllByRecursion (λ (entry : PastEvent). moment ≤ entry.event.moment) newer → (event : Event) → moment ≤ event.moment → (link : ℕ)
      → lapses rules (after_tick moment older newer) event (shift (length older) link) ≡ lapses rules (newer ++ older) event link
  unfolding lapses
  lapses-after_tick newer early event at link =
      rw (bound-after_tick newer link, clock_at-after_tick moment older newer event at, touched-after_tick newer early link) refl

  pub is_idle-after_tick : (newer : Past) → AllByRecursion (λ (entry : PastEvent). moment ≤ entry.event.moment) newer → (event : Event) → moment ≤ event.moment → (link : ℕ)
      → is_idle rules (after_tick moment older newer) event (shift (length older) link) ≡ is_idle rules (newer ++ older) event link
  unfolding is_idle
  is_idle-after_tick newer early event at link =
      rw (bound-after_tick newer link, clock_at-after_tick moment older newer event at, touched-after_tick newer early link) refl

  pub is_bound_to-after_tick : (newer : Past) (session : Session) (link : ℕ) → is_bound_to (after_tick moment older newer) session (shift (length older) link) ≡ is_bound_to (newer ++ older) session link
  unfolding is_bound_to
  is_bound_to-after_tick newer session link = rw (bound-after_tick newer link) refl

  pub is_reserved-after_tick : (newer : Past) (link : ℕ) → is_reserved (after_tick moment older newer) (shift (length older) link) ≡ is_reserved (newer ++ older) link
  unfolding is_reserved
  is_reserved-after_tick newer link = rw (bound-after_tick newer link) refl

  pub is_at-after_tick : (newer : Past) (nas : Nas) (link : ℕ) → is_at (after_tick moment older newer) nas (shift (length older) link) ≡ is_at (newer ++ older) nas link
  unfolding is_at
  is_at-after_tick newer nas link = rw (nas_at-after_tick moment older newer link) refl

  pub ended_by-after_tick : (newer : Past) → AllByRecursion (λ (entry : PastEvent). moment ≤ entry.event.moment) newer → (now : ℕ) (act : Act) (link : ℕ)
      → ended_by (after_tick moment older newer) now act (shift (length older) link) ≡ ended_by (newer ++ older) now act link
  unfolding ended_by
  ended_by-after_tick newer early now (Ask key nas station) link = refl
  ended_by-after_tick newer early now (Alive nas session bundle class station) link = refl
  ended_by-after_tick newer early now (Stop nas session) link = is_bound_to-after_tick newer (record { nas = nas; id = session }) link
  ended_by-after_tick newer early now (Sweep nas delay) link = rw (is_at-after_tick newer nas link, opened-after_tick moment older newer early link) refl
  ended_by-after_tick newer early now Tick link = refl
