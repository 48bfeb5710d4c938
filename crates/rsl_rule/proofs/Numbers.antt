-- Accept numbers count up from 0.
use Rattle.std.proofs.Common.{◌≡◌, ℕ, ◌+◌, ◌-◌, ◌^◌, List, [], ◌∷◌, ◌++◌, length, Bool, true, false, cond, refl, ap, sym, ◌∙◌, subst, inl, inr, arith, append-nil}
use Rattle.std.specs.Prelude.{Option, Some, None, is_some, ⊤, nat_lt, EachIndex, slice_index}
use Rattle.std.proofs.lemmas.Bool.{cases_lt}
use Rattle.std.proofs.lemmas.List.{get_or_append_left, get_or_push, length_push}
use Rattle.std.proofs.lemmas.List.Sums.{sum_by-cons}
use Rattle.rsl_accounts.specs.declared.rules.Rules.{Rules}
use Rattle.rsl_event.specs.declared.event.Event.{Event}
use Rattle.rsl_event.specs.declared.event.Act.{Act}
use Rattle.rsl_event.specs.declared.event.Act.TheVariants.{Ask, Alive, Stop, Sweep, Tick}
use Rattle.rsl_session.specs.declared.past_event.PastEvent.{PastEvent}
use Rattle.rsl_session.specs.declared.outcome.Outcome.{Outcome}
use Rattle.rsl_session.specs.declared.outcome.Outcome.TheVariants.{Accepted, AcceptedInPlace, Refused, Repeated, Opened, Took, Renewed, Ignored, Over, Passed}
use Rattle.rsl_session.specs.declared.kept.KeptAsk.{KeptAsk}
use Rattle.rsl_session.specs.declared.session.Session.{Session}
use Rattle.rsl_session.specs.Past.{Past}
use Rattle.rsl_session.specs.Link.{number_of}
use Rattle.rsl_session.specs.Ask.{accepts, ask_outcome, fresh_outcome, has_a_place, has_a_place_without, placed_outcome, repeated_ask, returning_outcome, station_link, unfitting_outcome, yielding_link}
use Rattle.rsl_session.specs.Alive.{alive_outcome, unbound_outcome, reservation_of, has_room}
use Rattle.rsl_session.specs.Closed.{is_closed}
use Rattle.rsl_session.specs.Rule.{IsRuled, outcome_of, outcome_by, past_of}
use Rattle.rsl_session.proofs.Callers.{IsRuled-past_of}
use Rattle.rsl_rule.specs.Laws.{accept_numbers}

-- the number that an outcome gives is how many were accepted before
unfoldable pub IsNext : Past → Outcome → Type 0
IsNext past (Accepted number) = number ≡ accepts past
IsNext past (AcceptedInPlace number yielded) = number ≡ accepts past
IsNext past _ = ⊤

pub IsNext-outcome_of : (rules : Rules) (past : Past) (event : Event) → IsNext past (outcome_of rules past event)
unfolding IsNext outcome_of fresh_outcome placed_outcome
IsNext-outcome_of rules past event = by_act event.act where
  of_ask : (found : Option KeptAsk) → IsNext past (ask_outcome rules past event found)
  of_ask (Some ask) = tt
  of_ask None = numbered (nat_lt (accepts past) (2 ^ 64 - 1)) where
    without : (link : ℕ) (fits : Bool) → IsNext past (cond fits (AcceptedInPlace (accepts past) link) Refused)
    without link true = refl
    without link false = tt

    unfitting : (found : Option ℕ) → IsNext past (unfitting_outcome rules past event found)
    unfitting None = tt
    unfitting (Some link) = without link (has_a_place_without rules past event link)

    by_place : (free : Bool) → IsNext past (cond free (Accepted (accepts past)) (unfitting_outcome rules past event (yielding_link rules past event)))
    by_place true = refl
    by_place false = unfitting _

    placed : IsNext past (placed_outcome rules past event)
    placed = by_place (has_a_place rules past event)

    in_place : (link : ℕ) (fits : Bool) → IsNext past (cond fits (AcceptedInPlace (accepts past) link) (placed_outcome rules past event))
    in_place link true = refl
    in_place link false = placed

    returning : (found : Option ℕ) → IsNext past (returning_outcome rules past event found)
    returning None = placed
    returning (Some link) = in_place link (has_a_place_without rules past event link)

    numbered : (left : Bool) → IsNext past (cond left (fresh_outcome rules past event) Refused)
    numbered true = returning (station_link rules past event)
    numbered false = tt

  unbound : (found : Option ℕ) → IsNext past (unbound_outcome rules past event found)
  unbound (Some link) = tt
  unbound None = opened (has_room rules past event) where
    opened : (room : Bool) → IsNext past (cond room Opened Over)
    opened true = tt
    opened false = tt

  of_alive : (session : Session) (class found : Option ℕ) → IsNext past (alive_outcome rules past event session class found)
  of_alive session class (Some link) = tt
  of_alive session class None = open_or_closed (is_closed rules past event session) where
    open_or_closed : (closed : Bool) → IsNext past (cond closed Ignored (unbound_outcome rules past event (reservation_of rules past event session.nas class)))
    open_or_closed true = tt
    open_or_closed false = unbound _

  by_act : (act : Act) → IsNext past (outcome_by rules past event act)
  by_act (Ask key nas station) = of_ask (repeated_ask rules past event key)
  by_act (Alive nas id bundle class station) = of_alive _ class _
  by_act (Stop nas id) = tt
  by_act (Sweep nas delay) = tt
  by_act Tick = tt

pub accepts-cons : (entry : PastEvent) (past : Past) → accepts (entry ∷ past) ≡ cond (is_some (number_of entry.outcome)) 1 0 + accepts past
unfolding accepts
accepts-cons entry past = sum_by-cons (λ (e : PastEvent). cond (is_some (number_of e.outcome)) 1 0) entry past

-- one more number at the end
counted_push : (xs : List ℕ) (n : ℕ) → length xs ≡ n → EachIndex xs (λ k. slice_index xs k ≡ k) → EachIndex (xs ++ n ∷ []) (λ k. slice_index (xs ++ n ∷ []) k ≡ k)
counted_push xs n long each k within =
    elim (cases_lt k (length xs)) [
      | inl before ↦ get_or_append_left xs (n ∷ []) 0 k before ∙ each k before
      | inr last ↦
          let here : k ≡ n = omega (arith, length_push xs n) in
          get_or_push xs n 0 k (long ∙ sym here) ∙ sym here
    ]

-- how many numbers there are, and which
pub Counted : Past → Type 0
Counted past = (length (accept_numbers past) ≡ accepts past) × EachIndex (accept_numbers past) (λ k. slice_index (accept_numbers past) k ≡ k)

unnumbered : (entry : PastEvent) (past : Past) (outcome : Outcome) → entry.outcome ≡ outcome → number_of outcome ≡ None → Counted past → Counted (entry ∷ past)
unfolding Counted accept_numbers
unnumbered entry past outcome is none counted =
    let no_number : number_of entry.outcome ≡ None = ap number_of is ∙ none in
    let more = rw no_number at (accepts-cons entry past) in
    rw (no_number, append-nil (accept_numbers past)) (counted.0 ∙ sym (more ∙ omega arith), counted.1)

numbered : (entry : PastEvent) (past : Past) (number : ℕ) → number_of entry.outcome ≡ Some number → number ≡ accepts past → Counted past → Counted (entry ∷ past)
unfolding Counted accept_numbers
numbered entry past number some next counted =
    let more = rw some at (accepts-cons entry past) in
    let long : length (accept_numbers past) ≡ number = counted.0 ∙ sym next in
    rw some (length_push (accept_numbers past) number ∙ sym (more ∙ omega arith), counted_push (accept_numbers past) number long counted.1)

count_more : (entry : PastEvent) (past : Past) (outcome : Outcome) → entry.outcome ≡ outcome → IsNext past outcome → Counted past → Counted (entry ∷ past)
unfolding IsNext number_of
count_more entry past (Accepted number) is next counted = numbered entry past number (ap number_of is) next counted
count_more entry past (AcceptedInPlace number yielded) is next counted = numbered entry past number (ap number_of is) next counted
count_more entry past Refused is next counted = unnumbered entry past Refused is refl counted
count_more entry past (Repeated decision) is next counted = unnumbered entry past (Repeated decision) is refl counted
count_more entry past Opened is next counted = unnumbered entry past Opened is refl counted
count_more entry past (Took link) is next counted = unnumbered entry past (Took link) is refl counted
count_more entry past (Renewed link) is next counted = unnumbered entry past (Renewed link) is refl counted
count_more entry past Ignored is next counted = unnumbered entry past Ignored is refl counted
count_more entry past Over is next counted = unnumbered entry past Over is refl counted
count_more entry past Passed is next counted = unnumbered entry past Passed is refl counted

pub counted : (rules : Rules) (past : Past) → IsRuled rules past → Counted past
unfolding Counted accept_numbers IsRuled accepts
counted rules [] ruled = (refl, λ k within. absurd (omega arith))
counted rules (entry ∷ past) ruled =
    count_more entry past entry.outcome refl (subst (IsNext past) (sym ruled.0) (IsNext-outcome_of rules past entry.event)) (counted rules past ruled.1)

pub accept_numbers_are : (rules : Rules) (events : List Event) → EachIndex (accept_numbers (past_of rules events)) (λ k. slice_index (accept_numbers (past_of rules events)) k ≡ k)
unfolding Counted
accept_numbers_are rules events = (counted rules (past_of rules events) (IsRuled-past_of rules events)).1
