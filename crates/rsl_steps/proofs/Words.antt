-- What an account is told, from its rules and its own events.
use Rattle.std.proofs.Common.{◌≡◌, ℕ, Bool, true, false, ◌==◌, cond, List, [], ◌∷◌, ◌++◌, Option, Some, None, Result, Ok, Err, refl, sym, ap, ◌∙◌, append_assoc}
use Rattle.std.specs.Prelude.{is_some, slice_get}
use Rattle.std.specs.List.{cons_option}
use Rattle.std.specs.Option.{option_map_or, option_to_list}
use Rattle.std.proofs.lemmas.List.{append-nil}
use Rattle.std.proofs.lemmas.Bool.{eqb-true}
use Rattle.rsl_accounts.specs.Configuration.{Configuration}
use Rattle.rsl_accounts.specs.declared.entry.Entry.{Entry as Account}
use Rattle.rsl_accounts.specs.declared.rules.Rules.{Rules}
use Rattle.rsl_wire.specs.Packet.{Fields, packet_of}
use Rattle.rsl_wire.specs.declared.packet.WireFault.{WireFault}
use Rattle.rsl_wire.specs.declared.packet.WireFault.TheVariants as wire
use Rattle.rsl_event.proofs.Callers.{meaning_meant}
use Rattle.rsl_event.specs.Answer.{said, said_of}
use Rattle.rsl_event.specs.Meaning.{if_packet, meaning}
use Rattle.rsl_event.specs.Prepared.{IsOfOneAccount}
use Rattle.rsl_event.specs.declared.event.Act.{Act}
use Rattle.rsl_event.specs.declared.event.Act.TheVariants as acts
use Rattle.rsl_event.specs.declared.event.Act.TheVariants.{Ask, Alive, Stop}
use Rattle.rsl_event.specs.declared.event.Decision.{Decision}
use Rattle.rsl_event.specs.declared.event.Decision.TheVariants.{Done}
use Rattle.rsl_event.specs.declared.event.Event.{Event}
use Rattle.rsl_event.specs.declared.event.Source.{Source}
use Rattle.rsl_event.specs.declared.meaning.Dropped.{Dropped}
use Rattle.rsl_event.specs.declared.meaning.Meaning.{Meaning}
use Rattle.rsl_event.specs.declared.meaning.Meaning.TheVariants.{Bare, Reject, Own, Restart, Stray}
use Rattle.rsl_event.specs.declared.meaning.Port.{Port}
use Rattle.rsl_event.specs.declared.words.Said.{Said}
use Rattle.rsl_event.specs.declared.words.Said.TheVariants as words
use Rattle.rsl_session.specs.Past.{Past}
use Rattle.rsl_session.specs.Rule.{decision_of, entry_of, outcome_of, past_from, past_of, places_after}
use Rattle.rsl_steps.specs.Laws.{EqualOwnEventsAreAnsweredAlike, Served, events_of, is_own_packet, words_of, words_to}
use Rattle.rsl_steps.specs.Own.{own_event, event_of, is_of_shard, own, own_events}
use Rattle.rsl_steps.specs.Run.{AreAnswers, answer_after, answer_by, decision_after, decision_on, steps_taken}
use Rattle.rsl_steps.proofs.OneMore.{own-cons}
use Rattle.rsl_steps.specs.declared.step.Answer.{Answer}
use Rattle.rsl_steps.specs.declared.step.Answer.TheVariants as answers
use Rattle.rsl_steps.specs.declared.step.Step.{Step}
use Rattle.rsl_steps.specs.declared.step.Step.TheVariants as steps
use Rattle.rsl_steps.specs.declared.step.Step.TheVariants.{Datagram}

-- the word told on an event: a sweep or a tick is told nothing
abbrev word_on : Act → Decision → Option Said
word_on (Ask key nas station) decision = Some (said_of decision)
word_on (Alive nas session bundle class station) decision = Some words.Account
word_on (Stop nas session) decision = Some words.Account
word_on _ decision = None

-- the words told on events of an account with these rules
unfoldable told_from : Rules → Past → List Event → List Said
told_from rules past [] = []
told_from rules past (event ∷ events) =
    cons_option (word_on event.act (decision_of (outcome_of rules past event))) (told_from rules (entry_of rules past event ∷ past) events)

abbrev told : Rules → List Event → List Said
told rules events = told_from rules [] events

-- the word on one more event
abbrev word_after : Rules → List Event → Option Event → Option Said
word_after rules events None = None
word_after rules events (Some event) = word_on event.act (decision_after rules events event)

onto_list : (o : Option Said) (xs ys : List Said) → cons_option o xs ++ ys ≡ cons_option o (xs ++ ys)
onto_list None xs ys = refl
onto_list (Some word) xs ys = refl

as_list : (o : Option Said) (xs : List Said) → option_to_list o ++ xs ≡ cons_option o xs
as_list None xs = refl
as_list (Some word) xs = refl

told-push : (rules : Rules) (past : Past) (events : List Event) (event : Event)
    → told_from rules past (events ++ event ∷ []) ≡ told_from rules past events ++ option_to_list (word_on event.act (decision_of (outcome_of rules (past_from rules past events) event)))
unfolding told_from past_from
told-push rules past [] event = only (word_on event.act (decision_of (outcome_of rules past event)))
  where
    only : (o : Option Said) → cons_option o [] ≡ option_to_list o
    only None = refl
    only (Some word) = refl
told-push rules past (first ∷ events) event =
    let word = word_on first.act (decision_of (outcome_of rules past first)) in
    ap (cons_option word) (told-push rules (entry_of rules past first ∷ past) events event)
    ∙ sym (onto_list word (told_from rules (entry_of rules past first ∷ past) events) _)

told-more : (rules : Rules) (events : List Event) (o : Option Event) → told rules (events ++ option_to_list o) ≡ told rules events ++ option_to_list (word_after rules events o)
unfolding decision_after past_of
told-more rules events None = ap (told rules) (append-nil events) ∙ sym (append-nil (told rules events))
told-more rules events (Some event) = told-push rules [] events event

-- ---- one step

-- what a meaning makes an account's own is an act of one account
own_act : (config : Configuration) (boot : ℕ) (port : Port) (source : Source) (octets : List ℕ) (account : ℕ) (act : Act) → meaning config boot port source octets ≡ Ok (Own account act) → IsOfOneAccount act
unfolding meaning
own_act config boot port source octets account act e = by (packet_of octets) refl
  where
    by : (r : Result Fields WireFault) → packet_of octets ≡ r → IsOfOneAccount act
    by (Ok fields) is = (meaning_meant config boot port source octets fields (Own account act) is e).own
    by (Err wire.Short) is = absurd (dropped (sym (ap (if_packet config boot port source) is) ∙ e))
      where
        dropped : {d : Dropped} → Err d ≡ Ok (Own account act) → ⊥
        dropped same = cc
    by (Err wire.BadLength) is = absurd (dropped (sym (ap (if_packet config boot port source) is) ∙ e))
      where
        dropped : {d : Dropped} → Err d ≡ Ok (Own account act) → ⊥
        dropped same = cc

-- the word that the answer to a step tells the account
abbrev told_by : Configuration → (boot account : ℕ) → Step → Answer → Option Said
told_by config boot account step (answers.Reply word octets) = cond (is_own_packet config boot account step) (Some word) None
told_by config boot account step _ = None

abbrev told_in : (account moment : ℕ) → Result Meaning Dropped → Answer → Option Said
told_in account moment r (answers.Reply word octets) = cond (is_some (own_event account moment r)) (Some word) None
told_in account moment r _ = None

told_same : (config : Configuration) (boot account moment : ℕ) (port : Port) (source : Source) (octets : List ℕ) (answer : Answer)
    → told_in account moment (meaning config boot port source octets) answer ≡ told_by config boot account (Datagram moment port source octets) answer
told_same config boot account moment port source octets (answers.Reply word reply) = refl
told_same config boot account moment port source octets (answers.Dropped dropped) = refl
told_same config boot account moment port source octets answers.Quiet = refl
told_same config boot account moment port source octets answers.Refused = refl

decision_found : (config : Configuration) (boot number account moment : ℕ) (act : Act) (entry : Account) (before : List Step) → number ≡ account → slice_get config.accounts account ≡ Some entry
    → decision_on config boot before moment (Own number act) ≡ decision_after entry.rules (own config boot account before) (record { moment = moment; act = act })
decision_found config boot number account moment act entry before same there =
    ap (λ (n : ℕ). decision_on config boot before moment (Own n act)) same
    ∙ ap (λ (o : Option Account). option_map_or (λ (found : Account). decision_after found.rules (own config boot account before) (record { moment = moment; act = act })) o Done) there

word_found : (number : ℕ) (act : Act) (one other : Decision) → IsOfOneAccount act → one ≡ other → word_on act one ≡ Some (said (Own number act) other)
word_found number (Ask key nas station) one other own same = ap (λ (d : Decision). Some (said_of d)) same
word_found number (Alive nas session bundle class station) one other own same = refl
word_found number (Stop nas session) one other own same = refl
word_found number (acts.Sweep nas delay) one other own same = absurd own
word_found number acts.Tick one other own same = absurd own

datagram_told : (config : Configuration) (boot account : ℕ) (entry : Account) (before : List Step) (moment : ℕ) (port : Port) (source : Source) (octets : List ℕ) → slice_get config.accounts account ≡ Some entry
    → (r : Result Meaning Dropped) → meaning config boot port source octets ≡ r
    → word_after entry.rules (own config boot account before) (own_event account moment r) ≡ told_in account moment r (answer_by config boot before moment source octets r)
datagram_told config boot account entry before moment port source octets there (Err dropped) is = refl
datagram_told config boot account entry before moment port source octets there (Ok Bare) is = refl
datagram_told config boot account entry before moment port source octets there (Ok Reject) is = refl
datagram_told config boot account entry before moment port source octets there (Ok (Restart nas delay)) is = refl
datagram_told config boot account entry before moment port source octets there (Ok (Stray note)) is = refl
datagram_told config boot account entry before moment port source octets there (Ok (Own number act)) is = by (number == account) refl
  where
    by : (b : Bool) → (number == account) ≡ b
        → (let event : Event = record { moment = moment; act = act } in
        word_after entry.rules (own config boot account before) (cond b (Some event) None)
        ≡ cond (is_some (cond b (Some event) None)) (Some (said (Own number act) (decision_on config boot before moment (Own number act)))) None)
    by true same =
        word_found number act (decision_after entry.rules (own config boot account before) (record { moment = moment; act = act })) (decision_on config boot before moment (Own number act))
        (own_act config boot port source octets number act is)
        (sym (decision_found config boot number account moment act entry before (eqb-true number account same) there))
    by false other = refl

step_told : (config : Configuration) (boot account : ℕ) (entry : Account) (before : List Step) (step : Step) → slice_get config.accounts account ≡ Some entry
    → word_after entry.rules (own config boot account before) (event_of config boot account step) ≡ told_by config boot account step (answer_after config boot before step)
step_told config boot account entry before (Datagram moment port source octets) there =
    datagram_told config boot account entry before moment port source octets there (meaning config boot port source octets) refl
    ∙ told_same config boot account moment port source octets (answer_after config boot before (Datagram moment port source octets))
step_told config boot account entry before (steps.Sweep shard moment nas delay) there = by (is_of_shard config account shard)
  where
    by : (b : Bool) → word_after entry.rules (own config boot account before) (cond b (Some (record { moment = moment; act = acts.Sweep nas delay })) None) ≡ None
    by true = refl
    by false = refl
step_told config boot account entry before (steps.Tick shard moment) there = by (is_of_shard config account shard)
  where
    by : (b : Bool) → word_after entry.rules (own config boot account before) (cond b (Some (record { moment = moment; act = acts.Tick })) None) ≡ None
    by true = refl
    by false = refl

-- ---- all steps

words-cons : (config : Configuration) (boot account : ℕ) (step : Step) (all : List Step) (answer : Answer) (given : List Answer)
    → words_to config boot account (step ∷ all) (answer ∷ given) ≡ cons_option (told_by config boot account step answer) (words_to config boot account all given)
unfolding words_to
words-cons config boot account step all (answers.Reply word octets) given = by (is_own_packet config boot account step)
  where
    by : (b : Bool) → cond b (word ∷ words_to config boot account all given) (words_to config boot account all given) ≡ cons_option (cond b (Some word) None) (words_to config boot account all given)
    by true = refl
    by false = refl
words-cons config boot account step all (answers.Dropped dropped) given = refl
words-cons config boot account step all answers.Quiet given = refl
words-cons config boot account step all answers.Refused given = refl

words-nil : (config : Configuration) (boot account : ℕ) (xs : List Said) → xs ++ words_to config boot account [] [] ≡ xs
unfolding words_to
words-nil config boot account xs = append-nil xs

-- a step that was taken
one_told : (config : Configuration) (boot account : ℕ) (entry : Account) (before : List Step) (step : Step) (all : List Step) (answer : Answer) (given : List Answer) (whole : List Said) → slice_get config.accounts account ≡ Some entry
    → answer ≡ answer_after config boot before step
    → told entry.rules (own config boot account (step ∷ before)) ++ words_to config boot account all given ≡ whole
    → told entry.rules (own config boot account before) ++ words_to config boot account (step ∷ all) (answer ∷ given) ≡ whole
one_told config boot account entry before step all answer given whole there is rest =
    let events : List Event = own config boot account before in
    let word : Option Said = told_by config boot account step answer in
    let more : List Said = words_to config boot account all given in
    ap (λ (x : List Said). told entry.rules events ++ x) (words-cons config boot account step all answer given ∙ sym (as_list word more))
    ∙ sym (append_assoc (told entry.rules events) (option_to_list word) more)
    ∙ ap (λ (o : Option Said). (told entry.rules events ++ option_to_list o) ++ more) (ap (told_by config boot account step) is ∙ sym (step_told config boot account entry before step there))
    ∙ ap (λ (x : List Said). x ++ more) (sym (told-more entry.rules events (event_of config boot account step)) ∙ sym (ap (told entry.rules) (own-cons config boot account step before)))
    ∙ rest

all_told : (config : Configuration) (boot account : ℕ) (entry : Account) (before all : List Step) (given : List Answer) → slice_get config.accounts account ≡ Some entry → AreAnswers config boot before all given
    → told entry.rules (own config boot account before) ++ words_to config boot account all given ≡ told entry.rules (own config boot account (steps_taken before all given))
unfolding AreAnswers steps_taken
all_told config boot account entry before [] [] there are = words-nil config boot account (told entry.rules (own config boot account before))
all_told config boot account entry before [] (answer ∷ given) there are = absurd are
all_told config boot account entry before (step ∷ all) [] there are = absurd are
all_told config boot account entry before (step ∷ all) (answers.Refused ∷ given) there are =
    ap (λ (x : List Said). told entry.rules (own config boot account before) ++ x) (words-cons config boot account step all answers.Refused given)
    ∙ all_told config boot account entry before all given there are
all_told config boot account entry before (step ∷ all) (answers.Quiet ∷ given) there are =
    one_told config boot account entry before step all answers.Quiet given _ there are.0 (all_told config boot account entry (step ∷ before) all given there are.1)
all_told config boot account entry before (step ∷ all) (answers.Dropped dropped ∷ given) there are =
    one_told config boot account entry before step all (answers.Dropped dropped) given _ there are.0 (all_told config boot account entry (step ∷ before) all given there are.1)
all_told config boot account entry before (step ∷ all) (answers.Reply word octets ∷ given) there are =
    one_told config boot account entry before step all (answers.Reply word octets) given _ there are.0 (all_told config boot account entry (step ∷ before) all given there are.1)

told_none : (config : Configuration) (boot account : ℕ) (rules : Rules) (xs : List Said) → told rules (own config boot account []) ++ xs ≡ xs
unfolding own own_events told_from
told_none config boot account rules xs = refl

-- what an account is told
words_are : (served : Served) → words_of served ≡ told served.entry.rules (events_of served)
words_are served =
    sym (told_none served.config served.boot served.account served.entry.rules (words_of served))
    ∙ all_told served.config served.boot served.account served.entry [] served.steps served.answers served.there served.answered

pub words_alike : EqualOwnEventsAreAnsweredAlike
words_alike one other rules events =
    (words_are one ∙ (λ i. told (rules i) (events i)) ∙ sym (words_are other), λ i. places_after (rules i) (events i))
