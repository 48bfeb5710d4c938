-- Where memory may be wanted: an account that has had no event holds no link, so there is nothing to look up.
use Rattle.std.proofs.Common.{◌≡◌, ℕ, ◌<◌, Bool, List, [], ◌∷◌, length, map, ap, sym, ◌∙◌, subst, arith}
use Rattle.std.specs.Prelude.{filter, Result, Ok, Err, OnErr}
use Rattle.std.proofs.lemmas.List.{length-map, length-reverse}
use Rattle.rsl_accounts.specs.declared.rules.Rules.{Rules}
use Rattle.rsl_event.specs.declared.event.Event.{Event}
use Rattle.rsl_session.specs.declared.past_event.PastEvent.{PastEvent}
use Rattle.rsl_session.specs.Past.{Past, looking_back}
use Rattle.rsl_session.specs.Link.{links}
use Rattle.rsl_session.specs.Held.{held_links, held_before}
use Rattle.rsl_session.specs.Rule.{past_of}
use Rattle.rsl_rule.specs.declared.holding.HeldLink.{HeldLink}
use Rattle.rsl_rule.specs.declared.holding.Holding.{Holding}
use Rattle.rsl_rule.specs.Holding.{IsHolding, standings}
use Rattle.rsl_rule.proofs.Whole.{events_of}

some_held : (rules : Rules) (history : List PastEvent) → 0 < length (held_links rules (looking_back history)) → 0 < length history
unfolding held_links looking_back links
some_held rules [] some = some
some_held rules (entry ∷ history) some = omega arith

some_before : (rules : Rules) (history : List PastEvent) (event : Event) → 0 < length (held_before rules (looking_back history) event) → 0 < length history
unfolding held_before held_links looking_back links
some_before rules [] event some = some
some_before rules (entry ∷ history) event some = omega arith

length-standings : (past : Past) (held : List ℕ) → length (standings past held) ≡ length held
unfolding standings
length-standings past held = length-map held _

-- what a failed call leaves, where it holds anyway
pub on_err : {T E P : Type 0} (r : Result T E) → P → OnErr r P
on_err (Ok value) p = tt
on_err (Err fault) p = p

-- some that pass a test are some
pub filter_some : (p : ℕ → Bool) (xs : List ℕ) → 0 < length (filter p xs) → 0 < length xs
filter_some p [] some = some
filter_some p (x ∷ xs) some = omega arith

-- a link that is carried
pub holding_some : (rules : Rules) (history : List PastEvent) (holding : Holding) → IsHolding rules (looking_back history) holding → 0 < length holding.links.items → 0 < length history
holding_some rules history holding is some =
    some_held rules history (subst (λ n. 0 < n) (ap (λ (ls : List HeldLink). length ls) is.each ∙ length-standings (looking_back history) _) some)

-- a link of a list of those held
pub links_some : (rules : Rules) (history : List PastEvent) (held : List ℕ) → held ≡ held_links rules (looking_back history) → 0 < length held → 0 < length history
links_some rules history held is some = some_held rules history (subst (λ (ls : List ℕ). 0 < length ls) is some)

-- a link of those that are still held when an event comes
pub before_some : (rules : Rules) (history : List PastEvent) (event : Event) (before : List HeldLink) → before ≡ standings (looking_back history) (held_before rules (looking_back history) event)
    → 0 < length before → 0 < length history
before_some rules history event before is some =
    some_before rules history event (subst (λ n. 0 < n) (ap (λ (ls : List HeldLink). length ls) is ∙ length-standings (looking_back history) _) some)

-- their numbers are as many
pub numbers_some : (before : List HeldLink) (held : List ℕ) → held ≡ map (λ (one : HeldLink). one.link) before → 0 < length held → 0 < length before
numbers_some before held is some = subst (λ n. 0 < n) (ap (λ (ls : List ℕ). length ls) is ∙ length-map before _) some

-- the past of a list of events has as many entries
pub as_many : (rules : Rules) (events : List Event) (history : List PastEvent) → looking_back history ≡ past_of rules events → length history ≡ length events
unfolding looking_back
as_many rules events history is =
    sym (length-reverse history)
    ∙ ap (λ (past : Past). length past) is
    ∙ sym (length-map (past_of rules events) (λ (entry : PastEvent). entry.event))
    ∙ ap (λ (es : List Event). length es) (events_of rules events)
    ∙ length-reverse events

pub events_some : (rules : Rules) (events : List Event) (history : List PastEvent) → looking_back history ≡ past_of rules events → 0 < length history → 0 < length events
events_some rules events history is some = subst (λ n. 0 < n) (as_many rules events history is) some
