use Rattle.std.proofs.Common.{sym, ◌∙◌}
use Rattle.rsl_session.specs.Past.{looking_back}
use Rattle.rsl_rule.proofs.Standings.{fits, fits_in_place, fits_nowhere, fits_returning, free_now, held_numbers, idling, returning, room_found}
use Rattle.rsl_rule.proofs.Memory.{before_some, numbers_some, on_err}
use Rattle.rsl_rule.proofs.ask.outcome_of_fresh.Goals as goal

pub returns-in-Some-clause-outcome : goal.returns-in-Some-clause-outcome
returns-in-Some-clause-outcome c =
    let past = looking_back c.args.history.now in
    let links = held_numbers c.args.rules.now past c.args.event.now c.deref.result.now c.deref-3.result.now (c.deref.ensures.value ∙ c.in_ok-before.ensures.links) (c.deref-3.ensures.value ∙ c.in_ok-links.ensures.numbers) in
    let one = c.yielding_link-returning.ensures ∙ returning c.args.rules.now past c.args.event.now c.deref-2.result.now (c.deref-2.ensures.value ∙ c.in_ok-before.ensures.links) in
    let first = room_found c.args.rules.now past c.args.event.now c.deref-3.result.now _ _ _ links one c.in_ok-yielded.ensures.link in
    fits_returning c.args.rules.now past c.args.event.now c.args.number c.requires.next c.in-Some.yielded (sym c.in-Some.is ∙ first)

pub returns-then-branch-clause-outcome : goal.returns-then-branch-clause-outcome
returns-then-branch-clause-outcome c =
    let past = looking_back c.args.history.now in
    let links = held_numbers c.args.rules.now past c.args.event.now c.deref.result.now c.deref-3.result.now (c.deref.ensures.value ∙ c.in_ok-before.ensures.links) (c.deref-3.ensures.value ∙ c.in_ok-links.ensures.numbers) in
    let one = c.yielding_link-returning.ensures ∙ returning c.args.rules.now past c.args.event.now c.deref-2.result.now (c.deref-2.ensures.value ∙ c.in_ok-before.ensures.links) in
    let first = room_found c.args.rules.now past c.args.event.now c.deref-3.result.now _ _ _ links one c.in_ok-yielded.ensures.link in
    let free = free_now c.args.rules.now past c.args.event.now c.deref-4.result.now c.in_ok-has_place_beside.field-0 (held_numbers c.args.rules.now past c.args.event.now c.deref.result.now c.deref-4.result.now (c.deref.ensures.value ∙ c.in_ok-before.ensures.links) (c.deref-4.ensures.value ∙ c.in_ok-links.ensures.numbers)) c.in_ok-has_place_beside.ensures.free in
    fits c.args.rules.now past c.args.event.now c.args.number c.requires.next (sym c.in_default.is ∙ first) (sym c.if-branch.true ∙ free)

pub returns-in-Some-2-clause-outcome : goal.returns-in-Some-2-clause-outcome
returns-in-Some-2-clause-outcome c =
    let past = looking_back c.args.history.now in
    let links = held_numbers c.args.rules.now past c.args.event.now c.deref.result.now c.deref-3.result.now (c.deref.ensures.value ∙ c.in_ok-before.ensures.links) (c.deref-3.ensures.value ∙ c.in_ok-links.ensures.numbers) in
    let one = c.yielding_link-returning.ensures ∙ returning c.args.rules.now past c.args.event.now c.deref-2.result.now (c.deref-2.ensures.value ∙ c.in_ok-before.ensures.links) in
    let first = room_found c.args.rules.now past c.args.event.now c.deref-3.result.now _ _ _ links one c.in_ok-yielded.ensures.link in
    let free = free_now c.args.rules.now past c.args.event.now c.deref-4.result.now c.in_ok-has_place_beside.field-0 (held_numbers c.args.rules.now past c.args.event.now c.deref.result.now c.deref-4.result.now (c.deref.ensures.value ∙ c.in_ok-before.ensures.links) (c.deref-4.ensures.value ∙ c.in_ok-links.ensures.numbers)) c.in_ok-has_place_beside.ensures.free in
    let other = c.yielding_link-idle.ensures ∙ idling c.args.rules.now past c.args.event.now c.deref-5.result.now (c.deref-5.ensures.value ∙ c.in_ok-before.ensures.links) in
    let last = room_found c.args.rules.now past c.args.event.now c.deref-6.result.now _ _ _ (held_numbers c.args.rules.now past c.args.event.now c.deref.result.now c.deref-6.result.now (c.deref.ensures.value ∙ c.in_ok-before.ensures.links) (c.deref-6.ensures.value ∙ c.in_ok-links.ensures.numbers)) other c.in_ok-yielded-2.ensures.link in
    fits_in_place c.args.rules.now past c.args.event.now c.args.number c.requires.next c.in-Some-2.yielded (sym c.in_default.is ∙ first) (sym c.if-branch.false ∙ free) (sym c.in-Some-2.is ∙ last)

pub returns-clause-outcome : goal.returns-clause-outcome
returns-clause-outcome c =
    let past = looking_back c.args.history.now in
    let links = held_numbers c.args.rules.now past c.args.event.now c.deref.result.now c.deref-3.result.now (c.deref.ensures.value ∙ c.in_ok-before.ensures.links) (c.deref-3.ensures.value ∙ c.in_ok-links.ensures.numbers) in
    let one = c.yielding_link-returning.ensures ∙ returning c.args.rules.now past c.args.event.now c.deref-2.result.now (c.deref-2.ensures.value ∙ c.in_ok-before.ensures.links) in
    let first = room_found c.args.rules.now past c.args.event.now c.deref-3.result.now _ _ _ links one c.in_ok-yielded.ensures.link in
    let free = free_now c.args.rules.now past c.args.event.now c.deref-4.result.now c.in_ok-has_place_beside.field-0 (held_numbers c.args.rules.now past c.args.event.now c.deref.result.now c.deref-4.result.now (c.deref.ensures.value ∙ c.in_ok-before.ensures.links) (c.deref-4.ensures.value ∙ c.in_ok-links.ensures.numbers)) c.in_ok-has_place_beside.ensures.free in
    let other = c.yielding_link-idle.ensures ∙ idling c.args.rules.now past c.args.event.now c.deref-5.result.now (c.deref-5.ensures.value ∙ c.in_ok-before.ensures.links) in
    let last = room_found c.args.rules.now past c.args.event.now c.deref-6.result.now _ _ _ (held_numbers c.args.rules.now past c.args.event.now c.deref.result.now c.deref-6.result.now (c.deref.ensures.value ∙ c.in_ok-before.ensures.links) (c.deref-6.ensures.value ∙ c.in_ok-links.ensures.numbers)) other c.in_ok-yielded-2.ensures.link in
    fits_nowhere c.args.rules.now past c.args.event.now c.args.number c.requires.next (sym c.in_default.is ∙ first) (sym c.if-branch.false ∙ free) (sym c.in-None.is ∙ last)

pub returns-in_err-links-clause-refused : goal.returns-in_err-links-clause-refused
returns-in_err-links-clause-refused c =
    on_err _ (before_some c.args.rules.now c.args.history.now c.args.event.now c.deref.result.now (c.deref.ensures.value ∙ c.in_ok-before.ensures.links) c.in_err-links.ensures.refused)

pub returns-in_err-yielded-clause-refused : goal.returns-in_err-yielded-clause-refused
returns-in_err-yielded-clause-refused c =
    on_err _ (before_some c.args.rules.now c.args.history.now c.args.event.now c.deref.result.now (c.deref.ensures.value ∙ c.in_ok-before.ensures.links)
    (numbers_some c.deref.result.now c.deref-3.result.now (c.deref-3.ensures.value ∙ c.in_ok-links.ensures.numbers) c.in_err-yielded.ensures.refused))

pub returns-in_err-has_place_beside-clause-refused : goal.returns-in_err-has_place_beside-clause-refused
returns-in_err-has_place_beside-clause-refused c =
    on_err _ (before_some c.args.rules.now c.args.history.now c.args.event.now c.deref.result.now (c.deref.ensures.value ∙ c.in_ok-before.ensures.links)
    (numbers_some c.deref.result.now c.deref-4.result.now (c.deref-4.ensures.value ∙ c.in_ok-links.ensures.numbers) c.in_err-has_place_beside.ensures.refused))

pub returns-in_err-yielded-2-clause-refused : goal.returns-in_err-yielded-2-clause-refused
returns-in_err-yielded-2-clause-refused c =
    on_err _ (before_some c.args.rules.now c.args.history.now c.args.event.now c.deref.result.now (c.deref.ensures.value ∙ c.in_ok-before.ensures.links)
    (numbers_some c.deref.result.now c.deref-6.result.now (c.deref-6.ensures.value ∙ c.in_ok-links.ensures.numbers) c.in_err-yielded-2.ensures.refused))
