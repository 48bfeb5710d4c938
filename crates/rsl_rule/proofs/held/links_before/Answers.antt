use Rattle.std.proofs.Common.{ℕ, length, ap, sym, ◌∙◌, not, arith}
use Rattle.std.specs.Prelude.{filter}
use Rattle.std.proofs.lemmas.Iterator.Adapters.{YieldsList-from_vec}
use Rattle.std.proofs.lemmas.Iterator.Consumers.{YieldsList-turn, YieldsList-end}
use Rattle.std.proofs.lemmas.List.{length_push}
use Rattle.rsl_session.specs.Past.{looking_back}
use Rattle.rsl_session.specs.Lapse.{lapses}
use Rattle.rsl_session.specs.Held.{held_links, held_before}
use Rattle.rsl_rule.specs.Holding.{standings}
use Rattle.rsl_rule.proofs.Carried.{standings_at, left_yes, left_no, number_all, lapses_so}
use Rattle.rsl_rule.proofs.Memory.{holding_some, on_err}
use Rattle.rsl_rule.proofs.held.links_before.Goals as goal

pub loop-held-init : goal.loop-held-init
unfolding standings
loop-held-init c = c.new-links.ensures.items

pub loop-held-preserved : goal.loop-held-preserved
loop-held-preserved c =
    let each = YieldsList-from_vec {s = c.into_iter-held-iterator.result} c.in_ok-holding.holding.links.items c.into_iter-held-iterator.ensures.into_iter_gives.0 (c.into_iter-held-iterator.ensures.into_iter_gives.1 ∙ c.in_ok-holding.holding.links.ok.0) in
    let at = YieldsList-turn each c.loop-held.yielded c.loop-held.held-iterator c.loop-held.yielded_by c.next.result c.next.new.self c.in-Some.held c.in-Some.is c.next.ensures.steps in
    let past = looking_back c.args.history.now in
    let links = held_links c.args.rules.now past in
    let stays = λ (link : ℕ). not (lapses c.args.rules.now past c.args.event.now link) in
    let here = standings_at past links c.in_ok-holding.holding.links.items c.in_ok-holding.ensures.holding.each (length c.loop-held.yielded) c.in-Some.held at.0 at.1 in
    let answer = c.lapses.ensures ∙ lapses_so c.args.rules.now past c.args.event.now c.in-Some.held.link c.in-Some.held.standing here.2 in
    rw length_push (c.loop-held.invariant ∙ sym (left_no stays past past links c.in_ok-holding.holding.links.items c.in_ok-holding.ensures.holding.each (length c.loop-held.yielded) c.in-Some.held at.0 at.1 (ap not (sym answer ∙ c.if-not-lapses.false))))

pub loop-held-preserved-else-not-lapses : goal.loop-held-preserved-else-not-lapses
loop-held-preserved-else-not-lapses c =
    let each = YieldsList-from_vec {s = c.into_iter-held-iterator.result} c.in_ok-holding.holding.links.items c.into_iter-held-iterator.ensures.into_iter_gives.0 (c.into_iter-held-iterator.ensures.into_iter_gives.1 ∙ c.in_ok-holding.holding.links.ok.0) in
    let at = YieldsList-turn each c.loop-held.yielded c.loop-held.held-iterator c.loop-held.yielded_by c.next.result c.next.new.self c.in-Some.held c.in-Some.is c.next.ensures.steps in
    let past = looking_back c.args.history.now in
    let links = held_links c.args.rules.now past in
    let stays = λ (link : ℕ). not (lapses c.args.rules.now past c.args.event.now link) in
    let here = standings_at past links c.in_ok-holding.holding.links.items c.in_ok-holding.ensures.holding.each (length c.loop-held.yielded) c.in-Some.held at.0 at.1 in
    let answer = c.lapses.ensures ∙ lapses_so c.args.rules.now past c.args.event.now c.in-Some.held.link c.in-Some.held.standing here.2 in
    rw length_push (c.loop-held.invariant ∙ sym (left_no stays past past links c.in_ok-holding.holding.links.items c.in_ok-holding.ensures.holding.each (length c.loop-held.yielded) c.in-Some.held at.0 at.1 (ap not (sym answer ∙ c.if-not-lapses.false))))

pub loop-held-preserved-in-Continue-branch-2 : goal.loop-held-preserved-in-Continue-branch-2
loop-held-preserved-in-Continue-branch-2 c =
    let each = YieldsList-from_vec {s = c.into_iter-held-iterator.result} c.in_ok-holding.holding.links.items c.into_iter-held-iterator.ensures.into_iter_gives.0 (c.into_iter-held-iterator.ensures.into_iter_gives.1 ∙ c.in_ok-holding.holding.links.ok.0) in
    let at = YieldsList-turn each c.loop-held.yielded c.loop-held.held-iterator c.loop-held.yielded_by c.next.result c.next.new.self c.in-Some.held c.in-Some.is c.next.ensures.steps in
    let past = looking_back c.args.history.now in
    let links = held_links c.args.rules.now past in
    let stays = λ (link : ℕ). not (lapses c.args.rules.now past c.args.event.now link) in
    let here = standings_at past links c.in_ok-holding.holding.links.items c.in_ok-holding.ensures.holding.each (length c.loop-held.yielded) c.in-Some.held at.0 at.1 in
    let answer = c.lapses.ensures ∙ lapses_so c.args.rules.now past c.args.event.now c.in-Some.held.link c.in-Some.held.standing here.2 in
    rw length_push (c.in_ok-push.ensures.items ∙ rw c.loop-held.invariant (sym (left_yes stays past past links c.in_ok-holding.holding.links.items c.in_ok-holding.ensures.holding.each (length c.loop-held.yielded) c.in-Some.held at.0 at.1 (ap not (sym answer ∙ c.if-not-lapses.true)) c.in-Some.held.standing here.2)))

pub returns-clause-links : goal.returns-clause-links
unfolding held_before
returns-clause-links c =
    let each = YieldsList-from_vec {s = c.into_iter-held-iterator.result} c.in_ok-holding.holding.links.items c.into_iter-held-iterator.ensures.into_iter_gives.0 (c.into_iter-held-iterator.ensures.into_iter_gives.1 ∙ c.in_ok-holding.holding.links.ok.0) in
    let all = YieldsList-end each c.loop-held.yielded c.loop-held.held-iterator c.loop-held.yielded_by c.next.result c.next.new.self c.in-None.is c.next.ensures.steps in
    let past = looking_back c.args.history.now in
    let stays = λ (link : ℕ). not (lapses c.args.rules.now past c.args.event.now link) in
    c.loop-held.invariant ∙ ap (λ ls. standings past (filter stays ls)) (number_all past (held_links c.args.rules.now past) c.in_ok-holding.holding.links.items c.in_ok-holding.ensures.holding.each (length c.loop-held.yielded) (omega arith))

pub returns-in_err-push-clause-refused : goal.returns-in_err-push-clause-refused
returns-in_err-push-clause-refused c =
    let each = YieldsList-from_vec {s = c.into_iter-held-iterator.result} c.in_ok-holding.holding.links.items c.into_iter-held-iterator.ensures.into_iter_gives.0 (c.into_iter-held-iterator.ensures.into_iter_gives.1 ∙ c.in_ok-holding.holding.links.ok.0) in
    let at = YieldsList-turn each c.loop-held.yielded c.loop-held.held-iterator c.loop-held.yielded_by c.next.result c.next.new.self c.in-Some.held c.in-Some.is c.next.ensures.steps in
    on_err _ (holding_some c.args.rules.now c.args.history.now c.in_ok-holding.holding c.in_ok-holding.ensures.holding (omega (arith, at.0)))
