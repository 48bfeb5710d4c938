use Rattle.std.proofs.Common.{◌∷◌, length, ap, sym, ◌∙◌, ◌||◌, not, arith}
use Rattle.std.specs.Prelude.{filter}
use Rattle.std.proofs.lemmas.Iterator.Adapters.{YieldsList-from_vec}
use Rattle.std.proofs.lemmas.Iterator.Consumers.{YieldsList-turn, YieldsList-end}
use Rattle.std.proofs.lemmas.List.{length_push}
use Rattle.rsl_session.specs.Past.{looking_back}
use Rattle.rsl_session.specs.Held.{ends, held_links, yields}
use Rattle.rsl_rule.specs.Holding.{standings}
use Rattle.rsl_rule.proofs.Carried.{standings_at, left_yes, left_no, number_all}
use Rattle.rsl_rule.proofs.holding.links_left.Goals as goal

pub loop-held-init : goal.loop-held-init
unfolding standings
loop-held-init c = c.new-left.ensures.items

pub is_freed_by-requires-clause-stands_so : goal.is_freed_by-requires-clause-stands_so
is_freed_by-requires-clause-stands_so c =
    let each = YieldsList-from_vec {s = c.into_iter-held-iterator.result} c.args.links.items c.into_iter-held-iterator.ensures.into_iter_gives.0 (c.into_iter-held-iterator.ensures.into_iter_gives.1 ∙ c.args.links.ok.0) in
    let at = YieldsList-turn each c.loop-held.yielded c.loop-held.held-iterator c.loop-held.yielded_by c.next.result c.next.new.self c.in-Some.held c.in-Some.is c.next.ensures.steps in
    (standings_at (looking_back c.args.history.now) _ c.args.links.items c.requires.stand_so (length c.loop-held.yielded) c.in-Some.held at.0 at.1).2

pub after-requires : goal.after-requires
after-requires c =
    let each = YieldsList-from_vec {s = c.into_iter-held-iterator.result} c.args.links.items c.into_iter-held-iterator.ensures.into_iter_gives.0 (c.into_iter-held-iterator.ensures.into_iter_gives.1 ∙ c.args.links.ok.0) in
    let at = YieldsList-turn each c.loop-held.yielded c.loop-held.held-iterator c.loop-held.yielded_by c.next.result c.next.new.self c.in-Some.held c.in-Some.is c.next.ensures.steps in
    (standings_at (looking_back c.args.history.now) _ c.args.links.items c.requires.stand_so (length c.loop-held.yielded) c.in-Some.held at.0 at.1).2

pub loop-held-preserved : goal.loop-held-preserved
loop-held-preserved c =
    let each = YieldsList-from_vec {s = c.into_iter-held-iterator.result} c.args.links.items c.into_iter-held-iterator.ensures.into_iter_gives.0 (c.into_iter-held-iterator.ensures.into_iter_gives.1 ∙ c.args.links.ok.0) in
    let at = YieldsList-turn each c.loop-held.yielded c.loop-held.held-iterator c.loop-held.yielded_by c.next.result c.next.new.self c.in-Some.held c.in-Some.is c.next.ensures.steps in
    let past = looking_back c.args.history.now in
    rw length_push (c.loop-held.invariant ∙ sym (left_no (λ link. not (ends c.args.rules.now past c.args.entry.now.event link || yields link c.args.entry.now.outcome)) past (c.args.entry.now ∷ past) (held_links c.args.rules.now past) c.args.links.items c.requires.stand_so (length c.loop-held.yielded) c.in-Some.held at.0 at.1 (ap not (sym c.is_freed_by.ensures ∙ c.if-not-is_freed_by.false))))

pub loop-held-preserved-else-not-is_freed_by : goal.loop-held-preserved-else-not-is_freed_by
loop-held-preserved-else-not-is_freed_by c =
    let each = YieldsList-from_vec {s = c.into_iter-held-iterator.result} c.args.links.items c.into_iter-held-iterator.ensures.into_iter_gives.0 (c.into_iter-held-iterator.ensures.into_iter_gives.1 ∙ c.args.links.ok.0) in
    let at = YieldsList-turn each c.loop-held.yielded c.loop-held.held-iterator c.loop-held.yielded_by c.next.result c.next.new.self c.in-Some.held c.in-Some.is c.next.ensures.steps in
    let past = looking_back c.args.history.now in
    rw length_push (c.loop-held.invariant ∙ sym (left_no (λ link. not (ends c.args.rules.now past c.args.entry.now.event link || yields link c.args.entry.now.outcome)) past (c.args.entry.now ∷ past) (held_links c.args.rules.now past) c.args.links.items c.requires.stand_so (length c.loop-held.yielded) c.in-Some.held at.0 at.1 (ap not (sym c.is_freed_by.ensures ∙ c.if-not-is_freed_by.false))))

pub loop-held-preserved-in-Continue-branch-2 : goal.loop-held-preserved-in-Continue-branch-2
loop-held-preserved-in-Continue-branch-2 c =
    let each = YieldsList-from_vec {s = c.into_iter-held-iterator.result} c.args.links.items c.into_iter-held-iterator.ensures.into_iter_gives.0 (c.into_iter-held-iterator.ensures.into_iter_gives.1 ∙ c.args.links.ok.0) in
    let at = YieldsList-turn each c.loop-held.yielded c.loop-held.held-iterator c.loop-held.yielded_by c.next.result c.next.new.self c.in-Some.held c.in-Some.is c.next.ensures.steps in
    let past = looking_back c.args.history.now in
    rw length_push (c.in_ok-push.ensures.items ∙ rw c.loop-held.invariant (sym (left_yes (λ link. not (ends c.args.rules.now past c.args.entry.now.event link || yields link c.args.entry.now.outcome)) past (c.args.entry.now ∷ past) (held_links c.args.rules.now past) c.args.links.items c.requires.stand_so (length c.loop-held.yielded) c.in-Some.held at.0 at.1 (ap not (sym c.is_freed_by.ensures ∙ c.if-not-is_freed_by.true)) c.in_ok-standing.standing c.in_ok-standing.ensures)))

pub returns : goal.returns
returns c =
    let each = YieldsList-from_vec {s = c.into_iter-held-iterator.result} c.args.links.items c.into_iter-held-iterator.ensures.into_iter_gives.0 (c.into_iter-held-iterator.ensures.into_iter_gives.1 ∙ c.args.links.ok.0) in
    let all = YieldsList-end each c.loop-held.yielded c.loop-held.held-iterator c.loop-held.yielded_by c.next.result c.next.new.self c.in-None.is c.next.ensures.steps in
    let past = looking_back c.args.history.now in
    c.loop-held.invariant ∙ ap (λ ls. standings (c.args.entry.now ∷ past) (filter (λ link. not (ends c.args.rules.now past c.args.entry.now.event link || yields link c.args.entry.now.outcome)) ls)) (number_all past (held_links c.args.rules.now past) c.args.links.items c.requires.stand_so (length c.loop-held.yielded) (omega arith))
