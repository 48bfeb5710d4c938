use Rattle.std.proofs.Common.{ℕ, List, sym, subst}
use Rattle.rld_log.specs.Frames.{HasPayloads}
use Rattle.rld_store.proofs.Histories.{ends_whole, extends_whole, has_before, only_the_payloads}
use Rattle.rld_store.proofs.opening.restore.Goals as goal

pub returns-in_err-mend-clause-crash : goal.returns-in_err-mend-clause-crash
returns-in_err-mend-clause-crash g c = λ told only before has ending left reached.
    let seen : List ℕ = g.L.Log.seen c.args.log.now in
    let size = ends_whole seen c.args.given.now.octets.items c.in_ok-found.found.whole before (c.requires (c.mend.ensures.told told)) c.in_ok-found.ensures.ends has in
    only_the_payloads (g.L.Log.may_leave c.args.log.now) (g.L.Log.may_leave c.mend.new.log) before (λ payload e either. c.mend.ensures.crash told before payload has.fit size (extends_whole seen before has) e either)
    (has_before seen (g.L.Log.may_leave c.args.log.now) before only has) ending left reached

pub returns-clause-found : goal.returns-clause-found
returns-clause-found g c = λ told before has.
    c.in_ok-found.ensures.found before (subst (λ (f : List ℕ). HasPayloads f before) (sym (c.requires (c.mend.ensures.told told))) has)

pub returns-clause-size : goal.returns-clause-size
returns-clause-size g c = λ told before has.
    ends_whole (g.L.Log.seen c.args.log.now) c.args.given.now.octets.items c.in_ok-found.found.whole before (c.requires (c.mend.ensures.told told)) c.in_ok-found.ensures.ends has

pub returns-clause-settled : goal.returns-clause-settled
returns-clause-settled g c = λ told before has.
    let seen : List ℕ = g.L.Log.seen c.args.log.now in
    let size = ends_whole seen c.args.given.now.octets.items c.in_ok-found.found.whole before (c.requires (c.mend.ensures.told told)) c.in_ok-found.ensures.ends has in
    c.in_ok-mend.ensures.settled told before has.fit size (extends_whole seen before has)

pub returns-clause-crash : goal.returns-clause-crash
returns-clause-crash g c = λ told only before has ending left reached.
    let seen : List ℕ = g.L.Log.seen c.args.log.now in
    let size = ends_whole seen c.args.given.now.octets.items c.in_ok-found.found.whole before (c.requires (c.mend.ensures.told told)) c.in_ok-found.ensures.ends has in
    only_the_payloads (g.L.Log.may_leave c.args.log.now) (g.L.Log.may_leave c.mend.new.log) before (λ payload e either. c.mend.ensures.crash told before payload has.fit size (extends_whole seen before has) e either)
    (has_before seen (g.L.Log.may_leave c.args.log.now) before only has) ending left reached
