use Rattle.std.proofs.Common.{sym, ◌∙◌, ap, arith}
use Rattle.std.specs.Option.{option_map}
use Rattle.rsl_session.specs.declared.kept.KeptAsk.{KeptAsk}
use Rattle.rsl_session.specs.Ask.{repeats}
use Rattle.rsl_book.specs.Seen.{ask_seen, asks_seen}
use Rattle.rsl_links.proofs.Callers.{find_yes}
use Rattle.rsl_book.proofs.ring.Ring+DecidedAsk.repeated.Goals as goal

pub returns-then-is_repeated : goal.returns-then-is_repeated
unfolding asks_seen ask_seen
returns-then-is_repeated c =
    let few = c.loop-index-test.true in
    let long = c.len-index-end.ensures.len in
    ap (option_map (λ (ask : KeptAsk). ask.decision))
    (sym (find_yes (repeats c.args.rules.now c.args.key.now c.args.now) (ask_seen c.args.servers.now) c.args.self.now.items c.loop-index.index c.in-Some.ask.now
    (omega (arith, few, long)) c.in-Some.ensures.found (sym c.is_repeated.ensures ∙ c.if-is_repeated.true)) ∙ c.loop-index.invariant)
