use Rattle.std.proofs.Common.{◌≡◌, ◌<◌, ◌^◌, sum_by, take}
use Rattle.rsl_session.specs.declared.kept.KeptAsk.{KeptAsk}
use Rattle.rld_books.specs.Cut.{late}
use Rattle.rld_books.proofs.server_books.cutting.late_asks.Given as goal

-- those among the asks that were looked at, unless they are too many
abbrev pub invariant-loop-ask : goal.invariant-loop-ask
invariant-loop-ask l =
    sum_by (λ (ask : KeptAsk). late l.now ask.at) (take l.ask-index l.asks) < 2 ^ 64
    → l.count ≡ sum_by (λ (ask : KeptAsk). late l.now ask.at) (take l.ask-index l.asks)
