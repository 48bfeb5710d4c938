use Rattle.std.proofs.Common.{◌≡◌, ◌+◌, ◌∙◌, rules, arith}
use Rattle.rld_counts.specs.Tally.{kept}
use Rattle.rld_counts.proofs.Timing.{times_push}
use Rattle.rld_counts.proofs.histogram.Histogram.note.Goals as goal

pub returns-clause-noted : goal.returns-clause-noted
returns-clause-noted c =
    let total : c.saturating_add-self-inside.result ≡ kept (c.self.inside.micros + c.args.micros) = first_of (search rules, omega arith) in
    λ times was.
    times_push c.args.micros c.bucket_of.result times
    (record { buckets = c.self.inside.counters; micros = c.self.inside.micros })
    (record { buckets = c.note.new.counters; micros = c.saturating_add-self-inside.result })
    c.bucket_of.ensures.bucket c.bucket_of.ensures.below (c.self.view_is ∙ was) c.note.ensures total
