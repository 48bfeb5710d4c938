use Rattle.std.proofs.Common.{◌≡◌, ◌+◌, ◌∙◌, rules, arith}
use Rattle.rld_counts.specs.Tally.{kept}
use Rattle.rld_counts.proofs.Timing.{times_append}
use Rattle.rld_counts.proofs.histogram.Histogram.add.Goals as goal

pub returns : goal.returns
returns c =
    let total : c.saturating_add-self-inside.result ≡ kept (c.self.inside.micros + c.other.inside.micros) = first_of (search rules, omega arith) in
    record {
      joined = λ times others was more.
          times_append times others
          (record { buckets = c.self.inside.counters; micros = c.self.inside.micros })
          (record { buckets = c.other.inside.counters; micros = c.other.inside.micros })
          (record { buckets = c.add.new.counters; micros = c.saturating_add-self-inside.result })
          (c.self.view_is ∙ was) (c.other.view_is ∙ more) c.add.ensures.len c.add.ensures.each total;
    }
