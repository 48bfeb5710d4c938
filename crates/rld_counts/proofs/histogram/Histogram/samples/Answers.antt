use Rattle.std.proofs.Common.{◌≡◌, sum, ap, ◌∙◌, rules}
use Rattle.rld_counts.specs.Histogram.{Times}
use Rattle.rld_counts.specs.Tally.{kept}
use Rattle.rld_counts.proofs.Timing.{buckets_sum}
use Rattle.rld_counts.proofs.histogram.Histogram.samples.Goals as goal

pub returns-clause-noted : goal.returns-clause-noted
returns-clause-noted c =
    let told : c.sum.result ≡ kept (sum c.args.self.now.buckets) = search rules in
    λ times was. told ∙ buckets_sum times c.args.self.now.buckets (ap (λ (t : Times). t.buckets) was)
