use Rattle.std.proofs.Common.{◌≡◌, ◌+◌, sum, take, ap, ◌∙◌, rules}
use Rattle.rld_counts.specs.Histogram.{Times}
use Rattle.rld_counts.specs.Tally.{kept}
use Rattle.rld_counts.proofs.Timing.{buckets_up_to}
use Rattle.rld_counts.proofs.histogram.Histogram.up_to.Goals as goal

pub returns-clause-noted : goal.returns-clause-noted
returns-clause-noted c =
    let told : c.sum.result ≡ kept (sum (take (c.args.bucket + 1) c.args.self.now.buckets)) = search rules in
    λ times was. told ∙ buckets_up_to c.args.bucket times c.args.self.now.buckets c.requires (ap (λ (t : Times). t.buckets) was)
