use Rattle.std.proofs.Common.{ap, ◌∙◌}
use Rattle.rsl_service.specs.Service.{ServiceSeen}
use Rattle.rsl_service.proofs.service.Service.end.Goals as goal

pub invariant_of-result : goal.invariant_of-result
invariant_of-result g c =
    let of = c.in_ok-config.ensures in
    let passes = c.into_inner-opened.result in (
      of.ends,
      of.limits,
      passes.parts,
      passes.none0,
      passes.none1,
      passes.none2,
      passes.none3,
      of.there1,
      of.there2,
      of.there3,
      of.told0,
      of.told1,
      of.told2,
      of.told3,
    )

pub returns : goal.returns
returns g c = record {
  config_kept = c.in_ok-config.ensures.config ∙ ap (λ (service : ServiceSeen). service.config) c.self.view_is;
  most = c.into_inner-opened.result.most;
  ends = c.in_ok-config.ensures.ends;
}
