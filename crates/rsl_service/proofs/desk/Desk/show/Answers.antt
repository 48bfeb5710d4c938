use Rattle.std.proofs.Common.{◌+◌, ◌<◌, ap, sym, ◌∙◌, refl, arith}
use Rattle.rsl_shard.specs.Setup.{Setup}
use Rattle.rsl_service.proofs.Reported.{all_shown, begun_shown, step_shown}
use Rattle.rsl_service.proofs.desk.Desk.show.Goals as goal

pub loop-account-init : goal.loop-account-init
loop-account-init g c = record {
  at = (0, omega arith);
  report = c.requires.rows;
  shown = begun_shown _ _ _ (sym (ap (λ (setup : Setup). setup.shard) (c.args.self.now.numbered ∙ c.requires.setup)));
}

pub loop-account-preserved : goal.loop-account-preserved
loop-account-preserved g c =
    let at = c.loop-account.invariant.at in
    let mine = c.args.self.now.numbered ∙ c.requires.setup in
    let number = ap (λ (setup : Setup). setup.shard) mine in
    let shards = ap (λ (setup : Setup). setup.shards) mine in
    let some : 0 < c.shards-shards.result = omega (arith, c.shards-shards.ensures.number, c.shards-shards.ensures.limits.settings.a_shard) in
    record {
      at = (at.0 + 1, omega (arith, at.1));
      report = c.show_one.ensures.report;
      shown =
          step_shown at.0 c.loop-account.account _ c.shards-shards.result c.args.self.now.shard c.args.rows.now c.loop-account.rows _
          (c.shards-shards.ensures.number ∙ sym shards) some (omega (arith, at.1, number)) refl c.loop-account-test.true
          c.loop-account.invariant.shown c.show_one.ensures.shown;
    }

pub returns-clause-shown : goal.returns-clause-shown
returns-clause-shown g c =
    all_shown c.loop-account.account c.args.self.now.shard c.args.rows.now c.loop-account.rows
    (omega (arith, c.loop-account-test.false, c.loop-account.auto.rows)) c.loop-account.auto.rows c.loop-account.invariant.shown
