use Rattle.std.proofs.Common.{ℕ, ap, arith, map, sym, ◌∙◌}
use Rattle.std.specs.Global.{Vec}
use Rattle.rsl_shard.specs.declared.row.Row.{Row}
use Rattle.rsl_replay.proofs.ReportLaws.{row_there, rows_done, rows_more, rows_within}
use Rattle.rsl_replay.specs.Shards.{row_among}
use Rattle.rsl_replay.proofs.rows.rows_of.Goals as goal

pub row_among-requires-clause-there : goal.row_among-requires-clause-there
row_among-requires-clause-there c =
    let (boot, before, are) = c.requires in
    let limits = c.shards.ensures.limits.settings in
    rw (c.shards.ensures.number, c.as_slice.ensures.value)
    (row_there c.args.config.now boot before c.args.shards.now _ c.loop-account.account are c.in_ok-tables.ensures (omega (arith, limits.a_shard)) (omega (arith, c.accounts-account-end.ensures.number, c.loop-account-test.true)))

pub loop-account-preserved : goal.loop-account-preserved
loop-account-preserved c = λ boot before are.
    let limits = c.shards.ensures.limits.settings in
    let tables = map (λ (table : Vec Row). table.items) c.as_slice.result.now in
    let rows_are = ap (map (λ (table : Vec Row). table.items)) c.as_slice.ensures.value ∙ c.in_ok-tables.ensures in
    let found = ap (λ (n : ℕ). row_among n tables c.loop-account.account) (sym c.shards.ensures.number) ∙ c.row_among.ensures in
    rows_more c.args.config.now boot before c.args.shards.now tables c.loop-account.account c.row_among.result c.loop-account.rows.items _ are rows_are
    (omega (arith, limits.a_shard)) (omega (arith, c.accounts-account-end.ensures.number, c.loop-account-test.true)) found c.in_ok-push.ensures.items (c.loop-account.invariant boot before are)

pub returns-clause-rows : goal.returns-clause-rows
returns-clause-rows c = λ boot before are.
    rows_done c.args.config.now boot before c.loop-account.account c.loop-account.rows.items (omega (arith, c.accounts-account-end.ensures.number, c.loop-account-test.false)) (c.loop-account.invariant boot before are)

pub returns-clause-within : goal.returns-clause-within
returns-clause-within c =
    let (boot, before, are) = c.requires in
    rows_within c.args.config.now boot before c.loop-account.rows.items
    (rows_done c.args.config.now boot before c.loop-account.account c.loop-account.rows.items (omega (arith, c.accounts-account-end.ensures.number, c.loop-account-test.false)) (c.loop-account.invariant boot before are))
