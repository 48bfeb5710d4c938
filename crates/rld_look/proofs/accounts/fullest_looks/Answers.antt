use Rattle.std.proofs.Common.{rules, length}
use Rattle.std.specs.Prelude.{nat_lt}
use Rattle.std.proofs.lemmas.Fn.{filter_same}
use Rattle.std.proofs.lemmas.List.Sorted.{answers_always}
use Rattle.rsl_shard.specs.declared.row.Row.{Row}
use Rattle.rld_look.specs.Accounts.{free}
use Rattle.rld_look.proofs.accounts.fullest_looks.Goals as goal

pub returns : goal.returns
returns c =
    let kept = filter_same _ (λ (row : Row). nat_lt row.account (length c.args.config.now.accounts)) _ (λ x b f k. search rules) _ _ c.retain.ensures.filtered in (
      c.sort_by_cached_key.new.self.items,
      rw (← kept) c.in_ok-sort_by_cached_key.ensures.permutation,
      c.in_ok-sort_by_cached_key.ensures.sorted (λ row. (free row, row.account)) (answers_always _ _ _ (λ f a r g k. search rules)),
      search rules,
    )
