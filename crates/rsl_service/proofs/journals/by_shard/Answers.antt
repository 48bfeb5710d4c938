use Rattle.std.proofs.Common.{rules, ap, ◌∙◌}
use Rattle.std.proofs.lemmas.List.Sorted.{IsNonDecreasingBy-from_sort_by_key, answers_always}
use Rattle.rsl_record.specs.Segments.{of_shard}
use Rattle.rsl_service.proofs.Ends.{sorted_same}
use Rattle.rsl_service.proofs.journals.by_shard.Goals as goal

pub returns-clause-same : goal.returns-clause-same
returns-clause-same c shard =
    sorted_same shard _ _
    (c.in_ok-sort_by_key.ensures.stable (λ segment. segment.shard) (answers_always _ _ _ (λ f a r g h. search rules)))
    ∙ ap (of_shard shard) c.in_ok-append.ensures.items

pub returns-clause-by_shard : goal.returns-clause-by_shard
returns-clause-by_shard c =
    IsNonDecreasingBy-from_sort_by_key (λ segment. segment.shard) _ c.in_ok-sort_by_key.ensures.sorted (λ a r q k. search rules)
