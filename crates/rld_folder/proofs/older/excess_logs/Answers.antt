use Rattle.std.proofs.Common.{rules}
use Rattle.std.proofs.lemmas.List.Sorted.{answers_always}
use Rattle.rld_folder.specs.Older.{age}
use Rattle.rld_folder.specs.declared.older.ArchivedLog.{ArchivedLog}
use Rattle.rld_folder.proofs.older.excess_logs.Goals as goal

pub returns : goal.returns
returns c = (
  c.sort_by_cached_key.new.self.items,
  c.in_ok-sort_by_cached_key.ensures.permutation,
  c.in_ok-sort_by_cached_key.ensures.sorted (λ (log : ArchivedLog). age log.generation) (answers_always _ _ _ (λ f a r g k. search rules)),
  rw (← c.as_slice.ensures.value) c.in_ok-gone.ensures,
)
