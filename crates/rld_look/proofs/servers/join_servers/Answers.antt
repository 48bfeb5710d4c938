use Rattle.std.proofs.Common.{rules}
use Rattle.std.specs.Ordering.{is_lt}
use Rattle.std.proofs.lemmas.List.Sorted.{answers_always}
use Rattle.rld_look.specs.AccessServers.{by_server}
use Rattle.rld_look.proofs.Joining.{ranked}
use Rattle.rld_look.proofs.servers.join_servers.Goals as goal

pub returns : goal.returns
returns c = (
  c.sort_unstable_by.new.self.items,
  c.sort_unstable_by.ensures.permutation,
  c.sort_unstable_by.ensures.sorted (λ one two. is_lt (by_server one two)) ranked (answers_always _ _ _ (λ f a r g k. search rules)),
  c.in_ok-rows.ensures,
)
