use Rattle.std.proofs.Common.{◌≡◌, ◌+◌, ◌≤◌, ◌++◌, drop, length, vec_capacity, vec_items, vec_len}
use Rattle.std.specs.List.{flat_map}
use Rattle.rsl_shard.proofs.journal.join.Given as goal

abbrev pub invariant-loop-at : goal.invariant-loop-at
invariant-loop-at l =
    record {
      joined : l.all.items ++ flat_map vec_items (drop l.at l.chunks) ≡ l.initial.all.items ++ flat_map vec_items l.initial.chunks;
      room : vec_len l.all + length (flat_map vec_items (drop l.at l.chunks)) ≤ vec_capacity l.all;
      capacity : vec_capacity l.initial.all ≤ vec_capacity l.all;
      len : length l.chunks ≡ length l.initial.chunks;
    }
