use Rattle.std.proofs.Common.{◌≡◌, ◌-◌, ◌*◌, ◌++◌, length, take, drop}
use Rattle.rsl_auth.specs.Password.{revealed_blocks}
use Rattle.rsl_auth.proofs.password.reveal.Given as goal

-- what is revealed so far, and what the blocks that are left reveal
abbrev pub invariant-loop-k : goal.invariant-loop-k
invariant-loop-k l = record {
  whole : length l.buffer ≡ 128;
  joined : take (16 * l.k) l.buffer ++ revealed_blocks (l.k-end - l.k) (drop (16 * l.k) l.value) l.secret l.before
      ≡ revealed_blocks l.k-end l.value l.secret l.request_auth;
}
