use Rattle.std.proofs.Common.{◌≡◌, ◌-◌, ◌*◌, ◌++◌, drop}
use Rattle.rsl_auth.specs.Password.{hidden_blocks}
use Rattle.rsl_auth.proofs.password.hide_blocks.Given as goal

-- what is hidden so far, and what the blocks that are left are hidden as
abbrev pub invariant-loop-k : goal.invariant-loop-k
invariant-loop-k l =
    l.value.items ++ hidden_blocks (l.k-end - l.k) (drop (16 * l.k) l.octets) l.secret l.before
    ≡ hidden_blocks l.k-end l.octets l.secret l.request_auth
