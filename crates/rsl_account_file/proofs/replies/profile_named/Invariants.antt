use Rattle.std.proofs.Common.{◌≡◌, length}
use Rattle.rsl_account_file.specs.File.{profile_named}
use Rattle.rsl_account_file.proofs.replies.profile_named.Given as goal

abbrev pub invariant-loop-profiles : goal.invariant-loop-profiles
invariant-loop-profiles l = profile_named l.profiles l.name ≡ profile_named l.initial.profiles l.name

abbrev pub decreases-loop-profiles : goal.decreases-loop-profiles
decreases-loop-profiles l = length l.profiles
