use Rattle.std.proofs.Common.{◌≡◌, ℕ, ◌+◌, ◌-◌, ◌*◌, length}
use Rattle.rsl_service.specs.Report.{AreShown, IsReport}
use Rattle.rsl_service.proofs.desk.Desk.show.Given as goal

-- it is a report all along, and the accounts of the shard so far are shown
abbrev pub invariant-loop-account : goal.invariant-loop-account
invariant-loop-account g l = record {
  at : (index : ℕ) × (l.account ≡ l.number + index * l.shards);
  report : IsReport l.config.accounts l.rows;
  shown : AreShown l.account l.self.shard l.fn.rows l.rows;
}

abbrev pub decreases-loop-account : goal.decreases-loop-account
decreases-loop-account g l = length l.initial.rows - l.account
