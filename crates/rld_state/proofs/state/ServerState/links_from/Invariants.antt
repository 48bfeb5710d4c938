use Rattle.std.proofs.Common.{◌≡◌, ◌+◌, length}
use Rattle.rld_state.specs.Listing.{AreHeldFrom}
use Rattle.rld_state.proofs.state.ServerState.links_from.Given as goal

-- the accounts that were looked at
abbrev pub invariant-loop-account : goal.invariant-loop-account
invariant-loop-account g l = record {
  held : AreHeldFrom l.self.recorder.books l.first l.held.items;
  at : l.account ≡ l.first + length l.held.items;
}
