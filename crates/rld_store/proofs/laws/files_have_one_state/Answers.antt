use Rattle.rld_store.proofs.States.{one_state}
use Rattle.rld_store.proofs.laws.files_have_one_state.Goals as goal

pub returns : goal.returns
returns c = one_state c.moves_are_read.ensures.batches c.books_are_read.ensures.snapshots
