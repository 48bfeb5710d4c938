use Rattle.rld_books.proofs.Numbering.{clients_keep}
use Rattle.rld_books.proofs.laws.clients_keep_their_address.Goals as goal

pub returns : goal.returns
returns c = clients_keep
