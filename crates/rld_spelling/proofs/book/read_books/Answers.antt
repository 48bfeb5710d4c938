use Rattle.std.proofs.Common.{arith}
use Rattle.rld_spelling.proofs.Callers.{all_found, all_only}
use Rattle.rld_spelling.specs.Books.{books_field, books_seen}
use Rattle.rld_spelling.proofs.BookLaws.{books_read}
use Rattle.rld_spelling.proofs.book.read_books.Goals as goal

pub returns-clause-found : goal.returns-clause-found
returns-clause-found c = all_found (books_field c.args.clients) (books_read c.args.clients (omega arith)) (λ books. books_seen books.items) c.args.octets.now c.read_all.result (λ i. omega (arith, c.type_inv.octets i)) c.read_all.ensures

pub returns-clause-only : goal.returns-clause-only
returns-clause-only c = λ x fits e. all_only (books_field c.args.clients) (books_read c.args.clients (omega arith)) (λ books. books_seen books.items) c.args.octets.now c.read_all.result c.read_all.ensures x fits e
