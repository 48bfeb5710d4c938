-- The books of a server as they are saved and put back.
use Rattle.std.proofs.Common.{◌≡◌, ℕ, ◌+◌, ◌<◌, ◌≤◌, Option, Some, None, Result, Ok, Err, List, [], ◌∷◌, ◌++◌, length, get_or, map, take, drop, refl, sym, ap, ◌∙◌, arith, append-nil, append_assoc}
use Rattle.std.specs.Prelude.{slice_get}
use Rattle.std.proofs.lemmas.List.{drop_all, drop_more, length-map, map_push, take_all}
use Rattle.std.proofs.lemmas.Option.{slice_get_read}
use Rattle.rsl_accounts.specs.Configuration.{Configuration}
use Rattle.rsl_accounts.specs.Limits.{IsConfiguration}
use Rattle.rsl_accounts.specs.declared.entry.Entry.{Entry}
use Rattle.rsl_accounts.specs.declared.rules.Rules.{Rules}
use Rattle.rsl_book.specs.Restored.{misfit, put_back, restored, saved}
use Rattle.rsl_book.specs.RuledBook.{RuledBook}
use Rattle.rsl_book.specs.declared.restore_fault.RestoreFault.{RestoreFault}
use Rattle.rsl_event.specs.declared.event.Event.{Event}
use Rattle.rsl_session.specs.Saved.{saved_book, saved_links}
use Rattle.rsl_session.specs.declared.saved.SavedBook.{SavedBook}
use Rattle.rsl_session.specs.Book.{Book}
use Rattle.rsl_shard.specs.Moves.{event_to}
use Rattle.rsl_shard.specs.Opening.{as_new}
use Rattle.rsl_shard.specs.Restep.{book_of_entry, step_by}
use Rattle.rsl_shard.specs.Rows.{row_of, rows_from}
use Rattle.rsl_shard.specs.declared.moved.Move.{Move}
use Rattle.rsl_shard.specs.declared.row.Row.{Row}
use Rattle.rld_books.specs.Saved.{IsServerOf, saved_server}
use Rattle.rld_books.specs.Server.{IsServer, moved_from, new_server, replay, server_after}
use Rattle.rld_books.proofs.Numbered.{one_more}

-- ---- of which configuration the books are

-- new books are those of their configuration
new_again : (entries : List Entry) → map as_new (map book_of_entry entries) ≡ map book_of_entry entries
new_again [] = refl
new_again (entry ∷ entries) = ap (λ (l : List RuledBook). book_of_entry entry ∷ l) (new_again entries)

pub new_is_of : (config : Configuration) → IsServerOf config (new_server config)
new_is_of config = new_again config.accounts

stepped_as_new : (event : Option Event) (ruled : RuledBook) → as_new (step_by event ruled) ≡ as_new ruled
stepped_as_new None ruled = refl
stepped_as_new (Some event) ruled = refl

moved_as_new : (first : ℕ) (moved : Move) (books : List RuledBook) → map as_new (moved_from first moved books) ≡ map as_new books
unfolding moved_from
moved_as_new first moved [] = refl
moved_as_new first moved (ruled ∷ books) =
    ap (λ (one : RuledBook). one ∷ map as_new (moved_from (first + 1) moved books)) (stepped_as_new (event_to first moved) ruled)
    ∙ ap (λ (l : List RuledBook). as_new ruled ∷ l) (moved_as_new (first + 1) moved books)

replay_as_new : (server : List RuledBook) (moves : List Move) → map as_new (replay server moves) ≡ map as_new server
unfolding replay
replay_as_new server [] = refl
replay_as_new server (moved ∷ moves) = replay_as_new (server_after server moved) moves ∙ moved_as_new 0 moved server

-- and so are the books after moves
pub replay_is_of : (config : Configuration) (server : List RuledBook) (moves : List Move) → IsServerOf config server → IsServerOf config (replay server moves)
replay_is_of config server moves of = replay_as_new server moves ∙ of

-- ---- books of a configuration are known by what is saved of them

same_books : (xs ys : List RuledBook) → map as_new xs ≡ map as_new ys → map saved xs ≡ map saved ys → xs ≡ ys
same_books [] [] rules books = refl
same_books [] (y ∷ ys) rules books = absurd (cc rules)
same_books (x ∷ xs) [] rules books = absurd (cc rules)
same_books (x ∷ xs) (y ∷ ys) rules books =
    let new : as_new x ≡ as_new y = cc in
    let others : map as_new xs ≡ map as_new ys = cc in
    let rule : x.rules ≡ y.rules = ap (λ (r : RuledBook). r.rules) new in
    let book : x.book ≡ y.book = cc in
    let left : map saved xs ≡ map saved ys = cc in
    let one : x ≡ y = (λ i. record { rules = rule i; book = book i }) in
    ap (λ (r : RuledBook). r ∷ xs) one ∙ ap (λ (l : List RuledBook). y ∷ l) (same_books xs ys others left)

pub one_server : (config : Configuration) (a b : List RuledBook) → IsServerOf config a → IsServerOf config b → saved_server a ≡ saved_server b → a ≡ b
one_server config a b of_a of_b books = same_books a b (of_a ∙ sym of_b) books

-- ---- what is put back

same_ok : (a b : RuledBook) (r s : Result RuledBook RestoreFault) → r ≡ Ok a → s ≡ Ok b → r ≡ s → a ≡ b
same_ok a b r s one other same = cc

no_ok : (fault : RestoreFault) (b : RuledBook) (r s : Result RuledBook RestoreFault) → r ≡ Err fault → s ≡ Ok b → r ≡ s → ⊥
no_ok fault b r s one other same = cc

-- a book that was put back has the rules and what was saved
pub put_back_is : (rules : Rules) (book : Book) (ruled : RuledBook) → restored rules book ≡ Ok ruled → ruled ≡ record { rules = rules; book = book }
put_back_is rules book ruled is = by (misfit rules book) is
  where
    by : (o : Option RestoreFault) → put_back rules book o ≡ Ok ruled → ruled ≡ record { rules = rules; book = book }
    by None is =
        let made : RuledBook = record { rules = rules; book = book } in
        let back : Result RuledBook RestoreFault = Ok made in
        let found : Result RuledBook RestoreFault = Ok ruled in
        sym (same_ok made ruled back found refl refl is)
    by (Some fault) is =
        let back : Result RuledBook RestoreFault = Err fault in
        let found : Result RuledBook RestoreFault = Ok ruled in
        absurd (no_ok fault ruled back found refl refl is)

-- one more is put back
pub record ArePutBack (config : Configuration) (kept : List SavedBook) (number : ℕ) (books : List RuledBook) : Type 0 where
  pub rules : map as_new books ≡ map book_of_entry (take number config.accounts)
  pub saved_are : map saved books ≡ map saved_book (take number kept)

pub one_back : (config : Configuration) (kept : List SavedBook) (number : ℕ) (books all : List RuledBook) (entry : Entry) (one : SavedBook) (made : RuledBook)
    → ArePutBack config kept number books → slice_get config.accounts number ≡ Some entry → number < length kept → one ≡ get_or kept number one
    → made ≡ record { rules = entry.rules; book = saved_book one } → all ≡ books ++ made ∷ [] → ArePutBack config kept (number + 1) all
one_back config kept number books all entry one made so there within is has are = record {
  rules = ap (map as_new) are ∙ map_push as_new books made
      ∙ one_more book_of_entry config.accounts number entry (map as_new books) (as_new made) there so.rules (ap as_new has);
  saved_are = ap (map saved) are ∙ map_push saved books made
      ∙ one_more saved_book kept number one (map saved books) (saved made) (slice_get_read kept (length kept) number one refl within is) so.saved_are (ap saved has);
}

pub all_back_rules : (config : Configuration) (kept : List SavedBook) (number : ℕ) (books : List RuledBook) → ArePutBack config kept number books → length config.accounts ≤ number → IsServerOf config books
all_back_rules config kept number books so past = so.rules ∙ ap (map book_of_entry) (take_all number config.accounts past)

pub all_back_saved : (config : Configuration) (kept : List SavedBook) (number : ℕ) (books : List RuledBook) → ArePutBack config kept number books → length kept ≤ number → saved_server books ≡ map saved_book kept
all_back_saved config kept number books so past = so.saved_are ∙ ap (map saved_book) (take_all number kept past)

-- ---- rows

-- with the rows of the books that are left they are all rows
pub row_more : (account at : ℕ) (rows more all : List Row) (books : List RuledBook) (book : RuledBook) (row : Row) → at < length books → book ≡ get_or books at book
    → row ≡ row_of account book → more ≡ rows ++ row ∷ [] → rows ++ rows_from account 1 (drop at books) ≡ all → more ++ rows_from (account + 1) 1 (drop (at + 1) books) ≡ all
unfolding rows_from
row_more account at rows more all books book row within is made are so_far =
    ap (λ (l : List Row). l ++ rows_from (account + 1) 1 (drop (at + 1) books)) (are ∙ ap (λ (r : Row). rows ++ r ∷ []) made)
    ∙ append_assoc rows (row_of account book ∷ []) (rows_from (account + 1) 1 (drop (at + 1) books))
    ∙ ap (λ (one : RuledBook). rows ++ row_of account one ∷ rows_from (account + 1) 1 (drop (at + 1) books)) is
    ∙ ap (λ (rest : List RuledBook). rows ++ rows_from account 1 rest) (sym (drop_more books at book within))
    ∙ so_far

pub rows_done : (account at : ℕ) (rows all : List Row) (books : List RuledBook) → length books ≤ at → rows ++ rows_from account 1 (drop at books) ≡ all → rows ≡ all
unfolding rows_from
rows_done account at rows all books past so_far =
    sym (append-nil rows) ∙ ap (λ (rest : List RuledBook). rows ++ rows_from account 1 rest) (sym (drop_all at books past)) ∙ so_far

-- ---- what is looked up

pub links_of_saved : (kept : SavedBook) (ruled : RuledBook) → saved_book kept ≡ saved ruled → saved_links kept.links.items ≡ ruled.book.links
unfolding saved_book
links_of_saved kept ruled same = ap (λ (b : Book). b.links) same

-- ---- what is kept

pub of_is_server : (config : Configuration) (server : List RuledBook) → IsConfiguration config → IsServerOf config server → IsServer server
of_is_server config server limits of =
    let long : length server ≡ length (new_server config) = sym (length-map server as_new) ∙ ap length of in
    record { few = omega (arith, long, length-map config.accounts book_of_entry, limits.accounts) }
