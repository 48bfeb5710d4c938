-- Which books a snapshot and its moves stand for: one state, whatever was read of it.
use Rattle.std.proofs.Common.{◌≡◌, ℕ, ◌<◌, ◌^◌, List, [], ◌∷◌, ◌++◌, Ok, Result, map, refl, sym, ap, ◌∙◌, arith}
use Rattle.std.specs.List.{AllByRecursion}
use Rattle.rld_spelling.specs.Field.{Field, IsRead}
use Rattle.rld_spelling.specs.declared.fault.Fault.{Fault}
use Rattle.rsl_accounts.specs.Configuration.{Configuration}
use Rattle.rsl_accounts.specs.Limits.{IsConfiguration}
use Rattle.rsl_session.specs.Saved.{saved_book}
use Rattle.rsl_session.specs.declared.saved.SavedBook.{SavedBook}
use Rattle.rsl_session.specs.Book.{Book}
use Rattle.rsl_shard.specs.declared.moved.Move.{Move}
use Rattle.rld_books.specs.Saved.{IsServerOf, saved_server}
use Rattle.rld_books.specs.Server.{ServerSeen, replay}
use Rattle.rld_books.proofs.Callers.{one_server, replay_is_of}
use Rattle.rld_log.proofs.Callers.{have_one_reading}
use Rattle.rld_spelling.specs.Books.{BookSeen, book_seen, books_field, books_seen}
use Rattle.rld_spelling.specs.Laws.{FewEnough}
use Rattle.rld_spelling.specs.Moves.{moves_field}
use Rattle.rld_spelling.specs.declared.moves.Counts.{Counts}
use Rattle.rld_store.specs.Generations.{AreBatches, AreOfHistory, IsSnapshot, counts_of, front_octets, moves_in, octets_of, running}
use Rattle.rld_store.specs.Laws.{FilesHaveOneState}
use Rattle.rld_store.proofs.Batches.{replay_more}

-- ---- what is saved and what a snapshot has

one_running : (book : SavedBook) → saved_book book ≡ running (book_seen book)
unfolding saved_book
one_running book = refl

pub all_running : (books : List SavedBook) → map saved_book books ≡ map running (books_seen books)
all_running [] = refl
all_running (book ∷ books) =
    ap (λ (b : Book). b ∷ map saved_book books) (one_running book) ∙ ap (λ (l : List Book). running (book_seen book) ∷ l) (all_running books)

-- books that were put back from the books of a snapshot are those that it is of
pub put_back : (config : Configuration) (begun server : ServerSeen) (books : List SavedBook) (octets : List ℕ) → IsServerOf config begun → (of : IsSnapshot (counts_of config) begun octets)
    → books_seen books ≡ of.books → IsServerOf config server → saved_server server ≡ map saved_book books → server ≡ begun
put_back config begun server books octets is of read server_is has =
    one_server config server begun server_is is (has ∙ all_running books ∙ ap (map running) read ∙ of.are)

pub read_is : (read books : List BookSeen) → (one two : Result (List BookSeen) Fault) → one ≡ Ok books → two ≡ Ok read → one ≡ two → read ≡ books
read_is read books one two is_books is_read same = cc

-- ---- one reading

-- a value is known by its spelling
one_spelling : {A : Type 0} (field : Field A) → IsRead field → (x y : A) → field.Fits x → field.Fits y → field.spell x ≡ field.spell y → x ≡ y
one_spelling {A} field is x y fits_x fits_y same =
    let none : List ℕ = [] in
    let first : A × List ℕ = (x, none) in
    let second : A × List ℕ = (y, none) in
    let read : field.read (field.spell x ++ none) ≡ Ok first = is.again x none fits_x in
    let again : field.read (field.spell y ++ none) ≡ Ok second = is.again y none fits_y in
    ap (λ (z : A × List ℕ). z.0) (only first second (field.read (field.spell x ++ none)) (field.read (field.spell y ++ none)) read again (ap (λ (octets : List ℕ). field.read (octets ++ none)) same))
  where
    only : {B : Type 0} (a b : B) (r s : Result B Fault) → r ≡ Ok a → s ≡ Ok b → r ≡ s → a ≡ b
    only a b r s one other same = cc

one_list : {A : Type 0} (field : Field A) → IsRead field → (xs ys : List A) → AllByRecursion field.Fits xs → AllByRecursion field.Fits ys → map field.spell xs ≡ map field.spell ys → xs ≡ ys
one_list field is [] [] fit_xs fit_ys same = refl
one_list field is [] (y ∷ ys) fit_xs fit_ys same = absurd (cc same)
one_list field is (x ∷ xs) [] fit_xs fit_ys same = absurd (cc same)
one_list field is (x ∷ xs) (y ∷ ys) fit_xs fit_ys same =
    let this : field.spell x ≡ field.spell y = cc in
    let others : map field.spell xs ≡ map field.spell ys = cc in
    ap (λ z. z ∷ xs) (one_spelling field is x y fit_xs.0 fit_ys.0 this) ∙ ap (λ l. y ∷ l) (one_list field is xs ys fit_xs.1 fit_ys.1 others)

one_begun : (config : Configuration) (some other : ServerSeen) (octets same : List ℕ) → IsRead (books_field (counts_of config).clients) → IsServerOf config some → IsServerOf config other
    → IsSnapshot (counts_of config) some octets → IsSnapshot (counts_of config) other same → octets ≡ same → some ≡ other
one_begun config some other octets same is some_is other_is a b e =
    let books : a.books ≡ b.books = one_spelling (books_field (counts_of config).clients) is a.books b.books a.fit b.fit (sym a.spelled ∙ e ∙ b.spelled) in
    one_server config some other some_is other_is (sym a.are ∙ ap (map running) books ∙ b.are)

one_moves : (counts : Counts) (some other : List Move) (payloads same : List (List ℕ)) → IsRead (moves_field counts) → AreBatches counts some payloads → AreBatches counts other same → payloads ≡ same → some ≡ other
one_moves counts some other payloads same is a b e =
    a.are ∙ ap moves_in (one_list (moves_field counts) is a.batches b.batches a.fit b.fit (sym a.spelled ∙ e ∙ b.spelled)) ∙ sym b.are

-- the books that a history makes are those that its generation makes of the books that it began with
pub made_of_begun : (config : Configuration) (opening : ServerSeen) (history : List Move) (payloads : List (List ℕ)) → (of : AreOfHistory config opening history payloads)
    → replay opening history ≡ replay (replay opening of.earlier) of.moves
made_of_begun config opening history payloads of = ap (replay opening) of.are ∙ replay_more opening of.earlier of.moves

-- the books that a generation begins with are of the configuration
pub begun_is_of : (config : Configuration) (opening : ServerSeen) (earlier : List Move) → IsServerOf config opening → IsServerOf config (replay opening earlier)
begun_is_of config opening earlier of = replay_is_of config opening earlier of

pub few_enough : (config : Configuration) → IsConfiguration config → FewEnough (counts_of config)
few_enough config is = record { accounts = omega (arith, is.accounts); clients = omega (arith, is.clients) }

pub one_state : ((counts : Counts) → FewEnough counts → IsRead (moves_field counts)) → ((clients : ℕ) → clients < 2 ^ 32 → IsRead (books_field clients)) → FilesHaveOneState
one_state moves_read books_read config opening also some other file is a b =
    let few = few_enough config is in
    let same : a.payloads ≡ b.payloads = have_one_reading file a.payloads b.payloads a.has b.has in
    let parts : front_octets a.are.header (octets_of config) ∷ a.are.generation.snapshot ∷ a.are.generation.batches ≡ front_octets b.are.header (octets_of config) ∷ b.are.generation.snapshot ∷ b.are.generation.batches =
    sym a.are.generation.payloads_are ∙ same ∙ b.are.generation.payloads_are in
    let snapshots : a.are.generation.snapshot ≡ b.are.generation.snapshot = cc parts in
    let batches : a.are.generation.batches ≡ b.are.generation.batches = cc parts in
    let begun = one_begun config (replay opening a.are.earlier) (replay also b.are.earlier) a.are.generation.snapshot b.are.generation.snapshot
    (books_read (counts_of config).clients few.clients) (begun_is_of config opening a.are.earlier a.are.opening_is) (begun_is_of config also b.are.earlier b.are.opening_is) a.are.generation.snapshot_is b.are.generation.snapshot_is snapshots in
    let moves = one_moves (counts_of config) a.are.moves b.are.moves a.are.generation.batches b.are.generation.batches (moves_read (counts_of config) few)
    a.are.generation.batches_are b.are.generation.batches_are batches in
    made_of_begun config opening some a.payloads a.are ∙ ap (λ (x : ServerSeen). replay x a.are.moves) begun ∙ ap (replay (replay also b.are.earlier)) moves
    ∙ sym (made_of_begun config also other b.payloads b.are)
