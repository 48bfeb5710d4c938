-- Which books can be put back: the first misfit of books with the rules of their accounts.
use Rattle.std.proofs.Common.{◌≡◌, ℕ, ◌+◌, ◌≤◌, Bool, cond, Option, Some, None, List, [], ◌∷◌, length, map, take, drop, refl, subst, sym, ap, ◌∙◌}
use Rattle.std.specs.Prelude.{slice_get, All, IfSome}
use Rattle.std.specs.Option.{option_map, option_map_or, option_or}
use Rattle.std.proofs.lemmas.Bool.{eq-eqb, ne_eqb}
use Rattle.std.proofs.lemmas.List.{drop_all, drop_more, length-map}
use Rattle.std.proofs.lemmas.List.Elements.{All-head, All-more, All-tail}
use Rattle.std.proofs.lemmas.Option.{get_or_from_slice_get, slice_get_within}
use Rattle.rsl_accounts.specs.Configuration.{Configuration}
use Rattle.rsl_accounts.specs.declared.entry.Entry.{Entry}
use Rattle.rsl_accounts.specs.declared.rules.Rules.{Rules}
use Rattle.rsl_book.specs.Restored.{misfit, saved}
use Rattle.rsl_book.specs.RuledBook.{RuledBook}
use Rattle.rsl_book.specs.declared.restore_fault.RestoreFault.{RestoreFault}
use Rattle.rsl_session.specs.Book.{Book, new_book}
use Rattle.rsl_shard.specs.Opening.{as_new}
use Rattle.rsl_shard.specs.Restep.{book_of_entry}
use Rattle.rld_books.specs.Begun.{begun_book, begun_by_all}
use Rattle.rld_books.specs.Carried.{carried_book}
use Rattle.rld_books.specs.Cut.{cut_book}
use Rattle.rld_books.specs.Numbers.{number_in}
use Rattle.rld_books.specs.Saved.{IsFit, IsServerOf, first_misfit, saved_server, server_fault, server_misfit}
use Rattle.rld_books.specs.declared.fault.ServerFault.{ServerFault}
use Rattle.rld_books.specs.declared.fault.ServerFault.TheVariants.{WrongCount, Misfit, NoMemory}
use Rattle.rld_books.proofs.Cutting.{cut_fits}
use Rattle.rld_books.proofs.Fitting.{fits_again, new_fits}

-- ---- book by book

front : {X : Type 0} (xs : List X) (i : ℕ) (x : X) → slice_get xs i ≡ Some x → drop i xs ≡ x ∷ drop (i + 1) xs
front xs i x there =
    drop_more xs i x (slice_get_within xs i x there) ∙ ap (λ y. y ∷ drop (i + 1) xs) (get_or_from_slice_get xs i x x there)

-- with one more, found at its place
pub one_more_of : {X : Type 0} (P : X → Type 0) (xs : List X) (i : ℕ) (x : X) → slice_get xs i ≡ Some x → P x → All P (take i xs) → All P (take (i + 1) xs)
one_more_of P xs i x there this so_far =
    All-more P xs i x (slice_get_within xs i x there) so_far (subst P (sym (get_or_from_slice_get xs i x x there)) this)

-- none of the books before this one is a misfit
abbrev pub FitsUpTo : List Entry → List Book → ℕ → Type 0
FitsUpTo entries books i = first_misfit entries books ≡ first_misfit (drop i entries) (drop i books)

at_one : (entry : Entry) (book : Book) (entries : List Entry) (books : List Book)
    → first_misfit (entry ∷ entries) (book ∷ books) ≡ option_or (misfit entry.rules book) (first_misfit entries books)
unfolding first_misfit
at_one entry book entries books = refl

this_one : (entries : List Entry) (books : List Book) (i : ℕ) (entry : Entry) (book : Book) → slice_get entries i ≡ Some entry → slice_get books i ≡ Some book
    → FitsUpTo entries books i → first_misfit entries books ≡ option_or (misfit entry.rules book) (first_misfit (drop (i + 1) entries) (drop (i + 1) books))
this_one entries books i entry book there is so_far =
    so_far ∙ ap (λ (l : List Entry). first_misfit l (drop i books)) (front entries i entry there)
    ∙ ap (first_misfit (entry ∷ drop (i + 1) entries)) (front books i book is)
    ∙ at_one entry book (drop (i + 1) entries) (drop (i + 1) books)

pub next_fits : (entries : List Entry) (books : List Book) (i : ℕ) (entry : Entry) (book : Book) → slice_get entries i ≡ Some entry → slice_get books i ≡ Some book
    → misfit entry.rules book ≡ None → FitsUpTo entries books i → FitsUpTo entries books (i + 1)
next_fits entries books i entry book there is fits so_far =
    this_one entries books i entry book there is so_far
    ∙ ap (λ (o : Option RestoreFault). option_or o (first_misfit (drop (i + 1) entries) (drop (i + 1) books))) fits

nothing_left : (books : List Book) → first_misfit [] books ≡ None
unfolding first_misfit
nothing_left books = refl

pub all_fit : (entries : List Entry) (books : List Book) (i : ℕ) → length entries ≤ i → FitsUpTo entries books i → first_misfit entries books ≡ None
all_fit entries books i past so_far =
    so_far ∙ ap (λ (l : List Entry). first_misfit l (drop i books)) (drop_all i entries past) ∙ nothing_left (drop i books)

none_some : {X : Type 0} (x : X) → None ≡ Some x → ⊥
none_some x e = cc

first_is : (o p : Option RestoreFault) (fault : ServerFault) → option_map server_fault o ≡ Some fault → option_map server_fault (option_or o p) ≡ Some fault
first_is None p fault is = absurd (none_some fault is)
first_is (Some one) p fault is = is

pub this_misfits : (entries : List Entry) (books : List Book) (i : ℕ) (entry : Entry) (book : Book) (fault : ServerFault) → slice_get entries i ≡ Some entry → slice_get books i ≡ Some book
    → option_map server_fault (misfit entry.rules book) ≡ Some fault → FitsUpTo entries books i → option_map server_fault (first_misfit entries books) ≡ Some fault
this_misfits entries books i entry book fault there is wrong so_far =
    ap (option_map server_fault) (this_one entries books i entry book there is so_far)
    ∙ first_is (misfit entry.rules book) (first_misfit (drop (i + 1) entries) (drop (i + 1) books)) fault wrong

-- ---- all books

pub as_counted : (config : Configuration) (books : List Book) → length books ≡ length config.accounts
    → server_misfit config books ≡ option_map server_fault (first_misfit config.accounts books)
as_counted config books same =
    ap (λ (t : Bool). cond t (option_map server_fault (first_misfit config.accounts books)) (Some WrongCount)) (eq-eqb (length books) (length config.accounts) same)

pub miscounted : (config : Configuration) (books : List Book) → (length books ≡ length config.accounts → ⊥) → server_misfit config books ≡ Some WrongCount
miscounted config books other =
    ap (λ (t : Bool). cond t (option_map server_fault (first_misfit config.accounts books)) (Some WrongCount)) (ne_eqb (length books) (length config.accounts) other)

pub none_wrong : (config : Configuration) (books : List Book) → length books ≡ length config.accounts → first_misfit config.accounts books ≡ None → server_misfit config books ≡ None
none_wrong config books same fit = as_counted config books same ∙ ap (option_map server_fault) fit

-- books in which nothing is wrong are refused for want of memory alone
pub for_memory : (found : Option ServerFault) (fault : ServerFault) → found ≡ None → ((fault ≡ NoMemory → ⊥) → found ≡ Some fault) → fault ≡ NoMemory
for_memory found NoMemory none why = refl
for_memory found WrongCount none why = absurd (none_some WrongCount (sym none ∙ why (λ e. cc)))
for_memory found (Misfit fault) none why = absurd (none_some (Misfit fault) (sym none ∙ why (λ e. cc)))

-- ---- books that were cut

cut_fit : (now : ℕ) (entries : List Entry) (server : List RuledBook) → map as_new server ≡ map book_of_entry entries → All IsFit server
    → first_misfit entries (map (cut_book now) (map saved server)) ≡ None
unfolding first_misfit
cut_fit now [] server of fit = refl
cut_fit now (entry ∷ entries) [] of fit = refl
cut_fit now (entry ∷ entries) (ruled ∷ server) of fit =
    let one : as_new ruled ≡ book_of_entry entry = cc in
    let others : map as_new server ≡ map book_of_entry entries = cc in
    let rules : entry.rules ≡ ruled.rules = sym (ap (λ (r : RuledBook). r.rules) one) in
    let this : misfit entry.rules (cut_book now ruled.book) ≡ None =
    ap (λ (r : Rules). misfit r (cut_book now ruled.book)) rules ∙ cut_fits.misfit now ruled.rules ruled.book ∙ All-head IsFit ruled server fit in
    ap (λ (o : Option RestoreFault). option_or o (first_misfit entries (map (cut_book now) (map saved server)))) this
    ∙ cut_fit now entries server others (All-tail IsFit ruled server fit)

pub cut_can_be_put_back : (config : Configuration) (now : ℕ) (server : List RuledBook) → IsServerOf config server → All IsFit server
    → server_misfit config (map (cut_book now) (saved_server server)) ≡ None
cut_can_be_put_back config now server of fit =
    none_wrong config (map (cut_book now) (saved_server server))
    (length-map (map saved server) (cut_book now) ∙ length-map server saved ∙ sym (length-map server as_new) ∙ ap length of ∙ length-map config.accounts book_of_entry)
    (cut_fit now config.accounts server of fit)

-- ---- books that are admitted

-- what an account begins with fits its rules
pub begun_fits : (numbers : List (Option ℕ)) (entry : Entry) (was : Option RuledBook) → IfSome was IsFit
    → misfit entry.rules (option_map_or (λ (ruled : RuledBook). carried_book (number_in numbers) entry.rules ruled.book) was new_book) ≡ None
begun_fits numbers entry None fit = new_fits entry.rules
begun_fits numbers entry (Some ruled) fit = fits_again (number_in numbers) ruled.rules entry.rules ruled.book fit

begun_fit : (f : Entry → Book) (entries : List Entry) → All (λ (entry : Entry). misfit entry.rules (f entry) ≡ None) entries → first_misfit entries (map f entries) ≡ None
unfolding first_misfit
begun_fit f [] fit = refl
begun_fit f (entry ∷ entries) fit =
    ap (λ (o : Option RestoreFault). option_or o (first_misfit entries (map f entries))) (All-head (λ (e : Entry). misfit e.rules (f e) ≡ None) entry entries fit)
    ∙ begun_fit f entries (All-tail (λ (e : Entry). misfit e.rules (f e) ≡ None) entry entries fit)

pub begun_can_be_put_back : (numbers : List (Option ℕ)) (old : Configuration) (books : List RuledBook) (new : Configuration)
    → All (λ (entry : Entry). misfit entry.rules (begun_book numbers old books entry) ≡ None) new.accounts → server_misfit new (begun_by_all numbers old books new) ≡ None
begun_can_be_put_back numbers old books new fit =
    none_wrong new (begun_by_all numbers old books new) (length-map new.accounts (begun_book numbers old books)) (begun_fit (begun_book numbers old books) new.accounts fit)
