-- The books that go on when the accounts change, account by account.
use Rattle.std.proofs.Common.{◌≡◌, ℕ, List, [], ◌∷◌, map, Option, Some, None, refl, ap, sym, ◌∙◌}
use Rattle.std.specs.Prelude.{slice_get}
use Rattle.std.specs.Option.{option_and_then, option_map, option_map_or}
use Rattle.std.proofs.lemmas.Option.{slice_get-map}
use Rattle.rsl_accounts.specs.Configuration.{Configuration, account_number}
use Rattle.rsl_accounts.specs.declared.entry.Entry.{Entry}
use Rattle.rsl_book.specs.Restored.{saved}
use Rattle.rsl_book.specs.RuledBook.{RuledBook}
use Rattle.rsl_session.specs.Saved.{saved_book}
use Rattle.rsl_session.specs.declared.saved.SavedBook.{SavedBook}
use Rattle.rsl_session.specs.Book.{Book, new_book}
use Rattle.rsl_shard.specs.Opening.{as_new}
use Rattle.rsl_shard.specs.Restep.{book_of_entry}
use Rattle.rld_books.specs.Saved.{IsServerOf, book_in, saved_server}
use Rattle.rld_books.proofs.Saving.{one_server}
use Rattle.rld_spelling.specs.Tables.{account_row, table_of}
use Rattle.rld_spelling.specs.declared.table.TableAccount.{TableAccount}
use Rattle.rld_books.specs.Admitted.{AreAdmitted, admitted_book, next_number}
use Rattle.rld_books.specs.Begun.{begun_book, begun_by_all}
use Rattle.rld_books.specs.Carried.{Next, carried_book}
use Rattle.rld_books.specs.Numbers.{next_numbers}
use Rattle.rld_books.proofs.Numbering.{same_account, same_numbers}

module _ (numbers : List (Option ℕ)) (old : Configuration) (books : List RuledBook) where
  -- an account begins with its own rules
  ruled_of : Entry → RuledBook
  ruled_of entry = record { rules = entry.rules; book = begun_book numbers old books entry }

  rules_are : (entries : List Entry) → map as_new (map ruled_of entries) ≡ map book_of_entry entries
  unfolding ruled_of
  rules_are [] = refl
  rules_are (entry ∷ entries) = ap (λ (l : List RuledBook). book_of_entry entry ∷ l) (rules_are entries)

  saved_are : (entries : List Entry) → map saved (map ruled_of entries) ≡ map (begun_book numbers old books) entries
  unfolding ruled_of
  saved_are [] = refl
  saved_are (entry ∷ entries) = ap (λ (l : List Book). begun_book numbers old books entry ∷ l) (saved_are entries)

  -- books that were put back from what all accounts begin with
  made_is : (new : Configuration) (made : List RuledBook) (kept : List SavedBook) → IsServerOf new made → saved_server made ≡ map saved_book kept
      → map saved_book kept ≡ begun_by_all numbers old books new → made ≡ map ruled_of new.accounts
  made_is new made kept of back are =
      one_server new made (map ruled_of new.accounts) of (rules_are new.accounts) (back ∙ are ∙ sym (saved_are new.accounts))

-- ---- by the tables

same_book : (old : Configuration) (books : List RuledBook) (new : Configuration) (entry : Entry)
    → begun_book (next_numbers old new) old books entry ≡ admitted_book (table_of old) books (table_of new) (account_row entry)
same_book old books new entry =
    ap (λ (to : Next). option_map_or (λ (ruled : RuledBook). carried_book to entry.rules ruled.book) (option_and_then (book_in books) (account_number old entry.name)) new_book) (same_numbers old new)
    ∙ ap (λ (o : Option ℕ). option_map_or (λ (ruled : RuledBook). carried_book (next_number (table_of old) (table_of new)) entry.rules ruled.book) (option_and_then (book_in books) o) new_book)
    (sym (same_account old entry.name))

pub are_admitted : (numbers : List (Option ℕ)) (old : Configuration) (books : List RuledBook) (new : Configuration) (made : List RuledBook) (kept : List SavedBook)
    → numbers ≡ next_numbers old new → IsServerOf new made → saved_server made ≡ map saved_book kept → map saved_book kept ≡ begun_by_all numbers old books new
    → AreAdmitted (table_of old) books (table_of new) made
unfolding ruled_of
are_admitted numbers old books new made kept are of back begun = record {
  each = λ number account there. by number account (slice_get new.accounts number) refl (sym (slice_get-map account_row new.accounts number) ∙ there);
}
  where
    by : (number : ℕ) (account : TableAccount) (o : Option Entry) → slice_get new.accounts number ≡ o → option_map account_row o ≡ Some account
        → book_in made number ≡ Some (record { rules = account.rules; book = admitted_book (table_of old) books (table_of new) account })
    by number account None is there = absurd (none there)
      where
        none : None ≡ Some account → ⊥
        none e = cc
    by number account (Some entry) is there =
        let row : account_row entry ≡ account = first there in
        let book : begun_book numbers old books entry ≡ admitted_book (table_of old) books (table_of new) (account_row entry) =
        ap (λ (n : List (Option ℕ)). begun_book n old books entry) are ∙ same_book old books new entry in
        let one : ruled_of numbers old books entry ≡ record { rules = entry.rules; book = admitted_book (table_of old) books (table_of new) (account_row entry) } =
        (λ i. record { rules = entry.rules; book = book i }) in
        ap (λ (l : List RuledBook). book_in l number) (made_is numbers old books new made kept of back begun)
        ∙ slice_get-map (ruled_of numbers old books) new.accounts number ∙ ap (option_map (ruled_of numbers old books)) is ∙ ap Some one
        ∙ ap (λ (r : TableAccount). Some (record { rules = r.rules; book = admitted_book (table_of old) books (table_of new) r })) row
      where
        first : Some (account_row entry) ≡ Some account → account_row entry ≡ account
        first e = cc
