-- The rows of the books of a shard, one by one.
use Rattle.std.proofs.Common.{◌≡◌, ℕ, ◌+◌, ◌<◌, ◌≤◌, ◌⊎◌, inl, inr, List, [], ◌∷◌, ◌++◌, drop, get_or, length, sym, ap, ◌∙◌, arith, append-nil, append_assoc}
use Rattle.std.proofs.lemmas.Bool.{cases_lt}
use Rattle.std.proofs.lemmas.List.{drop_all, drop_more}
use Rattle.rsl_book.specs.RuledBook.{RuledBook}
use Rattle.rsl_shard.specs.Restep.{AreBooks}
use Rattle.rsl_shard.specs.Rows.{row_of, rows_from}
use Rattle.rsl_shard.specs.Setup.{Setup}
use Rattle.rsl_shard.specs.declared.row.Row.{Row}

-- with the rows of the books that are left they are all rows
pub row_more : (account shards at : ℕ) (rows all : List Row) (books : List RuledBook) (book : RuledBook) → at < length books → book ≡ get_or books at book
    → rows ++ rows_from account shards (drop at books) ≡ all
    → (rows ++ row_of account book ∷ []) ++ rows_from (account + shards) shards (drop (at + 1) books) ≡ all
unfolding rows_from
row_more account shards at rows all books book within is so_far =
    append_assoc rows (row_of account book ∷ []) (rows_from (account + shards) shards (drop (at + 1) books))
    ∙ ap (λ (one : RuledBook). rows ++ row_of account one ∷ rows_from (account + shards) shards (drop (at + 1) books)) is
    ∙ ap (λ (rest : List RuledBook). rows ++ rows_from account shards rest) (sym (drop_more books at book within))
    ∙ so_far

pub rows_done : (account shards at : ℕ) (rows all : List Row) (books : List RuledBook) → length books ≤ at
    → rows ++ rows_from account shards (drop at books) ≡ all → rows ≡ all
unfolding rows_from
rows_done account shards at rows all books past so_far =
    sym (append-nil rows) ∙ ap (λ (rest : List RuledBook). rows ++ rows_from account shards rest) (sym (drop_all at books past)) ∙ so_far

-- a shard has few books
pub few : (setup : Setup) (books : List RuledBook) → AreBooks setup books → length books ≤ 16384
few setup books are = by (cases_lt 16384 (length books))
  where
    by : (16384 < length books) ⊎ (length books ≤ 16384) → length books ≤ 16384
    by (inr le) = le
    by (inl lt) = absurd (omega (arith, are.no_more 16384 lt, are.within.shard, are.within.accounts))
