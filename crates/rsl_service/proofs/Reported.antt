-- The rows of a report, one by one.
use Rattle.std.proofs.Common.{◌≡◌, ℕ, zero, suc, ◌+◌, ◌*◌, ◌/◌, ◌%◌, ◌<◌, ◌≤◌, ◌⊎◌, inl, inr, List, [], ◌∷◌, ◌++◌, length, map, set, Option, Some, None, refl, sym, ap, subst, ◌∙◌, arith, length-set, length-append}
use Rattle.std.specs.Prelude.{All, Bool, if◌then◌else◌, slice_get}
use Rattle.std.specs.Option.{option_map}
use Rattle.std.proofs.Math.Nat.{mul-le-mul_left}
use Rattle.std.proofs.lemmas.Bool.{cases_eq, cases_lt, ne_eqb}
use Rattle.std.proofs.lemmas.List.Elements.{All-get_or}
use Rattle.std.proofs.lemmas.Option.{get_or_from_slice_get, slice_get-map, slice_get_past, slice_get_within, same_Some}
use Rattle.rsl_accounts.specs.Configuration.{Configuration}
use Rattle.rsl_accounts.specs.declared.entry.Entry.{Entry}
use Rattle.rsl_accounts.specs.declared.rules.Rules.{Rules}
use Rattle.rsl_book.specs.RuledBook.{IsWithinLimit, RuledBook}
use Rattle.rsl_session.specs.Book.{places_in}
use Rattle.rsl_shard.specs.Moves.{IsOfShard}
use Rattle.rsl_shard.specs.Opening.{as_new}
use Rattle.rsl_shard.specs.Restep.{book_at, book_from, book_of_entry, new_books}
use Rattle.rsl_shard.specs.Rows.{row_of}
use Rattle.rsl_shard.specs.Seen.{IsShard, ShardSeen, books_of}
use Rattle.rsl_shard.specs.Setup.{Setup, setup_of}
use Rattle.rsl_shard.specs.declared.row.Row.{Row}
use Rattle.rsl_shard.proofs.Callers.{account_is, book_at_index, new_book_at}
use Rattle.rsl_service.specs.Report.{AreShown, IsReport, IsRowOf, shown_book, with_book}

-- what stands in a list in which one element was set
set_same : {X : Type 0} (xs : List X) (at : ℕ) (new x : X) → slice_get (set xs at new) at ≡ Some x → x ≡ new
set_same [] at new x is = cc
set_same (y ∷ xs) zero new x is = same_Some x new (sym is)
set_same (y ∷ xs) (suc at) new x is = set_same xs at new x is

set_other : {X : Type 0} (xs : List X) (at other : ℕ) (new : X) → (other ≡ at → ⊥) → slice_get (set xs at new) other ≡ slice_get xs other
set_other [] at other new apart = refl
set_other (y ∷ xs) zero zero new apart = absurd (apart refl)
set_other (y ∷ xs) zero (suc other) new apart = refl
set_other (y ∷ xs) (suc at) zero new apart = refl
set_other (y ∷ xs) (suc at) (suc other) new apart = set_other xs at other new (λ same. apart (ap suc same))

-- a report in which the row of one account was set
set_row : (accounts : List Entry) (rows : List Row) (account : ℕ) (new : Row)
    → ((entry : Entry) → slice_get accounts account ≡ Some entry → IsRowOf account entry new)
    → IsReport accounts rows → IsReport accounts (set rows account new)
set_row accounts rows account new is report = record {
  one_each = length-set rows account new ∙ report.one_each;
  each = λ at entry row there here. by at entry row there here (cases_eq at account);
}
  where
    by : (at : ℕ) (entry : Entry) (row : Row) → slice_get accounts at ≡ Some entry → slice_get (set rows account new) at ≡ Some row
        → (at ≡ account) ⊎ (at ≡ account → ⊥) → IsRowOf at entry row
    by at entry row there here (inr apart) = report.each at entry row there (sym (set_other rows account at new apart) ∙ here)
    by at entry row there here (inl same) =
        let mine : row ≡ new = set_same rows account new row (ap (slice_get (set rows account new)) (sym same) ∙ here) in
        subst (λ n. IsRowOf n entry row) (sym same)
        (subst (IsRowOf account entry) (sym mine) (is entry (ap (slice_get accounts) (sym same) ∙ there)))

-- the book of an account of a shard, whatever it has come to, has the rules of the account's entry
rules_are : (config : Configuration) (shard account : ℕ) (books : List RuledBook) (ruled : RuledBook) (entry : Entry)
    → shard < config.settings.shards → account % config.settings.shards ≡ shard → map as_new books ≡ new_books config shard
    → book_at (setup_of config shard) books account ≡ Some ruled → slice_get config.accounts account ≡ Some entry → ruled.rules ≡ entry.rules
rules_are config shard account books ruled entry within of_shard are is there =
    let shards = config.settings.shards in
    let index = account / shards in
    let at : account ≡ shard + index * shards = account_is shards shard account of_shard in
    let stands : slice_get books index ≡ Some ruled = sym (book_at_index shard shards account index books (omega (arith, within)) at) ∙ is in
    let as_it_was : Some (as_new ruled) ≡ Some (book_of_entry entry) =
    ap (option_map as_new) (sym stands) ∙ sym (slice_get-map as_new books index)
    ∙ ap (λ (all : List RuledBook). slice_get all index) are ∙ new_book_at config shard index within
    ∙ ap (λ (n : ℕ). option_map book_of_entry (slice_get config.accounts n)) (sym at) ∙ ap (option_map book_of_entry) there in
    ap (λ (book : RuledBook). book.rules) (same_Some (as_new ruled) (book_of_entry entry) as_it_was)

-- with the row of a book of a shard it is a report again
pub shown : (config : Configuration) (shard account : ℕ) (books : List RuledBook) (rows : List Row) (ruled : RuledBook)
    → shard < config.settings.shards → IsOfShard (setup_of config shard) account → map as_new books ≡ new_books config shard
    → book_at (setup_of config shard) books account ≡ Some ruled → places_in ruled.rules ruled.book ≤ ruled.rules.places
    → IsReport config.accounts rows → IsReport config.accounts (set rows account (row_of account ruled))
shown config shard account books rows ruled within of_shard are is limit report =
    set_row config.accounts rows account (row_of account ruled)
    (λ (entry : Entry) (there : slice_get config.accounts account ≡ Some entry). record {
      numbered = refl;
      places = ap (λ (rules : Rules). rules.places) (rules_are config shard account books ruled entry within of_shard.of_shard are is there);
      limit = limit;
    })
    report

-- what stands in a list with one element more
push_cases : {X : Type 0} (xs : List X) (at : ℕ) (new x : X) → slice_get (xs ++ new ∷ []) at ≡ Some x
    → ((at ≡ length xs) × (x ≡ new)) ⊎ (slice_get xs at ≡ Some x)
push_cases [] zero new x is = inl (refl, same_Some x new (sym is))
push_cases [] (suc at) new x is = cc
push_cases (y ∷ xs) zero new x is = inr is
push_cases (y ∷ xs) (suc at) new x is = elim (push_cases xs at new x is) [ inl both ↦ inl (ap suc both.0, both.1) | inr there ↦ inr there ]

-- the rows of the first accounts, so many
pub record AreFirst (accounts : List Entry) (many : ℕ) (rows : List Row) : Type 0 where
  pub long : length rows ≡ many
  pub each : (account : ℕ) (entry : Entry) (row : Row) → slice_get accounts account ≡ Some entry
      → slice_get rows account ≡ Some row → IsRowOf account entry row

pub none_first : (accounts : List Entry) (rows : List Row) → rows ≡ [] → AreFirst accounts 0 rows
none_first accounts rows none = subst (AreFirst accounts 0) (sym none) (record { long = refl; each = λ account entry row there here. cc })

pub one_first : (accounts : List Entry) (account : ℕ) (rows new : List Row) (entry : Entry) (row : Row) → slice_get accounts account ≡ Some entry
    → IsRowOf account entry row → new ≡ rows ++ row ∷ [] → AreFirst accounts account rows → AreFirst accounts (account + 1) new
one_first accounts account rows new entry row there is more first = subst (AreFirst accounts (account + 1)) (sym more) (record {
  long = length-append rows (row ∷ []) ∙ ap (λ n. n + 1) first.long;
  each = λ at other one at_there at_here. by at other one at_there at_here (push_cases rows at row one at_here);
})
  where
    by : (at : ℕ) (other : Entry) (one : Row) → slice_get accounts at ≡ Some other → slice_get (rows ++ row ∷ []) at ≡ Some one
        → ((at ≡ length rows) × (one ≡ row)) ⊎ (slice_get rows at ≡ Some one) → IsRowOf at other one
    by at other one at_there at_here (inr before) = first.each at other one at_there before
    by at other one at_there at_here (inl last) =
        let here : at ≡ account = last.0 ∙ first.long in
        let same : other ≡ entry = same_Some other entry (sym at_there ∙ ap (slice_get accounts) here ∙ there) in
        subst (λ n. IsRowOf n other one) (sym here) (subst (λ e. IsRowOf account e one) (sym same) (subst (IsRowOf account entry) (sym last.1) is))

pub all_first : (accounts : List Entry) (many : ℕ) (rows : List Row) → many ≡ length accounts → AreFirst accounts many rows → IsReport accounts rows
all_first accounts many rows all first = record { one_each = first.long ∙ all; each = first.each }

pub ruleset firsts = (none_first, one_first, all_first)

-- no book of a shard holds more than its places
held_within : (setup : Setup) (account : ℕ) (books : List RuledBook) (ruled : RuledBook) → IsOfShard setup account → setup.shard < setup.shards
    → All IsWithinLimit books → book_at setup books account ≡ Some ruled → places_in ruled.rules ruled.book ≤ ruled.rules.places
held_within setup account books ruled there within all found =
    let index = account / setup.shards in
    let at : account ≡ setup.shard + index * setup.shards = account_is setup.shards setup.shard account there.of_shard in
    let stands : slice_get books index ≡ Some ruled = sym (book_at_index setup.shard setup.shards account index books (omega (arith, within)) at) ∙ found in
    (subst IsWithinLimit (get_or_from_slice_get books index ruled ruled stands)
    (All-get_or IsWithinLimit books index ruled (slice_get_within books index ruled stands) all)).limit

-- the same of what a lock keeps
pub shown_by : (config : Configuration) (number account : ℕ) (shard : ShardSeen) (setup : Setup) (books : List RuledBook) (rows : List Row) (ruled : RuledBook) (row : Row)
    → IsShard shard → shard.setup ≡ setup → setup ≡ setup_of config number → map as_new (books_of shard) ≡ books → books ≡ new_books config number
    → IsOfShard shard.setup account → book_at shard.setup (books_of shard) account ≡ Some ruled
    → row ≡ row_of account ruled → IsReport config.accounts rows
    → IsReport config.accounts (set rows account row)
shown_by config number account shard setup books rows ruled row kept numbered is are_ruled are of_shard found is_row report =
    let mine : shard.setup ≡ setup_of config number = numbered ∙ is in
    let limit = held_within shard.setup account (books_of shard) ruled of_shard kept.books.within.shard kept.books.limit found in
    let within : number < config.settings.shards = subst (λ (s : Setup). s.shard < s.shards) mine kept.books.within.shard in
    subst (λ (r : Row). IsReport config.accounts (set rows account r)) (sym is_row)
    (shown config number account (books_of shard) rows ruled within (subst (λ (s : Setup). IsOfShard s account) mine of_shard) (are_ruled ∙ are)
    (subst (λ (s : Setup). book_at s (books_of shard) account ≡ Some ruled) mine found) limit report)

-- ---- the rows of a shard's books

-- before the first account all rows are as they were
pub none_shown : (shard : ShardSeen) (rows : List Row) → AreShown 0 shard rows rows
none_shown shard rows = record {
  shown = λ account ruled before is. absurd (omega (arith, before));
  others = λ account none. refl;
  later = λ account past. refl;
}

set_here : {X : Type 0} (xs : List X) (at : ℕ) (new : X) → at < length xs → slice_get (set xs at new) at ≡ Some new
set_here [] at new within = absurd (omega (arith, within))
set_here (x ∷ xs) zero new within = refl
set_here (x ∷ xs) (suc at) new within = set_here xs at new (omega (arith, within))

-- the row of one account, by whether the shard has its book
one_row : (account at : ℕ) (found : Option RuledBook) (rows : List Row) → (at ≡ account → ⊥)
    → slice_get (with_book account found rows) at ≡ slice_get rows at
one_row account at None rows apart = refl
one_row account at (Some ruled) rows apart = set_other rows account at (row_of account ruled) apart

-- and with the row of one account more
pub one_shown : (account : ℕ) (shard : ShardSeen) (old now new : List Row) → account < length now → AreShown account shard old now
    → new ≡ with_book account (shown_book shard account) now → AreShown (account + 1) shard old new
one_shown account shard old now new there so_far is = subst (AreShown (account + 1) shard old) (sym is) (record {
  shown = λ at ruled before found. shown at ruled before found (cases_eq at account);
  others = λ at none. other at none (cases_eq at account);
  later = λ at past. one_row account at (shown_book shard account) now (λ same. omega (arith, past, same)) ∙ so_far.later at (omega (arith, past));
})
  where
    all : List Row
    all = with_book account (shown_book shard account) now

    shown : (at : ℕ) (ruled : RuledBook) → at < account + 1 → shown_book shard at ≡ Some ruled → (at ≡ account) ⊎ (at ≡ account → ⊥)
        → slice_get all at ≡ Some (row_of at ruled)
    shown at ruled before found (inr apart) = one_row account at (shown_book shard account) now apart ∙ so_far.shown at ruled (omega (arith, before, apart)) found
    shown at ruled before found (inl same) =
        let mine : shown_book shard account ≡ Some ruled = ap (shown_book shard) (sym same) ∙ found in
        ap (λ (book : Option RuledBook). slice_get (with_book account book now) at) mine
        ∙ ap (slice_get (set now account (row_of account ruled))) same
        ∙ set_here now account (row_of account ruled) there
        ∙ ap (λ (n : ℕ). Some (row_of n ruled)) (sym same)

    other : (at : ℕ) → shown_book shard at ≡ None → (at ≡ account) ⊎ (at ≡ account → ⊥) → slice_get all at ≡ slice_get old at
    other at none (inr apart) = one_row account at (shown_book shard account) now apart ∙ so_far.others at none
    other at none (inl same) =
        ap (λ (book : Option RuledBook). slice_get (with_book account book now) at) (ap (shown_book shard) (sym same) ∙ none) ∙ so_far.others at none

-- the accounts up to the next one of the shard are passed over
passed_over : (many next : ℕ) (shard : ShardSeen) (old new : List Row) → many ≤ next
    → ((at : ℕ) → many ≤ at → at < next → shown_book shard at ≡ None) → AreShown many shard old new → AreShown next shard old new
passed_over many next shard old new more none so_far = record {
  shown = λ at ruled before found. by at ruled before found (cases_lt at many);
  others = so_far.others;
  later = λ at past. so_far.later at (omega (arith, past, more));
}
  where
    by : (at : ℕ) (ruled : RuledBook) → at < next → shown_book shard at ≡ Some ruled → (at < many) ⊎ (many ≤ at)
        → slice_get new at ≡ Some (row_of at ruled)
    by at ruled before found (inl less) = so_far.shown at ruled less found
    by at ruled before found (inr past) = let none_found = sym (none at past before) ∙ found in cc

-- an account between those of a shard has no book there
none_from : (first shards : ℕ) (books : List RuledBook) (at : ℕ) → ((k : ℕ) → first + k * shards ≡ at → ⊥)
    → book_from first shards books at ≡ None
unfolding book_from
none_from first shards [] at apart = refl
none_from first shards (ruled ∷ books) at apart =
    subst (λ (here : Bool). (if here then Some ruled else book_from (first + shards) shards books at) ≡ None)
    (sym (ne_eqb first at (λ same. apart 0 (omega (arith, same)))))
    (none_from (first + shards) shards books at (λ k same. apart (k + 1) (omega (arith, same))))

between : (first shards i at k : ℕ) → first + i * shards < at → at < first + i * shards + shards → first + k * shards ≡ at → ⊥
between first shards i at k above below same = by (cases_lt k (i + 1))
  where
    by : (k < i + 1) ⊎ (i + 1 ≤ k) → ⊥
    by (inl less) = let few : k ≤ i = omega (arith, less) in omega (arith, above, same, mul-le-mul_left shards few)
    by (inr more) = omega (arith, below, same, mul-le-mul_left shards more)

-- before the first account of a shard there is none
pub begun_shown : (number : ℕ) (shard : ShardSeen) (rows : List Row) → number ≡ shard.setup.shard → AreShown number shard rows rows
begun_shown number shard rows is =
    passed_over 0 number shard rows rows (omega arith)
    (λ at past before. none_from shard.setup.shard shard.setup.shards (books_of shard) at (λ k same. omega (arith, same, before, is)))
    (none_shown shard rows)

-- with the row of one account of a shard more, up to its next account
pub step_shown : (i account next shards : ℕ) (shard : ShardSeen) (old now new : List Row) → shards ≡ shard.setup.shards → 0 < shards
    → account ≡ shard.setup.shard + i * shards → next ≡ account + shards
    → account < length now → AreShown account shard old now → new ≡ with_book account (shown_book shard account) now → AreShown next shard old new
step_shown i account next shards shard old now new are some at_index is there so_far more =
    passed_over (account + 1) next shard old new (omega (arith, some, is))
    (λ at past before. none_from shard.setup.shard shard.setup.shards (books_of shard) at
    (subst (λ (n : ℕ). (k : ℕ) → shard.setup.shard + k * n ≡ at → ⊥) are
    (λ k. between shard.setup.shard shards i at k (omega (arith, at_index, past)) (omega (arith, at_index, is, before)))))
    (one_shown account shard old now new there so_far more)

-- up to the last
pub all_shown : (many : ℕ) (shard : ShardSeen) (old new : List Row) → length old ≤ many → length new ≡ length old
    → AreShown many shard old new → AreShown (length old) shard old new
all_shown many shard old new all long so_far = record {
  shown = λ at ruled before found. so_far.shown at ruled (omega (arith, before, all)) found;
  others = so_far.others;
  later = λ at past. slice_get_past new at (omega (arith, past, long)) ∙ sym (slice_get_past old at past);
}
