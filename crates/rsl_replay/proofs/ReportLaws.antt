-- The rows of a report, from the shards of a run.
use Rattle.std.proofs.Common.{◌≡◌, ℕ, zero, suc, ◌+◌, ◌*◌, ◌/◌, ◌%◌, ◌<◌, ◌≤◌, List, [], ◌∷◌, ◌++◌, length, get_or, map, drop, take, true, false, Option, Some, None, ◌⊎◌, inl, inr, IsSome, refl, sym, ap, subst, ◌∙◌, append_assoc, arith}
use Rattle.std.specs.Prelude.{All, slice_get}
use Rattle.std.specs.List.{AllByRecursion}
use Rattle.std.specs.Option.{option_map}
use Rattle.std.proofs.Math.Nat.{suc-mul}
use Rattle.std.proofs.lemmas.Bool.{cases_lt}
use Rattle.std.proofs.lemmas.List.{append-nil, drop_all, drop_more, length-map, map-append, take_all, take_more}
use Rattle.std.proofs.lemmas.List.Elements.{All-from_recursion}
use Rattle.std.proofs.lemmas.Option.{slice_get-map, slice_get_cases, slice_get_past, slice_get_read}
use Rattle.rsl_accounts.specs.Configuration.{Configuration}
use Rattle.rsl_accounts.specs.declared.entry.Entry.{Entry}
use Rattle.rsl_book.specs.RuledBook.{RuledBook}
use Rattle.rsl_shard.proofs.Callers.{account_is, book_at_index}
use Rattle.rsl_shard.specs.Restep.{book_at}
use Rattle.rsl_shard.specs.Rows.{row_of, rows_from, rows_of}
use Rattle.rsl_shard.specs.Seen.{ShardSeen, books_of}
use Rattle.rsl_shard.specs.Setup.{Setup}
use Rattle.rsl_shard.specs.declared.row.Row.{Row}
use Rattle.rsl_steps.specs.Own.{own}
use Rattle.rsl_steps.specs.Ran.{AreShards, HasBookOf, HasMoved, book_in_shard}
use Rattle.rsl_steps.specs.declared.step.Step.{Step}
use Rattle.rsl_replay.specs.Report.{row_after, rows_after}
use Rattle.rsl_replay.specs.Shards.{AreShardsAfter, row_among, row_at_index, rows_seen}

-- ---- the row of an account

some-none : {A : Type 0} (x : A) → Some x ≡ None → ⊥
some-none x h = cc

some_is : {A : Type 0} (x y : A) → Some x ≡ Some y → x ≡ y
some_is x y h = cc

clash : false ≡ true → ⊥
clash h = cc

-- a row stands where its book does
row_indexed : (first shards index : ℕ) (books : List RuledBook) → slice_get (rows_from first shards books) index ≡ option_map (row_of (first + index * shards)) (slice_get books index)
unfolding rows_from
row_indexed first shards index [] = refl
row_indexed first shards zero (ruled ∷ books) = ap (λ (account : ℕ). Some (row_of account ruled)) (omega arith)
row_indexed first shards (suc index) (ruled ∷ books) =
    let long : suc index * shards ≡ index * shards + shards = suc-mul index shards in
    row_indexed (first + shards) shards index books
    ∙ ap (λ (account : ℕ). option_map (row_of account) (slice_get books index)) (omega (arith, long))

-- the row of an account, by the index of its book in its shard
row_in_shard : (setup : Setup) (books : List RuledBook) (account : ℕ) (ruled : RuledBook) → 0 < setup.shards → account % setup.shards ≡ setup.shard
    → book_at setup books account ≡ Some ruled → slice_get (rows_of setup books) (account / setup.shards) ≡ Some (row_of account ruled)
row_in_shard setup books account ruled some is has =
    let at : account ≡ setup.shard + account / setup.shards * setup.shards = account_is setup.shards setup.shard account is in
    row_indexed setup.shard setup.shards (account / setup.shards) books
    ∙ ap (λ (n : ℕ). option_map (row_of n) (slice_get books (account / setup.shards))) (sym at)
    ∙ ap (option_map (row_of account)) (sym (book_at_index setup.shard setup.shards account (account / setup.shards) books some at) ∙ has)

-- the row of an account among those of all shards
row_of_shards : (config : Configuration) (boot : ℕ) (before : List Step) (shards : List ShardSeen) (account : ℕ) (ruled : RuledBook) (found : Option ShardSeen)
    → AreShards config boot before shards → 0 < config.settings.shards → slice_get shards (account % config.settings.shards) ≡ found
    → book_in_shard found account ≡ Some ruled
    → row_among config.settings.shards (map rows_seen shards) account ≡ Some (row_of account ruled)
row_of_shards config boot before shards account ruled None are some is has = absurd (some-none ruled (sym has))
row_of_shards config boot before shards account ruled (Some seen) are some is has =
    let moved : HasMoved config boot before (account % config.settings.shards) seen = are.each (account % config.settings.shards) seen is in
    let in_it : slice_get (rows_seen seen) (account / seen.setup.shards) ≡ Some (row_of account ruled) =
    row_in_shard seen.setup (books_of seen) account ruled (omega (arith, some, ap (λ (s : Setup). s.shards) moved.setup))
    (ap (λ (s : Setup). account % s.shards) moved.setup ∙ sym (ap (λ (s : Setup). s.shard) moved.setup)) has in
    ap (λ (rows : Option (List Row)). row_at_index rows (account / config.settings.shards)) (slice_get-map rows_seen shards (account % config.settings.shards) ∙ ap (option_map rows_seen) is)
    ∙ ap (λ (s : Setup). slice_get (rows_seen seen) (account / s.shards)) (sym moved.setup)
    ∙ in_it

-- an account's row is the one that looking back over its own events gives
pub row_is : (config : Configuration) (boot : ℕ) (before : List Step) (shards : List ShardSeen) (account : ℕ) (entry : Entry)
    → AreShardsAfter config boot before shards → 0 < config.settings.shards → slice_get config.accounts account ≡ Some entry
    → row_among config.settings.shards (map rows_seen shards) account ≡ Some (row_after config boot before account entry)
row_is config boot before shards account entry are some there =
    let has : HasBookOf config account entry.rules (own config boot account before) shards = are.books account entry there in
    row_of_shards config boot before shards account has.ruled (slice_get shards (account % config.settings.shards)) are.moved some refl has.there
    ∙ (λ k. Some (row_of account (record { rules = has.book.ruled_by k; book = has.book.looked_back k })))

-- ---- the rows of all accounts

rows_first : (config : Configuration) (boot : ℕ) (before : List Step) (number : ℕ) (entry : Entry) (entries : List Entry)
    → rows_after config boot before number (entry ∷ entries) ≡ row_after config boot before number entry ∷ rows_after config boot before (number + 1) entries
unfolding rows_after
rows_first config boot before number entry entries = refl

rows_none : (config : Configuration) (boot : ℕ) (before : List Step) (number : ℕ) (entries : List Entry) → entries ≡ [] → rows_after config boot before number entries ≡ []
unfolding rows_after
rows_none config boot before number entries none = ap (rows_after config boot before number) none

-- the rows so far, and those of the accounts that are left
abbrev pub AreRows : (config : Configuration) (boot : ℕ) (before : List Step) (account : ℕ) (rows : List Row) → Type 0
AreRows config boot before account rows =
    rows ++ rows_after config boot before account (drop account config.accounts) ≡ rows_after config boot before 0 config.accounts

-- one row more
pub rows_more : (config : Configuration) (boot : ℕ) (before : List Step) (shards : List ShardSeen) (tables : List (List Row)) (account : ℕ) (row : Row) (rows after : List Row)
    → AreShardsAfter config boot before shards → tables ≡ map rows_seen shards → 0 < config.settings.shards → account < length config.accounts
    → row_among config.settings.shards tables account ≡ Some row → after ≡ rows ++ row ∷ []
    → AreRows config boot before account rows → AreRows config boot before (account + 1) after
rows_more config boot before shards tables account row rows after are same some less found more so_far =
    by (slice_get_cases config.accounts account).1
  where
    rest : List Row
    rest = rows_after config boot before (account + 1) (drop (account + 1) config.accounts)

    by : ((entry : Entry) × (account < length config.accounts) × (slice_get config.accounts account ≡ Some entry) × (get_or config.accounts account entry ≡ entry))
        ⊎ ((length config.accounts ≤ account) × (slice_get config.accounts account ≡ None)) → AreRows config boot before (account + 1) after
    by (inr past) = absurd (omega (arith, past.0, less))
    by (inl (entry, within, there, got)) =
        let here : row ≡ row_after config boot before account entry =
        some_is row (row_after config boot before account entry)
        (sym found ∙ ap (λ (all : List (List Row)). row_among config.settings.shards all account) same ∙ row_is config boot before shards account entry are some there) in
        let first : drop account config.accounts ≡ entry ∷ drop (account + 1) config.accounts =
        drop_more config.accounts account entry within ∙ ap (λ (x : Entry). x ∷ drop (account + 1) config.accounts) got in
        ap (λ (x : List Row). x ++ rest) more
        ∙ append_assoc rows (row ∷ []) rest
        ∙ ap (λ (x : Row). rows ++ x ∷ rest) here
        ∙ ap (λ (x : List Row). rows ++ x) (sym (rows_first config boot before account entry (drop (account + 1) config.accounts)))
        ∙ ap (λ (x : List Entry). rows ++ rows_after config boot before account x) (sym first)
        ∙ so_far

-- after the last account there are the rows of all
pub rows_done : (config : Configuration) (boot : ℕ) (before : List Step) (account : ℕ) (rows : List Row) → length config.accounts ≤ account
    → AreRows config boot before account rows → rows ≡ rows_after config boot before 0 config.accounts
rows_done config boot before account rows past so_far =
    sym (append-nil rows) ∙ ap (λ (x : List Row). rows ++ x) (sym (rows_none config boot before account (drop account config.accounts) (drop_all account config.accounts past))) ∙ so_far

-- there is a row of each account
pub row_there : (config : Configuration) (boot : ℕ) (before : List Step) (shards : List ShardSeen) (tables : List (List Row)) (account : ℕ)
    → AreShardsAfter config boot before shards → tables ≡ map rows_seen shards → 0 < config.settings.shards → account < length config.accounts
    → IsSome (row_among config.settings.shards tables account)
row_there config boot before shards tables account are same some less =
    by (slice_get_cases config.accounts account).1
  where
    by : ((entry : Entry) × (account < length config.accounts) × (slice_get config.accounts account ≡ Some entry) × (get_or config.accounts account entry ≡ entry))
        ⊎ ((length config.accounts ≤ account) × (slice_get config.accounts account ≡ None)) → IsSome (row_among config.settings.shards tables account)
    by (inr past) = absurd (omega (arith, past.0, less))
    by (inl (entry, within, there, got)) =
        subst IsSome
        (sym (ap (λ (all : List (List Row)). row_among config.settings.shards all account) same ∙ row_is config boot before shards account entry are some there))
        refl

-- ---- the rows of each shard, of a type that is seen with its items

-- the rows of one shard more
pub tables_more : {V : Type 0} (items : V → List Row) (shards : List ShardSeen) (index : ℕ) (seen : ShardSeen) (tables after : List V) (table : V)
    → index < length shards → seen ≡ get_or shards index seen → map items tables ≡ map rows_seen (take index shards)
    → items table ≡ rows_seen seen → after ≡ tables ++ table ∷ [] → map items after ≡ map rows_seen (take (index + 1) shards)
tables_more items shards index seen tables after table less is so_far rows more =
    ap (map items) more ∙ map-append items tables (table ∷ [])
    ∙ ap (λ (all : List (List Row)). all ++ items table ∷ []) so_far
    ∙ ap (λ (one : List Row). map rows_seen (take index shards) ++ one ∷ []) rows
    ∙ sym (map-append rows_seen (take index shards) (seen ∷ []))
    ∙ ap (λ (one : ShardSeen). map rows_seen (take index shards ++ one ∷ [])) is
    ∙ ap (map rows_seen) (sym (take_more shards index seen less))

-- after the last shard there are the rows of all
pub tables_all : {V : Type 0} (items : V → List Row) (shards : List ShardSeen) (index : ℕ) (tables : List V) → length shards ≤ index
    → map items tables ≡ map rows_seen (take index shards) → map items tables ≡ map rows_seen shards
tables_all items shards index tables past so_far = so_far ∙ ap (map rows_seen) (take_all index shards past)

-- the rows of an account's shard are there
pub table_there : {V : Type 0} (items : V → List Row) (shards account : ℕ) (tables : List V) → IsSome (row_among shards (map items tables) account)
    → account % shards < length tables
table_there items shards account tables some = by (cases_lt (account % shards) (length tables))
  where
    by : (account % shards < length tables) ⊎ (length tables ≤ account % shards) → account % shards < length tables
    by (inl less) = less
    by (inr past) =
        absurd (clash (subst IsSome
        (ap (λ (rows : Option (List Row)). row_at_index rows (account / shards))
        (slice_get_past (map items tables) (account % shards) (omega (arith, past, length-map tables items)))) some))

table_is : {V : Type 0} (items : V → List Row) (shards account : ℕ) (tables : List V) (table : V) → account % shards < length tables
    → table ≡ get_or tables (account % shards) table → row_among shards (map items tables) account ≡ slice_get (items table) (account / shards)
table_is items shards account tables table less is =
    ap (λ (rows : Option (List Row)). row_at_index rows (account / shards))
    (slice_get-map items tables (account % shards) ∙ ap (option_map items) (slice_get_read tables (length tables) (account % shards) table refl less is))

-- the row is among them
pub place_there : {V : Type 0} (items : V → List Row) (shards account : ℕ) (tables : List V) (table : V) → IsSome (row_among shards (map items tables) account)
    → table ≡ get_or tables (account % shards) table → account / shards < length (items table)
place_there items shards account tables table some is = by (cases_lt (account / shards) (length (items table)))
  where
    by : (account / shards < length (items table)) ⊎ (length (items table) ≤ account / shards) → account / shards < length (items table)
    by (inl less) = less
    by (inr past) =
        absurd (clash (subst IsSome
        (table_is items shards account tables table (table_there items shards account tables some) is ∙ slice_get_past (items table) (account / shards) past) some))

-- and is read there
pub row_read : {V : Type 0} (items : V → List Row) (shards account : ℕ) (tables : List V) (table : V) (row : Row) → IsSome (row_among shards (map items tables) account)
    → table ≡ get_or tables (account % shards) table → row ≡ get_or (items table) (account / shards) row
    → row_among shards (map items tables) account ≡ Some row
row_read items shards account tables table row some is read =
    table_is items shards account tables table (table_there items shards account tables some) is
    ∙ slice_get_read (items table) (length (items table)) (account / shards) row refl (place_there items shards account tables table some is) read

pub ruleset row_steps = (table_there, place_there, row_read)

-- ---- rows are of accounts that are there

rows_below : (config : Configuration) (boot : ℕ) (before : List Step) (number most : ℕ) (entries : List Entry) → number + length entries ≤ most
    → AllByRecursion (λ (row : Row). row.account < most) (rows_after config boot before number entries)
unfolding rows_after
rows_below config boot before number most [] few = tt
rows_below config boot before number most (entry ∷ entries) few =
    (omega (arith, few), rows_below config boot before (number + 1) most entries (omega (arith, few)))

pub rows_within : (config : Configuration) (boot : ℕ) (before : List Step) (rows : List Row) → rows ≡ rows_after config boot before 0 config.accounts
    → All (λ (row : Row). row.account < length config.accounts) rows
rows_within config boot before rows are =
    subst (All (λ (row : Row). row.account < length config.accounts)) (sym are)
    (All-from_recursion _ _ (rows_below config boot before 0 (length config.accounts) config.accounts (omega arith)))
