-- The report that a replay prints: what each account holds after the steps that were made, by
-- looking back over the account's own events among them. No book is carried for that.
use Rattle.std.specs.Prelude.{ℕ, ◌+◌, List, [], ◌∷◌}
use Rattle.rsl_accounts.specs.Configuration.{Configuration}
use Rattle.rsl_accounts.specs.declared.entry.Entry.{Entry}
use Rattle.rsl_record.specs.Table.{table}
use Rattle.rsl_session.specs.BookOf.{book_of}
use Rattle.rsl_session.specs.Rule.{past_of}
use Rattle.rsl_shard.specs.Rows.{row_of}
use Rattle.rsl_shard.specs.declared.row.Row.{Row}
use Rattle.rsl_steps.specs.Own.{own}
use Rattle.rsl_steps.specs.declared.step.Step.{Step}

-- what an account holds after its own events among steps listed newest first
abbrev pub row_after : Configuration → (boot : ℕ) → (before : List Step) → (account : ℕ) → Entry
    → Row
row_after config boot before account entry =
    row_of account
    (record {
      rules = entry.rules;
      book = book_of entry.rules (past_of entry.rules (own config boot account before));
    })

-- the rows of entries, the first of which has the account number `number`
unfoldable pub rows_after : Configuration → (boot : ℕ) → (before : List Step) → (number : ℕ)
    → List Entry → List Row
rows_after config boot before number [] = []
rows_after config boot before number (entry ∷ entries) =
    row_after config boot before number entry
    ∷ rows_after config boot before (number + 1) entries

-- the report after steps: a row for each account, in the order of their numbers, over all shards
abbrev pub report_after : Configuration → (boot : ℕ) → (before : List Step) → List ℕ
report_after config boot before = table config (rows_after config boot before 0 config.accounts)
