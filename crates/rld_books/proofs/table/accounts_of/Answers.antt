use Rattle.std.proofs.Common.{ℕ, List, ap, ◌∙◌}
use Rattle.rld_spelling.specs.Tables.{account_row}
use Rattle.rld_books.proofs.Numbered.{one_more}
use Rattle.rld_books.proofs.table.accounts_of.Goals as goal

pub loop-number-preserved : goal.loop-number-preserved
loop-number-preserved c =
    c.in_ok-push.ensures.items
    ∙ one_more account_row c.args.config.now.accounts c.loop-number.number c.entry-entry.result.now c.loop-number.accounts.items _ c.entry-entry.ensures.entry c.loop-number.invariant
    (ap (λ (name : List ℕ). record { name = name; rules = c.entry-entry.result.now.rules }) (c.in_ok-from_slice.ensures.copy ∙ c.as_bytes.ensures.octets))
