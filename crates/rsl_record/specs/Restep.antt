-- What the books of a shard are after lines, and what the session rule decides after them.
--
-- The rule looks back over the own events of an account in all lines before; no book is used for
-- that.
use Rattle.std.specs.Prelude.{List, slice_get}
use Rattle.std.specs.Option.{option_map_or}
use Rattle.rsl_accounts.specs.Configuration.{Configuration}
use Rattle.rsl_book.specs.RuledBook.{RuledBook}
use Rattle.rsl_event.specs.declared.event.Decision.{Decision}
use Rattle.rsl_event.specs.declared.event.Decision.TheVariants.{Done}
use Rattle.rsl_session.specs.Rule.{decision_of, outcome_of, past_of}
use Rattle.rsl_shard.specs.Moves.{own_in}
use Rattle.rsl_shard.specs.Restep.{new_books, restep}
use Rattle.rsl_shard.specs.Setup.{setup_of}
use Rattle.rsl_shard.specs.declared.line.Line.{Line}
use Rattle.rsl_shard.specs.declared.moved.Move.{Move}
use Rattle.rsl_shard.specs.declared.moved.Move.TheVariants.{Own}
use Rattle.std.specs.Prelude.{ℕ}

-- the books of a shard after lines, beginning with new ones
unfoldable pub books_by_restep : Configuration → (shard : ℕ) → List Line → List RuledBook
books_by_restep config shard lines = restep (setup_of config shard) (new_books config shard) lines

-- the decision of the rule on a move after some lines, which is `Done` for a move of no account
abbrev pub rule_decision : Configuration → (before : List Line) → Move → Decision
rule_decision config before (Own account event) =
    option_map_or
    (λ entry. decision_of
    (outcome_of entry.rules (past_of entry.rules (own_in account before)) event))
    (slice_get config.accounts account) Done
rule_decision config before _ = Done
