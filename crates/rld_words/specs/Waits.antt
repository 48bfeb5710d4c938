-- How long the answer of a running server is waited for.
use Rattle.std.specs.Prelude.{ℕ, Bool, true, false, Option, None, Some, if◌then◌else◌}
use Rattle.rld_words.specs.Arguments.{is_between}
use Rattle.rld_words.specs.declared.patience.Patience.{Patience}
use Rattle.rld_words.specs.declared.patience.Patience.TheVariants.{Endless, Seconds}
use Rattle.rld_words.specs.declared.topic.Topic.{Topic}
use Rattle.rld_words.specs.declared.topic.Topic.TheVariants as topics

-- where the words say nothing: as long as the server works on what takes long, which is to read the
-- accounts or to show them; a second for a check; and else five
abbrev pub patience_of : Topic → Patience
patience_of topics.Ready = Seconds 1
patience_of topics.Status = Endless
patience_of topics.Accounts = Endless
patience_of topics.Sessions = Endless
patience_of topics.Reload = Endless
patience_of _ = Seconds 5

-- a number of seconds, a day at most
abbrev pub patience_in : (secs : ℕ) → Option Patience
patience_in secs = if is_between 1 86400 secs then Some (Seconds secs) else None

-- whether the words may say it
abbrev pub takes_timeout : Patience → Bool
takes_timeout Endless = true
takes_timeout (Seconds secs) = false
