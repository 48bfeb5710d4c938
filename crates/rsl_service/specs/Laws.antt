-- Laws of closed services, each the contract of a function of `laws`.
use Rattle.std.specs.Prelude.{◌≡◌, ℕ, ◌<◌, List, All, slice_get, Some}
use Rattle.rsl_accounts.specs.Configuration.{Configuration}
use Rattle.rsl_accounts.specs.declared.entry.Entry.{Entry}
use Rattle.rsl_record.specs.Segments.{shard_lines}
use Rattle.rsl_record.specs.declared.receipt.Receipt.{Receipt}
use Rattle.rsl_shard.specs.Journal.{IsJournal}
use Rattle.rsl_shard.specs.Moves.{IsOfShard}
use Rattle.rsl_shard.specs.Setup.{setup_of}
use Rattle.rsl_shard.specs.declared.segment.Segment.{Segment}
use Rattle.rsl_steps.specs.Laws.{ObeysTheRule}
use Rattle.rsl_service.specs.Closed.{IsClosed}

-- a segment as a shard hands it out: the shard takes each move in it, and each decision is that of
-- its books
abbrev pub IsHandedOut : Configuration → Segment → Type 0
IsHandedOut config segment =
    IsJournal (setup_of config segment.shard) segment.opening.items segment.lines.items

-- The journals of a closed service obey the session rule, if the given segments are as shards hand
-- them out: for each account of a shard, each line of its own has the decision that the rule finds
-- by looking back over its own events among the lines before, and its book and its places are the
-- rule's.
abbrev pub ClosedJournalsObeyTheRule : Type 0
ClosedJournalsObeyTheRule =
    (config : Configuration) (passes : List (List Receipt)) (given closed : List Segment)
    (shard account : ℕ) (entry : Entry)
    → IsClosed config passes given closed → All (IsHandedOut config) given
    → shard < config.settings.shards → IsOfShard (setup_of config shard) account
    → slice_get config.accounts account ≡ Some entry
    → ObeysTheRule config shard account entry.rules (shard_lines shard closed)
