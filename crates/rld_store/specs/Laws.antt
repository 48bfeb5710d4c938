-- Laws of generations.
use Rattle.std.specs.Prelude.{◌≡◌, ℕ, List}
use Rattle.rsl_accounts.specs.Configuration.{Configuration}
use Rattle.rsl_accounts.specs.Limits.{IsConfiguration}
use Rattle.rsl_shard.specs.declared.moved.Move.{Move}
use Rattle.rld_books.specs.Server.{ServerSeen, replay}
use Rattle.rld_store.specs.Generations.{HasHistory}

-- a file stands for one state: whatever histories it has, they make the same of the books with
-- which they opened
abbrev pub FilesHaveOneState : Type 0
FilesHaveOneState =
    (config : Configuration) (opening also : ServerSeen) (some other : List Move)
    (file : List ℕ) → IsConfiguration config
    → HasHistory config opening some file → HasHistory config also other file
    → replay opening some ≡ replay also other
