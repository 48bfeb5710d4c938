-- When the segments of a shard join.
--
-- The first begins with the new books of the shard, and no line before it. Each later one begins
-- where the one before it ends: with the books after its lines, and after as many lines as all
-- earlier ones have. The shard takes each of their moves.
use Rattle.std.specs.Prelude.{◌≡◌, ℕ, ◌+◌, ◌≤◌, ◌==◌, ⊤, List, [], ◌∷◌, length, filter, All}
use Rattle.std.specs.List.{flat_map}
use Rattle.rsl_accounts.specs.Configuration.{Configuration}
use Rattle.rsl_book.specs.RuledBook.{RuledBook}
use Rattle.rsl_shard.specs.Moves.{IsTaken}
use Rattle.rsl_shard.specs.Restep.{new_books, restep}
use Rattle.rsl_shard.specs.Setup.{Setup, setup_of}
use Rattle.rsl_shard.specs.declared.line.Line.{Line}
use Rattle.rsl_shard.specs.declared.segment.Segment.{Segment}

-- the segments of a shard, in the order given
abbrev pub of_shard : (shard : ℕ) → List Segment → List Segment
of_shard shard segments = filter (λ (segment : Segment). segment.shard == shard) segments

-- all lines of some segments, in their order
abbrev pub lines_of : List Segment → List Line
lines_of segments = flat_map (λ (segment : Segment). segment.lines.items) segments

-- all lines of a shard, in the order of its segments
abbrev pub shard_lines : (shard : ℕ) → List Segment → List Line
shard_lines shard segments = lines_of (of_shard shard segments)

-- The segment begins with these books, after `lines` lines, and the shard takes its moves.
pub record GoesOn (setup : Setup) (lines : ℕ) (books : List RuledBook) (segment : Segment) : Type 0
  where
    pub first : segment.first ≡ lines
    pub opening : segment.opening.items ≡ books
    pub taken : All (λ line. IsTaken setup line.moved) segment.lines.items

-- segments of a shard go on from these books, after `lines` lines, one after another
unfoldable pub AllGoOn : Setup → (lines : ℕ) → (books : List RuledBook) → List Segment → Type 0
AllGoOn setup lines books [] = ⊤
AllGoOn setup lines books (segment ∷ segments) =
    GoesOn setup lines books segment
    × AllGoOn setup (lines + length segment.lines.items)
    (restep setup books segment.lines.items) segments

-- The segments of a shard join. A number that is not that of a shard has none.
pub record HasJoined (config : Configuration) (segments : List Segment) (shard : ℕ) : Type 0 where
  pub there : config.settings.shards ≤ shard → of_shard shard segments ≡ []
  pub joined : AllGoOn (setup_of config shard) 0 (new_books config shard)
      (of_shard shard segments)
