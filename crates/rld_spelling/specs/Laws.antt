-- The premise of the laws of spellings.
use Rattle.std.specs.Prelude.{◌<◌, ◌^◌}
use Rattle.rld_spelling.specs.declared.moves.Counts.{Counts}

-- counts that are numbers of 32 bits, like those of the code
pub record FewEnough (counts : Counts) : Type 0 where
  pub accounts : counts.accounts < 2 ^ 32
  pub clients : counts.clients < 2 ^ 32
