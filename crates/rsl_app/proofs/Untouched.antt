-- Streams that nobody reads or writes.
use Rattle.std.proofs.Common.{ℕ, List, Option, Some, None, refl}
use Rattle.std.specs.Io.KnownBytes.{Keeps}

-- what nobody touches stays as it was
pub untouched : (held : Option (List ℕ)) → Keeps held held
untouched None = tt
untouched (Some xs) = refl
