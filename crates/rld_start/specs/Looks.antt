-- What a log is seen to be.
use Rattle.std.specs.Prelude.{◌≡◌, ℕ, List}
use Rattle.rld_folder.specs.declared.name.Generation.{Generation}
use Rattle.rld_start.specs.Firsts.{IsBegun, IsUnspoilt}
use Rattle.rld_start.specs.declared.look.Seen.{Seen}
use Rattle.rld_start.specs.declared.look.Seen.TheVariants.{Begun, Unbegun}

-- Who says that a log is begun has its frames, two of which are at the front, and behind which none with a
-- spoilt length is; and who says that a log is not begun says it of a generation.
abbrev pub IsSeenOf : Generation → Seen → Type 0
IsSeenOf generation (Begun frames) = IsBegun frames.octets.items × IsUnspoilt frames.octets.items
IsSeenOf generation (Unbegun unbegun) = unbegun.generation ≡ generation

-- what is seen of a log is what its octets have: two frames at the front, or not; and a torn end at most
abbrev pub IsSeenIn : (octets : List ℕ) → Seen → Type 0
IsSeenIn octets (Begun frames) = IsBegun octets × IsUnspoilt octets × (frames.octets.items ≡ octets)
IsSeenIn octets (Unbegun unbegun) = (IsBegun octets → ⊥) × IsUnspoilt octets
