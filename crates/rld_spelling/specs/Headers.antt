-- The header of a generation as octets. The versions of the format and of the session rule come
-- first: a header of other versions is refused by the first of them, and nothing after it is read.
use Rattle.std.specs.Prelude.{ℕ, List, ◌++◌}
use Rattle.rld_spelling.specs.declared.fault.Cause.TheVariants.{OtherFormat, OtherRule}
use Rattle.rld_spelling.specs.Field.{Field, Reading, both, seen_as}
use Rattle.rld_spelling.specs.Numbers.{number, number_octets, exactly}
use Rattle.rld_spelling.specs.declared.header.Header.{Header}
use Rattle.rld_spelling.specs.declared.header.TheConstants.{FORMAT_VERSION}
use Rattle.rsl_rule.specs.declared.version.TheConstants.{SESSION_RULE_VERSION}

-- ---- what follows the version of the format

abbrev pub RestParts : Type 0
RestParts = Unit {0} × (ℕ × (ℕ × (ℕ × ℕ)))

abbrev pub rest_of : RestParts → Header
rest_of parts = record {
  generation = parts.1.0;
  table = parts.1.1.0;
  boot = parts.1.1.1.0;
  lines = parts.1.1.1.1;
}

abbrev pub rest_parts : Header → RestParts
rest_parts header = (tt, (header.generation, (header.table, (header.boot, header.lines))))

unfoldable pub rest_octets : Header → List ℕ
rest_octets header =
    number_octets SESSION_RULE_VERSION
    ++ (number_octets header.generation
    ++ (number_octets header.table ++ (number_octets header.boot ++ number_octets header.lines)))

abbrev pub rest_as : Field Header
rest_as =
    seen_as rest_of rest_parts
    (both (exactly OtherRule SESSION_RULE_VERSION)
    (both number (both number (both number number))))

unfoldable pub rest_at : List ℕ → Reading Header
rest_at octets = rest_as.read octets

abbrev pub rest_field : Field Header
rest_field = record { spell = rest_octets; read = rest_at; Fits = rest_as.Fits }

-- ---- the whole header

abbrev pub HeaderParts : Type 0
HeaderParts = Unit {0} × Header

abbrev pub header_of : HeaderParts → Header
header_of parts = parts.1

abbrev pub header_parts : Header → HeaderParts
header_parts header = (tt, header)

unfoldable pub header_octets : Header → List ℕ
header_octets header = number_octets FORMAT_VERSION ++ rest_octets header

abbrev pub header_as : Field Header
header_as = seen_as header_of header_parts (both (exactly OtherFormat FORMAT_VERSION) rest_field)

unfoldable pub header_at : List ℕ → Reading Header
header_at octets = header_as.read octets

abbrev pub header_field : Field Header
header_field = record { spell = header_octets; read = header_at; Fits = header_as.Fits }
