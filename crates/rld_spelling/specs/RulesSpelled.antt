-- The rules of an account as octets: each number within the limits of an account file.
use Rattle.std.specs.Prelude.{ℕ, List, ◌++◌, Bool, nat_le}
use Rattle.rld_spelling.specs.declared.fault.Cause.TheVariants.{OutOfRange, KeepTooLong}
use Rattle.rld_spelling.specs.Field.{Field, Reading, both, seen_as, checked}
use Rattle.rld_spelling.specs.Numbers.{number_octets, between}
use Rattle.rsl_accounts.specs.declared.rules.Rules.{Rules}
use Rattle.rsl_accounts.specs.Limits.{RulesFit}

abbrev pub RulesParts : Type 0
RulesParts = ℕ × (ℕ × (ℕ × (ℕ × (ℕ × (ℕ × ℕ)))))

abbrev pub rules_of : RulesParts → Rules
rules_of parts = record {
  places = parts.0;
  ports = parts.1.0;
  reserve = parts.1.1.0;
  live = parts.1.1.1.0;
  grace = parts.1.1.1.1.0;
  closed = parts.1.1.1.1.1.0;
  keep = parts.1.1.1.1.1.1;
}

abbrev pub rules_parts : Rules → RulesParts
rules_parts rules =
    (rules.places, (rules.ports, (rules.reserve, (rules.live, (rules.grace, (rules.closed, rules.keep))))))

unfoldable pub times_octets : Rules → List ℕ
times_octets rules =
    number_octets rules.reserve ++ (number_octets rules.live ++ (number_octets rules.grace
    ++ (number_octets rules.closed ++ number_octets rules.keep)))

unfoldable pub rules_octets : Rules → List ℕ
rules_octets rules =
    number_octets rules.places ++ (number_octets rules.ports ++ times_octets rules)

-- a number of seconds, at most a day
abbrev pub time : Field ℕ
time = between OutOfRange 1 86400

-- each number within its limits
abbrev pub rules_as : Field Rules
rules_as =
    seen_as rules_of rules_parts
    (both (between OutOfRange 0 64) (both (between OutOfRange 1 16)
    (both time (both time (both time (both time time))))))

-- an answer is kept no longer than a place is reserved
abbrev pub keeps : Rules → Bool
keeps rules = nat_le rules.keep rules.reserve

unfoldable pub rules_at : List ℕ → Reading Rules
rules_at octets = (checked KeepTooLong keeps rules_as).read octets

-- the rules that an account can have, and no others
abbrev pub rules_field : Field Rules
rules_field = record { spell = rules_octets; read = rules_at; Fits = RulesFit }
