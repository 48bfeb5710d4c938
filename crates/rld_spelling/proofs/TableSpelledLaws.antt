-- A table is read as it is spelled.
use Rattle.std.proofs.Common.{◌≡◌, ℕ, ◌≤◌, true, refl, arith}
use Rattle.std.proofs.lemmas.Bool.{leb-true, le-leb}
use Rattle.rld_spelling.specs.declared.fault.Cause.TheVariants.{OutOfRange, KeepTooLong, BadName}
use Rattle.rld_spelling.specs.Field.{IsRead, fixed, short}
use Rattle.rld_spelling.specs.Numbers.{between}
use Rattle.rld_spelling.proofs.Callers.{short_read, between_read, fixed_read, both_read, seen_as_read, listed_read, checked_read}
use Rattle.rsl_accounts.specs.declared.rules.Rules.{Rules}
use Rattle.rsl_accounts.specs.Field.{is_name}
use Rattle.rsl_accounts.specs.Limits.{IsTime, RulesFit}
use Rattle.rld_spelling.specs.RulesSpelled.{rules_of, rules_parts, rules_as, rules_at, rules_octets, times_octets, rules_field, time, keeps}
use Rattle.rld_spelling.specs.TableSpelled.{user_name_at, user_name_field, AccountFits, TableFits, account_of, account_parts, account_as, account_at, account_octets, account_field, accounts_at, accounts_octets, accounts_field}
use Rattle.rld_spelling.specs.TableSpelled.{ClientFits, client_of, client_parts, client_as, client_at, client_octets, client_field, clients_at, clients_octets, clients_field, made_table, table_parts, table_as, table_at, table_octets, table_field}

-- ---- the rules of an account

time_of : (n : ℕ) → (1 ≤ n) × (n ≤ 86400) → IsTime n
time_of n sides = record { some = sides.0; within_a_day = sides.1 }

time_sides : (n : ℕ) → IsTime n → (1 ≤ n) × (n ≤ 86400)
time_sides n is = (is.some, is.within_a_day)

rules_fit : (rules : Rules) → rules_as.Fits rules → keeps rules ≡ true → RulesFit rules
rules_fit rules fits keep = record {
  places = fits.0.1;
  a_port = fits.1.0.0;
  ports = fits.1.0.1;
  reserve = time_of rules.reserve fits.1.1.0;
  live = time_of rules.live fits.1.1.1.0;
  grace = time_of rules.grace fits.1.1.1.1.0;
  closed = time_of rules.closed fits.1.1.1.1.1.0;
  keep = time_of rules.keep fits.1.1.1.1.1.1;
  keep_within_reserve = leb-true rules.keep rules.reserve keep;
}

numbers_fit : (rules : Rules) → RulesFit rules → rules_as.Fits rules
numbers_fit rules fits = (
  (omega arith, fits.places),
  (
    (fits.a_port, fits.ports),
    (
      time_sides rules.reserve fits.reserve,
      (
        time_sides rules.live fits.live,
        (time_sides rules.grace fits.grace, (time_sides rules.closed fits.closed, time_sides rules.keep fits.keep)),
      ),
    ),
  ),
)

time_read : IsRead time
time_read = between_read OutOfRange 1 86400 (omega arith)

numbers_read : IsRead rules_as
unfolding times_octets rules_octets
numbers_read =
    seen_as_read rules_of rules_parts _ (λ x. refl) (λ y. refl)
    (both_read _ _ (between_read OutOfRange 0 64 (omega arith)) (both_read _ _ (between_read OutOfRange 1 16 (omega arith))
    (both_read _ _ time_read (both_read _ _ time_read (both_read _ _ time_read (both_read _ _ time_read time_read))))))

rules_read : IsRead rules_field
unfolding rules_at rules_octets times_octets
rules_read =
    let is = checked_read KeepTooLong keeps rules_as numbers_read in
    record {
      spelled = λ octets x rest are e.
          let s = is.spelled octets x rest are e in
          (s.0, rules_fit x s.1.0 s.1.1);
      again = λ x rest fits. is.again x rest (numbers_fit x fits, le-leb x.keep x.reserve fits.keep_within_reserve);
    }

-- ---- accounts and clients

user_name_read : IsRead user_name_field
unfolding user_name_at
user_name_read =
    let is = checked_read BadName is_name short short_read in
    record { spelled = is.spelled; again = is.again }

account_read : IsRead account_field
unfolding account_at account_octets AccountFits
account_read =
    let is : IsRead account_as = seen_as_read account_of account_parts _ (λ x. refl) (λ y. refl) (both_read _ _ user_name_read rules_read) in
    record { spelled = is.spelled; again = is.again }

accounts_read : IsRead accounts_field
unfolding accounts_at accounts_octets
accounts_read =
    let is = listed_read (between OutOfRange 1 16384) account_field (between_read OutOfRange 1 16384 (omega arith)) account_read in
    record { spelled = is.spelled; again = is.again }

client_read : IsRead client_field
unfolding client_at client_octets ClientFits
client_read =
    let is : IsRead client_as = seen_as_read client_of client_parts (fixed 4) (λ x. refl) (λ y. refl) (fixed_read 4) in
    record { spelled = is.spelled; again = is.again }

clients_read : IsRead clients_field
unfolding clients_at clients_octets
clients_read =
    let is = listed_read (between OutOfRange 1 256) client_field (between_read OutOfRange 1 256 (omega arith)) client_read in
    record { spelled = is.spelled; again = is.again }

-- ---- the whole table

pub table_read : IsRead table_field
unfolding table_at table_octets TableFits
table_read =
    let is : IsRead table_as = seen_as_read made_table table_parts _ (λ x. refl) (λ y. refl) (both_read _ _ accounts_read clients_read) in
    record { spelled = is.spelled; again = is.again }
