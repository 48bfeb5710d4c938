-- What `configuration_of` is, by the first check that fails.
use Rattle.std.proofs.Common.{◌≡◌, ◌<◌, ◌≤◌, true, false, ltb, List, [], ◌∷◌, map, Option, None, Some, Ok, Err, ◌∙◌, arith}
use Rattle.rsl_accounts.specs.declared.client.Client.{Client}
use Rattle.rsl_accounts.specs.declared.entry.Entry.{Entry}
use Rattle.rsl_accounts.specs.declared.fault.ConfigFault.{ConfigFault}
use Rattle.rsl_accounts.specs.declared.fault.ConfigFault.TheVariants.{TwiceClient, TwiceAccount, KeepTooLong}
use Rattle.rsl_accounts.specs.declared.settings.Settings.{Settings}
use Rattle.rsl_accounts.specs.Configuration.{Configuration, configuration_of, checks_of, fault_if, comes_twice, addresses, names, with_times}
use Rattle.rsl_accounts.specs.Walk.{walk_over, first_fault}
use Rattle.rsl_accounts.proofs.Faults.{first_fault-append, first_fault-stays}
use Rattle.std.proofs.lemmas.Bool.Decides.{nat_tests}

module _ (settings : Settings) (clients : List Client) (accounts : List Entry) where
  abbrev last_checks : List (Option ConfigFault)
  last_checks =
      fault_if (comes_twice (addresses clients)) TwiceClient
      ∷ fault_if (comes_twice (names accounts)) TwiceAccount
      ∷ fault_if (ltb settings.reserve settings.keep) KeepTooLong
      ∷ []

  abbrev pub made : Configuration
  made = record { settings = settings; clients = clients; accounts = map (with_times settings) accounts }

  fails : (fault : ConfigFault) → first_fault (checks_of settings clients accounts) ≡ Some fault → configuration_of settings clients accounts ≡ Err fault
  unfolding configuration_of
  fails fault first = rw first

  past : first_fault (walk_over settings clients accounts) ≡ None → first_fault (checks_of settings clients accounts) ≡ first_fault last_checks
  unfolding checks_of
  past passed = first_fault-append (walk_over settings clients accounts) last_checks passed

  pub fault_in_walk : (fault : ConfigFault) → first_fault (walk_over settings clients accounts) ≡ Some fault → configuration_of settings clients accounts ≡ Err fault
  unfolding checks_of
  fault_in_walk fault found = fails fault (first_fault-stays (walk_over settings clients accounts) last_checks fault found)

  pub twice_client : first_fault (walk_over settings clients accounts) ≡ None → comes_twice (addresses clients) ≡ true → configuration_of settings clients accounts ≡ Err TwiceClient
  twice_client passed twice = fails TwiceClient (past passed ∙ rw twice)

  pub twice_account : first_fault (walk_over settings clients accounts) ≡ None → comes_twice (addresses clients) ≡ false → comes_twice (names accounts) ≡ true → configuration_of settings clients accounts ≡ Err TwiceAccount
  twice_account passed differ twice = fails TwiceAccount (past passed ∙ rw (differ, twice))

  pub keep_too_long : first_fault (walk_over settings clients accounts) ≡ None → comes_twice (addresses clients) ≡ false → comes_twice (names accounts) ≡ false → settings.reserve < settings.keep → configuration_of settings clients accounts ≡ Err KeepTooLong
  keep_too_long passed differ differ_too long =
      let longer : ltb settings.reserve settings.keep ≡ true = grind (arith, nat_tests) in
      fails KeepTooLong (past passed ∙ rw (differ, differ_too, longer))

  pub no_fault : first_fault (walk_over settings clients accounts) ≡ None → comes_twice (addresses clients) ≡ false → comes_twice (names accounts) ≡ false → settings.keep ≤ settings.reserve → configuration_of settings clients accounts ≡ Ok made
  unfolding configuration_of
  no_fault passed differ differ_too short =
      let shorter : ltb settings.reserve settings.keep ≡ false = grind (arith, nat_tests) in
      let first : first_fault (checks_of settings clients accounts) ≡ None = past passed ∙ rw (differ, differ_too, shorter) in
      rw first
