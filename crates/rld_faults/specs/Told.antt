-- How many faults of a file are told.
use Rattle.std.specs.Prelude.{◌≤◌, vec_len}
use Rattle.rld_faults.specs.declared.faults.Faults.{Faults}

-- one at least, and twenty at most
abbrev pub IsTold : Faults → Type 0
IsTold faults = (1 ≤ vec_len faults.told) × (vec_len faults.told ≤ 20)
