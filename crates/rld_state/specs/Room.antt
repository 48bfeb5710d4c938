-- Whether the disk had no room for a generation.
use Rattle.std.specs.Prelude.{Bool, false, Result, Ok, Err}
use Rattle.rld_start.specs.Room.{is_full_for, is_full_for_log}
use Rattle.rld_state.specs.declared.reload_result.ReloadFault.{ReloadFault}
use Rattle.rld_state.specs.declared.reload_result.ReloadFault.TheVariants as reloads
use Rattle.rld_state.specs.declared.roll_fault.RollFault.{RollFault}
use Rattle.rld_state.specs.declared.roll_fault.RollFault.TheVariants as rolls
use Rattle.rld_store.specs.declared.fault.StoreFault.{StoreFault}
use Rattle.rld_store.specs.declared.fault.StoreFault.TheVariants as stores

abbrev pub is_full_for_store : StoreFault → Bool
is_full_for_store (stores.Log fault) = is_full_for_log fault
is_full_for_store _ = false

abbrev pub is_full_for_roll : RollFault → Bool
is_full_for_roll (rolls.Start fault) = is_full_for fault
is_full_for_roll (rolls.Store fault) = is_full_for_store fault
is_full_for_roll rolls.Former = false
is_full_for_roll rolls.Ended = false

abbrev pub is_full_for_reload : ReloadFault → Bool
is_full_for_reload (reloads.NotBegun fault) = is_full_for_roll fault
is_full_for_reload reloads.Changed = false
is_full_for_reload reloads.NoMemory = false
