-- The priority of a line that an operator reads on standard error, except refusals.
use Rattle.rld_look.specs.declared.priority.Priority.{Priority}
use Rattle.rld_look.specs.declared.priority.Priority.TheVariants as priorities
use Rattle.rld_state.specs.declared.clock.ClockNews.TheVariants.{Behind, CaughtUp}
use Rattle.rld_state.specs.declared.roll_fault.Notice.TheVariants.{NotBegun, Begun, NotPutAway, PutAway}
use Rattle.rld_state.specs.declared.told.Told.{Told}
use Rattle.rld_state.specs.declared.told.Told.TheVariants.{Recording, Clock, Generations, Accounts, Asks, Room, Stopped}
use Rattle.rld_state.specs.declared.trouble.News.TheVariants.{Began, Over}

-- an error where nothing is answered, a warning where something fails beside that, the clock went back or the archive
-- lost logs, and else a notice
abbrev pub priority_of : Told → Priority
priority_of (Recording Began) = priorities.Error
priority_of (Recording Over) = priorities.Notice
priority_of (Clock (Behind seconds)) = priorities.Warning
priority_of (Clock CaughtUp) = priorities.Notice
priority_of (Generations (NotBegun fault)) = priorities.Warning
priority_of (Generations Begun) = priorities.Notice
priority_of (Generations (NotPutAway fault)) = priorities.Warning
priority_of (Generations PutAway) = priorities.Notice
priority_of (Accounts reloaded) = priorities.Notice
priority_of (Asks token other) = priorities.Warning
priority_of (Room made) = priorities.Warning
priority_of (Stopped standing) = priorities.Notice
