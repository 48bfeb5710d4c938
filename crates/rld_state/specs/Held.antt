-- Whether books hold a session.
use Rattle.std.specs.Prelude.{Bool, false, List}
use Rattle.std.specs.Option.{option_map_or}
use Rattle.rld_books.specs.Server.{ServerSeen}
use Rattle.rld_books.specs.Saved.{links_in}
use Rattle.rld_control.specs.Stops.{is_held}
use Rattle.rld_control.specs.declared.stop.Stop.{Stop}

-- whether a link of the Stop's account is bound to the session that it ends
abbrev pub is_held_in : ServerSeen → Stop → Bool
is_held_in books stop = option_map_or (is_held stop) (links_in books stop.account) false

-- books that hold no such link, and the Stop
pub record NotHeldSeen : Type 0 where
  pub books : ServerSeen
  pub stop : Stop
