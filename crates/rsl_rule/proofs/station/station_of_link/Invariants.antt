use Rattle.std.proofs.Common.{◌≡◌, take}
use Rattle.std.specs.Option.{option_copied}
use Rattle.rsl_session.specs.Past.{looking_back}
use Rattle.rsl_session.specs.Station.{station_at}
use Rattle.rsl_rule.proofs.station.station_of_link.Given as goal

abbrev pub invariant-loop-at : goal.invariant-loop-at
invariant-loop-at l = option_copied l.station ≡ station_at l.link (looking_back (take l.at l.history))
