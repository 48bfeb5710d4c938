-- What the server shows of itself.
use Rattle.std.specs.Prelude.{Bool, true, false}
use Rattle.rld_look.specs.declared.look.Look.{Look}
use Rattle.rld_look.specs.declared.look.Recording.{Recording}
use Rattle.rld_look.specs.declared.look.Recording.TheVariants.{Recorded, Failing}
use Rattle.rld_serve.specs.declared.holdings.Rest.{Rest}

-- what a look has besides the counts, what the store shows, and the build
abbrev pub rest_of : Look → Rest
rest_of look = record {
  start = look.start;
  moment = look.now;
  recording = look.recording;
  clock_behind = look.clock_behind;
  archive = look.archive;
  access_servers = look.access_servers;
  minutes = look.minutes;
  refusals = look.refusals;
  sockets = look.sockets;
}

-- what is said of a server's recording, by whether a batch was not recorded lately
abbrev pub recording_of : (is_failing : Bool) → Recording
recording_of true = Failing
recording_of false = Recorded
