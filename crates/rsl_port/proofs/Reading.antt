-- What a read of a socket that failed is to a port.
use Rattle.std.proofs.Common.{◌≡◌, ℕ, Err, subst}
use Rattle.std.specs.IoError.{error_kind}
use Rattle.std.specs.declared.io.Error.{Error}
use Rattle.std.specs.declared.io.ErrorKind.{ErrorKind}
use Rattle.rsl_event.specs.declared.event.Source.{Source}
use Rattle.rsl_port.specs.Told.{Received}
use Rattle.rsl_port.specs.Socket.{IsFailed, IsReception, is_passing}

-- by its kind
pub failed_by : (room : ℕ) (error : Error) (kind : ErrorKind) (received : Received Source)
    → kind ≡ error_kind error → IsFailed (is_passing kind) received
    → IsReception room (Err error) received
failed_by room error kind received is failed =
    subst (λ kind. IsFailed (is_passing kind) received) is failed

pub ruleset reading = (failed_by)
