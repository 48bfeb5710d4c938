-- What comes of a session that is to be freed, or of all those of an access server.
use Rattle.std.specs.Prelude.{◌≡◌, ◌⊎◌, ⊤, ℕ, Bool, true, false, List, [], ◌∷◌, ◌++◌, Option, Some, None, codes}
use Rattle.rsl_accounts.specs.Configuration.{Configuration}
use Rattle.rsl_shard.specs.declared.moved.Move.{Move}
use Rattle.rld_books.specs.Server.{ServerSeen, replay}
use Rattle.rld_control.specs.Offs.{IsOffOf, sweep_of}
use Rattle.rld_control.specs.Stops.{IsStopOf, move_of}
use Rattle.rld_control.specs.declared.named.NamedServer.{NamedServer}
use Rattle.rld_control.specs.declared.named.NamedSession.{NamedSession}
use Rattle.rld_control.specs.declared.off.Off.{Off}
use Rattle.rld_control.specs.declared.stop.Stop.{Stop}
use Rattle.rld_look.specs.Totals.{plus}
use Rattle.rld_state.specs.Held.{is_held_in}
use Rattle.rld_state.specs.declared.freeing.Freed.{Freed}
use Rattle.rld_state.specs.declared.freeing.Freed.TheVariants.{Done, NotHeld, Unrecorded}

-- A session is freed only where the books held a link that is bound to it, and what was recorded
-- after them is its Stop and nothing else. It is not held only where they held none; and what says
-- so is of these books, and of this Stop.
abbrev pub IsFreedBy : ServerSeen → Stop → (moment : ℕ) → Freed → Type 0
IsFreedBy books stop moment (Done recorded) =
    (is_held_in books stop ≡ true)
    × ((recorded.before ≡ books) × (recorded.batch ≡ move_of stop moment ∷ []))
IsFreedBy books stop moment (NotHeld unheld) =
    (is_held_in books stop ≡ false) × ((unheld.books ≡ books) × (unheld.stop ≡ stop))
IsFreedBy books stop moment Unrecorded = is_held_in books stop ≡ true

-- by the Stop of the session that was named
pub record IsFreed (config : Configuration) (books : ServerSeen) (named : NamedSession)
    (moment : ℕ) (freed : Freed) : Type 0 where
  pub stop : Stop
  pub named_is : IsStopOf config named stop
  pub freed_is : IsFreedBy books stop moment freed

-- Those of an access server are freed only where what was recorded after the books is its restart,
-- and nothing else.
abbrev pub AreFreedBy : ServerSeen → Off → (moment : ℕ) → Freed → Type 0
AreFreedBy books off moment (Done recorded) =
    (recorded.before ≡ books) × (recorded.batch ≡ sweep_of off moment ∷ [])
AreFreedBy books off moment (NotHeld unheld) = ⊥
AreFreedBy books off moment Unrecorded = ⊤

-- by the Accounting-Off of the access server that was named
pub record AreFreed (config : Configuration) (books : ServerSeen) (named : NamedServer)
    (moment : ℕ) (freed : Freed) : Type 0 where
  pub off : Off
  pub named_is : IsOffOf config named off
  pub freed_are : AreFreedBy books off moment freed

-- the books after it: they have made what was recorded
abbrev pub books_after_it : ServerSeen → Freed → ServerSeen
books_after_it books (Done recorded) = replay books recorded.batch
books_after_it books (NotHeld unheld) = books
books_after_it books Unrecorded = books

-- the history after it: what was recorded is its end
abbrev pub history_after_it : List Move → Freed → List Move
history_after_it history (Done recorded) = history ++ recorded.batch
history_after_it history (NotHeld unheld) = history
history_after_it history Unrecorded = history

-- how many moves a generation of `moves` moves has after it
abbrev pub moves_after_it : (moves : ℕ) → Freed → ℕ
moves_after_it moves (Done recorded) = plus moves 1
moves_after_it moves (NotHeld unheld) = moves
moves_after_it moves Unrecorded = moves

-- a state stays as it was where nothing was to be recorded
abbrev pub StaysUnheld : {S : Type 0} → (old new : S) → Freed → Type 0
StaysUnheld old new (Done recorded) = ⊤
StaysUnheld old new (NotHeld unheld) = new ≡ old
StaysUnheld old new Unrecorded = ⊤

-- what a state has noted of its records: whether a batch was not recorded, and whether nothing more can be
pub record Noted : Type 0 where
  pub failed : Bool
  pub ended : Bool

-- Where the record failed that is noted: another batch may be recorded, or nothing more can be. What was noted
-- before stays so, and nothing else is noted.
abbrev pub IsNoted : (old new : Noted) → Freed → Type 0
IsNoted old new (Done recorded) = new ≡ old
IsNoted old new (NotHeld unheld) = new ≡ old
IsNoted old new Unrecorded =
    (new ≡ record { failed = true; ended = old.ended }) ⊎ (new ≡ record { failed = old.failed; ended = true })

-- what an operator is told of it; nothing where it was not recorded, since then it is not done
abbrev pub octets_of_freed : Freed → Option (List ℕ)
octets_of_freed (Done recorded) = Some (codes "freed\nok\n")
octets_of_freed (NotHeld unheld) = Some (codes "no such session\nok\n")
octets_of_freed Unrecorded = None

-- a session was freed so, by some books of some accounts at some moment
pub record WasFreed (named : NamedSession) (freed : Freed) : Type 0 where
  pub config : Configuration
  pub books : ServerSeen
  pub moment : ℕ
  pub freed_is : IsFreed config books named moment freed

-- those of an access server were freed so
pub record WereFreed (named : NamedServer) (freed : Freed) : Type 0 where
  pub config : Configuration
  pub books : ServerSeen
  pub moment : ℕ
  pub freed_are : AreFreed config books named moment freed

-- what an operator is told of what he has named: what came of it, as these octets
pub record TellsFreed (Was : Freed → Type 0) (octets : List ℕ) : Type 0 where
  pub freed : Freed
  pub was : Was freed
  pub told : Some octets ≡ octets_of_freed freed
