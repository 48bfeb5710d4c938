-- What is kept of how the requests of asks ended.
use Rattle.std.specs.Prelude.{◌≡◌, Bool, true, false, List, [], ◌∷◌, ◌++◌, map}
use Rattle.rld_turn.specs.Told.{Told}
use Rattle.rld_turn.specs.declared.watch.Ended.{Ended}
use Rattle.rld_current.specs.declared.ask_watch.Noted.{Noted}

-- how a request ended, and what was read of it
abbrev pub noted_of : Ended → Noted
noted_of ended = record { end = ended.end; detail = ended.detail }

abbrev pub noted_in : Told → Noted
noted_in told = record { end = told.end; detail = told.detail }

-- what was kept, where nothing was lost
abbrev pub noted_if : (is_whole : Bool) → List Noted → List Noted
noted_if true noted = noted
noted_if false noted = []

-- this was kept too, after what was there; or something was lost, now or before
pub record HasKept (one : Noted) (was_whole is_whole : Bool) (old new : List Noted) : Type 0 where
  pub more : is_whole ≡ true → new ≡ old ++ one ∷ []
  pub whole : is_whole ≡ true → was_whole ≡ true

-- what was learned was kept, unless something was lost
abbrev pub HasNoted : (is_whole : Bool) → List Noted → List Told → Type 0
HasNoted is_whole noted told = is_whole ≡ true → noted ≡ map noted_in told
