-- Moves as octets: a tag, the moment, and what the move is of. An account and a client are numbers
-- below given counts.
--
-- The tags 1 to 6 are those of format 1. Those after them are of format 2: the same fields, and
-- then what format 1 did not know. A move that has none of it keeps its first tag.
use Rattle.std.specs.Prelude.{ℕ, ◌^◌, ◌-◌, List, [], ◌∷◌, ◌++◌, Option, Some, None, IfSome, nat_eq, if◌then◌else◌}
use Rattle.rld_spelling.specs.declared.fault.Cause.TheVariants.{CutShort, NoAccount, OutOfRange, UnknownTag}
use Rattle.rld_spelling.specs.Field.{Field, Reading, fault_at, made_of, both, optional, option_spelled, short}
use Rattle.rld_spelling.specs.Lists.{list_of}
use Rattle.rld_spelling.specs.Numbers.{number, number_octets, below, between}
use Rattle.rsl_event.specs.declared.event.Act.{Act}
use Rattle.rsl_event.specs.declared.event.Act.TheVariants as acts
use Rattle.rsl_event.specs.declared.event.Key.{Key}
use Rattle.rsl_event.specs.declared.meaning.Note.{Note}
use Rattle.rsl_event.specs.declared.nas.Nas.{Nas}
use Rattle.rsl_shard.specs.declared.moved.Move.{Move}
use Rattle.rsl_shard.specs.declared.moved.Move.TheVariants.{Own, Sweep, Tick, Stray}
use Rattle.rld_spelling.specs.declared.moves.Counts.{Counts}
use Rattle.rld_spelling.specs.Requests.{key_field, key_octets}
use Rattle.rld_spelling.specs.Servers.{nas_field, nas_octets}

-- ---- how moves are spelled

abbrev pub ask_octets : (account moment : ℕ) → Key → Nas → List ℕ
ask_octets account moment key nas =
    number_octets moment ++ (number_octets account ++ (key_octets key ++ nas_octets nas))

abbrev pub alive_octets : (account moment : ℕ) → Nas → (session : List ℕ)
    → (bundle : Option (List ℕ)) → (class : Option ℕ) → List ℕ
alive_octets account moment nas session bundle class =
    number_octets moment ++ (number_octets account ++ (nas_octets nas ++ (short.spell session
    ++ (option_spelled short bundle ++ option_spelled number class))))

abbrev pub own_octets : (account moment : ℕ) → Act → List ℕ
own_octets account moment (acts.Ask key nas None) = 1 ∷ ask_octets account moment key nas
own_octets account moment (acts.Ask key nas (Some station)) =
    7 ∷ (ask_octets account moment key nas ++ short.spell station)
own_octets account moment (acts.Alive nas session bundle class None) =
    2 ∷ alive_octets account moment nas session bundle class
own_octets account moment (acts.Alive nas session bundle class (Some station)) =
    8 ∷ (alive_octets account moment nas session bundle class ++ short.spell station)
own_octets account moment (acts.Stop nas session) =
    3 ∷ (number_octets moment ++ (number_octets account ++ (nas_octets nas ++ short.spell session)))
-- not own moves: these have no spelling
own_octets account moment (acts.Sweep nas delay) = []
own_octets account moment acts.Tick = []

-- a sweep that was told with no delay, and one that was told late
abbrev pub sweep_octets : (moment : ℕ) → Nas → (delay : ℕ) → List ℕ
sweep_octets moment nas delay =
    if nat_eq delay 0 then 4 ∷ (number_octets moment ++ nas_octets nas)
    else 9 ∷ ((number_octets moment ++ nas_octets nas) ++ number_octets delay)

abbrev pub note_octets : Note → List ℕ
note_octets note =
    nas_octets note.nas ++ (number_octets note.status ++ (short.spell note.name ++ short.spell note.session))

unfoldable pub move_octets : Move → List ℕ
move_octets (Own account event) = own_octets account event.moment event.act
move_octets (Sweep moment nas delay) = sweep_octets moment nas delay
move_octets (Tick moment) = 5 ∷ number_octets moment
move_octets (Stray moment note) = 6 ∷ (number_octets moment ++ note_octets note)

-- ---- what each kind of move is of

abbrev pub account_field : Counts → Field ℕ
account_field counts = below NoAccount counts.accounts

abbrev pub AskParts : Type 0
AskParts = ℕ × (ℕ × (Key × Nas))

abbrev pub ask_field : Counts → Field AskParts
ask_field counts = both number (both (account_field counts) (both key_field (nas_field counts.clients)))

abbrev pub ask_move : AskParts → Move
ask_move parts =
    Own parts.1.0 (record { moment = parts.0; act = acts.Ask parts.1.1.0 parts.1.1.1 None })

-- an ask of a station
abbrev pub stationed_ask_field : Counts → Field (AskParts × List ℕ)
stationed_ask_field counts = both (ask_field counts) short

abbrev pub stationed_ask_move : AskParts × List ℕ → Move
stationed_ask_move parts = Own parts.0.1.0 (record {
  moment = parts.0.0;
  act = acts.Ask parts.0.1.1.0 parts.0.1.1.1 (Some parts.1);
})

abbrev pub AliveParts : Type 0
AliveParts = ℕ × (ℕ × (Nas × (List ℕ × (Option (List ℕ) × Option ℕ))))

abbrev pub alive_field : Counts → Field AliveParts
alive_field counts =
    both number (both (account_field counts) (both (nas_field counts.clients)
    (both short (both (optional short) (optional number)))))

abbrev pub alive_move : AliveParts → Move
alive_move parts = Own parts.1.0 (record {
  moment = parts.0;
  act = acts.Alive parts.1.1.0 parts.1.1.1.0 parts.1.1.1.1.0 parts.1.1.1.1.1 None;
})

-- an alive of a station
abbrev pub stationed_alive_field : Counts → Field (AliveParts × List ℕ)
stationed_alive_field counts = both (alive_field counts) short

abbrev pub stationed_alive_move : AliveParts × List ℕ → Move
stationed_alive_move parts = Own parts.0.1.0 (record {
  moment = parts.0.0;
  act = acts.Alive parts.0.1.1.0 parts.0.1.1.1.0 parts.0.1.1.1.1.0 parts.0.1.1.1.1.1 (Some parts.1);
})

abbrev pub StopParts : Type 0
StopParts = ℕ × (ℕ × (Nas × List ℕ))

abbrev pub stop_field : Counts → Field StopParts
stop_field counts = both number (both (account_field counts) (both (nas_field counts.clients) short))

abbrev pub stop_move : StopParts → Move
stop_move parts =
    Own parts.1.0 (record { moment = parts.0; act = acts.Stop parts.1.1.0 parts.1.1.1 })

abbrev pub sweep_field : Counts → Field (ℕ × Nas)
sweep_field counts = both number (nas_field counts.clients)

abbrev pub sweep_move : ℕ × Nas → Move
sweep_move parts = Sweep parts.0 parts.1 0

-- a sweep that was told late: a delay of 0 has the spelling above, and no other
abbrev pub late_sweep_field : Counts → Field ((ℕ × Nas) × ℕ)
late_sweep_field counts = both (sweep_field counts) (between OutOfRange 1 (2 ^ 64 - 1))

abbrev pub late_sweep_move : (ℕ × Nas) × ℕ → Move
late_sweep_move parts = Sweep parts.0.0 parts.0.1 parts.1

abbrev pub tick_move : ℕ → Move
tick_move moment = Tick moment

abbrev pub StrayParts : Type 0
StrayParts = ℕ × (Nas × (ℕ × (List ℕ × List ℕ)))

abbrev pub stray_field : Counts → Field StrayParts
stray_field counts =
    both number (both (nas_field counts.clients) (both (below OutOfRange (2 ^ 32)) (both short short)))

abbrev pub stray_move : StrayParts → Move
stray_move parts = Stray parts.0 (record {
  nas = parts.1.0;
  status = parts.1.1.0;
  name = parts.1.1.1.0;
  session = parts.1.1.1.1;
})

-- ---- how moves are read

unfoldable pub ask_at : Counts → List ℕ → Reading Move
ask_at counts rest = made_of ask_move ((ask_field counts).read rest)

unfoldable pub stationed_ask_at : Counts → List ℕ → Reading Move
stationed_ask_at counts rest = made_of stationed_ask_move ((stationed_ask_field counts).read rest)

unfoldable pub alive_at : Counts → List ℕ → Reading Move
alive_at counts rest = made_of alive_move ((alive_field counts).read rest)

unfoldable pub stationed_alive_at : Counts → List ℕ → Reading Move
stationed_alive_at counts rest =
    made_of stationed_alive_move ((stationed_alive_field counts).read rest)

unfoldable pub stop_at : Counts → List ℕ → Reading Move
stop_at counts rest = made_of stop_move ((stop_field counts).read rest)

unfoldable pub sweep_at : Counts → List ℕ → Reading Move
sweep_at counts rest = made_of sweep_move ((sweep_field counts).read rest)

unfoldable pub late_sweep_at : Counts → List ℕ → Reading Move
late_sweep_at counts rest = made_of late_sweep_move ((late_sweep_field counts).read rest)

unfoldable pub tick_at : List ℕ → Reading Move
tick_at rest = made_of tick_move (number.read rest)

unfoldable pub stray_at : Counts → List ℕ → Reading Move
stray_at counts rest = made_of stray_move ((stray_field counts).read rest)

abbrev pub move_behind : Counts → (tag : ℕ) → List ℕ → Reading Move
move_behind counts tag rest =
    if nat_eq tag 1 then ask_at counts rest
    else (if nat_eq tag 2 then alive_at counts rest
    else (if nat_eq tag 3 then stop_at counts rest
    else (if nat_eq tag 4 then sweep_at counts rest
    else (if nat_eq tag 5 then tick_at rest
    else (if nat_eq tag 6 then stray_at counts rest
    else (if nat_eq tag 7 then stationed_ask_at counts rest
    else (if nat_eq tag 8 then stationed_alive_at counts rest
    else (if nat_eq tag 9 then late_sweep_at counts rest
    else fault_at UnknownTag (tag ∷ rest)))))))))

unfoldable pub move_at : Counts → List ℕ → Reading Move
move_at counts [] = fault_at CutShort []
move_at counts (tag ∷ rest) = move_behind counts tag rest

-- ---- which moves have a spelling

abbrev pub OwnFits : Counts → (account moment : ℕ) → Act → Type 0
OwnFits counts account moment (acts.Ask key nas station) =
    (ask_field counts).Fits (moment, (account, (key, nas))) × IfSome station short.Fits
OwnFits counts account moment (acts.Alive nas session bundle class station) =
    (alive_field counts).Fits (moment, (account, (nas, (session, (bundle, class)))))
    × IfSome station short.Fits
OwnFits counts account moment (acts.Stop nas session) =
    (stop_field counts).Fits (moment, (account, (nas, session)))
OwnFits counts account moment (acts.Sweep nas delay) = ⊥
OwnFits counts account moment acts.Tick = ⊥

abbrev pub MoveFits : Counts → Move → Type 0
MoveFits counts (Own account event) = OwnFits counts account event.moment event.act
MoveFits counts (Sweep moment nas delay) =
    (sweep_field counts).Fits (moment, nas) × number.Fits delay
MoveFits counts (Tick moment) = number.Fits moment
MoveFits counts (Stray moment note) =
    (stray_field counts).Fits (moment, (note.nas, (note.status, (note.name, note.session))))

abbrev pub move_field : Counts → Field Move
move_field counts =
    record { spell = move_octets; read = move_at counts; Fits = MoveFits counts }

-- moves of one batch, after their number
abbrev pub moves_field : Counts → Field (List Move)
moves_field counts = list_of (move_field counts)
