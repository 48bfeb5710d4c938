-- The line of a move: `FILE NUMBER MOMENT MOVE KEY=VALUE .. -> DECISION`, with one space between
-- the words and a line feed at the end.
use Rattle.std.specs.Prelude.{◌≡◌, ℕ, ◌+◌, List, [], ◌∷◌, ◌++◌, length, nat_eq, if◌then◌else◌, Option, None, Some, codes, slice_get}
use Rattle.std.specs.Fmt.{decimal}
use Rattle.std.specs.Option.{option_map_or}
use Rattle.rsl_accounts.specs.Configuration.{Configuration}
use Rattle.rsl_event.specs.declared.event.Act.{Act}
use Rattle.rsl_event.specs.declared.event.Act.TheVariants as acts
use Rattle.rsl_event.specs.declared.event.Decision.{Decision}
use Rattle.rsl_event.specs.declared.event.Decision.TheVariants.{Accept, LimitReject, Done}
use Rattle.rsl_event.specs.declared.event.Key.{Key}
use Rattle.rsl_event.specs.declared.event.Source.{Source}
use Rattle.rsl_event.specs.declared.meaning.Note.{Note}
use Rattle.rsl_event.specs.declared.nas.Nas.{Nas}
use Rattle.rsl_event.specs.declared.nas.NasName.{NasName}
use Rattle.rsl_event.specs.declared.nas.NasName.TheVariants.{Identifier, Address, Unnamed}
use Rattle.rsl_shard.specs.declared.moved.Move.{Move}
use Rattle.rsl_shard.specs.declared.moved.Move.TheVariants.{Own, Sweep, Tick, Stray}
use Rattle.rld_books.specs.Server.{ServerSeen, decision_in, replay, server_after}
use Rattle.rld_spelling.specs.Moves.{moves_field}
use Rattle.rld_store.specs.Generations.{counts_of}
use Rattle.rld_values.specs.Values.{dotted, escaped, hex}

-- a space, a key, `=` and a value
abbrev pub word : (key value : List ℕ) → List ℕ
word key value = 32 ∷ (key ++ (61 ∷ value))

-- a word if there is a value, else nothing
abbrev pub word_if : {A : Type 0} → (key : List ℕ) → (text : A → List ℕ) → Option A → List ℕ
word_if key text None = []
word_if key text (Some value) = word key (text value)

-- the name of an access server
abbrev pub name_words : NasName → List ℕ
name_words (Identifier name) = word (codes "nas") (escaped name)
name_words (Address address) = word (codes "nas-address") (hex address)
name_words Unnamed = []

-- the address of a client
abbrev pub client_address : Configuration → (client : ℕ) → List ℕ
client_address config client = option_map_or (λ client. client.address) (slice_get config.clients client) []

abbrev pub nas_words : Configuration → Nas → List ℕ
nas_words config nas = word (codes "client") (dotted (client_address config nas.client)) ++ name_words nas.name

-- the source of a request
unfoldable pub source_word : Source → List ℕ
source_word source =
    word (codes "source") (dotted source.address ++ (58 ∷ decimal source.port))

-- a Request Authenticator
unfoldable pub authenticator_word : List ℕ → List ℕ
authenticator_word authenticator = word (codes "authenticator") (hex authenticator)

-- the key of an Access-Request
unfoldable pub key_words : Key → List ℕ
key_words key =
    source_word key.source ++ (word (codes "id") (decimal key.id) ++ authenticator_word key.authenticator)

-- the name of an account
abbrev pub account_name : Configuration → (account : ℕ) → List ℕ
account_name config account = option_map_or (λ entry. entry.name) (slice_get config.accounts account) []

abbrev pub account_word : Configuration → (account : ℕ) → List ℕ
account_word config account = word (codes "account") (escaped (account_name config account))

-- an ask, from its verb on
unfoldable pub ask_text : Configuration → (account : ℕ) → Key → Nas
    → (station : Option (List ℕ)) → List ℕ
ask_text config account key nas station =
    codes "ask" ++ (account_word config account ++ (nas_words config nas ++ (key_words key
    ++ word_if (codes "station") escaped station)))

-- what an alive says of its session
abbrev pub session_words : (session : List ℕ) → (bundle : Option (List ℕ)) → (class : Option ℕ)
    → (station : Option (List ℕ)) → List ℕ
session_words session bundle class station =
    word (codes "session") (escaped session) ++ (word_if (codes "bundle") escaped bundle
    ++ (word_if (codes "class") decimal class ++ word_if (codes "station") escaped station))

-- an own move, from its verb on
abbrev pub act_text : Configuration → (account : ℕ) → Act → List ℕ
act_text config account (acts.Ask key nas station) = ask_text config account key nas station
act_text config account (acts.Alive nas session bundle class station) =
    codes "alive" ++ (account_word config account ++ (nas_words config nas
    ++ session_words session bundle class station))
act_text config account (acts.Stop nas session) =
    codes "stop" ++ (account_word config account ++ (nas_words config nas
    ++ word (codes "session") (escaped session)))
-- not own moves: no log has these
act_text config account (acts.Sweep nas delay) = []
act_text config account acts.Tick = []

-- by how many seconds a restart was told late, if it was
abbrev pub delay_word : ℕ → List ℕ
delay_word delay = if nat_eq delay 0 then [] else word (codes "delay") (decimal delay)

abbrev pub note_words : Configuration → Note → List ℕ
note_words config note =
    nas_words config note.nas ++ (word (codes "status") (decimal note.status)
    ++ (word (codes "name") (escaped note.name) ++ word (codes "session") (escaped note.session)))

-- a move, from its verb on
unfoldable pub move_text : Configuration → Move → List ℕ
move_text config (Own account event) = act_text config account event.act
move_text config (Sweep moment nas delay) =
    codes "restart" ++ (nas_words config nas ++ delay_word delay)
move_text config (Tick moment) = codes "tick"
move_text config (Stray moment note) = codes "stray" ++ note_words config note

abbrev pub moment_of : Move → ℕ
moment_of (Own account event) = event.moment
moment_of (Sweep moment nas delay) = moment
moment_of (Tick moment) = moment
moment_of (Stray moment note) = moment

-- a decision: that of a move which is no ask is `done`
abbrev pub decision_text : Decision → List ℕ
decision_text (Accept number) = codes "accept " ++ decimal number
decision_text LimitReject = codes "reject limit"
decision_text Done = codes "done"

-- the line of a move of a file, with its number in the history
unfoldable pub line : (file : List ℕ) → Configuration → (number : ℕ) → Move → Decision → List ℕ
line file config number moved decision =
    escaped file ++ (32 ∷ (decimal number ++ (32 ∷ (decimal (moment_of moved) ++ (32 ∷ (move_text config moved
    ++ (codes " -> " ++ (decision_text decision ++ 10 ∷ []))))))))

-- the lines of moves, each with the decision of the books at that point; the history had `number` moves
-- before the first of them
unfoldable pub lines_of : (file : List ℕ) → Configuration → (number : ℕ) → (server : ServerSeen)
    → List Move → List ℕ
lines_of file config number server [] = []
lines_of file config number server (moved ∷ moves) =
    line file config (number + 1) moved (decision_in server moved)
    ++ lines_of file config (number + 1) (server_after server moved) moves

-- the lines of the moves in a payload, and the books and the number of moves after them
pub record IsPrinted (file : List ℕ) (config : Configuration) (number : ℕ) (server : ServerSeen)
    (payload lines : List ℕ) (next : ℕ) (after : ServerSeen) : Type 0 where
  pub moves : List Move
  pub fit : (moves_field (counts_of config)).Fits moves
  pub spelled : payload ≡ (moves_field (counts_of config)).spell moves
  pub lines_are : lines ≡ lines_of file config number server moves
  pub next_is : next ≡ number + length moves
  pub after_is : after ≡ replay server moves
