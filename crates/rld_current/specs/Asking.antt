-- What became of asks, by how their requests ended, and what is answered to each.
use Rattle.std.specs.Prelude.{◌≡◌, ◌⊎◌, ℕ, List, [], ◌∷◌, map, Option, Some, None, IfSome}
use Rattle.std.specs.declared.net.socket_addr.SocketAddr.{SocketAddr}
use Rattle.rld_ask.specs.Outcome.{outcome_of}
use Rattle.rld_ask.specs.declared.asked.Answer.{Answer}
use Rattle.rld_ask.specs.declared.form.AskForm.{AskForm}
use Rattle.rld_ask.specs.declared.outcome.Outcome.{Outcome}
use Rattle.rld_networks.specs.declared.network.Network.{Network}
use Rattle.rld_store.specs.Recorded.{RecordedSeen}
use Rattle.rld_turn.specs.Present.{PeerDatagram, ServiceSeen}
use Rattle.rld_turn.specs.Recorded.{IsOf, books_before, is_recorded}
use Rattle.rld_turn.specs.Told.{Told}
use Rattle.rld_turn.specs.Turned.{Turned}
use Rattle.rld_turn.specs.declared.end.End.{End}
use Rattle.rld_turn.specs.declared.end.End.TheVariants.{Answered, Unsent}
use Rattle.rsl_accounts.specs.Configuration.{Configuration}
use Rattle.rsl_event.specs.declared.meaning.Port.TheVariants.{Auth}
use Rattle.rsl_event.specs.declared.words.Said.{Said}
use Rattle.rsl_shard.specs.declared.moved.Move.{Move}
use Rattle.rld_current.specs.Noting.{noted_in}
use Rattle.rld_current.specs.Requests.{AreRequests, IsPeerOf, datagrams_of}
use Rattle.rld_current.specs.Turning.{IsServiceOf}
use Rattle.rld_current.specs.declared.ask_watch.Noted.{Noted}

-- what was answered to a request, if anything was
abbrev pub said_in : End → Option Said
said_in (Answered said) = Some said
said_in _ = None

abbrev pub outcome_noted : Noted → Outcome
outcome_noted noted = outcome_of (said_in noted.end) noted.detail

-- what an answer says: what became of the ask, and the octets of its reply
abbrev pub told_in : Answer → Outcome × List ℕ
told_in answer = (answer.outcome, answer.reply)

abbrev pub first_octets : List PeerDatagram → List ℕ
first_octets [] = []
first_octets (one ∷ others) = one.octets

abbrev pub after_first : List PeerDatagram → List PeerDatagram
after_first [] = []
after_first (one ∷ others) = others

-- the reply to a request that ended so: the next one, if it was answered
abbrev pub reply_if : End → (replies : List PeerDatagram) → List ℕ
reply_if (Answered said) replies = first_octets replies
reply_if _ replies = []

-- the replies after that; one that could not be sent is passed over
abbrev pub replies_after : End → (replies : List PeerDatagram) → List PeerDatagram
replies_after (Answered said) replies = after_first replies
replies_after (Unsent said) replies = after_first replies
replies_after _ replies = replies

-- what the answers say to asks whose requests ended so, where these are the replies, in order
abbrev pub answers_told : List Noted → (replies : List PeerDatagram) → List (Outcome × List ℕ)
answers_told [] replies = []
answers_told (noted ∷ others) replies =
    (outcome_noted noted, reply_if noted.end replies)
    ∷ answers_told others (replies_after noted.end replies)

-- the answers to asks whose requests ended so, with these replies; or none, where memory is refused
abbrev pub AreAnswers : List Noted → (replies : List PeerDatagram) → List Answer → Type 0
AreAnswers noted replies answers = (answers ≡ []) ⊎ (map told_in answers ≡ answers_told noted replies)

-- Answers to the first of these asks, in their order, which come from this client: their requests were taken in one
-- turn with these accounts, networks and boot number, which was recorded in this table or not at all. This is kept of how
-- they ended. Each answer says how its own request ended, with its own reply.
pub record AreAnswersTo (config : Configuration) (networks : List Network) (boot table : ℕ) (client : List ℕ)
    (noted : List Noted) (asks : List AskForm) (answers : List Answer) : Type 0 where
  pub service : ServiceSeen
  pub requests : List (List ℕ)
  pub peer : SocketAddr
  pub told : List Told
  pub batch : List Move
  pub replies : List PeerDatagram
  pub moment : ℕ
  pub recorded : Option RecordedSeen
  pub served : IsServiceOf config networks boot service
  pub of_asks : AreRequests config client asks requests
  pub of_client : IsPeerOf client peer
  pub of_table : IfSome recorded (λ one. one.table ≡ table)
  pub whole : IsOf batch recorded
  pub turned : Turned service Auth moment (is_recorded recorded) (books_before recorded)
      told (datagrams_of peer requests) batch replies
  pub kept : noted ≡ map noted_in told
  pub are : map told_in answers ≡ answers_told noted replies

-- the same, with whatever accounts are present; or no answers, where memory is refused or no client has the address
pub record AreAnswered (networks : List Network) (client : List ℕ) (noted : List Noted) (asks : List AskForm)
    (answers : List Answer) : Type 0 where
  pub config : Configuration
  pub boot : ℕ
  pub table : ℕ
  pub are : (answers ≡ []) ⊎ AreAnswersTo config networks boot table client noted asks answers
