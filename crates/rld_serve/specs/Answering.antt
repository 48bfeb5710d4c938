-- What an operator is told.
use Rattle.std.specs.Prelude.{◌≡◌, ℕ, ◌+◌, List, ◌++◌, codes, length, slice_get, Option, Some, None, Result, Ok, Err}
use Rattle.rld_ask.specs.Reply.{lines_of}
use Rattle.rsl_reply.specs.declared.dictionary.Dictionary.{Dictionary}
use Rattle.rld_attributes.specs.Listed.{attributes_of}
use Rattle.rld_ask.specs.declared.asked.Answer.{Answer as AskAnswer}
use Rattle.rld_ask.specs.declared.outcome.Outcome.{Outcome}
use Rattle.rld_ask.specs.declared.outcome.Outcome.TheVariants as outcomes
use Rattle.rsl_accounts.specs.Configuration.{Configuration, account_number}
use Rattle.rld_books.specs.Server.{ServerSeen}
use Rattle.rld_state.specs.Listing.{AreHeldFrom}
use Rattle.rld_state.specs.declared.listing.LinksPage.{LinksPage}
use Rattle.rld_control.specs.declared.form.Form.{Form}
use Rattle.rld_control.specs.declared.form.Form.TheVariants.{Lines, Json}
use Rattle.rld_control.specs.declared.listing.Listing.{Listing}
use Rattle.rld_control.specs.declared.form.Selection.{Selection}
use Rattle.rld_text.specs.Accounts.{accounts_text}
use Rattle.rld_text.specs.Links.{links_text}
use Rattle.rld_text.specs.Listing.{page_text}
use Rattle.rld_look.specs.declared.look.AccountLook.{AccountLook}
use Rattle.rld_look.specs.declared.look.Look.{Look}
use Rattle.rld_look.specs.declared.health.Health.{Health}
use Rattle.rld_text.specs.Ready.{ready_octets}
use Rattle.rld_text.specs.Status.{IsStatus, status_object}
use Rattle.rsl_accounts.specs.declared.entry.Entry.{Entry}
use Rattle.rsl_session.specs.declared.saved.SavedLink.{SavedLink}
use Rattle.rld_state.specs.declared.reload_result.Reloaded.{Reloaded}
use Rattle.rld_state.specs.declared.reload_result.ReloadFault.{ReloadFault}
use Rattle.rld_serve.specs.declared.ask_fault.AskFault.{AskFault}
use Rattle.rld_serve.specs.declared.ask_fault.AskFault.TheVariants.{NotAccepted, NoMemory}

-- an answer that says that something is done, and one that says that it is not
pub record IsDone (octets : List ℕ) : Type 0 where
  pub lines : List ℕ
  pub is : octets ≡ lines ++ codes "ok\n"

pub record IsRefused (octets : List ℕ) : Type 0 where
  pub text : List ℕ
  pub is : octets ≡ codes "error " ++ (text ++ codes "\n")

-- the status of what a server shows, in a form
abbrev pub IsStatusIn : Form → Look → (octets : List ℕ) → Type 0
IsStatusIn Lines look octets = IsStatus look octets
IsStatusIn Json look octets = octets ≡ status_object look

pub record ShowsStatus (form : Form) (octets : List ℕ) : Type 0 where
  pub look : Look
  pub is : IsStatusIn form look octets

pub record ShowsReady (octets : List ℕ) : Type 0 where
  pub health : Health
  pub is : octets ≡ ready_octets health

-- what accounts hold, in a form
pub record ShowsAccounts (form : Form) (selection : Selection) (octets : List ℕ) : Type 0 where
  pub accounts : List AccountLook
  pub is : octets ≡ accounts_text form selection accounts

-- the links of the account with this name, in a form
pub record ShowsSessions (form : Form) (name octets : List ℕ) : Type 0 where
  pub config : Configuration
  pub number : ℕ
  pub entry : Entry
  pub moment : ℕ
  pub links : List SavedLink
  pub numbered : account_number config name ≡ Some number
  pub entered : slice_get config.accounts number ≡ Some entry
  pub is : octets ≡ links_text form config entry.name entry.rules.live moment links

-- where a page of the links of all accounts begins: at the account that is named, or else at the first one
abbrev pub begins_at : Configuration → Option (List ℕ) → Option ℕ
begins_at config None = Some 0
begins_at config (Some name) = account_number config name

-- such a page, of some books
pub record IsPageFrom (config : Configuration) (from : Option (List ℕ)) (page : LinksPage) : Type 0 where
  pub books : ServerSeen
  pub first : ℕ
  pub begins : begins_at config from ≡ Some first
  pub held : AreHeldFrom books first page.held.items
  pub next : page.next ≡ first + length page.held.items

-- such a page as an operator asks for, of some moment
pub record ShowsPage (listing : Listing) (octets : List ℕ) : Type 0 where
  pub config : Configuration
  pub page : LinksPage
  pub moment : ℕ
  pub begins : IsPageFrom config listing.from page
  pub is : octets ≡ page_text listing.form config listing.wanted moment page.held.items page.next

-- what is told once the accounts were to be read again
abbrev pub TellsChange : Result Reloaded ReloadFault → (octets : List ℕ) → Type 0
TellsChange (Ok reloaded) octets = IsDone octets
TellsChange (Err fault) octets = IsRefused octets

-- an ask is told as accepted where it is, with the lines of its reply
abbrev pub TellsAccepted : Dictionary → AskAnswer → (octets : List ℕ) → Type 0
TellsAccepted names answer octets =
    (answer.outcome ≡ outcomes.Accepted)
    × (octets ≡ lines_of names (attributes_of answer.reply) ++ codes "ok\n")

-- why an ask with this outcome has no such answer
abbrev pub IsUntold : Outcome → AskFault → Type 0
IsUntold outcomes.Accepted fault = fault ≡ NoMemory
IsUntold outcome fault = fault ≡ NotAccepted outcome
