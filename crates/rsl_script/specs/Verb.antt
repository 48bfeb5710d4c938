-- The first words of lines, and the names of settings.
use Rattle.std.specs.Prelude.{ℕ, List, [], ◌∷◌, if◌then◌else◌, codes, bytes_eq, Option, None, Some}
use Rattle.rsl_event.specs.declared.meaning.Port.TheVariants.{Auth, Acct}
use Rattle.rsl_script.specs.declared.request.Method.TheVariants.{Pap, Chap}
use Rattle.rsl_event.specs.declared.status.Status.TheVariants.{Start, Stop, InterimUpdate, AccountingOn, AccountingOff}
use Rattle.rsl_script.specs.declared.verb.Setting.{Setting}
use Rattle.rsl_script.specs.declared.verb.Setting.TheVariants as settings
use Rattle.rsl_script.specs.declared.verb.Verb.{Verb}
use Rattle.rsl_script.specs.declared.verb.Verb.TheVariants.{Set, Client, Account, Event}
use Rattle.rsl_script.specs.declared.verb.EventVerb.TheVariants.{Access, Accounting, Raw, Tick}

-- what the name stands for, in a list of names
abbrev pub value_named : {T : Type 0} → (name : List ℕ) → List (List ℕ × T) → Option T
value_named name [] = None
value_named name (entry ∷ rest) =
    if bytes_eq name entry.0 then Some entry.1 else value_named name rest

abbrev pub verbs : List (List ℕ × Verb)
verbs =
    (codes "set", Set)
    ∷ (codes "client", Client)
    ∷ (codes "account", Account)
    ∷ (codes "ask", Event (Access Pap))
    ∷ (codes "chap", Event (Access Chap))
    ∷ (codes "start", Event (Accounting Start))
    ∷ (codes "interim", Event (Accounting InterimUpdate))
    ∷ (codes "stop", Event (Accounting Stop))
    ∷ (codes "on", Event (Accounting AccountingOn))
    ∷ (codes "off", Event (Accounting AccountingOff))
    ∷ (codes "raw-auth", Event (Raw Auth))
    ∷ (codes "raw-acct", Event (Raw Acct))
    ∷ (codes "tick", Event Tick)
    ∷ []

abbrev pub setting_names : List (List ℕ × Setting)
setting_names =
    (codes "shards", settings.Shards)
    ∷ (codes "reserve", settings.Reserve)
    ∷ (codes "live", settings.Live)
    ∷ (codes "grace", settings.Grace)
    ∷ (codes "closed", settings.Closed)
    ∷ (codes "keep", settings.Keep)
    ∷ []

-- what a line is about, by its first word
unfoldable pub verb_of : List ℕ → Option Verb
verb_of word = value_named word verbs

-- the setting of a name
unfoldable pub setting_of : List ℕ → Option Setting
setting_of word = value_named word setting_names
