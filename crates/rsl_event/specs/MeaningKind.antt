-- The kind of a meaning: all that its reply depends on.
use Rattle.std.specs.Prelude.{ℕ}
use Rattle.rsl_event.specs.declared.event.Act.{Act}
use Rattle.rsl_event.specs.declared.event.Act.TheVariants.{Ask}
use Rattle.rsl_event.specs.declared.meaning_kind.MeaningKind.{MeaningKind}
use Rattle.rsl_event.specs.declared.meaning_kind.MeaningKind.TheVariants as kinds
use Rattle.rsl_event.specs.declared.meaning.Meaning.{Meaning}
use Rattle.rsl_event.specs.declared.meaning.Meaning.TheVariants.{Bare, Reject, Own, Restart, Stray}

-- the kind of an act of an account: only an ask is decided
abbrev pub kind_of_act : (account : ℕ) → Act → MeaningKind
kind_of_act account (Ask key nas station) = kinds.Ask account
kind_of_act account _ = kinds.Account

-- the kind of a meaning
abbrev pub kind_of : Meaning → MeaningKind
kind_of Bare = kinds.Bare
kind_of Reject = kinds.Reject
kind_of (Own account act) = kind_of_act account act
kind_of (Restart nas delay) = kinds.Account
kind_of (Stray note) = kinds.Account
