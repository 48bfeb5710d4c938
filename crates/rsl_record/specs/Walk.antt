-- What the parts of an audit give to one another.
use Rattle.std.specs.Prelude.{◌≡◌, ℕ, ◌<◌, ⊤, List, length}
use Rattle.rsl_accounts.specs.Configuration.{Configuration}
use Rattle.rsl_record.specs.Audit.{BeginsNew, IsRight, account_of}
use Rattle.rsl_record.specs.Restep.{books_by_restep}
use Rattle.rsl_record.specs.declared.audit_fault.AuditFault.{AuditFault}
use Rattle.rsl_record.specs.declared.audit_fault.AuditFault.TheVariants.{NotFromEmpty, WrongDecision, NoMemory}
use Rattle.rsl_record.specs.declared.chain.Chain.{Chain}
use Rattle.rsl_shard.specs.declared.segment.Segment.{Segment}
use Rattle.rsl_shard.specs.Setup.{setup_of}
use Rattle.rsl_shard.specs.declared.line.Line.{Line}

-- the chain of a shard's lines
pub record IsChainOf (config : Configuration) (shard : ℕ) (before : List Line) (chain : Chain)
    : Type 0 where
  pub within : shard < config.settings.shards
  pub setup : chain.books.setup ≡ setup_of config shard
  pub books : chain.books.books ≡ books_by_restep config shard before
  pub lines : chain.lines ≡ length before

-- a fault of how a first segment begins
abbrev pub IsFaultOfBeginning : Configuration → Segment → AuditFault → Type 0
IsFaultOfBeginning config first NotFromEmpty = BeginsNew config first → ⊥
IsFaultOfBeginning config first NoMemory = ⊤
IsFaultOfBeginning config first _ = ⊥

-- a fault of a line after others
abbrev pub IsFaultOfLine : Configuration → (shard : ℕ) → (before : List Line) → Line → AuditFault
    → Type 0
IsFaultOfLine config shard before line (WrongDecision account position) =
    (IsRight config shard before line
    → ⊥) × (account ≡ account_of line.moved) × (position ≡ length before)
IsFaultOfLine config shard before line NoMemory = ⊤
IsFaultOfLine config shard before line _ = ⊥
