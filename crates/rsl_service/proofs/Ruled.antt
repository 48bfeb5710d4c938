-- The books behind a lock are of their accounts' rules, whatever they have come to.
use Rattle.std.proofs.Common.{◌≡◌, ℕ, List, [], ◌∷◌, map, ap, refl, subst, sym, ◌∙◌}
use Rattle.rsl_accounts.specs.Configuration.{Configuration}
use Rattle.rsl_book.specs.RuledBook.{RuledBook}
use Rattle.rsl_event.specs.declared.event.Decision.{Decision}
use Rattle.rsl_shard.specs.Opening.{as_new}
use Rattle.rsl_shard.specs.Restep.{books_after, new_books, restep}
use Rattle.rsl_shard.specs.Seen.{IsShard, ShardSeen, books_of, cut_off, new_shard, with_line}
use Rattle.rsl_shard.specs.Journal.{IsJournal}
use Rattle.rsl_shard.specs.Setup.{Setup}
use Rattle.rsl_shard.specs.declared.line.Line.{Line}
use Rattle.rsl_shard.specs.declared.moved.Move.{Move}
use Rattle.rsl_shard.specs.declared.segment.Segment.{Segment}
use Rattle.rsl_service.specs.Closed.{IsEnd}
use Rattle.rsl_shard.proofs.Callers.{renewed_begun, renewed_cut, renewed_line}

-- after one line more
pub ruled_line : (old new : ShardSeen) (moved : Move) (decision : Decision) (books : List RuledBook) → new ≡ with_line old moved decision
    → map as_new (books_of old) ≡ books → map as_new (books_of new) ≡ books
ruled_line old new moved decision books is ruled =
    ap (λ (shard : ShardSeen). map as_new (books_of shard)) is ∙ renewed_line old moved decision ∙ ruled

-- after the journal was handed out
pub ruled_cut : (old new : ShardSeen) (books : List RuledBook) → new ≡ cut_off old → map as_new (books_of old) ≡ books → map as_new (books_of new) ≡ books
ruled_cut old new books is ruled = ap (λ (shard : ShardSeen). map as_new (books_of shard)) is ∙ renewed_cut old ∙ ruled

-- where nothing has changed
pub ruled_still : (old new : ShardSeen) (books : List RuledBook) → new ≡ old → map as_new (books_of old) ≡ books → map as_new (books_of new) ≡ books
ruled_still old new books is ruled = ap (λ (shard : ShardSeen). map as_new (books_of shard)) is ∙ ruled

-- and from the beginning
pub ruled_begun : (config : Configuration) (shard : ℕ) (new : ShardSeen) (books : List RuledBook) → new ≡ new_shard config shard
    → books ≡ new_books config shard → map as_new (books_of new) ≡ books
ruled_begun config shard new books is are = ap (λ (shard : ShardSeen). map as_new (books_of shard)) is ∙ renewed_begun config shard ∙ sym are

-- the books that a journal begins with are of the same rules as those that it led to
ruled_opening : (setup : Setup) (opening : List RuledBook) (lines : List Line) → map as_new (restep setup opening lines) ≡ map as_new opening
unfolding restep
ruled_opening setup opening [] = refl
ruled_opening setup opening (line ∷ lines) =
    ruled_opening setup (books_after setup opening line.moved) lines
    ∙ renewed_line (record { setup = setup; first = 0; opening = opening; lines = [] }) line.moved line.decision

pub ruled_end : (shard : ShardSeen) (opening books : List RuledBook) → opening ≡ shard.opening → map as_new (books_of shard) ≡ books → map as_new opening ≡ books
ruled_end shard opening books is ruled = ap (map as_new) is ∙ sym (ruled_opening shard.setup shard.opening shard.lines) ∙ ruled

-- so the journal that a shard hands out last is its end
pub ends : (shard : ShardSeen) (setup : Setup) (books : List RuledBook) (segment : Segment) → IsShard shard → shard.setup ≡ setup
    → map as_new (books_of shard) ≡ books → segment.shard ≡ shard.setup.shard → segment.opening.items ≡ shard.opening → segment.lines.items ≡ shard.lines
    → IsEnd setup books segment
ends shard setup books segment kept numbered ruled of_shard is_opening is_lines = record {
  shard = of_shard ∙ ap (λ (s : Setup). s.shard) numbered;
  opening = ruled_end shard segment.opening.items books is_opening ruled;
  journal =
      subst (λ (s : Setup). IsJournal s segment.opening.items segment.lines.items) numbered
      (subst (λ (opening : List RuledBook). IsJournal shard.setup opening segment.lines.items) (sym is_opening)
      (subst (λ (lines : List Line). IsJournal shard.setup shard.opening lines) (sym is_lines) kept.journal));
}

pub ruleset ruled = (ruled_line, ruled_cut, ruled_still, ruled_begun, ends)
