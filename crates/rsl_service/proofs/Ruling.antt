-- Segments that join are one journal, which obeys the session rule.
use Rattle.std.proofs.Common.{◌≡◌, ℕ, zero, suc, ◌+◌, ◌<◌, ◌⊎◌, ◌==◌, inl, inr, eq-eqb, ne_eqb, List, [], ◌∷◌, ◌++◌, Some, Bool, cond, length, take, refl, sym, ap, subst, ◌∙◌}
use Rattle.std.specs.Prelude.{All, slice_get}
use Rattle.std.specs.List.{flat_map}
use Rattle.std.proofs.lemmas.Bool.{cases_eq}
use Rattle.std.proofs.lemmas.List.Elements.{All-append, All-cons, All-head, All-nil, All-tail, filter-append}
use Rattle.std.proofs.lemmas.Option.{same_Some}
use Rattle.rsl_accounts.specs.Configuration.{Configuration}
use Rattle.rsl_book.specs.RuledBook.{RuledBook}
use Rattle.rsl_record.specs.Segments.{AllGoOn, of_shard, shard_lines}
use Rattle.rsl_record.specs.declared.receipt.Receipt.{Receipt}
use Rattle.rsl_shard.specs.Journal.{IsJournal}
use Rattle.rsl_shard.specs.Moves.{IsTaken}
use Rattle.rsl_shard.specs.Restep.{books_after, decision_by, new_books, restep}
use Rattle.rsl_shard.specs.Setup.{Setup, setup_of}
use Rattle.rsl_shard.specs.declared.line.Line.{Line}
use Rattle.rsl_shard.specs.declared.segment.Segment.{Segment}
use Rattle.rsl_steps.specs.Laws.{JournalsObeyTheRule}
use Rattle.rsl_service.specs.Closed.{HasEnd, HaveEnds, IsClosed}
use Rattle.rsl_service.specs.Laws.{ClosedJournalsObeyTheRule, IsHandedOut}

-- a journal of no lines
none_kept : (setup : Setup) (books : List RuledBook) → IsJournal setup books []
none_kept setup books = record {
  taken = All-nil (λ (line : Line). IsTaken setup line.moved);
  decided = λ n line is. cc;
}

-- a journal with a line before it
line_before : (setup : Setup) (books : List RuledBook) (first : Line) (lines : List Line) → IsTaken setup first.moved
    → first.decision ≡ decision_by setup books first.moved → IsJournal setup (books_after setup books first.moved) lines
    → IsJournal setup books (first ∷ lines)
unfolding restep
line_before setup books first lines taken decided journal = record {
  taken = All-cons (λ (line : Line). IsTaken setup line.moved) first lines taken journal.taken;
  decided = by;
}
  where
    by : (n : ℕ) (line : Line) → slice_get (first ∷ lines) n ≡ Some line
        → line.decision ≡ decision_by setup (restep setup books (take n (first ∷ lines))) line.moved
    by zero line is = subst (λ (one : Line). one.decision ≡ decision_by setup books one.moved) (same_Some first line is) decided
    by (suc n) line is = journal.decided n line is

-- the same journal without its first line
line_after : (setup : Setup) (books : List RuledBook) (first : Line) (lines : List Line) → IsJournal setup books (first ∷ lines)
    → IsJournal setup (books_after setup books first.moved) lines
unfolding restep
line_after setup books first lines journal = record {
  taken = All-tail (λ (line : Line). IsTaken setup line.moved) first lines journal.taken;
  decided = λ n line is. journal.decided (suc n) line is;
}

-- two journals that join are one
joined : (setup : Setup) (books : List RuledBook) (lines more : List Line) → IsJournal setup books lines
    → IsJournal setup (restep setup books lines) more → IsJournal setup books (lines ++ more)
unfolding restep
joined setup books [] more journal next = next
joined setup books (first ∷ lines) more journal next =
    line_before setup books first (lines ++ more) (All-head (λ (line : Line). IsTaken setup line.moved) first lines journal.taken)
    (journal.decided 0 first refl)
    (joined setup (books_after setup books first.moved) lines more (line_after setup books first lines journal) next)

-- a part of a shard's journal
abbrev IsPart : Setup → Segment → Type 0
IsPart setup segment = IsJournal setup segment.opening.items segment.lines.items

-- so are all segments of a shard that join
all_joined : (setup : Setup) (before : ℕ) (books : List RuledBook) (segments : List Segment) → AllGoOn setup before books segments
    → All (IsPart setup) segments → IsJournal setup books (flat_map (λ (segment : Segment). segment.lines.items) segments)
unfolding AllGoOn
all_joined setup before books [] go are = none_kept setup books
all_joined setup before books (segment ∷ segments) go are =
    joined setup books segment.lines.items (flat_map (λ (segment : Segment). segment.lines.items) segments)
    (subst (λ (opening : List RuledBook). IsJournal setup opening segment.lines.items) go.0.opening (All-head (IsPart setup) segment segments are))
    (all_joined setup (before + length segment.lines.items) (restep setup books segment.lines.items) segments go.1
    (All-tail (IsPart setup) segment segments are))

-- the segments of a shard among those that were handed out
parts_of : (config : Configuration) (shard : ℕ) (segments : List Segment) → All (IsHandedOut config) segments
    → All (IsPart (setup_of config shard)) (of_shard shard segments)
parts_of config shard [] are = All-nil (IsPart (setup_of config shard))
parts_of config shard (segment ∷ segments) are =
    by (parts_of config shard segments (All-tail (IsHandedOut config) segment segments are)) (cases_eq segment.shard shard)
  where
    Are : List Segment → Type 0
    Are all = All (IsPart (setup_of config shard)) all

    by : Are (of_shard shard segments) → (segment.shard ≡ shard) ⊎ (segment.shard ≡ shard → ⊥) → Are (of_shard shard (segment ∷ segments))
    by rest (inl same) =
        subst (λ (t : Bool). Are (cond t (segment ∷ of_shard shard segments) (of_shard shard segments)))
        (sym (eq-eqb segment.shard shard same))
        (All-cons (IsPart (setup_of config shard)) segment (of_shard shard segments)
        (subst (λ (n : ℕ). IsPart (setup_of config n) segment) same (All-head (IsHandedOut config) segment segments are)) rest)
    by rest (inr apart) =
        subst (λ (t : Bool). Are (cond t (segment ∷ of_shard shard segments) (of_shard shard segments)))
        (sym (ne_eqb segment.shard shard apart)) rest

-- the segments of a shard of a closed service are one journal
one_journal : (config : Configuration) (passes : List (List Receipt)) (given closed : List Segment) (shard : ℕ) → IsClosed config passes given closed
    → All (IsHandedOut config) given → shard < config.settings.shards → IsJournal (setup_of config shard) (new_books config shard) (shard_lines shard closed)
one_journal config passes given closed shard is are within =
    subst (λ (segments : List Segment). IsJournal setup (new_books config shard) (flat_map (λ (segment : Segment). segment.lines.items) segments)) (sym all)
    (all_joined setup 0 (new_books config shard) (of_shard shard given ++ end.segment ∷ []) chained
    (All-append (IsPart setup) (of_shard shard given) (end.segment ∷ []) (parts_of config shard given are)
    (All-cons (IsPart setup) end.segment [] end.ended.journal (All-nil (IsPart setup)))))
  where
    setup : Setup
    setup = setup_of config shard

    mine : is.ended.config ≡ config
    mine = is.is_end.config_kept

    ends : HaveEnds config is.ended.present
    ends = subst (λ (some : Configuration). HaveEnds some is.ended.present) mine is.is_end.ends

    end : HasEnd config is.ended.present shard
    end = ends shard within

    whole : of_shard shard (given ++ is.ended.present) ≡ of_shard shard given ++ end.segment ∷ []
    whole =
        filter-append (λ (segment : Segment). segment.shard == shard) given is.ended.present
        ∙ ap (λ (segments : List Segment). of_shard shard given ++ segments) end.alone

    all : of_shard shard closed ≡ of_shard shard given ++ end.segment ∷ []
    all = is.closed_by.same shard ∙ whole

    chained : AllGoOn setup 0 (new_books config shard) (of_shard shard given ++ end.segment ∷ [])
    chained =
        subst (AllGoOn setup 0 (new_books config shard)) whole
        (subst (λ (some : Configuration). AllGoOn (setup_of some shard) 0 (new_books some shard) (of_shard shard (given ++ is.ended.present))) mine
        (is.closed_by.settled.joined shard).joined)

-- so the law of one journal is that of closed services
pub closed_obey : JournalsObeyTheRule → ClosedJournalsObeyTheRule
closed_obey law config passes given closed shard account entry is are within there known =
    law config shard account entry (shard_lines shard closed) (one_journal config passes given closed shard is are within) there within known
