-- A journal with one line more, and one without lines.
use Rattle.std.proofs.Common.{◌≡◌, ℕ, zero, suc, ◌+◌, ◌-◌, ◌^◌, ◌%◌, ◌<◌, ◌≤◌, ◌⊎◌, ◌==◌, cond, Bool, true, false, Option, None, List, [], ◌∷◌, ◌++◌, map, take, length, Some, inl, inr, refl, sym, ap, subst, ◌∙◌, arith, length-append}
use Rattle.std.specs.Prelude.{slice_get}
use Rattle.std.proofs.lemmas.Bool.{cases_lt}
use Rattle.std.proofs.lemmas.List.{take-append-le, take_all}
use Rattle.std.proofs.lemmas.List.Elements.{All-append, All-cons, All-nil}
use Rattle.rsl_book.specs.RuledBook.{RuledBook}
use Rattle.rsl_event.specs.declared.event.Decision.{Decision}
use Rattle.rsl_shard.specs.Moves.{IsTaken}
use Rattle.rsl_accounts.specs.Configuration.{Configuration}
use Rattle.rsl_accounts.specs.declared.entry.Entry.{Entry}
use Rattle.rsl_event.specs.declared.event.Event.{Event}
use Rattle.rsl_shard.specs.Moves.{event_to}
use Rattle.rsl_shard.specs.Opening.{opening_of, as_new}
use Rattle.rsl_shard.specs.Restep.{AreBooks, HaveStepped, book_of_entry, books_after, decision_by, moved_from, new_books, new_books_from, restep, step_by}
use Rattle.rsl_shard.specs.declared.opening.Opening.{Opening}
use Rattle.rsl_shard.specs.declared.opening.Opening.TheVariants.{New, Kept}
use Rattle.rsl_shard.specs.Seen.{IsShard, ShardSeen, books_of, cut_off, new_shard, total_of, with_line}
use Rattle.rsl_shard.specs.Journal.{IsJournal}
use Rattle.rsl_shard.specs.Setup.{Setup, setup_of}
use Rattle.rsl_shard.specs.declared.line.Line.{Line}
use Rattle.rsl_shard.specs.declared.moved.Move.{Move}
use Rattle.rsl_shard.specs.declared.shard.Shard.TheInside.{Inside}
use Rattle.rsl_shard.specs.ShardSeen.{HasJournal, shard_seen}
use Rattle.rsl_shard.proofs.Moving.{have_stepped}

-- an element of a list with one more at its end
earlier : {A : Type 0} (xs : List A) (x y : A) (n : ℕ) → n < length xs → slice_get (xs ++ x ∷ []) n ≡ slice_get xs n
earlier [] x y n less = absurd (omega (arith, less))
earlier (z ∷ xs) x y zero less = refl
earlier (z ∷ xs) x y (suc n) less = earlier xs x y n (omega (arith, less))

last : {A : Type 0} (xs : List A) (x y : A) (n : ℕ) → length xs ≤ n → slice_get (xs ++ x ∷ []) n ≡ Some y → (n ≡ length xs) × (x ≡ y)
last [] x y zero past is = (refl, cc)
last [] x y (suc n) past is = cc
last (z ∷ xs) x y zero past is = absurd (omega (arith, past))
last (z ∷ xs) x y (suc n) past is = let rest = last xs x y n (omega (arith, past)) is in (ap suc rest.0, rest.1)

-- the books after one line more
pub restep_more : (setup : Setup) (opening : List RuledBook) (lines : List Line) (line : Line)
    → restep setup opening (lines ++ line ∷ []) ≡ books_after setup (restep setup opening lines) line.moved
unfolding restep
restep_more setup opening [] line = refl
restep_more setup opening (first ∷ lines) line = restep_more setup (books_after setup opening first.moved) lines line

pub restep_none : (setup : Setup) (opening : List RuledBook) → restep setup opening [] ≡ opening
unfolding restep
restep_none setup opening = refl

pub no_lines : (setup : Setup) (opening : List RuledBook) → IsJournal setup opening []
no_lines setup opening = record {
  taken = All-nil (λ (line : Line). IsTaken setup line.moved);
  decided = λ n line is. cc;
}

pub one_line_more : (setup : Setup) (opening : List RuledBook) (lines : List Line) (moved : Move) (decision : Decision) → IsJournal setup opening lines
    → IsTaken setup moved → decision ≡ decision_by setup (restep setup opening lines) moved
    → IsJournal setup opening (lines ++ record { moved = moved; decision = decision } ∷ [])
one_line_more setup opening lines moved decision journal taken decided = record {
  taken =
      All-append (λ (line : Line). IsTaken setup line.moved) lines (new ∷ []) journal.taken
      (All-cons (λ (line : Line). IsTaken setup line.moved) new [] taken (All-nil (λ (line : Line). IsTaken setup line.moved)));
  decided = λ n line is. by n line is (cases_lt n (length lines));
}
  where
    new : Line
    new = record { moved = moved; decision = decision }

    by : (n : ℕ) (line : Line) → slice_get (lines ++ new ∷ []) n ≡ Some line → (n < length lines) ⊎ (length lines ≤ n)
        → line.decision ≡ decision_by setup (restep setup opening (take n (lines ++ new ∷ []))) line.moved
    by n line is (inl before) =
        journal.decided n line (sym (earlier lines new line n before) ∙ is)
        ∙ ap (λ (some : List Line). decision_by setup (restep setup opening some) line.moved) (sym (take-append-le n lines (new ∷ []) (omega (arith, before))))
    by n line is (inr past) =
        let there = last lines new line n past is in
        let all : take n (lines ++ new ∷ []) ≡ lines =
        take-append-le n lines (new ∷ []) (omega (arith, there.0)) ∙ take_all n lines past in
        ap (λ (one : Line). one.decision) (sym there.1) ∙ decided
        ∙ ap (λ (some : List Line). decision_by setup (restep setup opening some) moved) (sym all)
        ∙ ap (λ (one : Line). decision_by setup (restep setup opening (take n (lines ++ new ∷ []))) one.moved) there.1

-- what a move makes of books has their rules: so the books that they were when they were new stay the same
renewed_stepped : (event : Option Event) (ruled : RuledBook) → as_new (step_by event ruled) ≡ as_new ruled
renewed_stepped None ruled = refl
renewed_stepped (Some event) ruled = refl

renewed_moved : (first shards : ℕ) (moved : Move) (books : List RuledBook) → map as_new (moved_from first shards moved books) ≡ map as_new books
unfolding moved_from
renewed_moved first shards moved [] = refl
renewed_moved first shards moved (ruled ∷ books) =
    ap (λ (book : RuledBook). book ∷ map as_new (moved_from (first + shards) shards moved books)) (renewed_stepped (event_to first moved) ruled)
    ∙ ap (λ (rest : List RuledBook). as_new ruled ∷ rest) (renewed_moved (first + shards) shards moved books)

opening_stays : (opening : Opening) (setup : Setup) (books : List RuledBook) (moved : Move) → opening_of opening (books_after setup books moved) ≡ opening_of opening books
opening_stays New setup books moved = renewed_moved setup.shard setup.shards moved books
opening_stays (Kept kept) setup books moved = refl

renewed_from : (shards shard number : ℕ) (entries : List Entry) → map as_new (new_books_from shards shard number entries) ≡ new_books_from shards shard number entries
unfolding new_books_from
renewed_from shards shard number [] = refl
renewed_from shards shard number (entry ∷ entries) = by (number % shards == shard) (renewed_from shards shard (number + 1) entries)
  where
    rest : List RuledBook
    rest = new_books_from shards shard (number + 1) entries

    by : (test : Bool) → map as_new rest ≡ rest → map as_new (cond test (book_of_entry entry ∷ rest) rest) ≡ cond test (book_of_entry entry ∷ rest) rest
    by true same = ap (λ (books : List RuledBook). book_of_entry entry ∷ books) same
    by false same = same

-- the new books of a shard are those of which they are the new books
pub renewed_new : (config : Configuration) (shard : ℕ) (books : List RuledBook) → books ≡ new_books config shard → opening_of New books ≡ books
renewed_new config shard books are =
    ap (map as_new) are ∙ renewed_from config.settings.shards shard 0 config.accounts ∙ sym are

-- whatever a shard has come to: the new books of its accounts are the same after one line more, and after its journal was handed out
pub renewed_line : (shard : ShardSeen) (moved : Move) (decision : Decision) → map as_new (books_of (with_line shard moved decision)) ≡ map as_new (books_of shard)
renewed_line shard moved decision =
    ap (map as_new) (restep_more shard.setup shard.opening shard.lines (record { moved = moved; decision = decision }))
    ∙ renewed_moved shard.setup.shard shard.setup.shards moved (books_of shard)

pub renewed_cut : (shard : ShardSeen) → map as_new (books_of (cut_off shard)) ≡ map as_new (books_of shard)
renewed_cut shard = ap (map as_new) (restep_none shard.setup (books_of shard))

pub renewed_begun : (config : Configuration) (shard : ℕ) → map as_new (books_of (new_shard config shard)) ≡ new_books config shard
renewed_begun config shard =
    ap (map as_new) (restep_none (setup_of config shard) (new_books config shard)) ∙ renewed_from config.settings.shards shard 0 config.accounts

-- what is seen of a shard after one move more
pub seen_on : (old new : Inside) (moved : Move) (decision : Decision) → new.books.setup ≡ old.books.setup
    → new.books.books ≡ books_after old.books.setup old.books.books moved → new.opening ≡ old.opening → new.first ≡ old.first
    → new.journal.lines ≡ old.journal.lines ++ record { moved = moved; decision = decision } ∷ [] → shard_seen new ≡ with_line (shard_seen old) moved decision
seen_on old new moved decision setup books opening first lines = λ i. record { setup = setup i; first = first i; opening = same i; lines = lines i }
  where
    same : opening_of new.opening new.books.books ≡ opening_of old.opening old.books.books
    same =
        ap (λ (o : Opening). opening_of o new.books.books) opening ∙ ap (λ (all : List RuledBook). opening_of old.opening all) books
        ∙ opening_stays old.opening old.books.setup old.books.books moved

-- the books of a shard after one move more
pub books_on : (old new : ShardSeen) (moved : Move) (decision : Decision) → new ≡ with_line old moved decision
    → HaveStepped old.setup moved (books_of old) (books_of new)
books_on old new moved decision is =
    subst (λ (seen : ShardSeen). HaveStepped old.setup moved (books_of old) (books_of seen)) (sym is)
    (subst (λ (books : List RuledBook). HaveStepped old.setup moved (books_of old) books)
    (sym (restep_more old.setup old.opening old.lines (record { moved = moved; decision = decision })))
    (have_stepped old.setup moved (books_of old)))

-- what the fields of a shard are after one move more
pub moved_on : (old new : Inside) (moved : Move) (decision : Decision) → HasJournal old → IsTaken old.books.setup moved
    → total_of (shard_seen old) < 2 ^ 64 - 1 → decision ≡ decision_by old.books.setup old.books.books moved
    → new.books.setup ≡ old.books.setup → new.books.books ≡ books_after old.books.setup old.books.books moved → AreBooks new.books.setup new.books.books
    → new.opening ≡ old.opening → new.first ≡ old.first
    → new.journal.lines ≡ old.journal.lines ++ record { moved = moved; decision = decision } ∷ [] → HasJournal new
moved_on old new moved decision has taken room decided setup books sound opening first lines = record {
  restepped = restepped;
  kept = subst IsShard (sym seen) (record {
    journal = one_line_more old.books.setup begins old.journal.lines moved decision has.kept.journal taken
        (decided ∙ ap (λ (all : List RuledBook). decision_by old.books.setup all moved) has.restepped);
    books = subst (λ (shard : ShardSeen). AreBooks shard.setup (books_of shard)) seen (subst (λ (all : List RuledBook). AreBooks new.books.setup all) restepped sound);
    total = omega (arith, room, length-append old.journal.lines (line ∷ []));
  });
}
  where
    line : Line
    line = record { moved = moved; decision = decision }

    begins : List RuledBook
    begins = opening_of old.opening old.books.books

    seen : shard_seen new ≡ with_line (shard_seen old) moved decision
    seen = seen_on old new moved decision setup books opening first lines

    restepped : new.books.books ≡ books_of (shard_seen new)
    restepped =
        books ∙ ap (λ (all : List RuledBook). books_after old.books.setup all moved) has.restepped
        ∙ sym (restep_more old.books.setup begins old.journal.lines line)
        ∙ ap (λ (shard : ShardSeen). books_of shard) (sym seen)

-- what the fields of a shard are that begins: with new books, or with copies of those of a shard
pub begun : (new : Inside) → AreBooks new.books.setup new.books.books → opening_of new.opening new.books.books ≡ new.books.books → new.journal.lines ≡ [] → new.first < 2 ^ 64 → HasJournal new
begun new sound opening lines within = record {
  restepped = restepped;
  kept = record {
    journal = subst (λ (some : List Line). IsJournal new.books.setup (opening_of new.opening new.books.books) some) (sym lines) (no_lines new.books.setup (opening_of new.opening new.books.books));
    books = subst (λ (all : List RuledBook). AreBooks new.books.setup all) restepped sound;
    total = omega (arith, within, ap length lines);
  };
}
  where
    restepped : new.books.books ≡ books_of (shard_seen new)
    restepped =
        sym opening ∙ sym (restep_none new.books.setup (opening_of new.opening new.books.books))
        ∙ ap (λ (some : List Line). restep new.books.setup (opening_of new.opening new.books.books) some) (sym lines)

-- what is seen of a shard that begins with new books
pub new_seen : (config : Configuration) (shard : ℕ) (new : Inside) → new.books.setup ≡ setup_of config shard
    → opening_of new.opening new.books.books ≡ new_books config shard → new.journal.lines ≡ [] → new.first ≡ 0 → shard_seen new ≡ new_shard config shard
new_seen config shard new setup opening lines first = λ i. record { setup = setup i; first = first i; opening = opening i; lines = lines i }
