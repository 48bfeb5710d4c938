use Rattle.std.proofs.Common.{ℕ, List, Bor, map, subst}
use Rattle.rld_spelling.specs.declared.moves.Counts.{Counts}
use Rattle.rld_store.specs.Generations.{counts_of}
use Rattle.rld_store.specs.Opening.{AreReplayed}
use Rattle.rld_store.proofs.former.read_payloads.Goals as goal

pub returns-clause-ends : goal.returns-clause-ends
returns-clause-ends c =
    let batches : List (List ℕ) = map (λ (payload : Bor (List ℕ)). payload.now) c.in_ok-parts.parts.batches.now in
    let replayed : AreReplayed (counts_of c.args.config.now) batches c.in_ok-books.books c.replay_each.new.books c.in_ok-_moves._moves =
    subst (λ (counts : Counts). AreReplayed counts batches c.in_ok-books.books c.replay_each.new.books c.in_ok-_moves._moves) c.counts_in-counts.ensures c.in_ok-_moves.ensures.spelled in
    record {
      begun = c.in_ok-books.books;
      begun_is = c.in_ok-books.ensures.server;
      moves = replayed.moves;
      generation = record {
        first = c.in_ok-parts.parts.front.payload.now;
        header_is = c.in-Ok.ensures.read;
        snapshot = c.in_ok-parts.parts.snapshot.payload.now;
        snapshot_is = c.in_ok-books.ensures.spelled;
        batches = batches;
        batches_are = replayed.batches;
        payloads_are = c.in_ok-parts.ensures.are.are;
      };
      books_are = replayed.books_are;
    }
