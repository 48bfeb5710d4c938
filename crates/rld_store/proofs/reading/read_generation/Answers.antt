use Rattle.std.proofs.Common.{◌∙◌, ℕ, List, Bor, ap, map, sym, subst}
use Rattle.rld_spelling.specs.declared.moves.Counts.{Counts}
use Rattle.rld_store.specs.Generations.{counts_of, front_octets, octets_of}
use Rattle.rld_store.specs.Opening.{AreReplayed, IsWhyUnread}
use Rattle.rld_store.proofs.Replaying.{books_why, header_why, is_there, parts_why, table_why}
use Rattle.rld_store.proofs.reading.read_generation.Goals as goal

pub returns-in-Err-clause-why : goal.returns-in-Err-clause-why
returns-in-Err-clause-why c =
    parts_why (counts_of c.args.config.now) (octets_of c.args.config.now) (map (λ (payload : Bor (List ℕ)). payload.now) c.args.payloads.now) c.in-Err.fault c.in-Err.ensures.why

pub returns-in-Err-front-clause-why : goal.returns-in-Err-front-clause-why
returns-in-Err-front-clause-why c =
    header_why (counts_of c.args.config.now) (octets_of c.args.config.now) (map (λ (payload : Bor (List ℕ)). payload.now) c.args.payloads.now) c.in-Ok.parts c.in-Ok.ensures.are c.in-Err-front.bad c.in-Err-front.ensures.why

pub returns-in-Err-books-clause-why : goal.returns-in-Err-books-clause-why
returns-in-Err-books-clause-why c =
    books_why (counts_of c.args.config.now) (octets_of c.args.config.now) (map (λ (payload : Bor (List ℕ)). payload.now) c.args.payloads.now) c.in-Ok.parts c.in-Ok.ensures.are c.in-Err-books.fault c.in-Err-books.ensures.why

pub returns-in-Err-replay_each-clause-why : goal.returns-in-Err-replay_each-clause-why
returns-in-Err-replay_each-clause-why c =
    subst (λ (counts : Counts). IsWhyUnread counts (octets_of c.args.config.now) (map (λ (payload : Bor (List ℕ)). payload.now) c.args.payloads.now) c.in-Err-replay_each.fault) c.counts_in-counts.ensures
    (subst (λ (payloads : List (List ℕ)). IsWhyUnread c.counts_in-counts.result (octets_of c.args.config.now) payloads c.in-Err-replay_each.fault) (sym c.in-Ok.ensures.are.are)
    (c.in-Err-replay_each.ensures.why c.in-Ok.parts.front.payload.now c.in-Ok.parts.snapshot.payload.now (octets_of c.args.config.now) c.in-Ok.ensures.are.snapshot_end))

pub returns-in-Ok-replay_each-clause-there : goal.returns-in-Ok-replay_each-clause-there
returns-in-Ok-replay_each-clause-there c =
    let batches : List (List ℕ) = map (λ (payload : Bor (List ℕ)). payload.now) c.in-Ok.parts.batches.now in
    is_there c.args.config.now (map (λ (payload : Bor (List ℕ)). payload.now) c.args.payloads.now) batches c.in-Ok.parts.front.payload.now c.in-Ok.parts.snapshot.payload.now
    c.in-Ok-front.front.header c.in-Ok-books.books c.replay_each.new.books c.in-Ok-replay_each.moves
    c.in-Ok.ensures.are.are
    (c.in-Ok-front.ensures.spelled.0 ∙ ap (front_octets c.in-Ok-front.front.header) c.in-Ok-check_table.ensures.same) c.in-Ok-front.ensures.spelled.1 c.in-Ok-books.ensures.server c.in-Ok-books.ensures.spelled
    (subst (λ (counts : Counts). AreReplayed counts batches c.in-Ok-books.books c.replay_each.new.books c.in-Ok-replay_each.moves) c.counts_in-counts.ensures c.in-Ok-replay_each.ensures.spelled)

pub returns-in-Err-check_table-clause-why : goal.returns-in-Err-check_table-clause-why
returns-in-Err-check_table-clause-why c =
    table_why (counts_of c.args.config.now) (octets_of c.args.config.now) (map (λ (payload : Bor (List ℕ)). payload.now) c.args.payloads.now) c.in-Ok.parts c.in-Ok.ensures.are
    c.in-Ok-front.front.header c.in-Ok-front.front.table.payload.now c.in-Ok-front.front.table.end c.in-Err-check_table.fault c.in-Ok-front.ensures.spelled.0 c.in-Ok-front.ensures.end c.in-Err-check_table.ensures.why
