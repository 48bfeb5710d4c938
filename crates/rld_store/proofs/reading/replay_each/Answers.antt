use Rattle.std.proofs.Common.{◌+◌, ℕ, List, [], ◌∷◌, Bor, Some, drop, length, map, sym, ap, subst, ◌∙◌, arith, append-nil}
use Rattle.std.proofs.lemmas.List.{drop_all, length-map, take_all}
use Rattle.rld_books.specs.Saved.{IsServerOf}
use Rattle.rld_books.proofs.Callers.{replay_is_of}
use Rattle.rld_log.specs.Frames.{frames}
use Rattle.rld_store.specs.Opening.{AreReplayed}
use Rattle.rld_store.proofs.Replaying.{at_drop, end_more, foreign_why, moves_why, none_spelled, replayed_books, replayed_count, replayed_more, replayed_none, spelled_more}
use Rattle.rld_store.proofs.reading.replay_each.Goals as goal

pub loop-index-init : goal.loop-index-init
loop-index-init c = record {
  server = λ config is. is;
  spelled = none_spelled c.args.counts c.args.books.now;
  replayed = replayed_none c.args.counts c.args.books.now (map (λ (payload : Bor (List ℕ)). payload.now) c.args.payloads.now);
  ended = λ before is. is ∙ ap (λ (l : List (List ℕ)). length (frames l)) (sym (append-nil before));
}

pub returns-in-Err-clause-why : goal.returns-in-Err-clause-why
returns-in-Err-clause-why c = λ front snapshot table whole.
    moves_why c.args.counts table front snapshot (map (λ (payload : Bor (List ℕ)). payload.now) c.args.payloads.now) c.loop-index.index c.in_ok-part.part.payload.now c.loop-index.end c.in_ok-part.part.end c.in-Err.fault
    (c.payload_at.ensures ∙ ap Some (sym c.in_ok-part.ensures.payload)) c.in_ok-part.ensures.fits (c.loop-index.invariant.ended (front ∷ snapshot ∷ []) whole) c.in_ok-part.ensures.end
    c.in-Err.ensures.why

pub returns-in-Err-make_each-clause-why : goal.returns-in-Err-make_each-clause-why
returns-in-Err-make_each-clause-why c = λ front snapshot table whole.
    foreign_why c.args.counts table front snapshot (map (λ (payload : Bor (List ℕ)). payload.now) c.args.payloads.now) c.loop-index.index c.in_ok-part.part.payload.now c.loop-index.end c.in_ok-part.part.end c.begin.result c.in-Err-make_each.fault
    (c.payload_at.ensures ∙ ap Some (sym c.in_ok-part.ensures.payload)) c.in_ok-part.ensures.fits (c.loop-index.invariant.ended (front ∷ snapshot ∷ []) whole) c.in_ok-part.ensures.end
    c.begin.ensures c.in-Err-make_each.ensures.why

pub loop-index-preserved : goal.loop-index-preserved
loop-index-preserved c =
    let all : List (List ℕ) = map (λ (payload : Bor (List ℕ)). payload.now) c.args.payloads.now in
    let there = c.payload_at.ensures ∙ ap Some (sym c.in_ok-part.ensures.payload) in
    record {
      server = λ config is. subst (IsServerOf config) (sym c.in-Ok-make_each.ensures.books) (replay_is_of config c.loop-index.books c.in-Ok.batch.items (c.loop-index.invariant.server config is));
      spelled = spelled_more c.args.counts c.args.books.now all c.loop-index.index c.loop-index.books c.make_each.new.books c.loop-index.count c.in-Some.more c.in_ok-part.part.payload.now c.in-Ok.batch.items
          there c.loop-index.invariant.spelled c.in-Ok.ensures.spelled.0 c.in-Ok.ensures.spelled.1 c.in-Ok-make_each.ensures.books
          (omega (arith, c.in-Some.ensures, c.len.ensures, c.in-Ok.batch.ok));
      replayed = replayed_more c.args.counts c.args.books.now all (drop c.loop-index.index all) (drop (c.loop-index.index + 1) all) c.loop-index.books c.make_each.new.books c.loop-index.count c.in-Some.more c.in_ok-part.part.payload.now c.in-Ok.batch.items
          c.loop-index.invariant.replayed (at_drop all c.loop-index.index c.in_ok-part.part.payload.now there) c.in-Ok.ensures.only c.in-Ok-make_each.ensures.books
          (omega (arith, c.in-Some.ensures, c.len.ensures, c.in-Ok.batch.ok));
      ended = λ before whole. end_more before all c.loop-index.index c.in_ok-part.part.payload.now c.loop-index.end c.in_ok-part.part.end
          there c.in_ok-part.ensures.fits (c.loop-index.invariant.ended before whole) c.in_ok-part.ensures.end;
    }

pub returns-clause-books : goal.returns-clause-books
returns-clause-books c =
    replayed_books c.args.counts c.args.books.now (map (λ (payload : Bor (List ℕ)). payload.now) c.args.payloads.now) (drop c.loop-index.index (map (λ (payload : Bor (List ℕ)). payload.now) c.args.payloads.now)) c.loop-index.books c.loop-index.count c.loop-index.invariant.replayed
    (drop_all c.loop-index.index (map (λ (payload : Bor (List ℕ)). payload.now) c.args.payloads.now) (omega (arith, c.loop-index-test.false, length-map c.args.payloads.now (λ (payload : Bor (List ℕ)). payload.now))))

pub returns-clause-count : goal.returns-clause-count
returns-clause-count c =
    replayed_count c.args.counts c.args.books.now (map (λ (payload : Bor (List ℕ)). payload.now) c.args.payloads.now) (drop c.loop-index.index (map (λ (payload : Bor (List ℕ)). payload.now) c.args.payloads.now)) c.loop-index.books c.loop-index.count c.loop-index.invariant.replayed
    (drop_all c.loop-index.index (map (λ (payload : Bor (List ℕ)). payload.now) c.args.payloads.now) (omega (arith, c.loop-index-test.false, length-map c.args.payloads.now (λ (payload : Bor (List ℕ)). payload.now))))

pub returns-clause-spelled : goal.returns-clause-spelled
returns-clause-spelled c =
    let all : List (List ℕ) = map (λ (payload : Bor (List ℕ)). payload.now) c.args.payloads.now in
    subst (λ (l : List (List ℕ)). AreReplayed c.args.counts l c.args.books.now c.loop-index.books c.loop-index.count)
    (take_all c.loop-index.index all (omega (arith, c.loop-index-test.false, length-map c.args.payloads.now (λ (payload : Bor (List ℕ)). payload.now))))
    c.loop-index.invariant.spelled
