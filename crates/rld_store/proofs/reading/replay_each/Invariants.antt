use Rattle.std.proofs.Common.{◌≡◌, ℕ, List, Bor, ◌++◌, drop, length, map, take}
use Rattle.rsl_accounts.specs.Configuration.{Configuration}
use Rattle.rld_books.specs.Saved.{IsServerOf}
use Rattle.rld_log.specs.Frames.{frames}
use Rattle.rld_store.specs.Opening.{AreReplayed}
use Rattle.rld_store.proofs.Replaying.{HasReplayed}
use Rattle.rld_store.proofs.reading.replay_each.Given as goal

abbrev pub invariant-loop-index : goal.invariant-loop-index
invariant-loop-index l =
    let all : List (List ℕ) = map (λ (payload : Bor (List ℕ)). payload.now) l.payloads in
    record {
      server : (config : Configuration) → IsServerOf config l.initial.books → IsServerOf config l.books;
      spelled : AreReplayed l.counts (take l.index all) l.initial.books l.books l.count;
      replayed : HasReplayed l.counts l.initial.books all (drop l.index all) l.books l.count;
      ended : (before : List (List ℕ)) → l.whole ≡ length (frames before) → l.end ≡ length (frames (before ++ take l.index all));
    }
