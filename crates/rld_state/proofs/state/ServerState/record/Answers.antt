use Rattle.std.proofs.Common.{ap, length, subst, sym, ◌∙◌}
use Rattle.std.specs.Arc.{arc_value}
use Rattle.rld_books.proofs.Callers.{replay_is_of}
use Rattle.rld_books.specs.Saved.{IsServerOf}
use Rattle.rld_books.specs.Server.{ServerSeen, replay}
use Rattle.rld_spelling.specs.declared.header.Header.{Header}
use Rattle.rld_state.proofs.Batches.{count_decided, recorded_still}
use Rattle.rld_state.proofs.state.ServerState.record.Goals as goal

-- the books stay those of the accounts, and the store goes on in its generation
pub invariant_of-self-in-Ok : goal.invariant_of-self-in-Ok
invariant_of-self-in-Ok g c = record {
  server = subst (λ (books : ServerSeen). IsServerOf (arc_value c.commit.new.self.config) books) (sym c.in-Ok.ensures.books)
      (subst (λ config. IsServerOf (arc_value config) (replay c.args.self.now.recorder.books c.args.batch.items)) (sym c.commit.ensures.config)
      (replay_is_of (arc_value c.args.self.now.recorder.config) c.args.self.now.recorder.books c.args.batch.items c.args.self.now.server));
  kept = c.args.self.now.kept ∙ ap (λ (h : Header). h.generation) (sym c.commit.ensures.header);
}

pub returns-in-Ok-clause-count : goal.returns-in-Ok-clause-count
returns-in-Ok-clause-count g c =
    ap length c.in-Ok.ensures.decisions ∙ count_decided c.args.self.now.recorder.books c.args.batch.items

pub returns-after-self-3-clause-unrecorded : goal.returns-after-self-3-clause-unrecorded
returns-after-self-3-clause-unrecorded g c = λ told opening history so.
    let was = so (c.commit.ensures.told told) in
    recorded_still _ _ _ _ _ _ _ _ _ _ _ (c.in-Err.ensures.left told opening history was.unanswered was.stands)
