use Rattle.std.proofs.Common.{◌≡◌, ℕ, ◌≤◌, List, [], ◌++◌, ap, subst, sym, ◌∙◌}
use Rattle.std.specs.Prelude.{Bool, IfSome, None}
use Rattle.rld_turn.proofs.Deciding.{has_decided, same_recorded}
use Rattle.rld_turn.proofs.Entering.{as_many, can_end}
use Rattle.rld_turn.specs.Present.{PeerDatagram, service_of}
use Rattle.rld_turn.specs.Entered.{AreEntered}
use Rattle.rld_turn.specs.Recorded.{books_before, decisions_in, is_recorded, recorded_in}
use Rattle.rld_turn.specs.Told.{HasBegun}
use Rattle.rld_turn.specs.Turned.{Turned}
use Rattle.rsl_accounts.specs.Configuration.{Configuration, client_number}
use Rattle.rsl_event.specs.declared.meaning.Port.{Port}
use Rattle.rld_current.proofs.shared.Shared.turn.Goals as goal

pub answer-requires : goal.answer-requires
answer-requires g c = record {
  can = can_end (service_of c.present-present.result) c.args.receiver.now.port c.now-moment.result
      (decisions_in c.record-recorded.result) c.gather-moves.ensures.gathered.taken c.gather-moves.new.self.queue.items [] c.gather-moves.result.moves.items
      c.gather-moves.ensures.gathered.entered c.record-recorded.ensures.count;
}

pub returns-clause-begun : goal.returns-clause-begun
returns-clause-begun g c =
    subst (HasBegun (g.W.Watch.turns c.args.watch.now)) (sym (c.finish.ensures.turns ∙ c.answer.ensures.turns)) c.begin.ensures.begun

pub returns-clause-turned : goal.returns-clause-turned
returns-clause-turned g c =
    let present = c.present-present in
    let service = service_of present.result in
    let outcome = c.record-recorded.result in
    let before = books_before (recorded_in outcome) in
    let gathered = c.gather-moves.ensures.gathered in
    let moves = c.gather-moves.result.moves.items in
    let mid = c.answer.ensures.telling in
    let same : c.gather-moves.new.self.port ≡ c.args.receiver.now.port = c.gather-moves.ensures.same in
    let answered = c.answer.ensures.answered (record {
      moment = c.now-moment.result;
      begun = before;
      taken = gathered.taken;
      moves = moves;
      entered =
          subst (λ (on : Port). AreEntered service on c.now-moment.result gathered.taken c.gather-moves.new.self.queue.items [] moves)
          (sym same) gathered.entered;
      decided = has_decided outcome moves c.record-recorded.ensures.batch;
    }) in
    record {
      service = service;
      served = record {
        config_is = present.ensures.config;
        networks_are = present.ensures.networks;
        boot_is = present.ensures.boot;
        nobody_is =
            subst (λ (config : Configuration). client_number config present.result.nobody ≡ None)
            present.ensures.config present.result.unassigned;
      };
      decided = record {
        taken = gathered.taken;
        batch = moves;
        sent = answered.sent;
        told = answered.told;
        moment = c.now-moment.result;
        few =
            subst (λ (n : ℕ). n ≤ 64)
            (sym (as_many service c.args.receiver.now.port c.now-moment.result gathered.taken c.gather-moves.new.self.queue.items [] moves gathered.entered))
            c.gather-moves.ensures.few;
        more_taken = λ told. c.answer.ensures.taken told ∙ gathered.told (mid told);
        more_sent = λ told. answered.more_sent told ∙ ap (λ (t : List PeerDatagram). t ++ answered.sent) (c.gather-moves.ensures.sent (mid told));
        more_shown = c.now-moment.ensures.shown;
        more_told = λ heard knew. c.finish.ensures.told _ (answered.more_told heard (c.begin.ensures.told heard knew));
        whole = c.record-recorded.ensures.batch;
        turned =
            subst (λ (on : Port). Turned service on c.now-moment.result (is_recorded (recorded_in outcome)) before answered.told gathered.taken moves answered.sent)
            same
            (subst (λ (b : Bool). Turned service c.gather-moves.new.self.port c.now-moment.result b before answered.told gathered.taken moves answered.sent)
            (same_recorded outcome) answered.turned);
      };
      of_table = subst (λ (e : ℕ). IfSome (recorded_in outcome) (λ one. one.table ≡ e)) present.ensures.table c.record-recorded.ensures.table;
    }

pub returns-clause-down : goal.returns-clause-down
returns-clause-down g c = λ told.
    c.answer.ensures.down told ∙ c.gather-moves.ensures.down (c.answer.ensures.telling told)
