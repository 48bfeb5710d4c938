use Rattle.std.proofs.Common.{◌≡◌, ◌≤◌, ◌∷◌, [], length, length-append, refl, sym, ap, subst, take, ◌∙◌, arith}
use Rattle.std.proofs.Math.Nat.{min-le_left}
use Rattle.std.specs.Prelude.{Ok, Some, is_err}
use Rattle.rsl_port.specs.Told.{datagram_of}
use Rattle.rld_turn.proofs.Entering.{gathered_more, none_gathered}
use Rattle.rld_turn.proofs.Receiving.{room_more}
use Rattle.rld_turn.specs.Entered.{IsEntered}
use Rattle.rld_turn.specs.Present.{service_of}
use Rattle.rsl_event.specs.declared.meaning.Port.{Port}
use Rattle.rld_turn.proofs.receiver.Receiver.gather.Goals as goal

pub loop-init : goal.loop-init
loop-init g c = record {
  same = refl;
  room = subst (λ n. 64 ≤ n) (sym c.clear.ensures.capacity) c.args.self.now.room;
  entries = ap length c.clear.ensures.items;
  contents = refl;
  telling = λ told. told;
  gathered = none_gathered _ _ _ _ _ _ _ c.clear.ensures.items c.new-moves.ensures.items;
  sent = λ told. refl;
  given = λ told. min-le_left _ _;
  down = λ some. absurd (omega (arith, some));
}

pub loop-preserved : goal.loop-preserved
loop-preserved g c =
    let got : c.receive.result ≡ Ok (Some (c.in-Ok-Some.len, c.in-Ok-Some.peer)) =
    c.in-Ok-Some.is ∙ ap (λ o. Ok o) c.in-Ok-Some.field-0-is in
    let told = c.receive.ensures.telling in
    record {
      same = c.loop.invariant.same;
      room = subst (λ n. 64 ≤ n) (sym c.push_back_reserved.ensures.capacity) c.loop.invariant.room;
      entries =
          let long = ap length c.push_back_reserved.ensures.items in
          omega (arith, c.loop.invariant.entries, long, length-append c.loop.queue.items (c.enter-entry.result ∷ []));
      contents = c.receive.ensures.contents ∙ c.loop.invariant.contents;
      telling = λ t. c.loop.invariant.telling (told t);
      gathered =
          gathered_more (service_of c.args.present.now) c.args.self.now.port c.args.moment _ _
          c.in-Ok-Some.len c.in-Ok-Some.peer c.receive.result c.receive.new.buffer c.enter-entry.result _ _ _ _ _ _ _ got
          told c.loop.invariant.gathered
          (subst (λ (on : Port). IsEntered (service_of c.args.present.now) on c.args.moment (datagram_of c.in-Ok-Some.peer (take c.in-Ok-Some.len c.receive.new.buffer)) c.enter-entry.result c.loop.moves.items c.enter-entry.new.batch.items)
          c.loop.invariant.same c.enter-entry.ensures)
          c.push_back_reserved.ensures.items c.receive.ensures.taken;
      sent = λ t. c.receive.ensures.sent t ∙ c.loop.invariant.sent (told t);
      given = λ t.
          room_more (g.P.DatagramPort.room c.args.datagrams.now) (g.P.DatagramPort.room c.loop.datagrams) (g.P.DatagramPort.room c.receive.new.self)
          (length c.loop.buffer) 4096 (omega (arith, c.loop.auto.buffer))
          (c.loop.invariant.given (told t)) (c.receive.ensures.room t);
      down = λ some t. c.receive.ensures.down t ∙ ap (λ r. is_err r) got;
    }
