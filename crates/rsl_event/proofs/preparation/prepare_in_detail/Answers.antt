use Rattle.std.proofs.Common.{◌∙◌, ap, sym, subst}
use Rattle.rsl_wire.specs.Seen.{fields_of}
use Rattle.rsl_event.proofs.PreparedLaws.{IsMeant, client_number_within, access_meant, accounting_meant}
use Rattle.rsl_event.proofs.preparation.prepare_in_detail.Goals as goal
use Rattle.rsl_event.proofs.preparation.prepare_in_detail.Goals.{in-Auth+in_ok-found-in-Auth, in-Acct+in_ok-found-in-Acct}

pub returns-clause-prepared : goal.returns-clause-prepared
returns-clause-prepared c =
    let meant : IsMeant c.args.config.now c.in-Ok.packet.attrs.now c.match-port.found.0 = elim c.match-port.branch [
      | in-Auth+in_ok-found-in-Auth w ↦ subst (IsMeant c.args.config.now c.in-Ok.packet.attrs.now) (sym (ap (λ x. x.0) w.found-is)) (access_meant c.args.config.now c.args.source c.in-Some.client (fields_of c.in-Ok.packet) _ w.in_ok-found-in-Auth.ensures.meaning)
      | in-Acct+in_ok-found-in-Acct w ↦ subst (IsMeant c.args.config.now c.in-Ok.packet.attrs.now) (sym (ap (λ x. x.0) w.found-is)) (accounting_meant c.args.config.now c.args.boot c.in-Some.client (fields_of c.in-Ok.packet) _ w.in_ok-found-in-Acct.ensures.meaning)
    ] in
    record {
      client = client_number_within c.args.config.now c.args.source.address c.in-Some.client (sym c.client.ensures.number ∙ c.in-Some.is);
      account = meant.account;
      room = meant.room;
    }

pub returns-clause-own : goal.returns-clause-own
returns-clause-own c =
    let meant : IsMeant c.args.config.now c.in-Ok.packet.attrs.now c.match-port.found.0 = elim c.match-port.branch [
      | in-Auth+in_ok-found-in-Auth w ↦ subst (IsMeant c.args.config.now c.in-Ok.packet.attrs.now) (sym (ap (λ x. x.0) w.found-is)) (access_meant c.args.config.now c.args.source c.in-Some.client (fields_of c.in-Ok.packet) _ w.in_ok-found-in-Auth.ensures.meaning)
      | in-Acct+in_ok-found-in-Acct w ↦ subst (IsMeant c.args.config.now c.in-Ok.packet.attrs.now) (sym (ap (λ x. x.0) w.found-is)) (accounting_meant c.args.config.now c.args.boot c.in-Some.client (fields_of c.in-Ok.packet) _ w.in_ok-found-in-Acct.ensures.meaning)
    ] in
    meant.own
