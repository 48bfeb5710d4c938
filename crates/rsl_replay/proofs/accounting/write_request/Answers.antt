-- The parts are written one after another.
use Rattle.std.proofs.Common.{ap, sym, ◌∙◌}
use Rattle.rsl_wire.specs.Attributes.{list_octets}
use Rattle.rsl_script.specs.declared.request.AccountingRequest.{AccountingRequest}
use Rattle.rsl_replay.specs.Accounting.{accounting_attributes}
use Rattle.rsl_replay.proofs.AccountingLaws.{server_request_written, session_request_written, with_attributes}
use Rattle.rsl_replay.proofs.accounting.write_request.Goals as goal

pub returns-in-Session : goal.returns-in-Session
returns-in-Session c =
    session_request_written c.args.boot c.in-Session.status c.in-Session.nas c.in-Session.name c.in-Session.session _ _ c.in-Session.bundle c.in-Session.class c.in-Session.station c.args.draft.now _ _ _ _ _ _ _ c.requires
    c.as_slice.ensures.octets c.as_slice-in-Session.ensures.octets
    c.push_status.ensures.written c.push_text.ensures.written c.push_value.ensures.written c.push_value-in-Session.ensures.written c.push_text-in-Session.ensures.written c.push_class.ensures.written c.push_text-in-Session-2.ensures.written
    ∙ ap (λ (x : AccountingRequest). with_attributes c.args.draft.now (list_octets (accounting_attributes c.args.boot x))) (sym c.in-Session.is)

pub returns-in-Server : goal.returns-in-Server
returns-in-Server c =
    server_request_written c.args.boot _ _ _ c.args.draft.now _ _ _ c.requires c.push_status-in-Server.ensures.written c.push_text-in-Server.ensures.written c.push_delay.ensures
    ∙ ap (λ (x : AccountingRequest). with_attributes c.args.draft.now (list_octets (accounting_attributes c.args.boot x))) (sym c.in-Server.is)
