use Rattle.rsl_replay.proofs.AccessLaws.{request_pushed}
use Rattle.rsl_replay.proofs.access.push_request.Goals as goal

pub returns-clause-written : goal.returns-clause-written
returns-clause-written c =
    request_pushed c.args.request.now _ c.args.value.now _ _ _ _ _ _ c.as_slice.ensures.octets c.password_kind.ensures
    c.push_value.ensures.written c.push_value-2.ensures.written c.push_text.ensures.written c.push_text-2.ensures.written
