use Rattle.std.proofs.Common.{◌∙◌}
use Rattle.rsl_replay.proofs.AccessLaws.{access_is}
use Rattle.rsl_replay.proofs.access.access_octets.Goals as goal

pub returns : goal.returns
returns c =
    access_is c.args.request.now c.args.signing c.args.secret.now _ _ c.in_ok-draft.draft c.push.new.draft c.push_request.new.draft _
    c.in_ok-draft.ensures c.push.ensures.written c.push_request.ensures.written
    (c.as_slice.ensures.value ∙ c.in_ok-value.ensures.value) c.authenticator-request_auth.ensures c.finish.ensures
