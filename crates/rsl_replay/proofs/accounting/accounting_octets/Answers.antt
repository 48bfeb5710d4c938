use Rattle.rsl_replay.proofs.AccountingLaws.{request_is}
use Rattle.rsl_replay.proofs.accounting.accounting_octets.Goals as goal

pub returns : goal.returns
returns c =
    request_is c.args.boot c.args.request.now c.args.secret.now c.in_ok-draft.draft c.write_request.new.draft c.finish-octets.result.items _
    c.in_ok-draft.ensures c.write_request.ensures c.finish-octets.ensures c.sealed.ensures
