use Rattle.rld_ask.proofs.Requests.{request_written}
use Rattle.rld_ask.proofs.form.AskForm.request.Goals as goal

pub returns-clause-octets : goal.returns-clause-octets
returns-clause-octets c =
    λ secret is.
    request_written c.args.self.now secret c.digest-authenticator.result c.finished.result.items c.in_ok-draft.draft
    c.digest-authenticator.ensures c.in_ok-draft.ensures.draft (c.finished.ensures secret is)
