use Rattle.std.proofs.Common.{subst, sym}
use Rattle.rsl_accounts.specs.Configuration.{Configuration}
use Rattle.rsl_event.specs.Prepared.{CanReply}
use Rattle.rsl_service.proofs.service.Service.apply.Goals as goal

-- what was prepared can be replied to by its kind, in the configuration of the service
pub reply_to-octets-requires-clause-prepared : goal.reply_to-octets-requires-clause-prepared
reply_to-octets-requires-clause-prepared c after =
    subst
    (λ (config : Configuration). CanReply config after.args.prepared.client after.args.prepared.packet.attrs.now after.kind-kind.result)
    (sym after.config-config.ensures.config)
    (record {
      known = after.requires.prepared.client;
      asker = after.kind-kind.ensures.asker after.args.self.now.config after.requires.prepared.account;
      room = after.kind-kind.ensures.room after.args.self.now.config after.args.prepared.packet.attrs.now after.requires.prepared.room;
    })
