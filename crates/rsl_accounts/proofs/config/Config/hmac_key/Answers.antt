use Rattle.std.proofs.Common.{◌<◌, length, sym, subst, ◌∙◌}
use Rattle.rsl_accounts.proofs.Keys.{keys_number, key_found}
use Rattle.rsl_accounts.proofs.config.Config.hmac_key.Goals as goal

pub index-requires : goal.index-requires
index-requires c =
    let within : c.args.client < length c.self.inside.clients.items = rw (← c.self.view_is) at c.requires in
    let same = keys_number c.self.inside.clients.items c.self.inside.keys.items c.self.invariant.keys in
    subst (λ n. c.args.client < n) (sym (c.self.inside.keys.ok.0 ∙ same)) within

pub returns : goal.returns
returns c =
    let within : c.args.client < length c.self.inside.clients.items = rw (← c.self.view_is) at c.requires in
    rw (← c.self.view_is)
    (key_found c.self.inside.clients.items c.self.inside.keys.items c.args.client c.index.result.now c.self.invariant.keys within c.index.ensures)
