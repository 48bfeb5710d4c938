-- The key of a client's secret, as the configuration keeps it.
use Rattle.std.proofs.Common.{◌≡◌, List, ℕ, sym, subst}
use Rattle.std.specs.Prelude.{Option, Some, IfSome}
use Rattle.rsl_accounts.specs.declared.client.Client.{Client}
use Rattle.rsl_auth.specs.Hmac.{IsKeyOf}
use Rattle.rsl_auth.specs.declared.hmac.HmacKey.{HmacKey}

pub key_of_secret : (found : Option Client) (client : Client) (secret : List ℕ) (kept : HmacKey) → found ≡ Some client → secret ≡ client.secret
    → IfSome found (λ (one : Client). IsKeyOf one.secret kept) → IsKeyOf secret kept
key_of_secret found client secret kept is same key =
    let P : Option Client → Type 0 = λ o. IfSome o (λ (one : Client). IsKeyOf one.secret kept) in
    let Q : List ℕ → Type 0 = λ text. IsKeyOf text kept in
    subst Q (sym same) (subst P is key)
