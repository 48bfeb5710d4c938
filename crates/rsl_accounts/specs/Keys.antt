-- The HMAC keys of clients' secrets.
use Rattle.std.specs.Prelude.{List, [], ◌∷◌}
use Rattle.rsl_auth.specs.declared.hmac.HmacKey.{HmacKey}
use Rattle.rsl_auth.specs.Hmac.{IsKeyOf}
use Rattle.rsl_accounts.specs.declared.client.Client.{Client}

-- one key for each client, that of its secret
abbrev pub AreKeysOf : List Client → List HmacKey → Type 0
AreKeysOf [] [] = Unit
AreKeysOf (client ∷ clients) (key ∷ keys) = IsKeyOf client.secret key × AreKeysOf clients keys
AreKeysOf _ _ = ⊥
