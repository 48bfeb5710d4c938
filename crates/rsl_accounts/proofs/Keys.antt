-- Keys of clients, as a loop makes them and a look-up finds them.
use Rattle.std.proofs.Common.{◌≡◌, ℕ, ◌+◌, ◌<◌, zero, suc, List, [], ◌∷◌, ◌++◌, length, get_or, take, IfSome, slice_get, refl, sym, subst, ap, ◌∙◌, arith}
use Rattle.std.proofs.lemmas.List.{take_more}
use Rattle.rsl_auth.specs.declared.hmac.HmacKey.{HmacKey}
use Rattle.rsl_auth.specs.Hmac.{IsKeyOf}
use Rattle.rsl_accounts.specs.declared.client.Client.{Client}
use Rattle.rsl_accounts.specs.Keys.{AreKeysOf}

push : (clients : List Client) (keys : List HmacKey) (client : Client) (key : HmacKey) → AreKeysOf clients keys → IsKeyOf client.secret key → AreKeysOf (clients ++ client ∷ []) (keys ++ key ∷ [])
push [] [] client key are is = (is, tt)
push [] (k ∷ keys) client key are is = absurd are
push (c ∷ clients) [] client key are is = absurd are
push (c ∷ clients) (k ∷ keys) client key are is = (are.0, push clients keys client key are.1 is)

-- a loop makes one more
pub key_made : (clients : List Client) (keys : List HmacKey) (i : ℕ) (client : Client) (key : HmacKey) → i < length clients → client ≡ get_or clients i client → AreKeysOf (take i clients) keys → IsKeyOf client.secret key → AreKeysOf (take (i + 1) clients) (keys ++ key ∷ [])
key_made clients keys i client key within is are key_is =
    subst (λ l. AreKeysOf l (keys ++ key ∷ [])) (sym (take_more clients i client within ∙ ap (λ c. take i clients ++ c ∷ []) (sym is)))
    (push (take i clients) keys client key are key_is)

-- as many keys as clients
pub keys_number : (clients : List Client) (keys : List HmacKey) → AreKeysOf clients keys → length keys ≡ length clients
keys_number [] [] are = refl
keys_number [] (k ∷ keys) are = absurd are
keys_number (c ∷ clients) [] are = absurd are
keys_number (c ∷ clients) (k ∷ keys) are = ap suc (keys_number clients keys are.1)

-- each is that of the client with its number
pub key_found : (clients : List Client) (keys : List HmacKey) (i : ℕ) (key : HmacKey) → AreKeysOf clients keys → i < length clients → key ≡ get_or keys i key → IfSome (slice_get clients i) (λ client. IsKeyOf client.secret key)
key_found [] keys i key are within is = absurd (omega arith)
key_found (c ∷ clients) [] i key are within is = absurd are
key_found (c ∷ clients) (k ∷ keys) zero key are within is = subst (λ y. IsKeyOf c.secret y) (sym is) are.0
key_found (c ∷ clients) (k ∷ keys) (suc i) key are within is = key_found clients keys i key are.1 (omega arith) is

pub ruleset key_steps = (key_made, key_found)
