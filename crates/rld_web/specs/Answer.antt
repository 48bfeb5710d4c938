-- How a request is answered.
use Rattle.std.specs.Prelude.{◌≡◌, ℕ, List, [], ◌∷◌, ◌++◌, codes, Option, Some, None}
use Rattle.http1.specs.Fields.{Header}
use Rattle.http_server.specs.declared.response.Response.{Response}
use Rattle.http_server.specs.Response.{IsResponse}
use Rattle.rld_look.specs.Health.{health_text}
use Rattle.rld_look.specs.declared.health.Health.{Health}
use Rattle.rld_look.specs.declared.health.Health.TheVariants as Is
use Rattle.rld_look.specs.declared.look.AccountsLook.{AccountsLook}
use Rattle.rld_look.specs.declared.look.Look.{Look}
use Rattle.rld_text.specs.Metrics.{metrics_text}
use Rattle.rld_page.specs.Json.{accounts_json}
use Rattle.rld_page.specs.Page.{IsPage}
use Rattle.rld_web.specs.Path.{media_type_of, plain}
use Rattle.rld_web.specs.declared.path.Path.{Path}
use Rattle.rld_web.specs.declared.path.Path.TheVariants as Of
use Rattle.rld_web.specs.declared.wanted.Wanted.{Wanted}
use Rattle.rld_web.specs.declared.wanted.Wanted.TheVariants as Asks

-- the fields of each response: it is not cached, it has this media type, a page loads and runs
-- nothing, and the connection ends
abbrev pub fields_with : (media_type : List ℕ) → List Header
fields_with media_type =
    (codes "content-type", media_type)
    ∷ (codes "cache-control", codes "no-store")
    ∷ (codes "x-content-type-options", codes "nosniff")
    ∷ (codes "content-security-policy", codes "default-src 'none'; style-src 'unsafe-inline'; frame-ancestors 'none'")
    ∷ (codes "connection", codes "close") ∷ []

-- the octets are the text of a look, if there is one
abbrev pub IsTextIn : {T : Type 0} → (is : T → List ℕ → Type 0) → Option T → List ℕ → Type 0
IsTextIn is None text = ⊥
IsTextIn is (Some look) text = is look text

-- the octets are the text of this path, for a server that fares so, and that shows this
abbrev pub IsTextOf : Health → Option Look → Option AccountsLook → Path → List ℕ → Type 0
IsTextOf health look accounts Of.Page text = IsTextIn IsPage look text
IsTextOf health look accounts Of.Metrics text = IsTextIn (λ look text. text ≡ metrics_text look) look text
IsTextOf health look accounts Of.Accounts text = IsTextIn (λ accounts text. text ≡ accounts_json accounts) accounts text
IsTextOf health look accounts Of.Health text = text ≡ health_text health

-- 200, or 503 for the health of a server that is not well
abbrev pub health_status : Health → ℕ
health_status Is.Well = 200
health_status Is.NotRecording = 503
health_status Is.ClockBehind = 503

abbrev pub status_of : Health → Path → ℕ
status_of health Of.Page = 200
status_of health Of.Metrics = 200
status_of health Of.Accounts = 200
status_of health Of.Health = health_status health

-- the response to a known path
abbrev pub IsShown : Health → Option Look → Option AccountsLook → Path → Response → Type 0
IsShown health look accounts path response =
    (text : List ℕ) × IsTextOf health look accounts path text
    × IsResponse (status_of health path) (fields_with (media_type_of path)) text response

-- the response to a method that does more than read
abbrev pub IsRefusedMethod : Response → Type 0
IsRefusedMethod =
    IsResponse 405 (fields_with plain ++ (codes "allow", codes "GET, HEAD") ∷ []) (codes "only GET and HEAD are answered\n")

-- the response to what is asked for
abbrev pub IsAnswered : Health → Option Look → Option AccountsLook → Wanted → Response → Type 0
IsAnswered health look accounts Asks.Elsewhere response =
    IsResponse 421 (fields_with plain) (codes "ask for this server by its address or as localhost\n") response
IsAnswered health look accounts Asks.Change response = IsRefusedMethod response
IsAnswered health look accounts Asks.Unknown response =
    IsResponse 404 (fields_with plain) (codes "there is no such page\n") response
IsAnswered health look accounts (Asks.Of path) response = IsShown health look accounts path response

-- the response by how the server has fared, and by these looks at it
abbrev pub HasAnswered : (fares : Health → Type 0) → Option Look → Option AccountsLook → Wanted → Response → Type 0
HasAnswered fares look accounts wanted response =
    (health : Health) × fares health × IsAnswered health look accounts wanted response
