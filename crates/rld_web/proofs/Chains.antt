-- What each call of a service keeps, all of them keep.
use Rattle.std.proofs.Common.{◌≡◌, ℕ, List, [], ◌∷◌, ap, ◌∙◌}
use Rattle.http.specs.declared.request.Request.{Request}
use Rattle.http_server.specs.Exchange.{Call, Chain}
use Rattle.http_server.specs.declared.response.Response.{Response}

pub kept : {S X : Type 0} (answers : S → Request (List ℕ) → Response → S → Type 0) (shown : S → X)
    → ((old : S) (request : Request (List ℕ)) (response : Response) (new : S) → answers old request response new → shown new ≡ shown old)
    → (old : S) (calls : List Call) (new : S) → Chain answers old calls new → shown new ≡ shown old
kept answers shown each old [] new same = ap shown same
kept answers shown each old (call ∷ calls) new (next, first, rest) =
    kept answers shown each next calls new rest ∙ each old call.0 call.1 next first
