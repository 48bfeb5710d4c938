-- What a watcher was told.
use Rattle.std.proofs.Common.{◌≡◌, ℕ, List, [], ◌∷◌, ◌++◌, Option, append-nil, append_assoc, sym, ap, subst, ◌∙◌}
use Rattle.rsl_accounts.specs.Configuration.{Configuration, client_number}
use Rattle.rsl_event.specs.declared.detail.Detail.{Detail}
use Rattle.rld_turn.specs.Told.{HasTold, Told, told_as, told_of}
use Rattle.rld_turn.specs.declared.end.End.{End}
use Rattle.rld_turn.specs.declared.origin.Origin.{Origin}
use Rattle.rld_turn.specs.declared.subject.Subject.{Subject}
use Rattle.rld_turn.specs.declared.watch.Ended.{Ended}

-- a watcher that was not called was told nothing
pub none_told : (knows : List Told → Type 0) → HasTold [] knows knows
none_told knows = λ before known. subst knows (sym (append-nil before)) known

-- ends after ends
pub more_told : (first then : List Told) (knew between knows : List Told → Type 0) → HasTold first knew between
    → HasTold then between knows → HasTold (first ++ then) knew knows
more_told first then knew between knows so_far more = λ before known.
    subst knows (append_assoc before first then) (more (before ++ first) (so_far before known))

-- the client that is told is the one that has the address
pub known_told : (config : Configuration) (ended : Ended) (knew knows : List Told → Type 0)
    → client_number config ended.origin.source.address ≡ ended.client
    → HasTold (told_as ended ∷ []) knew knows
    → HasTold (told_of config ended.origin ended.octets.now ended.detail ended.subject ended.end ∷ []) knew knows
known_told config ended knew knows is told =
    subst (λ (c : Option ℕ). HasTold (record { origin = ended.origin; client = c; octets = ended.octets.now; detail = ended.detail; subject = ended.subject; end = ended.end } ∷ []) knew knows) (sym is) told

-- a datagram is told of by equal origins, octets, details, subjects and ends
pub same_told : (config : Configuration) (told : List Told) (from origin : Origin) (octets bytes : List ℕ)
    (detail particular : Option Detail) (subject whom : Option Subject) (end other : End)
    → from ≡ origin → octets ≡ bytes → detail ≡ particular → subject ≡ whom → end ≡ other
    → told ++ told_of config from octets detail subject end ∷ [] ≡ told ++ told_of config origin bytes particular whom other ∷ []
same_told config told from origin octets bytes detail particular subject whom end other i j k m l =
    ap (λ (o : Origin). told ++ told_of config o octets detail subject end ∷ []) i
    ∙ ap (λ (o : List ℕ). told ++ told_of config origin o detail subject end ∷ []) j
    ∙ ap (λ (d : Option Detail). told ++ told_of config origin bytes d subject end ∷ []) k
    ∙ ap (λ (s : Option Subject). told ++ told_of config origin bytes particular s end ∷ []) m
    ∙ ap (λ (e : End). told ++ told_of config origin bytes particular whom e ∷ []) l
