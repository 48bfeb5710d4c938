-- Rows of access servers: what one more adds to the last of them, and their order.
use Rattle.std.proofs.Common.{◌≡◌, Bool, true, false, List, [], ◌∷◌, ◌++◌, append_assoc, refl, ap, ◌∙◌, sym}
use Rattle.std.specs.Cmp.{IsStrictWeakOrder, IsTotalOrder}
use Rattle.std.specs.Ordering.{is_lt}
use Rattle.std.specs.Prelude.{if◌then◌else◌}
use Rattle.std.proofs.lemmas.Cmp.{nat_cmp_total, nat_list_cmp_total, on_total, then_total}
use Rattle.std.proofs.lemmas.List.Sorted.{ranks_by}
use Rattle.rld_look.specs.AccessServers.{by_server, is_same_server, joined_after, kind_of_name, octets_of_name, with_links, with_server}
use Rattle.rld_look.specs.declared.servers.AccessServerLook.{AccessServerLook}

-- only the last row matters
at_end : (rows : List AccessServerLook) (last more : AccessServerLook)
    → with_server (rows ++ last ∷ []) more ≡ rows ++ with_server (last ∷ []) more
at_end [] last more = refl
at_end (one ∷ []) last more = refl
at_end (one ∷ two ∷ rest) last more = ap (λ (rows : List AccessServerLook). one ∷ rows) (at_end (two ∷ rest) last more)

-- what a choice at the last row gives
chosen : (old popped : List AccessServerLook) (last more : AccessServerLook) (same : Bool) → old ≡ popped ++ last ∷ []
    → is_same_server last more ≡ same
    → with_server old more ≡ popped ++ (if same then with_links last more ∷ [] else last ∷ more ∷ [])
chosen old popped last more same was is =
    ap (λ (rows : List AccessServerLook). with_server rows more) was
    ∙ at_end popped last more
    ∙ ap (λ (test : Bool). popped ++ (if test then with_links last more ∷ [] else last ∷ more ∷ [])) is

pub put_with : (old popped new : List AccessServerLook) (last more both : AccessServerLook) → old ≡ popped ++ last ∷ []
    → is_same_server last more ≡ true → both ≡ with_links last more → new ≡ popped ++ both ∷ []
    → new ≡ with_server old more
put_with old popped new last more both was same is after =
    after ∙ ap (λ (one : AccessServerLook). popped ++ one ∷ []) is ∙ sym (chosen old popped last more true was same)

pub put_after : (old popped back new : List AccessServerLook) (last more : AccessServerLook) → old ≡ popped ++ last ∷ []
    → is_same_server last more ≡ false → back ≡ popped ++ last ∷ [] → new ≡ back ++ more ∷ []
    → new ≡ with_server old more
put_after old popped back new last more was other first second =
    second ∙ ap (λ (rows : List AccessServerLook). rows ++ more ∷ []) first
    ∙ append_assoc popped (last ∷ []) (more ∷ [])
    ∙ sym (chosen old popped last more false was other)

-- one more at the end of those that are joined
pub joined_more : (rows servers : List AccessServerLook) (more : AccessServerLook)
    → joined_after rows (servers ++ more ∷ []) ≡ with_server (joined_after rows servers) more
joined_more rows [] more = refl
joined_more rows (server ∷ servers) more = joined_more (with_server rows server) servers more

-- the order is one that a sort can go by
total : IsTotalOrder by_server
total =
    then_total (on_total (λ (server : AccessServerLook). server.client) nat_list_cmp_total)
    (then_total (on_total (λ (server : AccessServerLook). kind_of_name server.nas) nat_cmp_total)
    (on_total (λ (server : AccessServerLook). octets_of_name server.nas) nat_list_cmp_total))

pub ranked : IsStrictWeakOrder (λ one two. is_lt (by_server one two))
ranked = ranks_by total (λ (server : AccessServerLook). server)
