-- The first client whose address stands for another one, as a loop over their numbers finds it.
use Rattle.std.proofs.Common.{◌≡◌, ℕ, ◌+◌, List, ◌∷◌, drop, Bool, true, false, Some, refl, sym, ap, ◌∙◌, subst, add-one, suc}
use Rattle.std.proofs.Math.Seq.{drop-cons}
use Rattle.std.proofs.lemmas.Option.{slice_get_within, get_or_from_slice_get}
use Rattle.std.specs.List.{slice_get, find}
use Rattle.std.specs.Net.Addr.{ipv4_octets}
use Rattle.std.specs.Prelude.{map}
use Rattle.std.specs.declared.net.ipv4_addr.Ipv4Addr.{Ipv4Addr}
use Rattle.rld_networks.specs.declared.network.Network.{Network}
use Rattle.rsl_accounts.specs.declared.client.Client.{Client}
use Rattle.rld_config.specs.Server.{own_address_of, shadows}

left_at : {X : Type 0} (xs : List X) (i : ℕ) (x : X) → slice_get xs i ≡ Some x → drop i xs ≡ x ∷ drop (i + 1) xs
left_at xs i x there =
    rw add-one
    (drop-cons xs i x (slice_get_within xs i x there) ∙ ap (λ y. y ∷ drop (suc i) xs) (get_or_from_slice_get xs i x x there))

first_found : {X : Type 0} (p : X → Bool) (x : X) (xs : List X) → p x ≡ true → find p (x ∷ xs) ≡ Some x
first_found p x xs is = rw is refl

first_passed : {X : Type 0} (p : X → Bool) (x : X) (xs : List X) → p x ≡ false → find p (x ∷ xs) ≡ find p xs
first_passed p x xs is = rw is refl

module _ (networks : List Network) (clients : List Client) (i : ℕ) (client : Client) (there : slice_get clients i ≡ Some client) (address : Ipv4Addr) (own : ipv4_octets address ≡ client.address) where
  is_own : own_address_of client ≡ address
  is_own = ap (λ (octets : List ℕ). address_of octets) (sym own) where
    address_of : List ℕ → Ipv4Addr
    address_of octets = record { octets = octets }

  pub found_at : (b : Bool) → b ≡ shadows networks address → b ≡ true → find (shadows networks) (map own_address_of (drop i clients)) ≡ Some address
  found_at b is holds =
      ap (λ left. find (shadows networks) (map own_address_of left)) (left_at clients i client there)
      ∙ first_found (shadows networks) (own_address_of client) (map own_address_of (drop (i + 1) clients)) (ap (shadows networks) is_own ∙ sym is ∙ holds) ∙ ap Some is_own

  pub passed_at : (b : Bool) → b ≡ shadows networks address → b ≡ false
      → find (shadows networks) (map own_address_of (drop i clients)) ≡ find (shadows networks) (map own_address_of (drop (i + 1) clients))
  passed_at b is fails =
      ap (λ left. find (shadows networks) (map own_address_of left)) (left_at clients i client there)
      ∙ first_passed (shadows networks) (own_address_of client) (map own_address_of (drop (i + 1) clients)) (ap (shadows networks) is_own ∙ sym is ∙ fails)
