-- Of more numbers than there are clients one is that of no client's address.
use Rattle.std.proofs.Common.{◌≡◌, ◌≢◌, ℕ, zero, suc, ◌^◌, ◌<◌, ◌≤◌, nat_eq, nat_lt, Bool, true, false, List, [], ◌∷◌, length, map, None, refl, sym, ap, ◌∙◌, ne_eqb, eq-eqb, arith}
use Rattle.std.proofs.lemmas.Bool.{eqb-true, false≢true, ltb-true}
use Rattle.std.proofs.lemmas.Cmp.{nat_eq_equiv}
use Rattle.std.proofs.lemmas.List.{length-map}
use Rattle.std.proofs.lemmas.List.Folds.{list_any_at}
use Rattle.std.proofs.lemmas.List.Sums.{passes_at_first}
use Rattle.std.proofs.lemmas.Map.Made.{length-le_from_is_member}
use Rattle.std.proofs.lemmas.Nat.{from_be_bytes-to_be_bytes_4}
use Rattle.std.proofs.lemmas.Slice.Eq.{bytes_eq-Decides}
use Rattle.std.specs.Int.{w32, from_be_bytes, to_be_bytes}
use Rattle.std.specs.List.{AllByRecursion, IsDistinct, list_any, position, position_or_len}
use Rattle.rsl_accounts.specs.Configuration.{same_octets}
use Rattle.rsl_accounts.specs.declared.client.Client.{Client}

-- the numbers below one, the greatest first
abbrev below : ℕ → List ℕ
below zero = []
below (suc n) = n ∷ below n

length-below : (n : ℕ) → length (below n) ≡ n
length-below zero = refl
length-below (suc n) = ap suc (length-below n)

none_above : (n q : ℕ) → n ≤ q → AllByRecursion (λ y. nat_eq q y ≡ false) (below n)
none_above zero q most = tt
none_above (suc n) q most = (ne_eqb q n (omega arith), none_above n q (omega arith))

distinct : (n : ℕ) → IsDistinct nat_eq (below n)
unfolding IsDistinct
distinct zero = tt
distinct (suc n) = (none_above n n (omega arith), distinct n)

in_below : (n q : ℕ) → list_any (nat_eq q) (below n) ≡ true → q < n
in_below zero q member = absurd (false≢true member)
in_below (suc n) q member = by (nat_eq q n) refl (in_below n q)
  where
    by : (b : Bool) → nat_eq q n ≡ b → (list_any (nat_eq q) (below n) ≡ true → q < n) → q < suc n
    by true is later = omega (arith, eqb-true q n is)
    by false is later = omega (arith, later (rw is at member))

abbrev number : Client → ℕ
number client = from_be_bytes w32 client.address

-- an element at a position passes the test
passes_somewhere : {X : Type 0} (p : X → Bool) (xs : List X) → position p xs ≢ None → list_any p xs ≡ true
passes_somewhere p [] found = absurd (found refl)
passes_somewhere p (x ∷ xs) found = by (nat_lt (position_or_len p (x ∷ xs)) (length (x ∷ xs))) refl
  where
    by : (b : Bool) → nat_lt (position_or_len p (x ∷ xs)) (length (x ∷ xs)) ≡ b → list_any p (x ∷ xs) ≡ true
    by true is =
        let less : position_or_len p (x ∷ xs) < length (x ∷ xs) = ltb-true (position_or_len p (x ∷ xs)) (length (x ∷ xs)) is in
        list_any_at p (x ∷ xs) (position_or_len p (x ∷ xs)) x less (passes_at_first p (x ∷ xs) x less)
    by false is = absurd (found (rw is))

-- a number whose octets are a client's address is that of the client
of_client : (clients : List Client) (q : ℕ) → q < 2 ^ 32 → list_any (λ client. same_octets (to_be_bytes w32 q) client.address) clients ≡ true → list_any (nat_eq q) (map number clients) ≡ true
of_client [] q small found = absurd (false≢true found)
of_client (client ∷ clients) q small found = by (same_octets (to_be_bytes w32 q) client.address) (nat_eq q (number client)) refl refl (of_client clients q small)
  where
    by : (there same : Bool) → same_octets (to_be_bytes w32 q) client.address ≡ there → nat_eq q (number client) ≡ same
        → (list_any (λ client. same_octets (to_be_bytes w32 q) client.address) clients ≡ true → list_any (nat_eq q) (map number clients) ≡ true)
        → list_any (nat_eq q) (map number (client ∷ clients)) ≡ true
    by there true is same_is later = rw same_is
    by true false is same_is later =
        let octets : to_be_bytes w32 q ≡ client.address = (bytes_eq-Decides (to_be_bytes w32 q) client.address).0 is in
        let e : q ≡ number client = sym (from_be_bytes-to_be_bytes_4 q small) ∙ ap (from_be_bytes w32) octets in
        absurd (false≢true (sym same_is ∙ eq-eqb q (number client) e))
    by false false is same_is later = rw same_is (later (rw is at found))

-- so not all of them are clients'
pub one_is_free : (n : ℕ) (clients : List Client) → length clients < n → n ≤ 2 ^ 32 → ((k : ℕ) → k < n → position (λ client. same_octets (to_be_bytes w32 k) client.address) clients ≢ None) → ⊥
one_is_free n clients few small all =
    let most : length (below n) ≤ length (map number clients) = length-le_from_is_member nat_eq_equiv (below n) (map number clients) (distinct n) (λ q member.
    let less : q < n = in_below n q member in
    of_client clients q (omega arith) (passes_somewhere (λ client. same_octets (to_be_bytes w32 q) client.address) clients (all q less))) in
    omega (arith, most, length-below n, length-map clients number)
