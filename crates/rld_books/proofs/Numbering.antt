-- The numbers that clients have in two tables.
use Rattle.std.proofs.Common.{◌≡◌, ℕ, zero, suc, ◌+◌, List, [], ◌∷◌, map, get_or, Bool, true, false, ◌||◌, Option, Some, None, refl, ap, sym, ◌∙◌, if◌then◌else◌}
use Rattle.std.specs.Prelude.{not, slice_get}
use Rattle.std.specs.List.{list_any, position, position_or_len}
use Rattle.std.specs.Option.{option_and_then, option_map}
use Rattle.std.proofs.lemmas.Bool.{false≢true}
use Rattle.std.proofs.lemmas.List.{length-map}
use Rattle.std.proofs.lemmas.List.Quantifiers.{position-Some}
use Rattle.std.proofs.lemmas.Option.{option_and_then_some, slice_get-get_or, slice_get-map}
use Rattle.std.proofs.lemmas.Slice.Eq.{bytes_eq-Decides}
use Rattle.rsl_accounts.specs.Configuration.{Configuration, account_number, client_number, comes_twice, same_octets}
use Rattle.rsl_accounts.specs.declared.client.Client.{Client}
use Rattle.rld_spelling.specs.TableSpelled.{TableSeen}
use Rattle.rld_spelling.specs.Tables.{account_row, client_row, table_of}
use Rattle.rld_spelling.specs.declared.table.TableAccount.{TableAccount}
use Rattle.rld_spelling.specs.declared.table.TableClient.{TableClient}
use Rattle.rld_books.specs.Admitted.{account_with, addresses_of, client_with, next_number}
use Rattle.rld_books.specs.Laws.{ClientsKeepTheirAddress, IsSameClient}
use Rattle.rld_books.specs.Numbers.{next_numbers, number_in}

-- ---- lists

-- the first index at which a test passes, in a list that is made of another one
place-map : {X Y : Type 0} (p : Y → Bool) (f : X → Y) (xs : List X) → position_or_len p (map f xs) ≡ position_or_len (λ x. p (f x)) xs
place-map p f [] = refl
place-map p f (x ∷ xs) = ap (λ n. if not (p (f x)) then 1 + n else 0) (place-map p f xs)

position-map : {X Y : Type 0} (p : Y → Bool) (f : X → Y) (xs : List X) → position p (map f xs) ≡ position (λ x. p (f x)) xs
position-map p f xs = rw (place-map p f xs, length-map xs f) refl

neither : (a b : Bool) → (a || b) ≡ false → (a ≡ false) × (b ≡ false)
neither true b is = absurd (false≢true (sym is))
neither false b is = (refl, is)

any_there : (p : List ℕ → Bool) (xs : List (List ℕ)) (i : ℕ) (x : List ℕ) → slice_get xs i ≡ Some x → p x ≡ true → list_any p xs ≡ true
any_there p [] i x there passes = absurd (none there)
  where
    none : None ≡ Some x → ⊥
    none e = cc
any_there p (y ∷ xs) zero x there passes = ap (λ (t : Bool). t || list_any p xs) (ap p (same there) ∙ passes)
  where
    same : Some y ≡ Some x → y ≡ x
    same e = cc
any_there p (y ∷ xs) (suc i) x there passes = later (p y) (any_there p xs i x there passes)
  where
    later : (t : Bool) → list_any p xs ≡ true → (t || list_any p xs) ≡ true
    later true rest = refl
    later false rest = rest

same_itself : (x : List ℕ) → same_octets x x ≡ true
same_itself x = (bytes_eq-Decides x x).1 refl

-- what stands in no place twice stands in one
one_place : (xs : List (List ℕ)) (i j : ℕ) (x : List ℕ) → comes_twice xs ≡ false → slice_get xs i ≡ Some x → slice_get xs j ≡ Some x → i ≡ j
one_place [] i j x once here there = absurd (none here)
  where
    none : None ≡ Some x → ⊥
    none e = cc
one_place (y ∷ xs) zero zero x once here there = refl
one_place (y ∷ xs) zero (suc j) x once here there =
    absurd (false≢true (sym (neither (list_any (λ later. same_octets later y) xs) (comes_twice xs) once).0
    ∙ any_there (λ later. same_octets later y) xs j x there (ap (λ z. same_octets z y) (same here) ∙ same_itself y)))
  where
    same : Some y ≡ Some x → x ≡ y
    same e = cc
one_place (y ∷ xs) (suc i) zero x once here there =
    absurd (false≢true (sym (neither (list_any (λ later. same_octets later y) xs) (comes_twice xs) once).0
    ∙ any_there (λ later. same_octets later y) xs i x here (ap (λ z. same_octets z y) (same there) ∙ same_itself y)))
  where
    same : Some y ≡ Some x → x ≡ y
    same e = cc
one_place (y ∷ xs) (suc i) (suc j) x once here there =
    ap suc (one_place xs i j x (neither (list_any (λ later. same_octets later y) xs) (comes_twice xs) once).1 here there)

-- ---- the law

found_client : (old new : TableSeen) (client number : ℕ) (was : TableClient) → slice_get old.clients client ≡ Some was → client_with new was.address ≡ Some number
    → IsSameClient old new client number
found_client old new client number was before found =
    let is : TableClient = get_or new.clients number was in
    let told = position-Some (λ (one : TableClient). same_octets was.address one.address) new.clients number was found in
    record {
      was = was;
      is = is;
      there_before = before;
      there = slice_get-get_or new.clients number was told.0;
      address = (bytes_eq-Decides was.address is.address).0 told.1;
    }

same_client : (old new : TableSeen) (client number : ℕ) → next_number old new client ≡ Some number → IsSameClient old new client number
same_client old new client number is =
    option_and_then_some (λ (row : TableClient). client_with new row.address) (slice_get old.clients client) number is
    (λ was before found. found_client old new client number was before found)

same_is : {X : Type 0} (a b : X) → Some a ≡ Some b → a ≡ b
same_is a b e = cc

pub clients_keep : ClientsKeepTheirAddress
clients_keep = record {
  same = same_client;
  one_to_one = λ old new once one other number is also.
      let a = same_client old new one number is in
      let b = same_client old new other number also in
      let equal : a.was.address ≡ b.was.address =
      a.address ∙ ap (λ (row : TableClient). row.address) (same_is a.is b.is (sym a.there ∙ b.there)) ∙ sym b.address in
      one_place (addresses_of old) one other a.was.address once
      (slice_get-map (λ (row : TableClient). row.address) old.clients one ∙ ap (option_map (λ (row : TableClient). row.address)) a.there_before)
      (slice_get-map (λ (row : TableClient). row.address) old.clients other ∙ ap (option_map (λ (row : TableClient). row.address)) b.there_before ∙ ap Some (sym equal));
}

-- ---- the numbers of configurations are those of their tables

pub same_account : (config : Configuration) (name : List ℕ) → account_with (table_of config) name ≡ account_number config name
same_account config name = position-map (λ (account : TableAccount). same_octets name account.name) account_row config.accounts

same_address : (config : Configuration) (address : List ℕ) → client_with (table_of config) address ≡ client_number config address
same_address config address = position-map (λ (client : TableClient). same_octets address client.address) client_row config.clients

same_next : (old new : Configuration) (client : ℕ) → number_in (next_numbers old new) client ≡ next_number (table_of old) (table_of new) client
same_next old new client =
    ap (option_and_then (λ (number : Option ℕ). number)) (slice_get-map (λ (one : Client). client_number new one.address) old.clients client)
    ∙ by (slice_get old.clients client)
    ∙ ap (option_and_then (λ (row : TableClient). client_with (table_of new) row.address)) (sym (slice_get-map client_row old.clients client))
  where
    by : (o : Option Client) → option_and_then (λ (number : Option ℕ). number) (option_map (λ (one : Client). client_number new one.address) o)
        ≡ option_and_then (λ (row : TableClient). client_with (table_of new) row.address) (option_map client_row o)
    by None = refl
    by (Some one) = sym (same_address new one.address)

pub same_numbers : (old new : Configuration) → number_in (next_numbers old new) ≡ next_number (table_of old) (table_of new)
same_numbers old new = λ i client. same_next old new client i
