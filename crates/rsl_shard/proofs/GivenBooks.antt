-- Books that are given are those of a shard where each has the rules of the account at its index, and there is one of each.
use Rattle.std.proofs.Common.{◌≡◌, ℕ, ◌+◌, ◌*◌, ◌<◌, ◌≤◌, ◌⊎◌, List, ◌∷◌, [], ◌++◌, take, get_or, length, map, Bool, true, false, Option, Some, None, All, inl, inr, refl, sym, ap, subst, ◌∙◌, arith}
use Rattle.std.specs.Prelude.{◌↔◌, slice_get}
use Rattle.std.specs.Option.{option_map}
use Rattle.std.proofs.lemmas.Bool.{cases_lt, false≢true}
use Rattle.std.proofs.lemmas.List.{take_more, take_all, length-map, get_or-map}
use Rattle.std.proofs.lemmas.Option.{slice_get_past, slice_get_within, slice_get_read, get_or_from_slice_get}
use Rattle.rsl_accounts.specs.Configuration.{Configuration}
use Rattle.rsl_accounts.specs.declared.entry.Entry.{Entry}
use Rattle.rsl_book.specs.RuledBook.{IsWithinLimit, RuledBook}
use Rattle.rsl_shard.specs.Opening.{as_new}
use Rattle.rsl_shard.specs.Restep.{AreBooks, book_of_entry, new_books}
use Rattle.rsl_shard.specs.Setup.{IsSetup, setup_of}
use Rattle.rsl_shard.proofs.Beginning.{has_account, has_index, new_book_at}

-- an account that has a book is one
pub has_entry : (accounts : List Entry) (account : ℕ) (ruled : RuledBook) → option_map book_of_entry (slice_get accounts account) ≡ Some ruled → account < length accounts
has_entry accounts account ruled is = by (cases_lt account (length accounts))
  where
    is_there : Option RuledBook → Bool
    is_there (Some one) = true
    is_there None = false

    by : (account < length accounts) ⊎ (length accounts ≤ account) → account < length accounts
    by (inl less) = less
    by (inr past) = absurd (false≢true (ap is_there (sym (ap (option_map book_of_entry) (slice_get_past accounts account past)) ∙ is)))

module _ (config : Configuration) (shard : ℕ) (books : List RuledBook) (less : shard < config.settings.shards) where
  -- one more that is the account's
  pub given_more : (i account : ℕ) (book : RuledBook) → account ≡ shard + i * config.settings.shards → i < length books → book ≡ get_or books i book
      → option_map book_of_entry (slice_get config.accounts account) ≡ Some (as_new book)
      → take i (map as_new books) ≡ take i (new_books config shard) → take (i + 1) (map as_new books) ≡ take (i + 1) (new_books config shard)
  given_more i account book at within here is so_far =
      let there : slice_get (new_books config shard) i ≡ Some (as_new book) =
      new_book_at config shard i less ∙ ap (λ (n : ℕ). option_map book_of_entry (slice_get config.accounts n)) (sym at) ∙ is in
      let one : get_or (map as_new books) i (as_new book) ≡ as_new book = get_or-map as_new books i book (as_new book) within ∙ ap as_new (sym here) in
      let other : get_or (new_books config shard) i (as_new book) ≡ as_new book = get_or_from_slice_get (new_books config shard) i (as_new book) (as_new book) there in
      take_more (map as_new books) i (as_new book) (rw (length-map books as_new) within)
      ∙ ap (λ z. take i (map as_new books) ++ z ∷ []) (one ∙ sym other)
      ∙ ap (λ zs. zs ++ get_or (new_books config shard) i (as_new book) ∷ []) so_far
      ∙ sym (take_more (new_books config shard) i (as_new book) (slice_get_within (new_books config shard) i (as_new book) there))

  -- one that is not
  pub given_not : (i account : ℕ) (book : RuledBook) → account ≡ shard + i * config.settings.shards → i < length books → book ≡ get_or books i book
      → (option_map book_of_entry (slice_get config.accounts account) ≡ Some (as_new book) → false ≡ true)
      → (false ≡ true) ↔ (map as_new books ≡ new_books config shard)
  given_not i account book at within here apart = (
    λ yes. absurd (false≢true yes),
    λ same.
        let one : get_or (map as_new books) i (as_new book) ≡ as_new book = get_or-map as_new books i book (as_new book) within ∙ ap as_new (sym here) in
        let read : slice_get (map as_new books) i ≡ Some (as_new book) =
        slice_get_read (map as_new books) (length (map as_new books)) i (as_new book) refl (rw (length-map books as_new) within) (sym one) in
        apart (ap (λ (n : ℕ). option_map book_of_entry (slice_get config.accounts n)) at ∙ sym (new_book_at config shard i less)
        ∙ ap (λ (all : List RuledBook). slice_get all i) (sym same) ∙ read),
  )

  -- all of them, and no account is left
  pub given_same : (i account : ℕ) → length books ≤ i → account ≡ shard + i * config.settings.shards → length config.accounts ≤ account
      → take i (map as_new books) ≡ take i (new_books config shard) → map as_new books ≡ new_books config shard
  given_same i account all at past so_far =
      sym (take_all i (map as_new books) (rw (length-map books as_new) all)) ∙ so_far ∙ take_all i (new_books config shard) (by (cases_lt i (length (new_books config shard))))
    where
      by : (i < length (new_books config shard)) ⊎ (length (new_books config shard) ≤ i) → length (new_books config shard) ≤ i
      by (inl within) = absurd (omega (arith, has_account config shard i less within, at, past))
      by (inr few) = few

  pub given_all : (i account : ℕ) → length books ≤ i → account ≡ shard + i * config.settings.shards → length config.accounts ≤ account
      → take i (map as_new books) ≡ take i (new_books config shard) → (true ≡ true) ↔ (map as_new books ≡ new_books config shard)
  given_all i account all at past so_far = (λ yes. given_same i account all at past so_far, λ same. refl)

  -- and an account is left
  pub given_few : (i account : ℕ) → length books ≤ i → account ≡ shard + i * config.settings.shards → account < length config.accounts
      → (false ≡ true) ↔ (map as_new books ≡ new_books config shard)
  given_few i account all at left = (
    λ yes. absurd (false≢true yes),
    λ same. absurd (omega (arith, has_index config shard i less (subst (λ n. n < length config.accounts) at left), sym (length-map books as_new) ∙ ap length same, all)),
  )

-- the books that were given are books of the shard
pub given_are_books : (config : Configuration) (shard : ℕ) (books : List RuledBook) → IsSetup (setup_of config shard) → map as_new books ≡ new_books config shard
    → All IsWithinLimit books → AreBooks (setup_of config shard) books
given_are_books config shard books within are limit =
    let long : length books ≡ length (new_books config shard) = sym (length-map books as_new) ∙ ap length are in
    record {
      within = within;
      each = λ index less. subst (λ n. index < n) (sym long) (has_index config shard index within.shard less);
      no_more = λ index less. has_account config shard index within.shard (subst (λ n. index < n) long less);
      limit = limit;
    }
