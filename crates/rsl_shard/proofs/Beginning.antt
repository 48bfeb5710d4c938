-- The new books of a shard: one for each of its accounts, at its index.
use Rattle.std.proofs.Common.{◌≡◌, ℕ, zero, suc, ◌+◌, ◌-◌, ◌*◌, ◌%◌, ◌<◌, ◌≤◌, List, [], ◌∷◌, ◌++◌, drop, length, Bool, cond, Option, Some, None, All, refl, sym, ap, subst, ◌∙◌, arith, append-nil, append_assoc}
use Rattle.std.specs.Prelude.{slice_get}
use Rattle.std.specs.Option.{option_map}
use Rattle.std.proofs.Math.Nat.{suc-mul, mod-eq_of_lt}
use Rattle.std.proofs.lemmas.Bool.{eq-eqb}
use Rattle.std.proofs.lemmas.List.{drop_more, drop_all}
use Rattle.std.proofs.lemmas.List.Elements.{All-append, All-cons, All-nil}
use Rattle.std.proofs.lemmas.Option.{slice_get_within, get_or_from_slice_get}
use Rattle.rsl_accounts.specs.Configuration.{Configuration}
use Rattle.rsl_accounts.specs.declared.entry.Entry.{Entry}
use Rattle.rsl_book.specs.RuledBook.{IsWithinLimit, RuledBook}
use Rattle.rsl_shard.specs.Restep.{AreBooks, book_of_entry, new_books, new_books_from}
use Rattle.rsl_shard.specs.Setup.{IsSetup, setup_of}
use Rattle.rsl_shard.proofs.Numbers.{apart, differs, next_of_shard, there}

-- the book at an index is that of the entry of its account; `ahead` is how far the first account of the shard is
pub new_at : (shards shard number ahead index account : ℕ) (entries : List Entry) → ahead < shards → (number + ahead) % shards ≡ shard → account ≡ ahead + index * shards
    → slice_get (new_books_from shards shard number entries) index ≡ option_map book_of_entry (slice_get entries account)
unfolding new_books_from
new_at shards shard number ahead index account [] less is at = refl
new_at shards shard number zero index account (entry ∷ entries) less is at =
    ap (λ (test : Bool). slice_get (cond test (book_of_entry entry ∷ new_books_from shards shard (number + 1) entries) (new_books_from shards shard (number + 1) entries)) index)
    (eq-eqb (number % shards) shard (ap (λ (n : ℕ). n % shards) (omega arith) ∙ is))
    ∙ from index account at
    (λ (next below : ℕ) (here : below ≡ shards - 1 + next * shards).
    new_at shards shard (number + 1) (shards - 1) next below entries (omega (arith, less))
    (ap (λ (n : ℕ). n % shards) (omega (arith, less)) ∙ next_of_shard shards (number + zero) shard is) here)
  where
    from : (index account : ℕ) → account ≡ zero + index * shards
        → ((next below : ℕ) → below ≡ shards - 1 + next * shards → slice_get (new_books_from shards shard (number + 1) entries) next ≡ option_map book_of_entry (slice_get entries below))
        → slice_get (book_of_entry entry ∷ new_books_from shards shard (number + 1) entries) index ≡ option_map book_of_entry (slice_get (entry ∷ entries) account)
    from zero zero here rest = refl
    from zero (suc account) here rest = absurd (omega (arith, here))
    from (suc index) zero here rest = let long : suc index * shards ≡ index * shards + shards = suc-mul index shards in absurd (omega (arith, here, long, less))
    from (suc index) (suc account) here rest =
        let long : suc index * shards ≡ index * shards + shards = suc-mul index shards in
        rest index account (omega (arith, here, long, less))
new_at shards shard number (suc ahead) index zero (entry ∷ entries) less is at = absurd (omega (arith, at))
new_at shards shard number (suc ahead) index (suc account) (entry ∷ entries) less is at =
    ap (λ (test : Bool). slice_get (cond test (book_of_entry entry ∷ new_books_from shards shard (number + 1) entries) (new_books_from shards shard (number + 1) entries)) index)
    (differs (number % shards) shard (λ (same : number % shards ≡ shard). apart shards number ahead less (is ∙ sym same)))
    ∙ new_at shards shard (number + 1) ahead index account entries (omega (arith, less)) (ap (λ (n : ℕ). n % shards) (omega arith) ∙ is) (omega (arith, at))

-- the book of an entry where there is one, in the books of a shard
pub new_book_at : (config : Configuration) (shard index : ℕ) → shard < config.settings.shards
    → slice_get (new_books config shard) index ≡ option_map book_of_entry (slice_get config.accounts (shard + index * config.settings.shards))
new_book_at config shard index less =
    new_at config.settings.shards shard 0 shard index (shard + index * config.settings.shards) config.accounts less
    (ap (λ (n : ℕ). n % config.settings.shards) (omega arith) ∙ mod-eq_of_lt less) refl

pub has_index : (config : Configuration) (shard index : ℕ) → shard < config.settings.shards → shard + index * config.settings.shards < length config.accounts
    → index < length (new_books config shard)
has_index config shard index less within = by (slice_get config.accounts (shard + index * config.settings.shards)) refl
  where
    by : (o : Option Entry) → slice_get config.accounts (shard + index * config.settings.shards) ≡ o → index < length (new_books config shard)
    by (Some entry) is = slice_get_within (new_books config shard) index (book_of_entry entry) (new_book_at config shard index less ∙ ap (option_map book_of_entry) is)
    by None is = absurd (there config.accounts (shard + index * config.settings.shards) within is)

pub has_account : (config : Configuration) (shard index : ℕ) → shard < config.settings.shards → index < length (new_books config shard)
    → shard + index * config.settings.shards < length config.accounts
has_account config shard index less within = by (slice_get config.accounts (shard + index * config.settings.shards)) refl
  where
    by : (o : Option Entry) → slice_get config.accounts (shard + index * config.settings.shards) ≡ o → shard + index * config.settings.shards < length config.accounts
    by (Some entry) is = slice_get_within config.accounts (shard + index * config.settings.shards) entry is
    by None is = absurd (there (new_books config shard) index within (new_book_at config shard index less ∙ ap (option_map book_of_entry) is))

-- new books are the books of the shard
pub new_are_books : (config : Configuration) (shard : ℕ) (books : List RuledBook) → IsSetup (setup_of config shard) → books ≡ new_books config shard
    → All IsWithinLimit books → AreBooks (setup_of config shard) books
new_are_books config shard books within are limit = record {
  within = within;
  each = λ index less. subst (λ (all : List RuledBook). index < length all) (sym are) (has_index config shard index within.shard less);
  no_more = λ index less. has_account config shard index within.shard (subst (λ (all : List RuledBook). index < length all) are less);
  limit = limit;
}

-- the books are made entry by entry: with those of the entries that are left they are all new books
next_left : (number : ℕ) (entries : List Entry) (entry : Entry) → slice_get entries number ≡ Some entry → drop number entries ≡ entry ∷ drop (number + 1) entries
next_left number entries entry is =
    drop_more entries number entry (slice_get_within entries number entry is)
    ∙ ap (λ (one : Entry). one ∷ drop (number + 1) entries) (get_or_from_slice_get entries number entry entry is)

pub new_more : (shards shard number : ℕ) (books all : List RuledBook) (entries : List Entry) (entry : Entry) (made : RuledBook)
    → slice_get entries number ≡ Some entry → made ≡ book_of_entry entry → number % shards ≡ shard
    → books ++ new_books_from shards shard number (drop number entries) ≡ all
    → (books ++ made ∷ []) ++ new_books_from shards shard (number + 1) (drop (number + 1) entries) ≡ all
unfolding new_books_from
new_more shards shard number books all entries entry made is made_is of_shard so_far =
    append_assoc books (made ∷ []) (new_books_from shards shard (number + 1) (drop (number + 1) entries))
    ∙ ap (λ (book : RuledBook). books ++ book ∷ new_books_from shards shard (number + 1) (drop (number + 1) entries)) made_is
    ∙ ap (λ (rest : List RuledBook). books ++ rest) (sym (
    ap (new_books_from shards shard number) (next_left number entries entry is)
    ∙ ap (λ (test : Bool). cond test (book_of_entry entry ∷ new_books_from shards shard (number + 1) (drop (number + 1) entries)) (new_books_from shards shard (number + 1) (drop (number + 1) entries)))
    (eq-eqb (number % shards) shard of_shard)
    ))
    ∙ so_far

pub new_less : (shards shard number : ℕ) (books all : List RuledBook) (entries : List Entry) → number < length entries → (number % shards ≡ shard → ⊥)
    → books ++ new_books_from shards shard number (drop number entries) ≡ all
    → books ++ new_books_from shards shard (number + 1) (drop (number + 1) entries) ≡ all
unfolding new_books_from
new_less shards shard number books all entries within other so_far = by (slice_get entries number) refl
  where
    by : (o : Option Entry) → slice_get entries number ≡ o → books ++ new_books_from shards shard (number + 1) (drop (number + 1) entries) ≡ all
    by None is = absurd (there entries number within is)
    by (Some entry) is =
        ap (λ (rest : List RuledBook). books ++ rest) (sym (
        ap (new_books_from shards shard number) (next_left number entries entry is)
        ∙ ap (λ (test : Bool). cond test (book_of_entry entry ∷ new_books_from shards shard (number + 1) (drop (number + 1) entries)) (new_books_from shards shard (number + 1) (drop (number + 1) entries)))
        (differs (number % shards) shard other)
        ))
        ∙ so_far

pub new_done : (shards shard number : ℕ) (books all : List RuledBook) (entries : List Entry) → length entries ≤ number
    → books ++ new_books_from shards shard number (drop number entries) ≡ all → books ≡ all
unfolding new_books_from
new_done shards shard number books all entries past so_far =
    sym (append-nil books) ∙ ap (λ (rest : List Entry). books ++ new_books_from shards shard number rest) (sym (drop_all number entries past)) ∙ so_far

-- what the loop over the accounts keeps of the books that it has made
pub record AreMade (config : Configuration) (shard number : ℕ) (books : List RuledBook) : Type 0 where
  pub books_left : books ++ new_books_from config.settings.shards shard number (drop number config.accounts) ≡ new_books config shard
  pub limit : All IsWithinLimit books

pub made_more : (config : Configuration) (shard number : ℕ) (books next : List RuledBook) (entry : Entry) (made : RuledBook)
    → AreMade config shard number books → slice_get config.accounts number ≡ Some entry → made ≡ book_of_entry entry → IsWithinLimit made
    → number % config.settings.shards ≡ shard → next ≡ books ++ made ∷ [] → AreMade config shard (number + 1) next
made_more config shard number books next entry made so_far is made_is limit of_shard pushed = record {
  books_left =
      ap (λ (all : List RuledBook). all ++ new_books_from config.settings.shards shard (number + 1) (drop (number + 1) config.accounts)) pushed
      ∙ new_more config.settings.shards shard number books (new_books config shard) config.accounts entry made is made_is of_shard so_far.books_left;
  limit = subst (All IsWithinLimit) (sym pushed) (All-append IsWithinLimit books (made ∷ []) so_far.limit (All-cons IsWithinLimit made [] limit (All-nil IsWithinLimit)));
}

pub made_same : (config : Configuration) (shard number : ℕ) (books next : List RuledBook) → AreMade config shard number books → number < length config.accounts
    → (number % config.settings.shards ≡ shard → ⊥) → next ≡ books → AreMade config shard (number + 1) next
made_same config shard number books next so_far within other same = record {
  books_left =
      ap (λ (all : List RuledBook). all ++ new_books_from config.settings.shards shard (number + 1) (drop (number + 1) config.accounts)) same
      ∙ new_less config.settings.shards shard number books (new_books config shard) config.accounts within other so_far.books_left;
  limit = subst (All IsWithinLimit) (sym same) so_far.limit;
}
