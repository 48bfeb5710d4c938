-- The books of a snapshot of a version before format 3, account by account.
use Rattle.std.proofs.Common.{◌≡◌, ℕ, zero, suc, ◌+◌, ◌-◌, ◌%◌, ◌<◌, ◌≤◌, ◌⊎◌, inl, inr, List, [], ◌∷◌, ◌++◌, length, map, take, Some, refl, sym, ap, ◌∙◌, arith, length-append}
use Rattle.std.specs.Prelude.{slice_get}
use Rattle.std.specs.Int.{div_ceil}
use Rattle.std.specs.Option.{option_map}
use Rattle.std.proofs.Math.Nat.{div-le_self, min-le_left}
use Rattle.std.proofs.lemmas.Bool.{cases_lt}
use Rattle.std.proofs.lemmas.List.{length-map, map_push, take_all}
use Rattle.std.proofs.lemmas.Option.{slice_get-map}
use Rattle.rsl_accounts.specs.Configuration.{Configuration}
use Rattle.rsl_accounts.specs.declared.entry.Entry.{Entry}
use Rattle.rsl_book.specs.Restored.{saved}
use Rattle.rsl_book.specs.RuledBook.{RuledBook}
use Rattle.rsl_session.specs.Saved.{saved_book}
use Rattle.rsl_session.specs.declared.saved.SavedBook.{SavedBook}
use Rattle.rsl_shard.specs.Opening.{as_new}
use Rattle.rsl_shard.specs.Restep.{book_of_entry}
use Rattle.rld_books.specs.Dealt.{AreDealt, books_before, dealt_place}
use Rattle.rld_books.specs.Saved.{IsServerOf}
use Rattle.rld_books.proofs.Numbered.{one_more}

get_front : {X : Type 0} (xs ys : List X) (i : ℕ) → i < length xs → slice_get (xs ++ ys) i ≡ slice_get xs i
get_front [] ys i less = absurd (omega (arith, less))
get_front (x ∷ xs) ys zero less = refl
get_front (x ∷ xs) ys (suc i) less = get_front xs ys i (omega (arith, less))

get_last : {X : Type 0} (xs : List X) (x : X) (i : ℕ) → i ≡ length xs → slice_get (xs ++ x ∷ []) i ≡ Some x
get_last [] x i at = ap (slice_get (x ∷ [])) at
get_last (y ∷ xs) x zero at = absurd (omega (arith, at))
get_last (y ∷ xs) x (suc i) at = get_last xs x i (omega (arith, at))

-- ---- the place of a book

pub none_before : (shards count : ℕ) → 0 ≡ books_before shards count 0
unfolding books_before
none_before shards count = refl

next_before : (shards count shard : ℕ) → books_before shards count (suc shard) ≡ books_before shards count shard + div_ceil (count - shard) shards
unfolding books_before
next_before shards count shard = refl

pub more_before : (shards count shard before more : ℕ) → before ≡ books_before shards count shard → more ≡ div_ceil (count - shard) shards
    → before + more ≡ books_before shards count (shard + 1)
more_before shards count shard before more so_far this =
    let next : suc shard ≡ shard + 1 = omega arith in
    ap (λ (n : ℕ). n + more) so_far ∙ ap (λ (n : ℕ). books_before shards count shard + n) this ∙ sym (next_before shards count shard)
    ∙ ap (books_before shards count) next

pub few_more : (shards left more : ℕ) → left ≤ 16384 → more ≡ div_ceil left shards → more ≤ 16385
few_more shards left more few is = omega (arith, few, is, div-le_self left shards, min-le_left 1 (left % shards))

-- ---- book by book

-- the books of the first accounts
pub record AreDealtTo (shards : ℕ) (config : Configuration) (kept : List SavedBook) (number : ℕ) (books : List RuledBook) : Type 0 where
  pub rules : map as_new books ≡ map book_of_entry (take number config.accounts)
  pub long : length books ≡ number
  pub each : (account : ℕ) → account < number → slice_get (map saved_book kept) (dealt_place shards (length config.accounts) account) ≡ option_map saved (slice_get books account)

pub none_dealt : (shards : ℕ) (config : Configuration) (kept : List SavedBook) (books : List RuledBook) → books ≡ [] → AreDealtTo shards config kept 0 books
none_dealt shards config kept books none = record {
  rules = ap (map as_new) none;
  long = ap length none;
  each = λ account less. absurd (omega (arith, less));
}

pub one_dealt : (shards : ℕ) (config : Configuration) (kept : List SavedBook) (number place : ℕ) (books all : List RuledBook) (entry : Entry) (one : SavedBook) (made : RuledBook)
    → AreDealtTo shards config kept number books → slice_get config.accounts number ≡ Some entry → place ≡ dealt_place shards (length config.accounts) number → slice_get kept place ≡ Some one
    → made ≡ record { rules = entry.rules; book = saved_book one } → all ≡ books ++ made ∷ [] → AreDealtTo shards config kept (number + 1) all
one_dealt shards config kept number place books all entry one made so there at is has are = record {
  rules = ap (map as_new) are ∙ map_push as_new books made
      ∙ one_more book_of_entry config.accounts number entry (map as_new books) (as_new made) there so.rules (ap as_new has);
  long = ap length are ∙ length-append books (made ∷ []) ∙ ap (λ (n : ℕ). n + 1) so.long;
  each = λ account less. by account (cases_lt account number) less ∙ ap (λ (l : List RuledBook). option_map saved (slice_get l account)) (sym are);
}
  where
    by : (account : ℕ) → (account < number) ⊎ (number ≤ account) → account < number + 1
        → slice_get (map saved_book kept) (dealt_place shards (length config.accounts) account) ≡ option_map saved (slice_get (books ++ made ∷ []) account)
    by account (inl before) less =
        so.each account before ∙ ap (option_map saved) (sym (get_front books (made ∷ []) account (omega (arith, before, so.long))))
    by account (inr past) less =
        let this : account ≡ number = omega (arith, past, less) in
        ap (λ (n : ℕ). slice_get (map saved_book kept) (dealt_place shards (length config.accounts) n)) this
        ∙ ap (slice_get (map saved_book kept)) (sym at)
        ∙ slice_get-map saved_book kept place ∙ ap (option_map saved_book) is
        ∙ ap Some (sym (ap saved has))
        ∙ ap (option_map saved) (sym (get_last books made account (omega (arith, this, so.long))))

pub all_dealt : (shards : ℕ) (config : Configuration) (kept : List SavedBook) (number : ℕ) (books : List RuledBook) → AreDealtTo shards config kept number books
    → number ≡ length config.accounts → length kept ≡ number → AreDealt shards (map saved_book kept) books
all_dealt shards config kept number books so all many =
    let same : length config.accounts ≡ length books = omega (arith, all, so.long) in
    record {
      count = length-map kept saved_book ∙ many ∙ sym so.long;
      each = λ account less.
          ap (λ (n : ℕ). slice_get (map saved_book kept) (dealt_place shards n account)) (sym same) ∙ so.each account (omega (arith, less, so.long));
    }

pub all_dealt_rules : (shards : ℕ) (config : Configuration) (kept : List SavedBook) (number : ℕ) (books : List RuledBook) → AreDealtTo shards config kept number books
    → length config.accounts ≤ number → IsServerOf config books
all_dealt_rules shards config kept number books so past = so.rules ∙ ap (map book_of_entry) (take_all number config.accounts past)
