-- What a move makes of the books of a shard, book by book.
use Rattle.std.proofs.Common.{◌≡◌, ℕ, zero, suc, ◌+◌, ◌*◌, ◌/◌, ◌%◌, ◌<◌, ◌≤◌, ◌⊎◌, List, [], ◌∷◌, ◌++◌, take, drop, set, get_or, length, map, Bool, true, false, ◌==◌, cond, Option, Some, None, inl, inr, refl, sym, ap, ◌∙◌, arith, append-nil}
use Rattle.std.specs.Prelude.{slice_get}
use Rattle.std.specs.Option.{option_map, option_map_or}
use Rattle.std.proofs.Math.Nat.{mod-eq_of_lt, suc-mul}
use Rattle.std.proofs.lemmas.Bool.{cases_lt, eqb-true, eq-eqb}
use Rattle.std.proofs.lemmas.List.{drop_all, take_all, take_more, get_or_default}
use Rattle.std.proofs.lemmas.Option.{slice_get_past, slice_get_read}
use Rattle.std.proofs.lemmas.List.Edits.{map_over_more}
use Rattle.rsl_book.specs.RuledBook.{RuledBook}
use Rattle.rsl_accounts.specs.declared.rules.Rules.{Rules}
use Rattle.rsl_event.specs.declared.event.Decision.{Decision}
use Rattle.rsl_event.specs.declared.event.Decision.TheVariants.{Done}
use Rattle.rsl_event.specs.declared.event.Event.{Event}
use Rattle.rsl_session.specs.Book.{Book, new_book}
use Rattle.rsl_session.specs.BookStep.{step}
use Rattle.rsl_shard.specs.Moves.{IsOfShard, event_to}
use Rattle.rsl_shard.specs.Opening.{as_new}
use Rattle.rsl_shard.specs.Restep.{AreBooks, HaveStepped, book_at, book_from, books_after, decision_by, moved_from, step_by}
use Rattle.rsl_shard.specs.Setup.{Setup}
use Rattle.rsl_shard.specs.declared.moved.Move.{Move}
use Rattle.rsl_shard.specs.declared.moved.Move.TheVariants.{Own}
use Rattle.rsl_shard.proofs.Numbers.{account_is, differs, next_of_shard, unequal}

-- books before which the account stands stay as they are
pub moved_past : (first shards account : ℕ) (event : Event) (books : List RuledBook) → account < first → moved_from first shards (Own account event) books ≡ books
unfolding moved_from
moved_past first shards account event [] less = refl
moved_past first shards account event (ruled ∷ books) less =
    let other : (account == first) ≡ false = differs account first (λ (same : account ≡ first). omega (arith, same, less)) in
    ap (λ (test : Bool). step_by (cond test (Some event) None) ruled ∷ moved_from (first + shards) shards (Own account event) books) other
    ∙ ap (λ (rest : List RuledBook). ruled ∷ rest) (moved_past (first + shards) shards account event books (omega (arith, less)))

-- an own move steps the book at its account's index
pub moved_own : (first shards account index : ℕ) (event : Event) (books : List RuledBook) (ruled : RuledBook) → 0 < shards → account ≡ first + index * shards
    → slice_get books index ≡ Some ruled → moved_from first shards (Own account event) books ≡ set books index (step_by (Some event) ruled)
unfolding moved_from
moved_own first shards account index event [] ruled some at is = cc
moved_own first shards account zero event (here ∷ books) ruled some at is =
    let same : (account == first) ≡ true = eq-eqb account first (omega (arith, at)) in
    let this : here ≡ ruled = cc in
    ap (λ (test : Bool). step_by (cond test (Some event) None) here ∷ moved_from (first + shards) shards (Own account event) books) same
    ∙ ap (λ (rest : List RuledBook). step_by (Some event) here ∷ rest) (moved_past (first + shards) shards account event books (omega (arith, at, some)))
    ∙ ap (λ (book : RuledBook). step_by (Some event) book ∷ books) this
moved_own first shards account (suc index) event (here ∷ books) ruled some at is =
    let long : suc index * shards ≡ index * shards + shards = suc-mul index shards in
    let other : (account == first) ≡ false = differs account first (λ (same : account ≡ first). omega (arith, same, at, long, some)) in
    ap (λ (test : Bool). step_by (cond test (Some event) None) here ∷ moved_from (first + shards) shards (Own account event) books) other
    ∙ ap (λ (rest : List RuledBook). here ∷ rest) (moved_own (first + shards) shards account index event books ruled some (omega (arith, at, long)) is)

-- a move that is the same event to each account steps each book by it
pub moved_each : (first shards : ℕ) (moved : Move) (event : Event) (books : List RuledBook) → ((account : ℕ) → event_to account moved ≡ Some event)
    → moved_from first shards moved books ≡ map (step_by (Some event)) books
unfolding moved_from
moved_each first shards moved event [] each = refl
moved_each first shards moved event (ruled ∷ books) each =
    ap (λ (o : Option Event). step_by o ruled ∷ moved_from (first + shards) shards moved books) (each first)
    ∙ ap (λ (rest : List RuledBook). step_by (Some event) ruled ∷ rest) (moved_each (first + shards) shards moved event books each)

-- a move that is nothing to each account changes no book
pub moved_none : (first shards : ℕ) (moved : Move) (books : List RuledBook) → ((account : ℕ) → event_to account moved ≡ None) → moved_from first shards moved books ≡ books
unfolding moved_from
moved_none first shards moved [] each = refl
moved_none first shards moved (ruled ∷ books) each =
    ap (λ (o : Option Event). step_by o ruled ∷ moved_from (first + shards) shards moved books) (each first)
    ∙ ap (λ (rest : List RuledBook). ruled ∷ rest) (moved_none (first + shards) shards moved books each)

-- a move steps the book of an account by what it is to the account
moved_first : (first shards account : ℕ) (moved : Move) (ruled : RuledBook) (books : List RuledBook) (b : Bool) → (first == account) ≡ b
    → book_from (first + shards) shards (moved_from (first + shards) shards moved books) account ≡ option_map (step_by (event_to account moved)) (book_from (first + shards) shards books account)
    → cond b (Some (step_by (event_to first moved) ruled)) (book_from (first + shards) shards (moved_from (first + shards) shards moved books) account)
    ≡ option_map (step_by (event_to account moved)) (cond b (Some ruled) (book_from (first + shards) shards books account))
moved_first first shards account moved ruled books true is rest = ap (λ (number : ℕ). Some (step_by (event_to number moved) ruled)) (eqb-true first account is)
moved_first first shards account moved ruled books false is rest = rest

pub moved_book : (first shards account : ℕ) (moved : Move) (books : List RuledBook)
    → book_from first shards (moved_from first shards moved books) account ≡ option_map (step_by (event_to account moved)) (book_from first shards books account)
unfolding book_from moved_from
moved_book first shards account moved [] = refl
moved_book first shards account moved (ruled ∷ books) =
    moved_first first shards account moved ruled books (first == account) refl (moved_book (first + shards) shards account moved books)

stepped_by_none : (o : Option RuledBook) → option_map (step_by None) o ≡ o
stepped_by_none None = refl
stepped_by_none (Some ruled) = refl

pub have_stepped : (setup : Setup) (moved : Move) (old : List RuledBook) → HaveStepped setup moved old (books_after setup old moved)
have_stepped setup moved old = record {
  each = λ account. moved_book setup.shard setup.shards account moved old;
  others = λ account nothing.
      moved_book setup.shard setup.shards account moved old
      ∙ ap (λ (event : Option Event). option_map (step_by event) (book_at setup old account)) nothing ∙ stepped_by_none (book_at setup old account);
}

-- the book of an account stands at its index
pub book_at_index : (first shards account index : ℕ) (books : List RuledBook) → 0 < shards → account ≡ first + index * shards
    → book_from first shards books account ≡ slice_get books index
unfolding book_from
book_at_index first shards account index [] some at = refl
book_at_index first shards account zero (ruled ∷ books) some at =
    ap (λ (test : Bool). cond test (Some ruled) (book_from (first + shards) shards books account)) (eq-eqb first account (omega (arith, at)))
book_at_index first shards account (suc index) (ruled ∷ books) some at =
    let long : suc index * shards ≡ index * shards + shards = suc-mul index shards in
    ap (λ (test : Bool). cond test (Some ruled) (book_from (first + shards) shards books account))
    (differs first account (λ (same : first ≡ account). omega (arith, same, at, long, some)))
    ∙ book_at_index (first + shards) shards account index books some (omega (arith, at, long))

-- an account of another shard has no book
pub book_elsewhere : (first shards account : ℕ) (books : List RuledBook) → (account % shards ≡ first % shards → ⊥) → book_from first shards books account ≡ None
unfolding book_from
book_elsewhere first shards account [] other = refl
book_elsewhere first shards account (ruled ∷ books) other =
    ap (λ (test : Bool). cond test (Some ruled) (book_from (first + shards) shards books account))
    (differs first account (λ (same : first ≡ account). other (ap (λ (n : ℕ). n % shards) (sym same))))
    ∙ book_elsewhere (first + shards) shards account books (λ (same : account % shards ≡ (first + shards) % shards). other (same ∙ next_of_shard shards first (first % shards) refl))

-- a book that was stepped by an event
pub stepped_is : (event : Event) (ruled new : RuledBook) (decision : Decision) → (new.book, decision) ≡ step ruled.rules ruled.book event → new.rules ≡ ruled.rules
    → new ≡ step_by (Some event) ruled
stepped_is event ruled new decision by same =
    let first : new.book ≡ (step ruled.rules ruled.book event).0 = ap (λ (next : Book × Decision). next.0) by in
    let change : RuledBook = record { rules = ruled.rules; book = new.book } in
    let one : new ≡ change = ap (λ (rules : Rules). let it : RuledBook = record { rules = rules; book = new.book } in it) same in
    one ∙ ap (λ (book : Book). let it : RuledBook = record { rules = ruled.rules; book = book } in it) first

-- books that are stepped one by one: the first are, and the rest is as it was
pub one_more : (event : Event) (books all : List RuledBook) (index : ℕ) (d new : RuledBook) → index < length all → index < length books
    → books ≡ map (step_by (Some event)) (take index all) ++ drop index all
    → (decision : Decision) → (new.book, decision) ≡ step (get_or books index d).rules (get_or books index d).book event → new.rules ≡ (get_or books index d).rules
    → set books index new ≡ map (step_by (Some event)) (take (index + 1) all) ++ drop (index + 1) all
one_more event books all index d new within inside so_far decision by same =
    ap (set books index) (stepped_is event (get_or books index d) new decision by same)
    ∙ map_over_more (step_by (Some event)) all books index (get_or books index d) within so_far (get_or_default books index d (get_or books index d) inside)

pub each_done : (event : Event) (all : List RuledBook) (index : ℕ) → length all ≤ index
    → map (step_by (Some event)) (take index all) ++ drop index all ≡ map (step_by (Some event)) all
each_done event all index past =
    ap (λ (books : List RuledBook). map (step_by (Some event)) books ++ drop index all) (take_all index all past)
    ∙ ap (λ (books : List RuledBook). map (step_by (Some event)) all ++ books) (drop_all index all past) ∙ append-nil (map (step_by (Some event)) all)

pub ruleset each_steps = (each_done)

-- books that are made new one by one
pub renew_more : (books all : List RuledBook) (index : ℕ) (d new : RuledBook) → index < length all → index < length books
    → books ≡ map as_new (take index all) ++ drop index all → new ≡ record { rules = (get_or books index d).rules; book = new_book }
    → set books index new ≡ map as_new (take (index + 1) all) ++ drop (index + 1) all
renew_more books all index d new within inside so_far is =
    ap (set books index) is
    ∙ map_over_more as_new all books index (get_or books index d) within so_far (get_or_default books index d (get_or books index d) inside)

pub renew_done : (all : List RuledBook) (index : ℕ) → length all ≤ index → map as_new (take index all) ++ drop index all ≡ map as_new all
renew_done all index past =
    ap (λ (books : List RuledBook). map as_new books ++ drop index all) (take_all index all past)
    ∙ ap (λ (books : List RuledBook). map as_new all ++ books) (drop_all index all past) ∙ append-nil (map as_new all)

pub ruleset renew_steps = (renew_more, renew_done)

-- a list that was written back whole
pub written : {A : Type 0} (xs items : List A) (len : ℕ) → length xs ≡ length items → length items ≡ len → take len (xs ++ drop (length xs) items) ≡ xs
written xs items len same long =
    ap (λ rest. take len (xs ++ rest)) (drop_all (length xs) items (omega (arith, same))) ∙ ap (take len) (append-nil xs) ∙ take_all len xs (omega (arith, same, long))

-- a book that stands at the index of an account of the shard
pub stands : (setup : Setup) (books : List RuledBook) (account index : ℕ) (ruled : RuledBook) → 0 < setup.shards → account ≡ setup.shard + index * setup.shards
    → index < length books → ruled ≡ get_or books index ruled → book_at setup books account ≡ Some ruled
stands setup books account index ruled some at within is =
    book_at_index setup.shard setup.shards account index books some at ∙ slice_get_read books (length books) index ruled refl within is

-- an account that is not of the shard has no book
pub no_book : (setup : Setup) (books : List RuledBook) (account : ℕ) → AreBooks setup books → (IsOfShard setup account → ⊥) → book_at setup books account ≡ None
no_book setup books account are other = by (account % setup.shards == setup.shard) refl
  where
    past : (account / setup.shards < length books) ⊎ (length books ≤ account / setup.shards) → account % setup.shards ≡ setup.shard
        → account ≡ setup.shard + account / setup.shards * setup.shards → length books ≤ account / setup.shards
    past (inr le) of_shard at = le
    past (inl lt) of_shard at = absurd (other (record { there = omega (arith, are.no_more (account / setup.shards) lt, at); of_shard = of_shard }))

    by : (b : Bool) → (account % setup.shards == setup.shard) ≡ b → book_at setup books account ≡ None
    by false is =
        book_elsewhere setup.shard setup.shards account books (λ (same : account % setup.shards ≡ setup.shard % setup.shards).
        unequal (account % setup.shards) setup.shard is (same ∙ mod-eq_of_lt are.within.shard))
    by true is =
        let of_shard : account % setup.shards ≡ setup.shard = eqb-true (account % setup.shards) setup.shard is in
        let at : account ≡ setup.shard + account / setup.shards * setup.shards = account_is setup.shards setup.shard account of_shard in
        book_at_index setup.shard setup.shards account (account / setup.shards) books (omega (arith, are.within.shard)) at
        ∙ slice_get_past books (account / setup.shards) (past (cases_lt (account / setup.shards) (length books)) of_shard at)

-- an own move, where the book at the account's index was stepped
pub own_books : (setup : Setup) (books : List RuledBook) (account index : ℕ) (event : Event) (ruled new : RuledBook) (decision : Decision) → 0 < setup.shards
    → account ≡ setup.shard + index * setup.shards → index < length books → ruled ≡ get_or books index ruled
    → (new.book, decision) ≡ step ruled.rules ruled.book event → new.rules ≡ ruled.rules → set books index new ≡ books_after setup books (Own account event)
own_books setup books account index event ruled new decision some at within is by same =
    ap (set books index) (stepped_is event ruled new decision by same)
    ∙ sym (moved_own setup.shard setup.shards account index event books ruled some at (slice_get_read books (length books) index ruled refl within is))

pub own_decision : (setup : Setup) (books : List RuledBook) (account index : ℕ) (event : Event) (ruled : RuledBook) (next : Book) (decision : Decision) → 0 < setup.shards
    → account ≡ setup.shard + index * setup.shards → index < length books → ruled ≡ get_or books index ruled
    → (next, decision) ≡ step ruled.rules ruled.book event → decision ≡ decision_by setup books (Own account event)
own_decision setup books account index event ruled next decision some at within is by =
    ap (λ (stepped : Book × Decision). stepped.1) by
    ∙ sym (ap (λ (o : Option RuledBook). option_map_or (λ (one : RuledBook). (step one.rules one.book event).1) o Done) (stands setup books account index ruled some at within is))

-- books that are copied, or compared, one by one
pub ruleset copy_steps = (take_more, take_all)

module _ {A : Type 0} where
  pub same_none : (xs ys : List A) → take 0 xs ≡ take 0 ys
  same_none xs ys = refl

  pub same_more : (xs ys : List A) (i : ℕ) (x y : A) → i < length xs → i < length ys → get_or xs i x ≡ get_or ys i y → take i xs ≡ take i ys → take (i + 1) xs ≡ take (i + 1) ys
  same_more xs ys i x y within other_within same so_far =
      take_more xs i x within ∙ ap (λ z. take i xs ++ z ∷ []) same ∙ ap (λ zs. zs ++ get_or ys i y ∷ []) so_far ∙ sym (take_more ys i y other_within)

  pub same_all : (xs ys : List A) (i : ℕ) → length xs ≤ i → length xs ≡ length ys → take i xs ≡ take i ys → xs ≡ ys
  same_all xs ys i all long so_far = sym (take_all i xs all) ∙ so_far ∙ take_all i ys (omega (arith, all, long))

  pub same_not : (xs ys : List A) (i : ℕ) (x y : A) → i < length xs → i < length ys → (get_or xs i x ≡ get_or ys i y → false ≡ true) → xs ≡ ys → false ≡ true
  same_not xs ys i x y within other_within apart same = apart (ap (λ zs. get_or zs i x) same ∙ get_or_default ys i x y other_within)

  pub same_length : (xs ys : List A) → xs ≡ ys → length xs ≡ length ys
  same_length xs ys same = ap length same

pub ruleset same_steps = (same_none, same_more, same_all, same_not, same_length)
