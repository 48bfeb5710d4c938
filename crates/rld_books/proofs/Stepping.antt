-- What a move makes of the books of a server, account by account.
use Rattle.std.proofs.Common.{◌≡◌, ℕ, zero, suc, ◌+◌, ◌<◌, ◌≤◌, ◌==◌, Bool, true, false, cond, List, [], ◌∷◌, ◌++◌, length, get_or, set, map, take, drop, Option, Some, None, refl, sym, ap, ◌∙◌, arith, append-nil}
use Rattle.std.specs.Prelude.{slice_get}
use Rattle.std.specs.Option.{option_map, option_map_or}
use Rattle.std.proofs.lemmas.Bool.{eqb-true, eq-eqb}
use Rattle.std.proofs.lemmas.List.{drop_all, take_all, get_or_default}
use Rattle.std.proofs.lemmas.List.Edits.{map_over_more}
use Rattle.std.proofs.lemmas.Option.{slice_get_read}
use Rattle.rsl_book.specs.RuledBook.{RuledBook}
use Rattle.rsl_event.specs.declared.event.Decision.{Decision}
use Rattle.rsl_event.specs.declared.event.Decision.TheVariants.{Done}
use Rattle.rsl_event.specs.declared.event.Event.{Event}
use Rattle.rsl_event.specs.declared.meaning.Note.{Note}
use Rattle.rsl_session.specs.Book.{Book}
use Rattle.rsl_session.specs.BookStep.{step}
use Rattle.rsl_shard.specs.Moves.{event_to}
use Rattle.rsl_shard.specs.Restep.{step_by}
use Rattle.rsl_shard.specs.declared.moved.Move.{Move}
use Rattle.rsl_shard.specs.declared.moved.Move.TheVariants.{Own, Sweep, Tick, Stray}
use Rattle.rld_books.specs.Saved.{book_in}
use Rattle.rld_books.specs.Server.{IsServer, IsTakenIn, decision_in, moved_from, server_after}

-- ---- the book of an account

moved_at : (first number account : ℕ) (moved : Move) (books : List RuledBook) → account ≡ first + number
    → slice_get (moved_from first moved books) number ≡ option_map (step_by (event_to account moved)) (slice_get books number)
unfolding moved_from
moved_at first number account moved [] at = refl
moved_at first zero account moved (ruled ∷ books) at =
    let same : first ≡ account = omega (arith, at) in
    ap (λ (n : ℕ). Some (step_by (event_to n moved) ruled)) same
moved_at first (suc number) account moved (ruled ∷ books) at = moved_at (first + 1) number account moved books (omega (arith, at))

-- a move steps the book of an account by what it is to the account
pub book_after_move : (server : List RuledBook) (account : ℕ) (moved : Move)
    → book_in (server_after server moved) account ≡ option_map (step_by (event_to account moved)) (book_in server account)
book_after_move server account moved = moved_at 0 account account moved server (omega arith)

moved_length : (first : ℕ) (moved : Move) (books : List RuledBook) → length (moved_from first moved books) ≡ length books
unfolding moved_from
moved_length first moved [] = refl
moved_length first moved (ruled ∷ books) = ap suc (moved_length (first + 1) moved books)

-- ---- own events

differs : (a b : ℕ) → (a ≡ b → ⊥) → (a == b) ≡ false
differs a b other = by (a == b) refl
  where
    by : (t : Bool) → (a == b) ≡ t → t ≡ false
    by true is = absurd (other (eqb-true a b is))
    by false is = refl

-- books before which the account stands stay as they are
moved_past : (first account : ℕ) (event : Event) (books : List RuledBook) → account < first → moved_from first (Own account event) books ≡ books
unfolding moved_from
moved_past first account event [] less = refl
moved_past first account event (ruled ∷ books) less =
    let other : (account == first) ≡ false = differs account first (λ (same : account ≡ first). omega (arith, same, less)) in
    ap (λ (test : Bool). step_by (cond test (Some event) None) ruled ∷ moved_from (first + 1) (Own account event) books) other
    ∙ ap (λ (rest : List RuledBook). ruled ∷ rest) (moved_past (first + 1) account event books (omega (arith, less)))

-- an own move steps the book at its account's number
moved_own : (first account number : ℕ) (event : Event) (books : List RuledBook) (ruled : RuledBook) → account ≡ first + number
    → slice_get books number ≡ Some ruled → moved_from first (Own account event) books ≡ set books number (step_by (Some event) ruled)
unfolding moved_from
moved_own first account number event [] ruled at is = cc
moved_own first account zero event (here ∷ books) ruled at is =
    let same : (account == first) ≡ true = eq-eqb account first (omega (arith, at)) in
    let this : here ≡ ruled = cc in
    ap (λ (test : Bool). step_by (cond test (Some event) None) here ∷ moved_from (first + 1) (Own account event) books) same
    ∙ ap (λ (rest : List RuledBook). step_by (Some event) here ∷ rest) (moved_past (first + 1) account event books (omega (arith, at)))
    ∙ ap (λ (book : RuledBook). step_by (Some event) book ∷ books) this
moved_own first account (suc number) event (here ∷ books) ruled at is =
    let other : (account == first) ≡ false = differs account first (λ (same : account ≡ first). omega (arith, same, at)) in
    ap (λ (test : Bool). step_by (cond test (Some event) None) here ∷ moved_from (first + 1) (Own account event) books) other
    ∙ ap (λ (rest : List RuledBook). here ∷ rest) (moved_own (first + 1) account number event books ruled (omega (arith, at)) is)

-- a book that was stepped by an event
stepped_is : (event : Event) (ruled new : RuledBook) (decision : Decision) → (new.book, decision) ≡ step ruled.rules ruled.book event → new.rules ≡ ruled.rules
    → new ≡ step_by (Some event) ruled
stepped_is event ruled new decision by same =
    let first : new.book ≡ (step ruled.rules ruled.book event).0 = ap (λ (next : Book × Decision). next.0) by in
    (λ i. record { rules = same i; book = first i })

pub own_books : (server : List RuledBook) (account : ℕ) (event : Event) (ruled new : RuledBook) (decision : Decision) → account < length server → ruled ≡ get_or server account ruled
    → (new.book, decision) ≡ step ruled.rules ruled.book event → new.rules ≡ ruled.rules → set server account new ≡ server_after server (Own account event)
own_books server account event ruled new decision within is by same =
    ap (set server account) (stepped_is event ruled new decision by same)
    ∙ sym (moved_own 0 account account event server ruled (omega arith) (slice_get_read server (length server) account ruled refl within is))

pub own_decision : (server : List RuledBook) (account : ℕ) (event : Event) (ruled : RuledBook) (next : Book) (decision : Decision) → account < length server → ruled ≡ get_or server account ruled
    → (next, decision) ≡ step ruled.rules ruled.book event → decision ≡ decision_in server (Own account event)
own_decision server account event ruled next decision within is by =
    ap (λ (stepped : Book × Decision). stepped.1) by
    ∙ sym (ap (λ (o : Option RuledBook). option_map_or (λ (one : RuledBook). (step one.rules one.book event).1) o Done) (slice_get_read server (length server) account ruled refl within is))

-- ---- moves of every account

-- a move that is the same event to each account steps each book by it
moved_each : (first : ℕ) (moved : Move) (event : Event) (books : List RuledBook) → ((account : ℕ) → event_to account moved ≡ Some event)
    → moved_from first moved books ≡ map (step_by (Some event)) books
unfolding moved_from
moved_each first moved event [] each = refl
moved_each first moved event (ruled ∷ books) each =
    ap (λ (o : Option Event). step_by o ruled ∷ moved_from (first + 1) moved books) (each first)
    ∙ ap (λ (rest : List RuledBook). step_by (Some event) ruled ∷ rest) (moved_each (first + 1) moved event books each)

pub each_after : (server : List RuledBook) (moved : Move) (event : Event) → ((account : ℕ) → event_to account moved ≡ Some event)
    → map (step_by (Some event)) server ≡ server_after server moved
each_after server moved event each = sym (moved_each 0 moved event server each)

-- books that are stepped one by one: the first are, and the rest is as it was
pub one_more : (event : Event) (books all : List RuledBook) (index : ℕ) (d new : RuledBook) → index < length all → index < length books
    → books ≡ map (step_by (Some event)) (take index all) ++ drop index all
    → (decision : Decision) → (new.book, decision) ≡ step (get_or books index d).rules (get_or books index d).book event → new.rules ≡ (get_or books index d).rules
    → set books index new ≡ map (step_by (Some event)) (take (index + 1) all) ++ drop (index + 1) all
one_more event books all index d new within inside so_far decision by same =
    ap (set books index) (stepped_is event (get_or books index d) new decision by same)
    ∙ map_over_more (step_by (Some event)) all books index (get_or books index d) within so_far (get_or_default books index d (get_or books index d) inside)

pub each_done : (event : Event) (all : List RuledBook) (index : ℕ) → length all ≤ index
    → map (step_by (Some event)) (take index all) ++ drop index all ≡ map (step_by (Some event)) all
each_done event all index past =
    ap (λ (books : List RuledBook). map (step_by (Some event)) books ++ drop index all) (take_all index all past)
    ∙ ap (λ (books : List RuledBook). map (step_by (Some event)) all ++ books) (drop_all index all past) ∙ append-nil (map (step_by (Some event)) all)

pub ruleset each_steps = (each_done)

-- a list that was written back whole
pub written : {A : Type 0} (xs items : List A) (len : ℕ) → length xs ≡ length items → length items ≡ len → take len (xs ++ drop (length xs) items) ≡ xs
written xs items len same long =
    ap (λ rest. take len (xs ++ rest)) (drop_all (length xs) items (omega (arith, same))) ∙ ap (take len) (append-nil xs) ∙ take_all len xs (omega (arith, same, long))

-- a stray changes nothing
stray_leaves : (first moment : ℕ) (note : Note) (books : List RuledBook) → moved_from first (Stray moment note) books ≡ books
unfolding moved_from
stray_leaves first moment note [] = refl
stray_leaves first moment note (ruled ∷ books) = ap (λ (l : List RuledBook). ruled ∷ l) (stray_leaves (first + 1) moment note books)

pub stray_after : (server : List RuledBook) (moment : ℕ) (note : Note) → server ≡ server_after server (Stray moment note)
stray_after server moment note = sym (stray_leaves 0 moment note server)

-- ---- what is kept

-- the books of a server after a move are as many
pub is_still_server : (server : List RuledBook) (moved : Move) → IsServer server → IsServer (server_after server moved)
is_still_server server moved is = record { few = omega (arith, is.few, moved_length 0 moved server) }

-- and take the same moves
pub still_taken : (server : List RuledBook) (moved next : Move) → IsTakenIn server next → IsTakenIn (server_after server moved) next
still_taken server moved (Own account event) own = record {
  there = omega (arith, own.there, moved_length 0 moved server);
  act = own.act;
}
still_taken server moved (Sweep moment nas delay) taken = taken
still_taken server moved (Tick moment) taken = taken
still_taken server moved (Stray moment note) taken = taken
