-- How a generation begins.
use Rattle.std.proofs.Common.{◌≡◌, ◌⊎◌, inl, inr, ℕ, ◌+◌, ◌<◌, ◌≤◌, ◌^◌, List, [], ◌∷◌, ◌++◌, length, get_or, map, take, All, refl, sym, ap, subst, ◌∙◌, arith, append-nil, append_assoc}
use Rattle.std.specs.List.{flat_map}
use Rattle.std.proofs.lemmas.List.{length-map, map_more, take_all}
use Rattle.std.proofs.lemmas.List.Concat.{flat_map-append}
use Rattle.std.proofs.lemmas.List.Elements.{All-nil, All-push}
use Rattle.rsl_accounts.specs.Configuration.{Configuration}
use Rattle.rsl_session.specs.Saved.{saved_book}
use Rattle.rsl_session.specs.declared.saved.SavedBook.{SavedBook}
use Rattle.rsl_shard.specs.declared.moved.Move.{Move}
use Rattle.rld_books.specs.Saved.{IsServerOf, saved_server}
use Rattle.rld_books.specs.Server.{ServerSeen, replay}
use Rattle.rld_spelling.specs.Numbers.{number_octets}
use Rattle.rld_log.specs.Frames.{Fits, HasPayloads, frames}
use Rattle.rld_log.specs.Log.{NoMore, Only}
use Rattle.rld_log.specs.Recording.{IsBeforeOrAfter, IsSettled}
use Rattle.rld_log.specs.declared.log.Ending.{Ending}
use Rattle.rld_log.proofs.Callers.{whole_has}
use Rattle.rld_spelling.specs.Books.{BookSeen, book_field, book_octets, book_seen, books_field, books_seen}
use Rattle.rld_spelling.specs.declared.header.Header.{Header}
use Rattle.rld_spelling.specs.declared.moves.Counts.{Counts}
use Rattle.rld_store.specs.Beginning.{HasAtMostOne, IsBegun, IsFront}
use Rattle.rld_store.specs.Generations.{AreOfHistory, HasGeneration, HasHistory, HasHistoryOr, IsGeneration, IsSnapshot, IsUnbegun, StandForHistory, counts_of}
use Rattle.rld_spelling.specs.Moves.{move_field, moves_field}
use Rattle.rld_store.specs.Standing.{StandsFor}
use Rattle.rld_store.specs.declared.store.End.TheVariants.{Settled}
use Rattle.rld_store.proofs.Batches.{size_more}
use Rattle.rld_store.proofs.States.{all_running}

-- ---- the octets of a snapshot

pub octets_more : (books : List SavedBook) (at : ℕ) (book : SavedBook) (front octets all : List ℕ) → at < length books → book ≡ get_or books at book
    → octets ≡ front ++ flat_map book_octets (books_seen (take at books)) → all ≡ octets ++ book_octets (book_seen book)
    → all ≡ front ++ flat_map book_octets (books_seen (take (at + 1) books))
octets_more books at book front octets all within is so are =
    are ∙ ap (λ (o : List ℕ). o ++ book_octets (book_seen book)) so
    ∙ append_assoc front (flat_map book_octets (books_seen (take at books))) (book_octets (book_seen book))
    ∙ ap (λ (o : List ℕ). front ++ o) (sym (one_more within is))
  where
    one_more : at < length books → book ≡ get_or books at book
        → flat_map book_octets (books_seen (take (at + 1) books)) ≡ flat_map book_octets (books_seen (take at books)) ++ book_octets (book_seen book)
    one_more less here =
        ap (flat_map book_octets) (map_more book_seen books at book less ∙ ap (λ (b : SavedBook). books_seen (take at books) ++ book_seen b ∷ []) (sym here))
        ∙ flat_map-append book_octets (books_seen (take at books)) (book_seen book ∷ [])
        ∙ ap (λ (o : List ℕ). flat_map book_octets (books_seen (take at books)) ++ o) (append-nil (book_octets (book_seen book)))

pub fit_more : (clients : ℕ) (books : List SavedBook) (at : ℕ) (book : SavedBook) → at < length books → book ≡ get_or books at book → All (book_field clients).Fits (books_seen (take at books))
    → (book_field clients).Fits (book_seen book) → All (book_field clients).Fits (books_seen (take (at + 1) books))
fit_more clients books at book within is so fits =
    subst (λ (l : List BookSeen). All (book_field clients).Fits l)
    (sym (map_more book_seen books at book within ∙ ap (λ (b : SavedBook). books_seen (take at books) ++ book_seen b ∷ []) (sym is)))
    (All-push (book_field clients).Fits (books_seen (take at books)) (book_seen book) so fits)

pub octets_all : (clients : ℕ) (books : List SavedBook) (at : ℕ) (octets : List ℕ) → length books ≤ at → octets ≡ number_octets (length books) ++ flat_map book_octets (books_seen (take at books))
    → octets ≡ (books_field clients).spell (books_seen books)
octets_all clients books at octets past so =
    so ∙ ap (λ (l : List SavedBook). number_octets (length books) ++ flat_map book_octets (books_seen l)) (take_all at books past)
    ∙ ap (λ (n : ℕ). number_octets n ++ flat_map book_octets (books_seen books)) (sym (length-map books book_seen))

pub fit_all : (clients : ℕ) (books : List SavedBook) (at : ℕ) → length books ≤ at → length books < 2 ^ 64 → All (book_field clients).Fits (books_seen (take at books))
    → (books_field clients).Fits (books_seen books)
fit_all clients books at past long so =
    (omega (arith, long, length-map books book_seen), subst (λ (l : List SavedBook). All (book_field clients).Fits (books_seen l)) (take_all at books past) so)

pub octets_begun : (books : List SavedBook) (before octets : List ℕ) (count : ℕ) → before ≡ [] → count ≡ length books → octets ≡ before ++ number_octets count
    → octets ≡ number_octets (length books) ++ flat_map book_octets (books_seen (take 0 books))
octets_begun books before octets count none is are =
    are ∙ ap (λ (l : List ℕ). l ++ number_octets count) none ∙ ap number_octets is ∙ sym (append-nil (number_octets (length books)))

-- ---- the front of a generation

pub is_snapshot : (counts : Counts) (server : ServerSeen) (books : List SavedBook) (octets : List ℕ) → map saved_book books ≡ saved_server server
    → octets ≡ (books_field counts.clients).spell (books_seen books) → (books_field counts.clients).Fits (books_seen books) → IsSnapshot counts server octets
is_snapshot counts server books octets are spelled fit = record {
  books = books_seen books;
  are = sym (all_running books) ∙ are;
  fit = fit;
  spelled = spelled;
}

pub front_size : (first second : List ℕ) (front whole : ℕ) → Fits first → Fits second → front ≡ 0 + (20 + length first) → whole ≡ front + (20 + length second) → whole ≡ length (frames (first ∷ second ∷ []))
front_size first second front whole short_first short_second one two =
    let none : length (frames []) ≡ 0 = refl in
    omega (arith, one, two, none, size_more [] first short_first, size_more (first ∷ []) second short_second)

front_generation : (config : Configuration) (header : Header) (begun : ServerSeen) (first second : List ℕ) (whole : ℕ) → IsFront config header begun first second whole
    → IsGeneration config header begun [] (first ∷ second ∷ [])
front_generation config header begun first second whole front = record {
  header_fits = front.header_fits;
  snapshot = second;
  snapshot_is = front.snapshot_is;
  batches = [];
  batches_are = record { batches = []; are = refl; fit = tt; spelled = refl };
  payloads_are = ap (λ (f : List ℕ). f ∷ second ∷ []) front.header_is;
}

pub begun : (config : Configuration) (header : Header) (books : ServerSeen) (first second : List ℕ) (whole : ℕ) (seen : List ℕ) (may_leave : Ending → List ℕ → Type 0)
    → IsFront config header books first second whole → IsSettled seen may_leave (first ∷ second ∷ []) → IsBegun config header books seen may_leave whole
begun config header books first second whole seen may_leave front settled = record {
  payloads = first ∷ second ∷ [];
  generation = front_generation config header books first second whole front;
  settled = settled;
  size = front.size;
}

-- what a crash leaves as a generation begins
pub begun_or_not : (config : Configuration) (header : Header) (books : ServerSeen) (first second : List ℕ) (whole : ℕ) (left : List ℕ) → IsFront config header books first second whole
    → HasAtMostOne first left ⊎ HasPayloads left (first ∷ second ∷ []) → IsUnbegun left ⊎ HasGeneration config header books [] left
begun_or_not config header books first second whole left front (inl (inl none)) = inl (record { payloads = []; has = none; few = omega arith })
begun_or_not config header books first second whole left front (inl (inr one)) = inl (record { payloads = first ∷ []; has = one; few = omega arith })
begun_or_not config header books first second whole left front (inr both) =
    inr (record { payloads = first ∷ second ∷ []; has = both; generation = front_generation config header books first second whole front })

-- the same of octets that are those of the front
pub front_or_not : (config : Configuration) (header : Header) (books : ServerSeen) (first second one two : List ℕ) (whole : ℕ) (left : List ℕ) → one ≡ first → two ≡ second → IsFront config header books first second whole
    → HasAtMostOne one left ⊎ HasPayloads left (one ∷ two ∷ []) → IsUnbegun left ⊎ HasGeneration config header books [] left
front_or_not config header books first second one two whole left same other front ways =
    begun_or_not config header books first second whole left front
    (subst (λ (f : List ℕ). HasAtMostOne f left ⊎ HasPayloads left (f ∷ second ∷ [])) same (subst (λ (f : List ℕ). HasAtMostOne one left ⊎ HasPayloads left (one ∷ f ∷ [])) other ways))

pub front_begun : (config : Configuration) (header : Header) (books : ServerSeen) (first second one two : List ℕ) (whole : ℕ) (seen : List ℕ) (may_leave : Ending → List ℕ → Type 0) → one ≡ first → two ≡ second
    → IsFront config header books first second whole → IsSettled seen may_leave (one ∷ two ∷ []) → IsBegun config header books seen may_leave whole
front_begun config header books first second one two whole seen may_leave same other front settled =
    begun config header books first second whole seen may_leave front
    (subst (λ (f : List ℕ). IsSettled seen may_leave (f ∷ second ∷ [])) same (subst (λ (f : List ℕ). IsSettled seen may_leave (one ∷ f ∷ [])) other settled))

-- what a crash leaves as the second of two payloads is recorded
pub two_ways : (first second left : List ℕ) → IsBeforeOrAfter (first ∷ []) second left → HasAtMostOne first left ⊎ HasPayloads left (first ∷ second ∷ [])
two_ways first second left (inl one) = inl (inr one)
two_ways first second left (inr both) = inr both

pub nothing_has : (left : List ℕ) → left ≡ [] → HasPayloads left []
nothing_has left is = whole_has left [] tt is

pub nothing_begun : (left : List ℕ) → left ≡ [] → IsUnbegun left
nothing_begun left is = record { payloads = []; has = nothing_has left is; few = omega arith }

-- an empty log is settled
pub empty_settled : (seen now : List ℕ) (old may_leave : Ending → List ℕ → Type 0) → now ≡ seen → seen ≡ [] → Only seen old → NoMore old may_leave → IsSettled now may_leave []
empty_settled seen now old may_leave same empty only fewer = record {
  whole = same ∙ empty;
  fit = tt;
  durable = λ ending left reached. only ending left (fewer ending left reached) ∙ sym same;
}

-- no moves have a spelling
pub no_moves_fit : (counts : Counts) → (moves_field counts).Fits []
no_moves_fit counts = (omega arith, All-nil (move_field counts).Fits)

-- ---- the history of a generation that begins

begun_history : (config : Configuration) (opening : ServerSeen) (header : Header) (books : ServerSeen) (history : List Move) (payloads : List (List ℕ)) → IsServerOf config opening → books ≡ replay opening history
    → IsGeneration config header books [] payloads → AreOfHistory config opening history payloads
begun_history config opening header books history payloads of are generation = record {
  opening_is = of;
  header = header;
  earlier = history;
  moves = [];
  are = sym (append-nil history);
  generation = subst (λ (b : ServerSeen). IsGeneration config header b [] payloads) are generation;
}

pub begun_of : (config : Configuration) (opening : ServerSeen) (header : Header) (books : ServerSeen) (history : List Move) (left : List ℕ) → IsServerOf config opening → books ≡ replay opening history
    → IsUnbegun left ⊎ HasGeneration config header books [] left → IsUnbegun left ⊎ HasHistory config opening history left
begun_of config opening header books history left of are (inl none) = inl none
begun_of config opening header books history left of are (inr has) =
    inr (record { payloads = has.payloads; has = has.has; are = begun_history config opening header books history has.payloads of are has.generation })

pub begun_stands : (config : Configuration) (opening : ServerSeen) (tears : List ℕ → List ℕ → Type 0) (header : Header) (seen : List ℕ) (may_leave : Ending → List ℕ → Type 0) (whole : ℕ) (books : ServerSeen) (history : List Move)
    → IsServerOf config opening → IsBegun config header books seen may_leave whole → books ≡ replay opening history
    → StandsFor config opening tears Settled seen may_leave whole books history []
begun_stands config opening tears header seen may_leave whole books history of so are = record {
  payloads = so.payloads;
  are = begun_history config opening header books history so.payloads of are so.generation;
  unanswered_fits = no_moves_fit (counts_of config);
  size = so.size;
  ends = so.settled;
  replayed = are;
}

-- two logs as the newer begins
pub both_stand : (config : Configuration) (opening : ServerSeen) (history unanswered : List Move) (older newer : List ℕ) → HasHistoryOr config opening history unanswered older → IsUnbegun newer ⊎ HasHistory config opening history newer
    → StandForHistory config opening history unanswered older newer
both_stand config opening history unanswered older newer has (inl none) = inr (none, has)
both_stand config opening history unanswered older newer has (inr new) = inl new
