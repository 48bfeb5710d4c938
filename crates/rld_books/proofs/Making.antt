-- A batch of which some moves were made and the others are left.
use Rattle.std.proofs.Common.{◌≡◌, List, [], ◌∷◌, ◌++◌, length, refl, sym, ap, subst, ◌∙◌, append_assoc, append-nil}
use Rattle.std.specs.List.{AllByRecursion}
use Rattle.std.proofs.lemmas.List.{nil_from_length}
use Rattle.std.proofs.lemmas.List.Elements.{recursion_from_All}
use Rattle.rsl_event.specs.declared.event.Decision.{Decision}
use Rattle.rsl_book.specs.RuledBook.{RuledBook}
use Rattle.rsl_shard.specs.declared.moved.Move.{Move}
use Rattle.rld_books.specs.Server.{AreTakenIn, IsTakenIn, decision_in, decisions_of, journal_of, replay, server_after}
use Rattle.rld_books.proofs.Stepping.{still_taken}

pub record AreLeft (server : List RuledBook) (batch left : List Move) (decisions : List Decision) (now : List RuledBook) : Type 0 where
  pub decided : decisions ++ decisions_of now left ≡ decisions_of server batch
  pub books : replay now left ≡ replay server batch
  pub taken : AllByRecursion (IsTakenIn now) left

pub all_left : (server : List RuledBook) (batch left : List Move) (decisions : List Decision) → AreTakenIn server batch → left ≡ batch → decisions ≡ [] → AreLeft server batch left decisions server
all_left server batch left decisions taken same none = record {
  decided = ap (λ (d : List Decision). d ++ decisions_of server left) none ∙ ap (decisions_of server) same;
  books = ap (replay server) same;
  taken = subst (λ (l : List Move). AllByRecursion (IsTakenIn server) l) (sym same) (recursion_from_All (IsTakenIn server) batch taken);
}

all_still_taken : (server : List RuledBook) (moved : Move) (moves : List Move) → AllByRecursion (IsTakenIn server) moves → AllByRecursion (IsTakenIn (server_after server moved)) moves
all_still_taken server moved [] taken = tt
all_still_taken server moved (next ∷ moves) taken = (still_taken server moved next taken.0, all_still_taken server moved moves taken.1)

pub first_taken : (server : List RuledBook) (batch left rest : List Move) (decisions : List Decision) (now : List RuledBook) (moved : Move) → AreLeft server batch left decisions now → left ≡ moved ∷ rest
    → IsTakenIn now moved
first_taken server batch left rest decisions now moved so is = (subst (λ (l : List Move). AllByRecursion (IsTakenIn now) l) is so.taken).0

more_decided : (now : List RuledBook) (moved : Move) (rest : List Move) (decisions : List Decision)
    → (decisions ++ decision_in now moved ∷ []) ++ decisions_of (server_after now moved) rest ≡ decisions ++ decisions_of now (moved ∷ rest)
unfolding journal_of
more_decided now moved rest decisions = append_assoc decisions (decision_in now moved ∷ []) (decisions_of (server_after now moved) rest)

replay_first : (now : List RuledBook) (moved : Move) (rest : List Move) → replay (server_after now moved) rest ≡ replay now (moved ∷ rest)
unfolding replay
replay_first now moved rest = refl

pub one_made : (server : List RuledBook) (batch left rest : List Move) (decisions all : List Decision) (now next : List RuledBook) (moved : Move) (decision : Decision)
    → AreLeft server batch left decisions now → left ≡ moved ∷ rest → decision ≡ decision_in now moved → next ≡ server_after now moved → all ≡ decisions ++ decision ∷ []
    → AreLeft server batch rest all next
one_made server batch left rest decisions all now next moved decision so is decided stepped told =
    subst (λ (n : List RuledBook). AreLeft server batch rest all n) (sym stepped) (record {
      decided = ap (λ (d : List Decision). d ++ decisions_of (server_after now moved) rest) (told ∙ ap (λ (d : Decision). decisions ++ d ∷ []) decided)
          ∙ more_decided now moved rest decisions ∙ ap (λ (l : List Move). decisions ++ decisions_of now l) (sym is) ∙ so.decided;
      books = replay_first now moved rest ∙ ap (replay now) (sym is) ∙ so.books;
      taken = all_still_taken now moved rest (subst (λ (l : List Move). AllByRecursion (IsTakenIn now) l) is so.taken).1;
    })

none_decided : (now : List RuledBook) → decisions_of now [] ≡ []
unfolding journal_of
none_decided now = refl

replay_none : (now : List RuledBook) → replay now [] ≡ now
unfolding replay
replay_none now = refl

pub all_decided : (server : List RuledBook) (batch left : List Move) (decisions : List Decision) (now : List RuledBook) → AreLeft server batch left decisions now → length left ≡ 0
    → decisions ≡ decisions_of server batch
all_decided server batch left decisions now so none =
    sym (append-nil decisions) ∙ ap (λ (d : List Decision). decisions ++ d) (sym (ap (decisions_of now) (nil_from_length left none) ∙ none_decided now)) ∙ so.decided

pub all_made : (server : List RuledBook) (batch left : List Move) (decisions : List Decision) (now : List RuledBook) → AreLeft server batch left decisions now → length left ≡ 0
    → now ≡ replay server batch
all_made server batch left decisions now so none = sym (ap (replay now) (nil_from_length left none) ∙ replay_none now) ∙ so.books
