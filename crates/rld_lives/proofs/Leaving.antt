-- What a life leaves, and what a crash leaves of its logs.
use Rattle.std.proofs.Common.{◌≡◌, ◌⊎◌, ⊎_elim, ℕ, inl, inr, List, [], ◌∷◌, ◌++◌, length, Option, Some, None, sym, subst, ◌∙◌, ap, arith, append-nil}
use Rattle.std.specs.Prelude.{Ok, Err}
use Rattle.std.specs.Global.{Vec}
use Rattle.std.specs.Option.{option_map}
use Rattle.std.proofs.lemmas.List.Elements.{All-from_recursion}
use Rattle.rsl_accounts.specs.Configuration.{Configuration}
use Rattle.rld_store.specs.Recorded.{RecordedSeen}
use Rattle.rsl_shard.specs.declared.moved.Move.{Move}
use Rattle.rld_books.specs.Server.{ServerSeen, replay}
use Rattle.rld_log.specs.declared.log.Ending.{Ending}
use Rattle.rld_spelling.specs.Moves.{move_field}
use Rattle.rld_log.specs.Frames.{HasPayloads}
use Rattle.rld_log.proofs.Callers.{have_one_reading}
use Rattle.rld_store.specs.Generations.{HasHistory, IsUnbegun, StandForHistory, counts_of}
use Rattle.rld_store.specs.Standing.{StandsFor}
use Rattle.rld_store.specs.declared.fault.RecordFault.{RecordFault}
use Rattle.rld_store.specs.declared.store.End.{End}
use Rattle.rld_store.specs.declared.store.End.TheVariants.{Settled}
use Rattle.rld_lives.specs.Leaving.{HasLived, HaveHistory, OfEach, StandsAfter}
use Rattle.rld_lives.specs.Life.{AreOutcomes, MayBeLeft, Outcome, recorded}
use Rattle.rld_lives.proofs.Lasting.{HasCome, comes_recorded, comes_still, comes_unrecorded, none_left, recorded_none}

-- a store whose log is settled has no batch that was not answered
stands_settled : (config : Configuration) (opening : ServerSeen) (tears : List ℕ → List ℕ → Type 0) (end : End) (seen : List ℕ) (may_leave : Ending → List ℕ → Type 0) (whole : ℕ) (books : ServerSeen) (history unanswered : List Move)
    → StandsFor config opening tears Settled seen may_leave whole books history unanswered → end ≡ Settled → StandsFor config opening tears end seen may_leave whole books history []
stands_settled config opening tears end seen may_leave whole books history unanswered so settled =
    subst (λ (e : End). StandsFor config opening tears e seen may_leave whole books history []) (sym settled) (record {
      payloads = so.payloads;
      are = so.are;
      unanswered_fits = (omega arith, All-from_recursion (move_field (counts_of config)).Fits [] tt);
      size = so.size;
      ends = so.ends;
      replayed = so.replayed;
    })

-- a store on the way through the batches of a life: what it stands for has come of those that are past
pub record GoesOn (config : Configuration) (opening : ServerSeen) (tears : List ℕ → List ℕ → Type 0) (end : End) (seen : List ℕ) (may_leave : Ending → List ℕ → Type 0) (whole : ℕ) (books : ServerSeen) (history : List Move)
    (batches : List (List Move)) (outcomes : List Outcome) (rest : List (List Move)) : Type 0 where
  pub so_far : List Move
  pub unanswered : List Move
  pub stands : StandsFor config opening tears end seen may_leave whole books so_far unanswered
  pub come : HasCome history batches outcomes rest so_far unanswered

module _ (config : Configuration) (opening : ServerSeen) (tears : List ℕ → List ℕ → Type 0) (end now_end : End) (seen now_seen : List ℕ) (may_leave now_may_leave : Ending → List ℕ → Type 0) (whole now_whole : ℕ)
    (books now_books : ServerSeen) (history : List Move) (batches : List (List Move)) (outcomes now : List Outcome) (batch : List Move) (rest : List (List Move))
    (goes : GoesOn config opening tears end seen may_leave whole books history batches outcomes (batch ∷ rest)) where
  pub goes_recorded : (answer : RecordedSeen) → now ≡ outcomes ++ Ok answer ∷ []
      → ((some unanswered : List Move) → StandsFor config opening tears end seen may_leave whole books some unanswered
      → StandsFor config opening tears Settled now_seen now_may_leave now_whole now_books (some ++ batch) batch)
      → now_end ≡ Settled → GoesOn config opening tears now_end now_seen now_may_leave now_whole now_books history batches now rest
  goes_recorded answer is recorded settled = record {
    so_far = goes.so_far ++ batch;
    unanswered = [];
    stands = stands_settled config opening tears now_end now_seen now_may_leave now_whole now_books (goes.so_far ++ batch) batch (recorded goes.so_far goes.unanswered goes.stands) settled;
    come = comes_recorded history batches outcomes rest batch goes.so_far goes.unanswered goes.come now answer is;
  }

  pub goes_unrecorded : (fault : RecordFault) → now ≡ outcomes ++ Err fault ∷ []
      → ((some unanswered : List Move) → StandsFor config opening tears end seen may_leave whole books some unanswered
      → StandsFor config opening tears now_end now_seen now_may_leave now_whole now_books some unanswered ⊎ StandsFor config opening tears now_end now_seen now_may_leave now_whole now_books some batch)
      → GoesOn config opening tears now_end now_seen now_may_leave now_whole now_books history batches now rest
  goes_unrecorded fault is left = ⊎_elim
      (λ still. record { so_far = goes.so_far; unanswered = goes.unanswered; stands = still; come = comes_still history batches outcomes rest batch goes.so_far goes.unanswered goes.come now fault is })
      (λ other. record { so_far = goes.so_far; unanswered = batch; stands = other; come = comes_unrecorded history batches outcomes rest batch goes.so_far goes.unanswered goes.come now fault is })
      (left goes.so_far goes.unanswered goes.stands)

-- a store that went on in a next generation, or not
pub goes_on : (config : Configuration) (opening : ServerSeen) (tears : List ℕ → List ℕ → Type 0) (end now_end : End) (seen now_seen : List ℕ) (may_leave now_may_leave : Ending → List ℕ → Type 0) (whole now_whole : ℕ)
    (books now_books : ServerSeen) (history : List Move) (batches : List (List Move)) (outcomes : List Outcome) (rest : List (List Move))
    → ((some unanswered : List Move) → StandsFor config opening tears end seen may_leave whole books some unanswered
    → StandsFor config opening tears now_end now_seen now_may_leave now_whole now_books some unanswered ⊎ StandsFor config opening tears now_end now_seen now_may_leave now_whole now_books some [])
    → GoesOn config opening tears end seen may_leave whole books history batches outcomes rest → GoesOn config opening tears now_end now_seen now_may_leave now_whole now_books history batches outcomes rest
goes_on config opening tears end now_end seen now_seen may_leave now_may_leave whole now_whole books now_books history batches outcomes rest stands goes = ⊎_elim
    (λ still. record { so_far = goes.so_far; unanswered = goes.unanswered; stands = still; come = goes.come })
    (λ anew. record {
      so_far = goes.so_far;
      unanswered = [];
      stands = anew;
      come = record { moves = goes.come.moves; over = λ later unrecorded. none_left batches (outcomes ++ later); more = goes.come.more };
    })
    (stands goes.so_far goes.unanswered goes.stands)

-- what a store stands for after a life
pub stands_after : (config : Configuration) (opening : ServerSeen) (tears : List ℕ → List ℕ → Type 0) (end : End) (seen : List ℕ) (may_leave : Ending → List ℕ → Type 0) (whole : ℕ) (books : ServerSeen) (history : List Move)
    (batches : List (List Move)) (outcomes : List Outcome) (rest : List (List Move))
    → GoesOn config opening tears end seen may_leave whole books history batches outcomes rest → AreOutcomes (replay opening history) batches outcomes
    → StandsAfter config opening tears end seen may_leave whole books history batches outcomes
stands_after config opening tears end seen may_leave whole books history batches outcomes rest goes out = record {
  left = goes.so_far;
  unanswered = goes.unanswered;
  stands = goes.stands;
  life = record {
    came_out = out;
    more = [];
    may_be_left = subst (λ (o : List Outcome). MayBeLeft [] batches o) (append-nil outcomes) (none_left batches (outcomes ++ []));
    left_is = moves ∙ sym (append-nil (history ++ recorded batches outcomes));
  };
  also = record {
    came_out = out;
    more = goes.unanswered;
    may_be_left = subst (λ (o : List Outcome). MayBeLeft goes.unanswered batches o) (append-nil outcomes) (goes.come.over [] tt);
    left_is = ap (λ (m : List Move). m ++ goes.unanswered) moves;
  };
}
  where
    moves : goes.so_far ≡ history ++ recorded batches outcomes
    moves = sym (append-nil goes.so_far) ∙ ap (λ (m : List Move). goes.so_far ++ m) (sym (recorded_none rest [] tt)) ∙ sym (goes.come.moves []) ∙ ap (λ (o : List Outcome). history ++ recorded batches o) (append-nil outcomes)

-- what a life tells
abbrev pub items_of : Option (Vec Outcome) → Option (List Outcome)
items_of one = option_map (λ (outcomes : Vec Outcome). outcomes.items) one

-- ---- what a crash leaves

-- what logs have that a life left
pub has_lived : {L : Type 0} (config : Configuration) (opening : ServerSeen) (tears : List ℕ → List ℕ → Type 0) (end : End) (seen : List ℕ) (may_leave : Ending → List ℕ → Type 0) (whole : ℕ) (books : ServerSeen) (history : List Move)
    (batches : List (List Move)) (outcomes : List Outcome) (file : L → List ℕ) (older : Option L) (newest : L)
    → (so : StandsAfter config opening tears end seen may_leave whole books history batches outcomes)
    → HaveHistory config opening so.left file older newest ⊎ HaveHistory config opening (so.left ++ so.unanswered) file older newest
    → HasLived config opening history batches (Some outcomes) file older newest
has_lived config opening tears end seen may_leave whole books history batches outcomes file older newest so (inl have) = record { left = so.left; life = so.life; have = have }
has_lived config opening tears end seen may_leave whole books history batches outcomes file older newest so (inr have) = record { left = so.left ++ so.unanswered; life = so.also; have = have }

-- what two logs have that a roll left
pub both_have : {L : Type 0} (config : Configuration) (opening : ServerSeen) (history unanswered : List Move) (file : L → List ℕ) (older newest : L) → StandForHistory config opening history unanswered (file older) (file newest)
    → HaveHistory config opening history file (Some older) newest ⊎ HaveHistory config opening (history ++ unanswered) file (Some older) newest
both_have config opening history unanswered file older newest (inl has) = inl (inl has)
both_have config opening history unanswered file older newest (inr (none, inl has)) = inl (inr (none, has))
both_have config opening history unanswered file older newest (inr (none, inr has)) = inr (inr (none, has))

-- what holds of each log
pub each : {L : Type 0} (P Q : L → Type 0) → ((log : L) → P log → Q log) → (older : Option L) (newest : L) → OfEach P older newest → OfEach Q older newest
each P Q by None newest one = by newest one
each P Q by (Some older) newest both = (by older both.0, by newest both.1)

-- ---- which of two logs counts

-- one with two payloads was begun
pub begun_by_two : (file : List ℕ) (payloads : List (List ℕ)) (first second : List ℕ) (rest : List (List ℕ)) → HasPayloads file payloads → payloads ≡ first ∷ second ∷ rest → IsUnbegun file → ⊥
begun_by_two file payloads first second rest has are none =
    let size : length none.payloads ≡ length (first ∷ second ∷ rest) = ap length (have_one_reading file none.payloads payloads none.has has ∙ are) in
    omega (arith, size, none.few)

-- so was one that has a history
pub begun_by_history : (config : Configuration) (opening : ServerSeen) (history : List Move) (file : List ℕ) → HasHistory config opening history file → IsUnbegun file → ⊥
begun_by_history config opening history file has none =
    begun_by_two file has.payloads _ _ _ has.has has.are.generation.payloads_are none

-- the newest, if it was begun
pub newest_has : (config : Configuration) (opening : ServerSeen) (history : List Move) (older newest : List ℕ) → (IsUnbegun newest → ⊥)
    → HasHistory config opening history newest ⊎ (IsUnbegun newest × HasHistory config opening history older) → HasHistory config opening history newest
newest_has config opening history older newest begun (inl has) = has
newest_has config opening history older newest begun (inr (none, has)) = absurd (begun none)

-- else the older one
pub older_has : (config : Configuration) (opening : ServerSeen) (history : List Move) (older newest : List ℕ) → IsUnbegun newest
    → HasHistory config opening history newest ⊎ (IsUnbegun newest × HasHistory config opening history older) → HasHistory config opening history older
older_has config opening history older newest none (inl has) = absurd (begun_by_history config opening history newest has none)
older_has config opening history older newest none (inr (also, has)) = has
