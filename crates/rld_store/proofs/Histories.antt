-- What the opening of a log leaves of it.
use Rattle.std.proofs.Common.{◌≡◌, inl, inr, ℕ, List, [], ◌∷◌, ◌++◌, length, sym, ap, subst, ◌∙◌, arith}
use Rattle.rsl_accounts.specs.Configuration.{Configuration}
use Rattle.rsl_shard.specs.declared.moved.Move.{Move}
use Rattle.rld_books.specs.Server.{ServerSeen, replay}
use Rattle.rld_log.specs.Frames.{EndsAt, HasPayloads, frames}
use Rattle.rld_log.specs.Log.{Extends, Only}
use Rattle.rld_log.specs.Recording.{IsBeforeOrAfter, IsSettled, LeavesEither}
use Rattle.rld_log.specs.declared.log.Ending.{Ending}
use Rattle.rld_log.proofs.Callers.{ends_so, have_one_reading}
use Rattle.rld_spelling.specs.declared.header.Header.{Header}
use Rattle.rld_store.specs.Generations.{HasHistory, counts_of}
use Rattle.rld_store.specs.Opening.{IsFoundIn}
use Rattle.rld_store.specs.Standing.{StandsFor}
use Rattle.rld_store.specs.declared.store.End.TheVariants.{Settled}
use Rattle.rld_store.proofs.Batches.{size_more}
use Rattle.rld_store.proofs.Fronts.{no_moves_fit}
use Rattle.rld_store.proofs.States.{begun_is_of, made_of_begun}

-- ---- what a crash leaves

-- a crash that leaves the payloads, with one or another more or with none, leaves the payloads
one_way : (file : List ℕ) (before : List (List ℕ)) → IsBeforeOrAfter before [] file → IsBeforeOrAfter before (0 ∷ []) file → HasPayloads file before
one_way file before (inl has) other = has
one_way file before (inr some) (inl has) = has
one_way file before (inr some) (inr other) =
    let same : before ++ [] ∷ [] ≡ before ++ (0 ∷ []) ∷ [] = have_one_reading file (before ++ [] ∷ []) (before ++ (0 ∷ []) ∷ []) some other in
    absurd (omega (arith, ap (λ (l : List (List ℕ)). length (frames l)) same, size_more before [] (omega arith), size_more before (0 ∷ []) (omega arith)))

pub only_the_payloads : (old new : Ending → List ℕ → Type 0) (before : List (List ℕ))
    → ((payload : List ℕ) (ending : Ending) → LeavesEither (old ending) before payload → LeavesEither (new ending) before payload)
    → ((ending : Ending) (left : List ℕ) → old ending left → HasPayloads left before)
    → (ending : Ending) (left : List ℕ) → new ending left → HasPayloads left before
only_the_payloads old new before leaves has ending left reached =
    one_way left before (leaves [] ending (λ l r. inl (has ending l r)) left reached) (leaves (0 ∷ []) ending (λ l r. inl (has ending l r)) left reached)

pub has_before : (file : List ℕ) (outcomes : Ending → List ℕ → Type 0) (before : List (List ℕ)) → Only file outcomes → HasPayloads file before
    → (ending : Ending) (left : List ℕ) → outcomes ending left → HasPayloads left before
has_before file outcomes before only has ending left reached = subst (λ (f : List ℕ). HasPayloads f before) (sym (only ending left reached)) has

pub extends_whole : (file : List ℕ) (before : List (List ℕ)) → HasPayloads file before → Extends (frames before) file
extends_whole file before has = record { tail = has.tail; added = has.parts }

pub ends_whole : (file octets : List ℕ) (len : ℕ) (before : List (List ℕ)) → octets ≡ file → ∥ EndsAt octets len ∥₁ → HasPayloads file before → len ≡ length (frames before)
ends_whole file octets len before is ends has = ends_so file len (subst (λ (f : List ℕ). ∥ EndsAt f len ∥₁) is ends) before has

-- ---- faults

-- ---- the history of a log that was opened

pub opened_stands : (config : Configuration) (opening : ServerSeen) (tears : List ℕ → List ℕ → Type 0) (file seen : List ℕ) (may_leave : Ending → List ℕ → Type 0) (whole : ℕ) (header : Header) (books : ServerSeen) (count : ℕ) (history : List Move)
    → (has : HasHistory config opening history file) → IsFoundIn config has.payloads header books count → whole ≡ length (frames has.payloads) → IsSettled seen may_leave has.payloads
    → StandsFor config opening tears Settled seen may_leave whole books history []
opened_stands config opening tears file seen may_leave whole header books count history has found size settled = record {
  payloads = has.payloads;
  are = has.are;
  unanswered_fits = no_moves_fit (counts_of config);
  size = size;
  ends = settled;
  replayed = (found has.are.header (replay opening has.are.earlier) has.are.moves (begun_is_of config opening has.are.earlier has.are.opening_is) has.are.generation).books_are
      ∙ sym (made_of_begun config opening history has.payloads has.are);
}

pub opened_found : (config : Configuration) (opening : ServerSeen) (file : List ℕ) (header : Header) (books : ServerSeen) (count : ℕ) (history : List Move)
    → (has : HasHistory config opening history file) → IsFoundIn config has.payloads header books count → (header ≡ has.are.header) × (count ≡ length has.are.moves)
opened_found config opening file header books count history has found =
    let is = found has.are.header (replay opening has.are.earlier) has.are.moves (begun_is_of config opening has.are.earlier has.are.opening_is) has.are.generation in
    (is.header_is, is.count_is)

pub still_history : (config : Configuration) (opening : ServerSeen) (history : List Move) (file left : List ℕ) → (has : HasHistory config opening history file) → HasPayloads left has.payloads → HasHistory config opening history left
still_history config opening history file left has there = record { payloads = has.payloads; has = there; are = has.are }
