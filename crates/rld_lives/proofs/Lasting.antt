-- How a life goes on, batch by batch.
use Rattle.std.proofs.Common.{◌≡◌, inl, inr, Bool, true, false, ◌||◌, List, [], ◌∷◌, ◌++◌, length, refl, sym, ◌∙◌, ap, subst, arith, append_assoc, append-nil}
use Rattle.std.specs.Prelude.{Ok, Err, IsErr}
use Rattle.std.specs.List.{AllByRecursion}
use Rattle.std.proofs.lemmas.List.Folds.{list_any-append}
use Rattle.rsl_shard.specs.declared.moved.Move.{Move}
use Rattle.rld_books.specs.Server.{ServerSeen, decisions_of, replay}
use Rattle.rld_store.specs.Recorded.{RecordedSeen, is_ended}
use Rattle.rld_store.specs.declared.fault.RecordFault.{RecordFault}
use Rattle.rld_store.specs.declared.fault.RecordFault.TheVariants.{Failed, Ended}
use Rattle.rld_lives.specs.Life.{AreOutcomes, MayBeLeft, Outcome, has_ended, recorded}

-- ---- batches of which some are left

-- outcomes of batches that were not recorded
abbrev pub AreUnrecorded : List Outcome → Type 0
AreUnrecorded outcomes = AllByRecursion (λ (outcome : Outcome). IsErr outcome) outcomes

-- none of their moves is there
pub recorded_none : (batches : List (List Move)) (outcomes : List Outcome) → AreUnrecorded outcomes → recorded batches outcomes ≡ []
recorded_none [] outcomes none = refl
recorded_none (batch ∷ batches) [] none = refl
recorded_none (batch ∷ batches) (Ok answer ∷ outcomes) none = absurd (clash none.0)
  where
    clash : false ≡ true → ⊥
    clash h = cc
recorded_none (batch ∷ batches) (Err fault ∷ outcomes) none = recorded_none batches outcomes none.1

pub none_left : (batches : List (List Move)) (outcomes : List Outcome) → MayBeLeft [] batches outcomes
none_left [] outcomes = refl
none_left (batch ∷ batches) [] = refl
none_left (batch ∷ batches) (Ok answer ∷ outcomes) = none_left batches outcomes
none_left (batch ∷ batches) (Err fault ∷ outcomes) = inr (none_left batches outcomes)

-- How some batches have come out and others are left: what came of these, `later`, is what more comes of all.
pub record HasCome (history : List Move) (batches : List (List Move)) (outcomes : List Outcome) (rest : List (List Move)) (so_far unanswered : List Move) : Type 0 where
  pub moves : (later : List Outcome) → history ++ recorded batches (outcomes ++ later) ≡ so_far ++ recorded rest later
  pub over : (later : List Outcome) → AreUnrecorded later → MayBeLeft unanswered batches (outcomes ++ later)
  pub more : (later : List Outcome) (some : List Move) → MayBeLeft some rest later → MayBeLeft some batches (outcomes ++ later)

module _ (history : List Move) (batches : List (List Move)) (outcomes : List Outcome) where
  pub comes : (rest : List (List Move)) → outcomes ≡ [] → batches ≡ rest → HasCome history batches outcomes rest history []
  comes rest none all = record {
    moves = λ later. ap (λ (o : List Outcome). history ++ recorded batches (o ++ later)) none ∙ ap (λ (b : List (List Move)). history ++ recorded b later) all;
    over = λ later unrecorded. none_left batches (outcomes ++ later);
    more = λ later some left. subst (λ (o : List Outcome). MayBeLeft some batches (o ++ later)) (sym none) (subst (λ (b : List (List Move)). MayBeLeft some b later) (sym all) left);
  }

  module _ (rest : List (List Move)) (batch : List Move) (so_far unanswered : List Move) (has : HasCome history batches outcomes (batch ∷ rest) so_far unanswered) (now : List Outcome) where
    -- the next was recorded
    pub comes_recorded : (answer : RecordedSeen) → now ≡ outcomes ++ Ok answer ∷ [] → HasCome history batches now rest (so_far ++ batch) []
    comes_recorded answer is = record {
      moves = λ later. ap (λ (o : List Outcome). history ++ recorded batches o) (longer later) ∙ has.moves (Ok answer ∷ later) ∙ sym (append_assoc so_far batch (recorded rest later));
      over = λ later unrecorded. none_left batches (now ++ later);
      more = λ later some left. subst (λ (o : List Outcome). MayBeLeft some batches o) (sym (longer later)) (has.more (Ok answer ∷ later) some left);
    }
      where
        longer : (later : List Outcome) → now ++ later ≡ outcomes ++ Ok answer ∷ later
        longer later = ap (λ (o : List Outcome). o ++ later) is ∙ append_assoc outcomes (Ok answer ∷ []) later

    module _ (fault : RecordFault) (is : now ≡ outcomes ++ Err fault ∷ []) where
      longer : (later : List Outcome) → now ++ later ≡ outcomes ++ Err fault ∷ later
      longer later = ap (λ (o : List Outcome). o ++ later) is ∙ append_assoc outcomes (Err fault ∷ []) later

      same_moves : (later : List Outcome) → history ++ recorded batches (now ++ later) ≡ so_far ++ recorded rest later
      same_moves later = ap (λ (o : List Outcome). history ++ recorded batches o) (longer later) ∙ has.moves (Err fault ∷ later)

      same_more : (later : List Outcome) (some : List Move) → MayBeLeft some rest later → MayBeLeft some batches (now ++ later)
      same_more later some left = subst (λ (o : List Outcome). MayBeLeft some batches o) (sym (longer later)) (has.more (Err fault ∷ later) some (inr left))

      -- it was not, and it is not there either
      pub comes_still : HasCome history batches now rest so_far unanswered
      comes_still = record {
        moves = same_moves;
        over = λ later unrecorded. subst (λ (o : List Outcome). MayBeLeft unanswered batches o) (sym (longer later)) (has.over (Err fault ∷ later) (refl, unrecorded));
        more = same_more;
      }

      -- it was not, and is perhaps there
      pub comes_unrecorded : HasCome history batches now rest so_far batch
      comes_unrecorded = record {
        moves = same_moves;
        over = λ later unrecorded. subst (λ (o : List Outcome). MayBeLeft batch batches o) (sym (longer later)) (has.more (Err fault ∷ later) batch (inl (refl, unrecorded)));
        more = same_more;
      }

-- ---- what comes of the next

-- what came of a batch, and of the batches after it, by the books then
module _ (server books made : ServerSeen) (batches rest : List (List Move)) (batch : List Move) (outcomes now : List Outcome)
    (out : (later : List Outcome) → AreOutcomes books (batch ∷ rest) later → AreOutcomes server batches (outcomes ++ later)) where
  next : (outcome : Outcome) → now ≡ outcomes ++ outcome ∷ [] → (later : List Outcome) → AreOutcomes books (batch ∷ rest) (outcome ∷ later) → AreOutcomes server batches (now ++ later)
  next outcome is later are =
      subst (λ (o : List Outcome). AreOutcomes server batches o) (sym (ap (λ (o : List Outcome). o ++ later) is ∙ append_assoc outcomes (outcome ∷ []) later)) (out (outcome ∷ later) are)

  pub next_recorded : (answer : RecordedSeen) → now ≡ outcomes ++ Ok answer ∷ [] → answer.decisions ≡ decisions_of books batch → made ≡ replay books batch
      → (later : List Outcome) → AreOutcomes made rest later → AreOutcomes server batches (now ++ later)
  next_recorded answer is decided made_is later are = next (Ok answer) is later (decided, subst (λ (b : ServerSeen). AreOutcomes b rest later) made_is are)

  pub next_failed : now ≡ outcomes ++ Err Failed ∷ [] → made ≡ books → (later : List Outcome) → AreOutcomes made rest later → AreOutcomes server batches (now ++ later)
  next_failed is same later are = next (Err Failed) is later (subst (λ (b : ServerSeen). AreOutcomes b rest later) same are)

  pub next_ended : now ≡ outcomes ++ Err Ended ∷ [] → AreOutcomes server batches now
  next_ended is = subst (λ (o : List Outcome). AreOutcomes server batches o) (append-nil now) (next (Err Ended) is [] refl)

-- no more are left
pub none_next : (server books : ServerSeen) (batches rest : List (List Move)) (outcomes : List Outcome) → ((later : List Outcome) → AreOutcomes books rest later → AreOutcomes server batches (outcomes ++ later)) → length rest ≡ 0
    → AreOutcomes server batches outcomes
none_next server books batches [] outcomes out none = subst (λ (o : List Outcome). AreOutcomes server batches o) (append-nil outcomes) (out [] refl)
none_next server books batches (batch ∷ rest) outcomes out none = absurd (omega (arith, none))

-- ---- whether nothing more can be recorded

-- the last result tells, where none before it did
pub ended_more : (outcomes now : List Outcome) (outcome : Outcome) → now ≡ outcomes ++ outcome ∷ [] → has_ended outcomes ≡ false → has_ended now ≡ is_ended outcome
ended_more outcomes now (Ok answer) is none = ap has_ended is ∙ list_any-append is_ended outcomes (Ok answer ∷ []) ∙ ap (λ (t : Bool). t || false) none
ended_more outcomes now (Err Failed) is none = ap has_ended is ∙ list_any-append is_ended outcomes (Err Failed ∷ []) ∙ ap (λ (t : Bool). t || false) none
ended_more outcomes now (Err Ended) is none = ap has_ended is ∙ list_any-append is_ended outcomes (Err Ended ∷ []) ∙ ap (λ (t : Bool). t || true) none
