-- What is answered stands in the history that the lives leave.
use Rattle.std.proofs.Common.{◌≡◌, ℕ, zero, suc, List, [], ◌∷◌, ◌++◌, map, Option, Some, None, refl, sym, ap, subst, ◌∙◌, append_assoc, append-nil}
use Rattle.std.specs.Prelude.{slice_get, Ok, Err}
use Rattle.rsl_event.specs.declared.event.Decision.{Decision}
use Rattle.rsl_shard.specs.declared.line.Line.{Line}
use Rattle.rsl_shard.specs.declared.moved.Move.{Move}
use Rattle.rld_books.specs.Server.{ServerSeen, journal_of, replay, server_after}
use Rattle.rld_store.specs.Recorded.{RecordedSeen}
use Rattle.rld_store.specs.declared.fault.RecordFault.TheVariants.{Failed, Ended}
use Rattle.rld_lives.specs.Life.{AreLives, AreOutcomes, IsLife, IsLifeTold, Outcome, Stands, WhatIsAnsweredStands, recorded}
use Rattle.rld_lives.proofs.History.{journal_goes_on}

some_is : (one other : Outcome) → Some one ≡ Some other → one ≡ other
some_is one other same = cc

recorded_or : Outcome → RecordedSeen → RecordedSeen
recorded_or (Ok answer) other = answer
recorded_or (Err fault) other = other

-- a batch that was recorded so
ok_is : (one other : RecordedSeen) (outcome : Outcome) → outcome ≡ Ok one → Some outcome ≡ Some (Ok other) → one ≡ other
unfolding recorded_or
ok_is one other outcome is same =
    sym (ap (λ (o : Outcome). recorded_or o other) is) ∙ ap (λ (o : Outcome). recorded_or o other) (some_is outcome (Ok other) same)

-- the moves of a journal
moves_are : (server : ServerSeen) (moves : List Move) → map (λ (line : Line). line.moved) (journal_of server moves) ≡ moves
unfolding journal_of
moves_are server [] = refl
moves_are server (moved ∷ moves) = ap (λ (l : List Move). moved ∷ l) (moves_are (server_after server moved) moves)

-- what stands in a history stands in a longer one
stands_longer : (begun : ServerSeen) (history rest batch : List Move) (answer : List Decision) → Stands begun history batch answer → Stands begun (history ++ rest) batch answer
stands_longer begun history rest batch answer stands = record {
  before = stands.before;
  lines = stands.lines;
  after = stands.after ++ journal_of (replay begun history) rest;
  journal = journal_goes_on begun history rest
      ∙ ap (λ (l : List Line). l ++ journal_of (replay begun history) rest) stands.journal
      ∙ append_assoc (stands.before ++ stands.lines) stands.after (journal_of (replay begun history) rest);
  moves = stands.moves;
  decisions = stands.decisions;
}

-- and in one that more moves begin
stands_behind : (begun : ServerSeen) (earlier history batch : List Move) (answer : List Decision) → Stands (replay begun earlier) history batch answer → Stands begun (earlier ++ history) batch answer
stands_behind begun earlier history batch answer stands =
    let first : List Line = journal_of begun earlier in
    record {
      before = first ++ stands.before;
      lines = stands.lines;
      after = stands.after;
      journal = journal_goes_on begun earlier history
          ∙ ap (λ (l : List Line). first ++ l) stands.journal
          ∙ sym (append_assoc first (stands.before ++ stands.lines) stands.after)
          ∙ ap (λ (l : List Line). l ++ stands.after) (sym (append_assoc first stands.before stands.lines));
      moves = stands.moves;
      decisions = stands.decisions;
    }

-- the batches of a life that were recorded, each with its answer
answered_stands : (server : ServerSeen) (batches : List (List Move)) (outcomes : List Outcome) → AreOutcomes server batches outcomes
    → (n : ℕ) (batch : List Move) (answer : RecordedSeen) → slice_get batches n ≡ Some batch → slice_get outcomes n ≡ Some (Ok answer) → Stands server (recorded batches outcomes) batch answer.decisions
answered_stands server [] outcomes are n batch answer at told = absurd (cc at)
answered_stands server (first ∷ batches) [] are n batch answer at told = absurd are
answered_stands server (first ∷ batches) (Ok found ∷ outcomes) are zero batch answer at told =
    let this : first ≡ batch = cc in
    let its : found ≡ answer = ok_is found answer (Ok found) refl told in
    record {
      before = [];
      lines = journal_of server first;
      after = journal_of (replay server first) (recorded batches outcomes);
      journal = journal_goes_on server first (recorded batches outcomes);
      moves = moves_are server first ∙ this;
      decisions = sym are.0 ∙ ap (λ (one : RecordedSeen). one.decisions) its;
    }
answered_stands server (first ∷ batches) (Ok found ∷ outcomes) are (suc n) batch answer at told =
    stands_behind server first (recorded batches outcomes) batch answer.decisions (answered_stands (replay server first) batches outcomes are.1 n batch answer at told)
answered_stands server (first ∷ batches) (Err fault ∷ outcomes) are zero batch answer at told = absurd (cc told)
answered_stands server (first ∷ batches) (Err Failed ∷ outcomes) are (suc n) batch answer at told = answered_stands server batches outcomes are n batch answer at told
answered_stands server (first ∷ batches) (Err Ended ∷ outcomes) are (suc n) batch answer at told = absurd (cc (sym (ap (λ (o : List Outcome). slice_get o n) are) ∙ told))

stands_in_life : (begun : ServerSeen) (history left : List Move) (batches : List (List Move)) (outcomes : List Outcome) → IsLife begun history batches outcomes left
    → (n : ℕ) (batch : List Move) (answer : RecordedSeen) → slice_get batches n ≡ Some batch → slice_get outcomes n ≡ Some (Ok answer) → Stands begun left batch answer.decisions
stands_in_life begun history left batches outcomes life n batch answer at told =
    let first : List Move = recorded batches outcomes in
    let here : Stands (replay begun history) first batch answer.decisions = answered_stands (replay begun history) batches outcomes life.came_out n batch answer at told in
    subst (λ (l : List Move). Stands begun l batch answer.decisions) (sym life.left_is)
    (stands_longer begun (history ++ first) life.more batch answer.decisions (stands_behind begun history first batch answer.decisions here))

-- a life keeps the history that it began with, and so do lives
record Longer (history left : List Move) : Type 0 where
  pub rest : List Move
  pub is : left ≡ history ++ rest

keeps : (begun : ServerSeen) (history left : List Move) (batches : List (List Move)) (one : Option (List Outcome)) → IsLifeTold begun history batches one left → Longer history left
keeps begun history left batches None life = record { rest = []; is = life ∙ sym (append-nil history) }
keeps begun history left batches (Some outcomes) life =
    let first : List Move = recorded batches outcomes in
    record { rest = first ++ life.more; is = life.left_is ∙ append_assoc history first life.more }

keep : (begun : ServerSeen) (history left : List Move) (plans : List (List (List Move))) (told : List (Option (List Outcome))) → AreLives begun history plans told left → Longer history left
unfolding AreLives
keep begun history left [] [] lives = record { rest = []; is = lives ∙ sym (append-nil history) }
keep begun history left [] (one ∷ told) lives = absurd lives
keep begun history left (batches ∷ plans) [] lives = absurd lives
keep begun history left (batches ∷ plans) (one ∷ told) lives =
    let this = keeps begun history lives.0 batches one lives.1 in
    let more = keep begun lives.0 left plans told lives.2 in
    record {
      rest = this.rest ++ more.rest;
      is = more.is ∙ ap (λ (l : List Move). l ++ more.rest) this.is ∙ append_assoc history this.rest more.rest;
    }

pub what_is_answered_stands : WhatIsAnsweredStands
unfolding AreLives
what_is_answered_stands begun history left [] told lives life n batches outcomes batch answer plan its at is = absurd (cc plan)
what_is_answered_stands begun history left (first ∷ plans) [] lives life n batches outcomes batch answer plan its at is = absurd lives
what_is_answered_stands begun history left (first ∷ plans) (other ∷ told) lives zero n batches outcomes batch answer plan its at is =
    let this : first ≡ batches = cc in
    let told_is : other ≡ Some outcomes = cc in
    let more = keep begun lives.0 left plans told lives.2 in
    subst (λ (l : List Move). Stands begun l batch answer.decisions) (sym more.is)
    (stands_longer begun lives.0 more.rest batch answer.decisions
    (stands_in_life begun history lives.0 first outcomes (subst (λ (o : Option (List Outcome)). IsLifeTold begun history first o lives.0) told_is lives.1) n batch answer (ap (λ (l : List (List Move)). slice_get l n) this ∙ at) is))
what_is_answered_stands begun history left (first ∷ plans) (other ∷ told) lives (suc life) n batches outcomes batch answer plan its at is =
    what_is_answered_stands begun lives.0 left plans told lives.2 life n batches outcomes batch answer plan its at is
