-- What is added to a backlog, one after the other.
use Rattle.std.proofs.Common.{◌≡◌, ℕ, ◌+◌, List, [], ◌∷◌, ◌++◌, append_assoc, refl, ap, subst, sym, ◌∙◌}
use Rattle.std.proofs.lemmas.List.{length_push}
use Rattle.rld_counts.specs.declared.fate.Fate.{Fate}
use Rattle.rld_look.specs.Backlog.{AreJoined, AreNoted, BacklogSeen, HasNoted, IsJoined, IsNoted, IsOfBacklogs, empty_backlog, fates_of}
use Rattle.rld_look.specs.declared.backlog.Noted.{Noted}
use Rattle.rld_look.specs.declared.refusal.Refusal.{Refusal}
use Rattle.rld_look.proofs.Noting.{fates_more}

-- one more is noted after the others
pub noted_after : (refusals : List Refusal) (refusal : Refusal) (old mid new : BacklogSeen) (noted : Noted)
    → AreNoted refusals old mid → IsNoted refusal mid new noted → AreNoted (refusals ++ refusal ∷ []) old new
noted_after [] refusal old mid new noted are is =
    (new, noted, subst (λ (seen : BacklogSeen). IsNoted refusal seen new noted) are is, refl)
noted_after (one ∷ refusals) refusal old mid new noted (first, became, is_first, are) is =
    (first, became, is_first, noted_after refusals refusal first mid new noted are is)

-- and what was taken from one more backlog is joined
pub joined_after : (each : List BacklogSeen) (taken old mid new : BacklogSeen)
    → AreJoined each old mid → IsJoined taken mid new → AreJoined (each ++ taken ∷ []) old new
joined_after [] taken old mid new are is =
    (new, subst (λ (seen : BacklogSeen). IsJoined taken seen new) are is, refl)
joined_after (one ∷ each) taken old mid new (first, is_first, are) is =
    (first, is_first, joined_after each taken first mid new are is)

-- the fates of all that were noted, with that of one more
pub all_after : (fates : List Fate) (refusals : List Refusal) (refusal : Refusal) (new : BacklogSeen)
    → HasNoted ((fates ++ fates_of refusals) ++ refusal.fate ∷ []) new → HasNoted (fates ++ fates_of (refusals ++ refusal ∷ [])) new
all_after fates refusals refusal new =
    subst (λ (all : List Fate). HasNoted all new)
    (append_assoc fates (fates_of refusals) (refusal.fate ∷ []) ∙ ap (λ (l : List Fate). fates ++ l) (sym (fates_more refusals refusal)))

-- what was taken of no receiver, and of one more
pub of_none : IsOfBacklogs 0 empty_backlog
of_none = record { each = []; all = refl; joined = refl }

pub of_more : (number : ℕ) (taken old new : BacklogSeen) → IsOfBacklogs number old → IsJoined taken old new
    → IsOfBacklogs (number + 1) new
of_more number taken old new of is =
    record {
      each = of.each ++ taken ∷ [];
      all = length_push of.each taken ∙ ap (λ (n : ℕ). n + 1) of.all;
      joined = joined_after of.each taken empty_backlog old new of.joined is;
    }

-- what was taken of so many receivers, as it is given
pub of_all : (number all : ℕ) (seen : BacklogSeen) (waiting : List Refusal) (left_out : List ℕ) → IsOfBacklogs number seen
    → number ≡ all → waiting ≡ seen.waiting → left_out ≡ seen.left_out
    → IsOfBacklogs all (record { waiting = waiting; left_out = left_out })
of_all number all seen waiting left_out of is waits left =
    subst (λ (l : List Refusal). IsOfBacklogs all (record { waiting = l; left_out = left_out })) (sym waits)
    (subst (λ (l : List ℕ). IsOfBacklogs all (record { waiting = seen.waiting; left_out = l })) (sym left)
    (subst (λ (n : ℕ). IsOfBacklogs n seen) is of))
