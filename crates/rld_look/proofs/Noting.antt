-- What waits and what is left out, of all that was noted.
use Rattle.std.proofs.Common.{◌≡◌, ℕ, ◌+◌, ◌<◌, ◌≤◌, Bool, true, cond, eqb, List, [], ◌∷◌, ◌++◌, get_or, map, sym, refl, ap, subst, ◌∙◌, arith, inl, inr}
use Rattle.std.proofs.lemmas.Bool.{cases_eq, eq-eqb, ne_eqb}
use Rattle.std.proofs.lemmas.List.Sums.{sum_by-append, sum_by_push}
use Rattle.rld_counts.specs.Counts.{count_in, counts_of}
use Rattle.rld_counts.specs.Fates.{fate_number}
use Rattle.rld_counts.specs.Tally.{how_many, kept}
use Rattle.rld_counts.specs.declared.fate.Fate.{Fate}
use Rattle.rld_counts.proofs.Callers.{counter_of, mapped_append, number_below}
use Rattle.rld_look.specs.Backlog.{BacklogSeen, HasNoted, IsCounted, IsLeftOut, empty_backlog, fates_of, lines_of, of_cause}
use Rattle.rld_look.specs.declared.refusal.Refusal.{Refusal}

-- ---- the count of a cause

count_is : (fate : Fate) (fates : List Fate) (counts : List ℕ) → counts ≡ counts_of fates → count_in counts fate ≡ kept (of_cause fate fates)
count_is fate fates counts was =
    ap (λ (l : List ℕ). get_or l (fate_number fate) 0) was ∙ counter_of 114 (fate_number fate) (map fate_number fates) (number_below fate)

of_cause_more : (fate one : Fate) (fates : List Fate) → of_cause fate (fates ++ one ∷ []) ≡ of_cause fate fates + cond (eqb (fate_number one) (fate_number fate)) 1 0
unfolding how_many
of_cause_more fate one fates =
    ap (how_many (fate_number fate)) (mapped_append fate_number fates (one ∷ []))
    ∙ sum_by_push (λ (n : ℕ). cond (eqb n (fate_number fate)) 1 0) (map fate_number fates) (fate_number one)

of_cause_none : (fate : Fate) → of_cause fate [] ≡ 0
unfolding how_many
of_cause_none fate = refl

counted : (fate other : Fate) (old new : List ℕ) → IsCounted fate old new
    → count_in new other ≡ cond (eqb (fate_number fate) (fate_number other)) (kept (count_in old other + 1)) (count_in old other)
counted fate other old new is =
    elim (cases_eq (fate_number fate) (fate_number other)) [
      | inl same ↦
          ap (λ (n : ℕ). get_or new n 0) (sym same) ∙ is.0 ∙ ap (λ (n : ℕ). kept (get_or old n 0 + 1)) same
          ∙ sym (ap (λ (b : Bool). cond b (kept (count_in old other + 1)) (count_in old other)) (eq-eqb (fate_number fate) (fate_number other) same))
      | inr differs ↦
          is.1 other (λ (e : other ≡ fate). differs (ap fate_number (sym e)))
          ∙ sym (ap (λ (b : Bool). cond b (kept (count_in old other + 1)) (count_in old other)) (ne_eqb (fate_number fate) (fate_number other) differs))
    ]

-- ---- one more is noted

pub fates_more : (refusals : List Refusal) (refusal : Refusal) → fates_of (refusals ++ refusal ∷ []) ≡ fates_of refusals ++ refusal.fate ∷ []
fates_more [] refusal = refl
fates_more (one ∷ refusals) refusal = ap (λ (l : List Fate). one.fate ∷ l) (fates_more refusals refusal)

-- one of these is counted with what waits
lines_rise : (b : Bool) (all lines left : ℕ) → kept all ≡ kept (lines + left) → kept (all + cond b 1 0) ≡ kept (lines + cond b 1 0 + left)
lines_rise true all lines left was = omega arith
lines_rise _ all lines left was = omega arith

-- or with what is left out
left_rises : (b : Bool) (all lines left : ℕ) → kept all ≡ kept (lines + left) → kept (all + cond b 1 0) ≡ kept (lines + cond b (kept (left + 1)) left)
left_rises true all lines left was = omega arith
left_rises _ all lines left was = omega arith

few_more : (fate other : Fate) (lines : ℕ) (old : BacklogSeen) → lines_of fate old < 20 → lines_of other old ≤ 20
    → lines_of other old + cond (eqb (fate_number fate) (fate_number other)) 1 0 ≤ 20
few_more fate other lines old few was =
    elim (cases_eq (fate_number fate) (fate_number other)) [
      | inl same ↦
          let less : lines_of other old < 20 = subst (λ (n : ℕ). how_many n (map fate_number (fates_of old.waiting)) < 20) same few in
          subst (λ (b : Bool). lines_of other old + cond b 1 0 ≤ 20) (sym (eq-eqb (fate_number fate) (fate_number other) same)) (omega arith)
      | inr differs ↦
          subst (λ (b : Bool). lines_of other old + cond b 1 0 ≤ 20) (sym (ne_eqb (fate_number fate) (fate_number other) differs)) (omega arith)
    ]

pub noted_waits : (refusal : Refusal) (fates : List Fate) (old new : BacklogSeen)
    → HasNoted fates old → lines_of refusal.fate old < 20 → new.waiting ≡ old.waiting ++ refusal ∷ [] → new.left_out ≡ old.left_out
    → HasNoted (fates ++ refusal.fate ∷ []) new
noted_waits refusal fates old new has few more same =
    let risen : (other : Fate) → lines_of other new ≡ lines_of other old + cond (eqb (fate_number refusal.fate) (fate_number other)) 1 0
    = λ (other : Fate). ap (λ (l : List Refusal). of_cause other (fates_of l)) more ∙ ap (of_cause other) (fates_more old.waiting refusal)
    ∙ of_cause_more other refusal.fate (fates_of old.waiting) in
    record {
      all = λ (other : Fate).
          ap kept (of_cause_more other refusal.fate fates)
          ∙ lines_rise (eqb (fate_number refusal.fate) (fate_number other)) (of_cause other fates) (lines_of other old) (count_in old.left_out other) (has.all other)
          ∙ ap (λ (n : ℕ). kept (n + count_in old.left_out other)) (sym (risen other))
          ∙ ap (λ (l : List ℕ). kept (lines_of other new + count_in l other)) (sym same);
      few = λ (other : Fate). subst (λ (n : ℕ). n ≤ 20) (sym (risen other)) (few_more refusal.fate other (lines_of other old) old few (has.few other));
    }

pub noted_left_out : (fate : Fate) (fates : List Fate) (old new : BacklogSeen)
    → HasNoted fates old → IsLeftOut fate old new → HasNoted (fates ++ fate ∷ []) new
noted_left_out fate fates old new has out =
    let same : (other : Fate) → lines_of other new ≡ lines_of other old = λ (other : Fate). ap (λ (l : List Refusal). of_cause other (fates_of l)) out.0 in
    record {
      all = λ (other : Fate).
          ap kept (of_cause_more other fate fates)
          ∙ left_rises (eqb (fate_number fate) (fate_number other)) (of_cause other fates) (lines_of other old) (count_in old.left_out other) (has.all other)
          ∙ ap (λ (n : ℕ). kept (lines_of other old + n)) (sym (counted fate other old.left_out new.left_out out.1))
          ∙ ap (λ (n : ℕ). kept (n + count_in new.left_out other)) (sym (same other));
      few = λ (other : Fate). subst (λ (n : ℕ). n ≤ 20) (sym (same other)) (has.few other);
    }

nothing_more : kept 0 ≡ kept (0 + kept 0)
nothing_more = omega arith

noted_none : HasNoted [] empty_backlog
noted_none =
    record {
      all = λ (fate : Fate).
          ap kept (of_cause_none fate) ∙ nothing_more
          ∙ ap (λ (n : ℕ). kept (0 + kept n)) (sym (of_cause_none fate))
          ∙ ap (λ (n : ℕ). kept (n + kept (of_cause fate []))) (sym (of_cause_none fate))
          ∙ ap (λ (n : ℕ). kept (of_cause fate [] + n)) (sym (count_is fate [] (counts_of []) refl));
      few = λ (fate : Fate). subst (λ (n : ℕ). n ≤ 20) (sym (of_cause_none fate)) (omega arith);
    }

pub noted_empty : (waiting : List Refusal) (left_out : List ℕ) → waiting ≡ [] → left_out ≡ counts_of []
    → HasNoted [] (record { waiting = waiting; left_out = left_out })
noted_empty waiting left_out none counts =
    subst (λ (l : List Refusal). HasNoted [] (record { waiting = l; left_out = left_out })) (sym none)
    (subst (λ (l : List ℕ). HasNoted [] (record { waiting = []; left_out = l })) (sym counts) noted_none)

-- ---- what another backlog had noted is added

of_cause_all : (fate : Fate) (fates others : List Fate) → of_cause fate (fates ++ others) ≡ of_cause fate fates + of_cause fate others
unfolding how_many
of_cause_all fate fates others =
    ap (how_many (fate_number fate)) (mapped_append fate_number fates others)
    ∙ sum_by-append (λ (n : ℕ). cond (eqb n (fate_number fate)) 1 0) (map fate_number fates) (map fate_number others)

-- of a cause so many were noted here and there: so many lines and so many left out
all_joined : (here there lines left risen more : ℕ) → kept there ≡ kept (lines + left) → kept (here + lines) ≡ kept (risen + more)
    → kept (here + there) ≡ kept (risen + kept (more + left))
all_joined here there lines left risen more was pushed = omega arith

pub noted_joined : (fates others : List Fate) (taken seen pushed : BacklogSeen) (new : List ℕ)
    → HasNoted others taken → HasNoted (fates ++ fates_of taken.waiting) pushed → seen ≡ pushed
    → ((fate : Fate) → count_in new fate ≡ kept (count_in seen.left_out fate + count_in taken.left_out fate))
    → HasNoted (fates ++ others) (record { waiting = seen.waiting; left_out = new })
noted_joined fates others taken seen pushed new had has is sums =
    let has : HasNoted (fates ++ fates_of taken.waiting) seen = subst (HasNoted (fates ++ fates_of taken.waiting)) (sym is) has in
    record {
      all = λ (fate : Fate).
          ap kept (of_cause_all fate fates others)
          ∙ all_joined (of_cause fate fates) (of_cause fate others) (lines_of fate taken) (count_in taken.left_out fate) (lines_of fate seen) (count_in seen.left_out fate)
          (had.all fate) (ap kept (sym (of_cause_all fate fates (fates_of taken.waiting))) ∙ has.all fate)
          ∙ ap (λ (n : ℕ). kept (lines_of fate seen + n)) (sym (sums fate));
      few = has.few;
    }

-- ---- what the lines' counter says

kept_full : (n : ℕ) → 20 ≤ kept n → 20 ≤ n
kept_full n full = omega arith

kept_few : (n : ℕ) → kept n < 20 → n < 20
kept_few n few = omega arith

pub lines_full : (fate : Fate) (count : ℕ) (lines : List ℕ) (seen old : BacklogSeen) → lines ≡ counts_of (fates_of seen.waiting) → seen ≡ old
    → count ≡ count_in lines fate → 20 ≤ count → 20 ≤ lines_of fate old
lines_full fate count lines seen old counts is counted full =
    kept_full (lines_of fate old)
    (subst (λ (n : ℕ). 20 ≤ n) (counted ∙ count_is fate (fates_of seen.waiting) lines counts ∙ ap (λ (b : BacklogSeen). kept (lines_of fate b)) is) full)

pub lines_few : (fate : Fate) (count : ℕ) (lines : List ℕ) (seen old : BacklogSeen) → lines ≡ counts_of (fates_of seen.waiting) → seen ≡ old
    → count ≡ count_in lines fate → count < 20 → lines_of fate old < 20
lines_few fate count lines seen old counts is counted few =
    kept_few (lines_of fate old)
    (subst (λ (n : ℕ). n < 20) (counted ∙ count_is fate (fates_of seen.waiting) lines counts ∙ ap (λ (b : BacklogSeen). kept (lines_of fate b)) is) few)

-- the counts of the others, where they are seen as they were
pub left_out_as : (fate : Fate) (waiting : List Refusal) (new : List ℕ) (seen old : BacklogSeen) → seen ≡ old → waiting ≡ seen.waiting
    → IsCounted fate seen.left_out new → IsLeftOut fate old (record { waiting = waiting; left_out = new })
left_out_as fate waiting new seen old is same counts =
    subst (λ (b : BacklogSeen). IsLeftOut fate b (record { waiting = waiting; left_out = new })) is (same, counts)
