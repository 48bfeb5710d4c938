-- How one receipt more counts.
use Rattle.std.proofs.Common.{◌≡◌, ℕ, ◌+◌, List, [], ◌∷◌, ◌++◌, cond, ap, refl, sym, ◌∙◌, arith, true, false, Bool}
use Rattle.std.specs.Prelude.{◌==◌}
use Rattle.std.proofs.lemmas.Bool.{eq-eqb, ne_eqb}
use Rattle.std.proofs.lemmas.List.Sums.{sum_by-append, sum_by-cons}
use Rattle.rsl_service.specs.Receipts.{count_of}
use Rattle.rsl_record.specs.declared.receipt.Receipt.{Receipt}

-- the count with one receipt more, by whether it is of the shard
count_more : (shard : ℕ) (receipts : List Receipt) (more : Receipt) (b : Bool) → (more.shard == shard) ≡ b
    → count_of shard (receipts ++ more ∷ []) ≡ count_of shard receipts + cond b 1 0
unfolding count_of
count_more shard receipts more b is =
    sum_by-append (λ (receipt : Receipt). cond (receipt.shard == shard) 1 0) receipts (more ∷ [])
    ∙ ap (λ n. count_of shard receipts + n)
    (sum_by-cons (λ (receipt : Receipt). cond (receipt.shard == shard) 1 0) more []
    ∙ ap (λ b. cond b 1 0 + 0) is ∙ omega arith)

-- by one for its own shard
pub count_own : (receipts : List Receipt) (more : Receipt)
    → count_of more.shard (receipts ++ more ∷ []) ≡ count_of more.shard receipts + 1
count_own receipts more =
    count_more more.shard receipts more true (eq-eqb more.shard more.shard refl)

-- and not at all for another
pub count_other : (other : ℕ) (receipts : List Receipt) (more : Receipt) → (other ≡ more.shard → ⊥)
    → count_of other (receipts ++ more ∷ []) ≡ count_of other receipts
count_other other receipts more apart =
    count_more other receipts more false (ne_eqb more.shard other (λ same. apart (sym same)))
    ∙ omega arith

-- where there are no receipts, none is of a shard
pub none_counted : (shard amount : ℕ) (receipts : List Receipt) → amount ≡ 0 → receipts ≡ []
    → amount ≡ count_of shard receipts
unfolding count_of
none_counted shard amount receipts is none = is ∙ sym (ap (count_of shard) none)

pub ruleset counts = (count_own, count_other)
