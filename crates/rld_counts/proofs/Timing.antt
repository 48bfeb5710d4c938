-- Laws of a histogram.
use Rattle.std.proofs.Common.{◌≡◌, ℕ, ◌+◌, ◌^◌, ◌<◌, ◌≤◌, Bool, true, cond, ltb, List, [], ◌∷◌, ◌++◌, length, get_or, set, take, map, sum, sym, refl, ap, ◌∙◌, arith, inl, inr}
use Rattle.std.specs.Prelude.{count_by}
use Rattle.std.proofs.Math.Nat.{pow-le-pow_right}
use Rattle.std.proofs.lemmas.Bool.{cases_lt, leb-true, le-leb, lt-leb, lt-ltb, le-ltb}
use Rattle.std.proofs.lemmas.List.FromFn.{length-map-range_with_len, get_or-map-range_with_len, take-map-range_with_len}
use Rattle.std.proofs.lemmas.List.Sums.{sum_by-append, sum_by_push, sum_by-cons, position_or_len_is, passes_at_first, fails_before_first, prefix_len-le-length}
use Rattle.std.specs.Prelude.{nat_le, not}
use Rattle.rld_counts.specs.Histogram.{Times, bounds, bucket_of, times_of}
use Rattle.rld_counts.specs.Tally.{kept, how_many, tally_of}
use Rattle.rld_counts.proofs.Counting.{mapped_append}
use Rattle.rld_counts.proofs.Tallies.{sum-tally_of, tally_append, tally_push}

-- ---- the bucket of a time

length-bounds : length bounds ≡ 24
unfolding bounds
length-bounds = length-map-range_with_len (λ bucket. 2 ^ bucket) 0 24

bound_of : (bucket : ℕ) → bucket < 24 → get_or bounds bucket 0 ≡ 2 ^ bucket
unfolding bounds
bound_of bucket below = get_or-map-range_with_len (λ bucket. 2 ^ bucket) 0 24 bucket bucket 0 below (omega arith)

pub bucket_is : (micros bucket : ℕ) → bucket < 24 → micros ≤ 2 ^ bucket → ((k : ℕ) → k < bucket → 2 ^ k < micros) → bucket ≡ bucket_of micros
bucket_is micros bucket below fits least =
    let len = length-bounds in
    sym (position_or_len_is (λ bound. nat_le micros bound) bounds bucket 0 (omega arith)
    (λ (k : ℕ) (h : k < bucket). ap (nat_le micros) (bound_of k (omega arith)) ∙ lt-leb micros (2 ^ k) (least k h))
    (λ (h : bucket < length bounds). ap (nat_le micros) (bound_of bucket below) ∙ le-leb micros (2 ^ bucket) fits))

pub bucket_last : (micros : ℕ) → ((k : ℕ) → k < 24 → 2 ^ k < micros) → 24 ≡ bucket_of micros
bucket_last micros least =
    let len = length-bounds in
    sym (position_or_len_is (λ bound. nat_le micros bound) bounds 24 0 (omega arith)
    (λ (k : ℕ) (h : k < 24). ap (nat_le micros) (bound_of k h) ∙ lt-leb micros (2 ^ k) (least k h))
    (λ (h : 24 < length bounds). absurd (omega arith)))

pub bucket_below : (micros : ℕ) → bucket_of micros < 25
bucket_below micros =
    let len = length-bounds in
    let most : bucket_of micros ≤ length bounds = prefix_len-le-length (λ bound. not (nat_le micros bound)) bounds in
    omega arith

bucket_up_to : (micros bucket : ℕ) → bucket < 24 → ltb (bucket_of micros) (bucket + 1) ≡ nat_le micros (2 ^ bucket)
bucket_up_to micros bucket below =
    let len = length-bounds in
    elim (cases_lt bucket (bucket_of micros)) [
      | inl less ↦
          le-ltb (bucket_of micros) (bucket + 1) (omega arith)
          ∙ sym (fails_before_first (λ bound. nat_le micros bound) bounds bucket 0 less)
          ∙ ap (nat_le micros) (bound_of bucket below)
      | inr most ↦
          let in_bounds : bucket_of micros < length bounds = omega arith in
          let passes : nat_le micros (get_or bounds (bucket_of micros) 0) ≡ true = passes_at_first (λ bound. nat_le micros bound) bounds 0 in_bounds in
          let fits : micros ≤ get_or bounds (bucket_of micros) 0 = leb-true micros (get_or bounds (bucket_of micros) 0) passes in
          let bound : get_or bounds (bucket_of micros) 0 ≡ 2 ^ bucket_of micros = bound_of (bucket_of micros) (omega arith) in
          let grows : 2 ^ bucket_of micros ≤ 2 ^ bucket = pow-le-pow_right {n = 2} (omega arith) most in
          lt-ltb (bucket_of micros) (bucket + 1) (omega arith) ∙ sym (le-leb micros (2 ^ bucket) (omega arith))
    ]

-- ---- the buckets of times

count_up_to : (bucket : ℕ) (times : List ℕ) → bucket < 24 → count_by (λ one. ltb one (bucket + 1)) (map bucket_of times) ≡ count_by (λ micros. nat_le micros (2 ^ bucket)) times
count_up_to bucket [] below = refl
count_up_to bucket (micros ∷ times) below =
    sum_by-cons (λ one. cond (ltb one (bucket + 1)) 1 0) (bucket_of micros) (map bucket_of times)
    ∙ ap (λ (b : Bool). cond b 1 0 + count_by (λ one. ltb one (bucket + 1)) (map bucket_of times)) (bucket_up_to micros bucket below)
    ∙ ap (λ (n : ℕ). cond (nat_le micros (2 ^ bucket)) 1 0 + n) (count_up_to bucket times below)
    ∙ sym (sum_by-cons (λ micros. cond (nat_le micros (2 ^ bucket)) 1 0) micros times)

all_in : (times : List ℕ) → count_by (λ one. ltb one 25) (map bucket_of times) ≡ length times
all_in [] = refl
all_in (micros ∷ times) =
    sum_by-cons (λ one. cond (ltb one 25) 1 0) (bucket_of micros) (map bucket_of times)
    ∙ ap (λ (b : Bool). cond b 1 0 + count_by (λ one. ltb one 25) (map bucket_of times)) (lt-ltb (bucket_of micros) 25 (bucket_below micros))
    ∙ ap (λ (n : ℕ). 1 + n) (all_in times)
    ∙ omega arith

take-tally_of : (size part : ℕ) (numbers : List ℕ) → part ≤ size → take part (tally_of size numbers) ≡ tally_of part numbers
unfolding tally_of
take-tally_of size part numbers most = take-map-range_with_len (λ number. kept (how_many number numbers)) 0 size part most

-- the buckets up to one have the times that are at most its bound
pub buckets_up_to : (bucket : ℕ) (times buckets : List ℕ) → bucket < 24 → buckets ≡ tally_of 25 (map bucket_of times)
    → kept (sum (take (bucket + 1) buckets)) ≡ kept (count_by (λ micros. nat_le micros (2 ^ bucket)) times)
buckets_up_to bucket times buckets below was =
    ap (λ (l : List ℕ). kept (sum (take (bucket + 1) l))) was
    ∙ ap (λ (l : List ℕ). kept (sum l)) (take-tally_of 25 (bucket + 1) (map bucket_of times) (omega arith))
    ∙ sum-tally_of (bucket + 1) (map bucket_of times)
    ∙ ap kept (count_up_to bucket times below)

-- and all together have all times
pub buckets_sum : (times buckets : List ℕ) → buckets ≡ tally_of 25 (map bucket_of times) → kept (sum buckets) ≡ kept (length times)
buckets_sum times buckets was =
    ap (λ (l : List ℕ). kept (sum l)) was ∙ sum-tally_of 25 (map bucket_of times) ∙ ap kept (all_in times)

-- ---- a time more, and other times

abbrev times_with : List ℕ → ℕ → Times
times_with buckets micros = record { buckets = buckets; micros = micros }

same_times : (one other : Times) → one.buckets ≡ other.buckets → one.micros ≡ other.micros → one ≡ other
same_times one other buckets micros =
    ap (λ (l : List ℕ). times_with l one.micros) buckets ∙ ap (λ (n : ℕ). times_with other.buckets n) micros

kept_more : (one more : ℕ) → kept (kept one + more) ≡ kept (one + more)
kept_more one more = omega arith

kept_both : (one more : ℕ) → kept (kept one + kept more) ≡ kept (one + more)
kept_both one more = omega arith

pub times_push : (micros bucket : ℕ) (times : List ℕ) (old new : Times) → bucket ≡ bucket_of micros → bucket < 25 → old ≡ times_of times
    → new.buckets ≡ set old.buckets bucket (kept (get_or old.buckets bucket 0 + 1)) → new.micros ≡ kept (old.micros + micros)
    → new ≡ times_of (times ++ micros ∷ [])
times_push micros bucket times old new is below was counted added =
    let buckets : new.buckets ≡ tally_of 25 (map bucket_of (times ++ micros ∷ [])) =
    tally_push 25 bucket (map bucket_of times) old.buckets new.buckets below (ap (λ (t : Times). t.buckets) was) counted
    ∙ ap (λ (n : ℕ). tally_of 25 (map bucket_of times ++ n ∷ [])) is
    ∙ ap (tally_of 25) (sym (mapped_append bucket_of times (micros ∷ []))) in
    let total : new.micros ≡ kept (sum (times ++ micros ∷ [])) =
    added ∙ ap (λ (t : Times). kept (t.micros + micros)) was ∙ kept_more (sum times) micros ∙ ap kept (sym (sum_by_push (λ x. x) times micros)) in
    same_times new (times_of (times ++ micros ∷ [])) buckets total

pub times_append : (times others : List ℕ) (old other new : Times) → old ≡ times_of times → other ≡ times_of others
    → length new.buckets ≡ length old.buckets
    → ((k : ℕ) → k < length new.buckets → get_or new.buckets k 0 ≡ kept (get_or old.buckets k 0 + get_or other.buckets k 0))
    → new.micros ≡ kept (old.micros + other.micros)
    → new ≡ times_of (times ++ others)
times_append times others old other new was more len each added =
    let buckets : new.buckets ≡ tally_of 25 (map bucket_of (times ++ others)) =
    tally_append 25 (map bucket_of times) (map bucket_of others) old.buckets other.buckets new.buckets
    (ap (λ (t : Times). t.buckets) was) (ap (λ (t : Times). t.buckets) more) len each
    ∙ ap (tally_of 25) (sym (mapped_append bucket_of times others)) in
    let total : new.micros ≡ kept (sum (times ++ others)) =
    added ∙ ap (λ (t : Times). kept (t.micros + other.micros)) was ∙ ap (λ (t : Times). kept (kept (sum times) + t.micros)) more
    ∙ kept_both (sum times) (sum others) ∙ ap kept (sym (sum_by-append (λ x. x) times others)) in
    same_times new (times_of (times ++ others)) buckets total
