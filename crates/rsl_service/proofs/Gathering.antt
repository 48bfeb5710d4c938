-- How the shares of passes are gathered.
use Rattle.std.proofs.Common.{◌≡◌, ℕ, ◌+◌, List, [], ◌∷◌, ◌++◌, ap, length, arith, length-append, ◌∙◌}
use Rattle.std.specs.List.{sum_by}
use Rattle.std.proofs.lemmas.List.{map-append}
use Rattle.std.proofs.lemmas.List.Sums.{sum_by-append, sum_by-cons}
use Rattle.rsl_service.specs.Closed.{count_in}
use Rattle.rsl_service.specs.Receipts.{PassSeen, count_of, receipts_of}

-- a pass more has its parts
pub parts_more : (now new start : ℕ) (all left : List PassSeen) (pass : PassSeen) → all ≡ left ++ pass ∷ []
    → now + length all ≡ start → new ≡ now + 1 → new + length left ≡ start
parts_more now new start all left pass is so_far step =
    omega (arith, is_long, so_far, step)
  where
    is_long : length all ≡ length left + 1
    is_long = ap length is ∙ length-append left (pass ∷ [])

-- and its receipts
pub count_more : (shard now new start : ℕ) (all left : List PassSeen) (pass : PassSeen) → all ≡ left ++ pass ∷ []
    → now + count_in (receipts_of all) shard ≡ start → new ≡ now + count_of shard pass.receipts
    → new + count_in (receipts_of left) shard ≡ start
count_more shard now new start all left pass is so_far step =
    omega (arith, is_counted, so_far, step)
  where
    is_counted : count_in (receipts_of all) shard ≡ count_in (receipts_of left) shard + count_of shard pass.receipts
    is_counted =
        ap (λ (passes : List PassSeen). count_in (receipts_of passes) shard) is
        ∙ ap (sum_by (count_of shard)) (map-append (λ (pass : PassSeen). pass.receipts) left (pass ∷ []))
        ∙ sum_by-append (count_of shard) (receipts_of left) (pass.receipts ∷ [])
        ∙ ap (λ n. sum_by (count_of shard) (receipts_of left) + n) (sum_by-cons (count_of shard) pass.receipts [] ∙ omega arith)

-- where none is left all was gathered
pub parts_all : (now start : ℕ) (left : List PassSeen) → left ≡ [] → now + length left ≡ start → now ≡ start
parts_all now start left none so_far = omega (arith, so_far, ap length none)

pub count_all : (shard now start : ℕ) (left : List PassSeen) → left ≡ [] → now + count_in (receipts_of left) shard ≡ start → now ≡ start
count_all shard now start left none so_far =
    omega (arith, so_far, ap (λ (passes : List PassSeen). count_in (receipts_of passes) shard) none)

pub ruleset gather_steps = (parts_more, count_more, parts_all, count_all)
