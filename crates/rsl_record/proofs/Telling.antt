-- What receipts tell, pass by pass and shard by shard.
use Rattle.std.proofs.Common.{◌≡◌, ◌⊎◌, List, [], ◌∷◌, ◌++◌, Option, Some, None, refl, sym, ap, subst, ◌∙◌, inl, inr, ℕ, zero, suc, ◌+◌, ◌<◌, ◌≤◌, ◌==◌, Bool, cond, length, map, take, get_or, arith}
use Rattle.std.specs.Prelude.{All, IfErr, IfSome, Result, Ok, Err, filter, slice_get, slice_index_or}
use Rattle.std.specs.List.{Contains, count_by, flat_map}
use Rattle.std.specs.List.Sorted.{IsStrictlyIncreasing}
use Rattle.std.proofs.lemmas.Bool.{cases_lt, ne_eqb}
use Rattle.std.proofs.lemmas.List.{flat_map_more, map_more, take_all}
use Rattle.std.proofs.lemmas.List.Elements.{All-contains, All-push, All-tail}
use Rattle.rsl_accounts.specs.Configuration.{Configuration}
use Rattle.rsl_record.specs.Faults.{IsAmong, IsFaultOfPass, IsFaultOfPasses, IsFaultOfReceipts, IsSegmentFault, IsNumberFaultOfPass, IsNumberFaultOfPasses, IsMismatchIn}
use Rattle.rsl_record.specs.Receipts.{FallsTo, IsItsLine, positions_of, times}
use Rattle.rsl_record.specs.Segments.{HasJoined, shard_lines, of_shard}
use Rattle.rsl_record.specs.Settled.{IsCloseFault, IsMismatch, IsSettled}
use Rattle.rsl_record.specs.declared.close_fault.CloseFault.{CloseFault}
use Rattle.rsl_record.specs.declared.close_fault.CloseFault.TheVariants.{MissingPass, MissingSegment, Mismatch, NoMemory}
use Rattle.rsl_record.specs.declared.receipt.Receipt.{Receipt}
use Rattle.rsl_shard.specs.declared.line.Line.{Line}
use Rattle.rsl_shard.specs.declared.segment.Segment.{Segment}

-- ---- one pass

pub mismatch_told : (lines : List Line) (shard : ℕ) (receipts : List Receipt) (position : ℕ) → ((receipt : Receipt) × IsMismatchIn lines shard receipts position receipt)
    → IsFaultOfPass lines shard receipts (Mismatch shard position)
mismatch_told lines shard receipts position found = (refl, inl found)

pub fall_told : (lines : List Line) (shard : ℕ) (receipts : List Receipt) (positions : List ℕ) (position : ℕ) → positions ≡ positions_of shard receipts
    → FallsTo positions position → IsFaultOfPass lines shard receipts (Mismatch shard position)
fall_told lines shard receipts positions position are found = (refl, inr (subst (λ (all : List ℕ). FallsTo all position) are found))

pub no_memory_told : (lines : List Line) (shard : ℕ) (receipts : List Receipt) → IsFaultOfPass lines shard receipts NoMemory
no_memory_told lines shard receipts = tt

-- ---- passes, one after another

pub all_more : {X Y : Type 0} (P : Y → Type 0) (f : X → Y) (xs : List X) (i : ℕ) (x : X) → i < length xs → x ≡ get_or xs i x → All P (map f (take i xs)) → P (f x)
    → All P (map f (take (i + 1) xs))
all_more {X} {Y} P f xs i x within is so_far here =
    subst (All P) (sym (map_more f xs i x within ∙ ap (λ (y : X). map f (take i xs) ++ f y ∷ []) (sym is))) (All-push P (map f (take i xs)) (f x) so_far here)

pub all_done : {X Y : Type 0} (P : Y → Type 0) (f : X → Y) (xs : List X) (i : ℕ) → length xs ≤ i → All P (map f (take i xs)) → All P (map f xs)
all_done {X} P f xs i past so_far = subst (λ (all : List X). All P (map f all)) (take_all i xs past) so_far

pub positions_step : {X : Type 0} (shard : ℕ) (f : X → List Receipt) (xs : List X) (i : ℕ) (x : X) (start now new : List ℕ) → i < length xs → x ≡ get_or xs i x
    → now ≡ start ++ flat_map (positions_of shard) (map f (take i xs)) → new ≡ now ++ positions_of shard (f x)
    → new ≡ start ++ flat_map (positions_of shard) (map f (take (i + 1) xs))
positions_step {X} shard f xs i x start now new within is so_far step =
    step
    ∙ ap (λ (all : List ℕ). all ++ positions_of shard (f x)) so_far
    ∙ flat_map_more (positions_of shard) start (map f (take i xs)) (f x)
    ∙ ap (λ (all : List (List Receipt)). start ++ flat_map (positions_of shard) all)
    (ap (λ (y : X). map f (take i xs) ++ f y ∷ []) is ∙ sym (map_more f xs i x within))

pub positions_done : {X : Type 0} (shard : ℕ) (f : X → List Receipt) (xs : List X) (i : ℕ) (start now : List ℕ) → length xs ≤ i
    → now ≡ start ++ flat_map (positions_of shard) (map f (take i xs)) → now ≡ start ++ flat_map (positions_of shard) (map f xs)
positions_done {X} shard f xs i start now past so_far =
    so_far ∙ ap (λ (all : List X). start ++ flat_map (positions_of shard) (map f all)) (take_all i xs past)

contains_map : {X Y : Type 0} (f : X → Y) (xs : List X) (i : ℕ) (x : X) → i < length xs → x ≡ get_or xs i x → Contains (map f xs) (f x)
contains_map {X} {Y} f [] i x within is = absurd (omega (arith, within))
contains_map {X} {Y} f (y ∷ xs) zero x within is = (zero, omega arith, ap f (sym is))
contains_map {X} {Y} f (y ∷ xs) (suc i) x within is =
    let found = contains_map f xs i x (omega (arith, within)) is in (suc found.0, omega (arith, found.1), found.2)

pub fault_of_passes : {X : Type 0} (lines : List Line) (shard : ℕ) (f : X → List Receipt) (xs : List X) (i : ℕ) (x : X) (fault : CloseFault) → i < length xs
    → x ≡ get_or xs i x → IsFaultOfPass lines shard (f x) fault → IsFaultOfPasses lines shard (map f xs) fault
fault_of_passes lines shard f xs i x fault within is found = (f x, contains_map f xs i x within is, found)

pub fault_of_numbers : {X : Type 0} (shards : ℕ) (f : X → List Receipt) (xs : List X) (i : ℕ) (x : X) (fault : CloseFault) → i < length xs
    → x ≡ get_or xs i x → IsNumberFaultOfPass shards (f x) fault → IsNumberFaultOfPasses shards (map f xs) fault
fault_of_numbers shards f xs i x fault within is found = (f x, contains_map f xs i x within is, found)

-- ---- one shard

pub fault_of_shard : (segments : List Segment) (lines : List Line) (shard : ℕ) (passes : List (List Receipt)) (fault : CloseFault) → lines ≡ shard_lines shard segments
    → IsFaultOfPasses lines shard passes fault → IsFaultOfReceipts segments passes fault
fault_of_shard segments lines shard passes MissingPass are found = found.2
fault_of_shard segments lines shard passes (MissingSegment named) are found = found.2
fault_of_shard segments lines shard passes (Mismatch named position) are found = by found.2.1
  where
    by : (((receipt : Receipt) × IsMismatchIn lines shard found.0 position receipt) ⊎ FallsTo (positions_of shard found.0) position)
        → IsMismatch segments passes named position
    by (inl mismatch) =
        inl (
          found.0,
          mismatch.0,
          record {
            given = found.1;
            kept = mismatch.1.kept;
            of_shard = mismatch.1.of_shard ∙ sym found.2.0;
            at = mismatch.1.at;
            wrong = λ its.
                mismatch.1.wrong
                (ap (λ (all : List Line). slice_get all position) are
                ∙ ap (λ (n : ℕ). slice_get (shard_lines n segments) position) (sym mismatch.1.of_shard)
                ∙ ap (slice_get (shard_lines mismatch.0.shard segments)) (sym mismatch.1.at)
                ∙ its);
          },
        )
    by (inr falls) = inr (inl (found.0, found.1, subst (λ (n : ℕ). FallsTo (positions_of n found.0) position) (sym found.2.0) falls))
fault_of_shard segments lines shard passes NoMemory are found = tt

pub lines_are : (segments : List Segment) (lines : List Line) (shard : ℕ) (passes : List (List Receipt)) → lines ≡ shard_lines shard segments
    → All (All (IsAmong lines shard)) passes → All (All (IsAmong (shard_lines shard segments) shard)) passes
lines_are segments lines shard passes are told = subst (λ (all : List Line). All (All (IsAmong all shard)) passes) are told

pub twice_told : (segments : List Segment) (shard position : ℕ) (passes : List (List Receipt)) (positions : List ℕ)
    → positions ≡ flat_map (positions_of shard) passes → 1 < count_by (λ (other : ℕ). other == position) positions
    → IsFaultOfReceipts segments passes (Mismatch shard position)
twice_told segments shard position passes positions are twice =
    inr (inr (subst (λ (all : List ℕ). 1 < count_by (λ (other : ℕ). other == position) all) are twice))

pub once_told : (shard : ℕ) (passes : List (List Receipt)) (positions : List ℕ) → positions ≡ flat_map (positions_of shard) passes
    → ((position : ℕ) → count_by (λ (other : ℕ). other == position) positions ≤ 1) → (position : ℕ) → times shard position passes ≤ 1
once_told shard passes positions are once position = subst (λ (all : List ℕ). count_by (λ (other : ℕ). other == position) all ≤ 1) are (once position)

-- ---- all shards

pub each_line : (segments : List Segment) (shards last : ℕ) (passes : List (List Receipt)) → shards ≤ last → All (All (λ receipt. receipt.shard < shards)) passes
    → ((lower : ℕ) → lower < last → All (All (IsAmong (shard_lines lower segments) lower)) passes) → All (All (IsItsLine segments)) passes
each_line segments shards last passes past numbers told k pass within i receipt inside =
    told (slice_index_or (slice_index_or passes k pass) i receipt).shard (omega (arith, numbers k pass within i receipt inside, past)) k pass within i receipt inside refl

-- receipts of shards have no position of a number that is none
none_of : (shards shard : ℕ) (receipts : List Receipt) → shards ≤ shard → All (λ receipt. receipt.shard < shards) receipts → positions_of shard receipts ≡ []
none_of shards shard [] past numbers = refl
none_of shards shard (receipt ∷ receipts) past numbers =
    ap (λ (t : Bool).
    map (λ (r : Receipt). r.position) (cond t (receipt ∷ filter (λ (r : Receipt). r.shard == shard) receipts) (filter (λ (r : Receipt). r.shard == shard) receipts)))
    (ne_eqb receipt.shard shard (λ same. omega (arith, same, past, numbers 0 receipt (omega arith))))
    ∙ none_of shards shard receipts past (All-tail (λ (r : Receipt). r.shard < shards) receipt receipts numbers)

none_in : (shards shard : ℕ) (passes : List (List Receipt)) → shards ≤ shard → All (All (λ receipt. receipt.shard < shards)) passes
    → flat_map (positions_of shard) passes ≡ []
none_in shards shard [] past numbers = refl
none_in shards shard (pass ∷ passes) past numbers =
    ap (λ (all : List ℕ). all ++ flat_map (positions_of shard) passes) (none_of shards shard pass past (numbers 0 pass (omega arith)))
    ∙ none_in shards shard passes past (All-tail (All (λ (r : Receipt). r.shard < shards)) pass passes numbers)

increasing_none : (xs : List ℕ) → xs ≡ [] → IsStrictlyIncreasing xs
increasing_none xs none k within = absurd (omega (arith, within, ap length none))

pub each_rising : (shards last : ℕ) (passes : List (List Receipt)) → shards ≤ last → All (All (λ receipt. receipt.shard < shards)) passes
    → ((lower : ℕ) → lower < last → All (λ pass. IsStrictlyIncreasing (positions_of lower pass)) passes) → (shard : ℕ)
    → All (λ pass. IsStrictlyIncreasing (positions_of shard pass)) passes
each_rising shards last passes past numbers rising shard = by (cases_lt shard shards)
  where
    by : (shard < shards) ⊎ (shards ≤ shard) → All (λ pass. IsStrictlyIncreasing (positions_of shard pass)) passes
    by (inl less) = rising shard (omega (arith, less, past))
    by (inr there) =
        λ k pass within. increasing_none (positions_of shard (slice_index_or passes k pass)) (none_of shards shard (slice_index_or passes k pass) there (numbers k pass within))

pub each_once : (shards last : ℕ) (passes : List (List Receipt)) → shards ≤ last → All (All (λ receipt. receipt.shard < shards)) passes
    → ((lower : ℕ) → lower < last → (position : ℕ) → times lower position passes ≤ 1) → (shard position : ℕ) → times shard position passes ≤ 1
each_once shards last passes past numbers once shard position = by (cases_lt shard shards)
  where
    by : (shard < shards) ⊎ (shards ≤ shard) → times shard position passes ≤ 1
    by (inl less) = once shard (omega (arith, less, past)) position
    by (inr there) = omega (arith, ap (count_by (λ (other : ℕ). other == position)) (none_in shards shard passes there numbers))

pub number_told : (segments : List Segment) (shards : ℕ) (passes : List (List Receipt)) (fault : CloseFault)
    → ((shard : ℕ) → shards ≤ shard → of_shard shard segments ≡ []) → IsNumberFaultOfPasses shards passes fault → IsFaultOfReceipts segments passes fault
number_told segments shards passes MissingPass none found = found.2
number_told segments shards passes (MissingSegment shard) none found = found.2
number_told segments shards passes (Mismatch shard position) none found =
    inl (
      found.0,
      found.2.0,
      record {
        given = found.1;
        kept = found.2.1.kept;
        of_shard = found.2.2;
        at = found.2.3;
        wrong = λ its.
            let empty : shard_lines found.2.0.shard segments ≡ [] = ap (flat_map (λ (s : Segment). s.lines.items)) (none found.2.0.shard found.2.1.past) in
            let here : None ≡ Some found.2.0.line = ap (λ (all : List Line). slice_get all found.2.0.position) (sym empty) ∙ its in
            subst (λ (o : Option Line). IfSome o (λ l. ⊥)) here tt;
      },
    )
number_told segments shards passes NoMemory none found = tt

-- ---- the record

pub fault_of_segments : (config : Configuration) (opened : ℕ) (passes : List (List Receipt)) (segments : List Segment) (fault : CloseFault) → length passes ≡ opened
    → IsSegmentFault config segments fault → IsCloseFault config opened passes segments fault
fault_of_segments config opened passes segments MissingPass given found = absurd found
fault_of_segments config opened passes segments (MissingSegment shard) given found = (given, found.0, found.1)
fault_of_segments config opened passes segments (Mismatch shard position) given found = absurd found
fault_of_segments config opened passes segments NoMemory given found = tt

fault_of_receipts : (config : Configuration) (opened : ℕ) (passes : List (List Receipt)) (segments : List Segment) (fault : CloseFault) → length passes ≡ opened
    → ((shard : ℕ) → HasJoined config segments shard) → IsFaultOfReceipts segments passes fault → IsCloseFault config opened passes segments fault
fault_of_receipts config opened passes segments MissingPass given joined found = absurd found
fault_of_receipts config opened passes segments (MissingSegment shard) given joined found = absurd found
fault_of_receipts config opened passes segments (Mismatch shard position) given joined found = (given, joined, found)
fault_of_receipts config opened passes segments NoMemory given joined found = tt

pub told_by_receipts : {T : Type 0} (config : Configuration) (opened : ℕ) (passes : List (List Receipt)) (segments : List Segment) (result : Result T CloseFault)
    → length passes ≡ opened → ((shard : ℕ) → HasJoined config segments shard) → IfErr result (IsFaultOfReceipts segments passes)
    → IfErr result (IsCloseFault config opened passes segments)
told_by_receipts config opened passes segments (Ok done) given joined found = tt
told_by_receipts config opened passes segments (Err fault) given joined found = fault_of_receipts config opened passes segments fault given joined found

falls_not : (positions : List ℕ) (position : ℕ) → FallsTo positions position → IsStrictlyIncreasing positions → ⊥
falls_not positions position found rising = omega (arith, rising found.0 found.1.within, found.1.it, found.1.falls)

mismatch_there : (config : Configuration) (opened : ℕ) (passes : List (List Receipt)) (segments : List Segment) (shard position : ℕ)
    → IsMismatch segments passes shard position → IsSettled config opened passes segments → ⊥
mismatch_there config opened passes segments shard position (inl found) settled =
    found.2.wrong
    (All-contains (IsItsLine segments) found.0 found.1 (All-contains (All (IsItsLine segments)) passes found.0 settled.lines found.2.given) found.2.kept)
mismatch_there config opened passes segments shard position (inr (inl found)) settled =
    falls_not (positions_of shard found.0) position found.2
    (All-contains (λ (pass : List Receipt). IsStrictlyIncreasing (positions_of shard pass)) passes found.0 (settled.rising shard) found.1)
mismatch_there config opened passes segments shard position (inr (inr twice)) settled = omega (arith, twice, settled.once shard position)

-- a record with a fault other than want of memory is not settled
pub fault_is_there : (config : Configuration) (opened : ℕ) (passes : List (List Receipt)) (segments : List Segment) (fault : CloseFault)
    → IsCloseFault config opened passes segments fault → (fault ≡ NoMemory → ⊥) → IsSettled config opened passes segments → ⊥
fault_is_there config opened passes segments MissingPass found other settled = found settled.given
fault_is_there config opened passes segments (MissingSegment shard) found other settled = found.1 (settled.joined shard)
fault_is_there config opened passes segments (Mismatch shard position) found other settled =
    mismatch_there config opened passes segments shard position found.2 settled
fault_is_there config opened passes segments NoMemory found other settled = other refl

pub told_exactly : {T : Type 0} (config : Configuration) (opened : ℕ) (passes : List (List Receipt)) (segments : List Segment) (result : Result T CloseFault)
    → IfErr result (IsCloseFault config opened passes segments)
    → IfErr result (λ fault. (fault ≡ NoMemory → ⊥) → IsSettled config opened passes segments → ⊥)
told_exactly config opened passes segments (Ok done) found = tt
told_exactly config opened passes segments (Err fault) found = fault_is_there config opened passes segments fault found

pub ruleset pass_steps = (mismatch_told, fall_told, no_memory_told)

pub ruleset passes_steps = (all_more, all_done, positions_step, positions_done, fault_of_passes)

pub ruleset number_steps = (all_more, all_done, fault_of_numbers)

pub ruleset shard_told = (fault_of_shard, lines_are, twice_told, once_told)

pub ruleset shards_told = (each_line, each_rising, each_once, number_told)

pub ruleset record_told = (fault_of_segments, told_by_receipts, told_exactly)
