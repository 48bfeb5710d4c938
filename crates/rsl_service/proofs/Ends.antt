-- What the journals of all shards come to, when a service is closed.
use Rattle.std.proofs.Common.{◌≡◌, ◌≢◌, ℕ, zero, suc, ◌+◌, ◌<◌, ◌≤◌, ◌⊎◌, List, [], ◌∷◌, ◌++◌, Option, Some, None, Bool, true, false, cond, not, ◌&&◌, ◌==◌, refl, sym, ap, subst, ◌∙◌, arith, length, length-append, append-nil, inl, inr, true≢false, is_lt, nat_cmp, Less, Equal, Greater, lt-ltb, le-ltb, eq-eqb, ne_eqb}
use Rattle.std.specs.Prelude.{IfSome, filter, is_some, nat_lt}
use Rattle.std.specs.List.{flat_map, sum_by}
use Rattle.std.specs.List.Sorted.{IsNonDecreasingBy, IsStableByKey, ties}
use Rattle.std.proofs.lemmas.Bool.{cases_lt}
use Rattle.std.proofs.lemmas.List.Elements.{filter-append, filter_agree}
use Rattle.std.proofs.lemmas.List.Sums.{sum_by-cons}
use Rattle.rsl_accounts.specs.Configuration.{Configuration}
use Rattle.rsl_book.specs.RuledBook.{RuledBook}
use Rattle.rsl_record.specs.Segments.{AllGoOn, HasJoined, of_shard, shard_lines}
use Rattle.rsl_record.specs.Settled.{IsCloseFault, IsSettled}
use Rattle.rsl_record.specs.declared.close_fault.CloseFault.{CloseFault}
use Rattle.rsl_record.specs.declared.close_fault.CloseFault.TheVariants.{MissingPass, MissingSegment, Mismatch, NoMemory}
use Rattle.rsl_record.specs.declared.receipt.Receipt.{Receipt}
use Rattle.rsl_shard.specs.Restep.{new_books, restep}
use Rattle.rsl_shard.specs.Setup.{Setup, setup_of}
use Rattle.rsl_shard.specs.declared.segment.Segment.{Segment}
use Rattle.std.proofs.lemmas.List.{length-map}
use Rattle.rsl_service.specs.Receipts.{PassSeen, receipts_of}
use Rattle.rsl_service.specs.Closed.{EndedSeen, HasEnd, HaveEnds, IsClosedBy, IsEnd, IsEndOf, IsFaultOf, IsRecordSettled, IsUnsettled, count_in, end_of, lines_to, as_list}

-- ---- the journals that shards end with

-- a journal that is there is the shard's end
end_at : (config : Configuration) (shard : ℕ) (setup : Setup) (books : List RuledBook) (journal : Option Segment) (present : List Segment)
    → setup ≡ setup_of config shard → books ≡ new_books config shard
    → is_some journal ≡ true → IfSome journal (IsEnd setup books) → of_shard shard present ≡ as_list journal → HasEnd config present shard
end_at config shard setup books None present is are there end alone = absurd (true≢false (sym there))
end_at config shard setup books (Some segment) present is are there end alone =
    record {
      segment = segment;
      alone = alone;
      ended = subst (λ (s : Setup). IsEnd s (new_books config shard) segment) is (subst (λ (all : List RuledBook). IsEnd setup all segment) are end);
    }

-- so each shard has its end among all
pub have_ends : (config : Configuration) (s0 s1 s2 s3 : Setup) (b0 b1 b2 b3 : List RuledBook) (j0 : Segment) (j1 j2 j3 : Option Segment) (present : List Segment)
    → of_shard 0 present ≡ as_list (Some j0) → of_shard 1 present ≡ as_list j1 → of_shard 2 present ≡ as_list j2 → of_shard 3 present ≡ as_list j3
    → s0 ≡ setup_of config 0 → s1 ≡ setup_of config 1 → s2 ≡ setup_of config 2 → s3 ≡ setup_of config 3
    → b0 ≡ new_books config 0 → b1 ≡ new_books config 1 → b2 ≡ new_books config 2 → b3 ≡ new_books config 3
    → config.settings.shards ≤ 4
    → is_some j1 ≡ nat_lt 1 config.settings.shards → is_some j2 ≡ nat_lt 2 config.settings.shards → is_some j3 ≡ nat_lt 3 config.settings.shards
    → IsEnd s0 b0 j0 → IfSome j1 (IsEnd s1 b1) → IfSome j2 (IsEnd s2 b2) → IfSome j3 (IsEnd s3 b3)
    → HaveEnds config present
have_ends config s0 s1 s2 s3 b0 b1 b2 b3 j0 j1 j2 j3 present of0 of1 of2 of3 is0 is1 is2 is3 are0 are1 are2 are3 few there1 there2 there3 e0 e1 e2 e3 = pick
  where
    pick : (shard : ℕ) → shard < config.settings.shards → HasEnd config present shard
    pick zero within = end_at config 0 s0 b0 (Some j0) present is0 are0 refl e0 of0
    pick (suc zero) within = end_at config 1 s1 b1 j1 present is1 are1 (there1 ∙ lt-ltb 1 config.settings.shards within) e1 of1
    pick (suc (suc zero)) within = end_at config 2 s2 b2 j2 present is2 are2 (there2 ∙ lt-ltb 2 config.settings.shards within) e2 of2
    pick (suc (suc (suc zero))) within = end_at config 3 s3 b3 j3 present is3 are3 (there3 ∙ lt-ltb 3 config.settings.shards within) e3 of3
    pick (suc (suc (suc (suc shard)))) within = absurd (omega (arith, within, few))

-- ---- what the ledgers tell

one_end : (segment : Segment) → sum_by lines_to (segment ∷ []) ≡ lines_to segment
one_end segment = sum_by-cons lines_to segment [] ∙ omega arith

-- the total behind the first lock is the shard's end
pub first_told : (total : ℕ) (journal : Segment) (present : List Segment) → of_shard 0 present ≡ as_list (Some journal) → total ≡ lines_to journal
    → total ≡ end_of 0 present
first_told total journal present alone told = told ∙ sym (one_end journal) ∙ ap (sum_by lines_to) (sym alone)

-- and so behind a lock that there may be
pub told_if_there : {A : Type 0} (ledger : Option A) (total : A → ℕ) (shard : ℕ) (journal : Option Segment) (present : List Segment)
    → of_shard shard present ≡ as_list journal → IfSome ledger (λ book. total book ≡ sum_by lines_to (as_list journal))
    → IfSome ledger (λ book. total book ≡ end_of shard present)
told_if_there ledger total shard journal present alone told =
    subst (λ (segments : List Segment). IfSome ledger (λ book. total book ≡ sum_by lines_to segments)) (sym alone) told

-- two numbers that are a ledger's total
pub same_total : {A : Type 0} (ledger : Option A) (total : A → ℕ) (shard shards end count : ℕ) → is_some ledger ≡ nat_lt shard shards
    → IfSome ledger (λ book. total book ≡ end) → IfSome ledger (λ book. total book ≡ count) → shard < shards → end ≡ count
same_total None total shard shards end count there is_end is_count within = absurd (true≢false (sym (there ∙ lt-ltb shard shards within)))
same_total (Some book) total shard shards end count there is_end is_count within = sym is_end ∙ is_count

-- so each shard's end is the number of its receipts
pub all_counted : (config : Configuration) (passes : List (List Receipt)) (present : List Segment) → config.settings.shards ≤ 4
    → end_of 0 present ≡ count_in passes 0 → (1 < config.settings.shards → end_of 1 present ≡ count_in passes 1)
    → (2 < config.settings.shards → end_of 2 present ≡ count_in passes 2) → (3 < config.settings.shards → end_of 3 present ≡ count_in passes 3)
    → (shard : ℕ) → shard < config.settings.shards → end_of shard present ≡ count_in passes shard
all_counted config passes present few is0 is1 is2 is3 zero within = is0
all_counted config passes present few is0 is1 is2 is3 (suc zero) within = is1 within
all_counted config passes present few is0 is1 is2 is3 (suc (suc zero)) within = is2 within
all_counted config passes present few is0 is1 is2 is3 (suc (suc (suc zero))) within = is3 within
all_counted config passes present few is0 is1 is2 is3 (suc (suc (suc (suc shard)))) within = absurd (omega (arith, within, few))

-- ---- segments that join have as many lines as the last of them tells

chain_total : (setup : Setup) (lines : ℕ) (books : List RuledBook) (segments : List Segment) (last : Segment) → AllGoOn setup lines books (segments ++ last ∷ [])
    → lines + length (flat_map (λ (segment : Segment). segment.lines.items) (segments ++ last ∷ [])) ≡ lines_to last
unfolding AllGoOn
chain_total setup lines books [] last go = omega (arith, go.0.first, ap length (append-nil last.lines.items))
chain_total setup lines books (segment ∷ segments) last go =
    omega (
      arith,
      chain_total setup (lines + length segment.lines.items) (restep setup books segment.lines.items) segments last go.1,
      length-append segment.lines.items (flat_map (λ (segment : Segment). segment.lines.items) (segments ++ last ∷ [])),
    )

-- so the lines of a shard number what its end tells
lines_told : (config : Configuration) (shard : ℕ) (given present : List Segment) → HasEnd config present shard
    → HasJoined config (given ++ present) shard → length (shard_lines shard (given ++ present)) ≡ end_of shard present
lines_told config shard given present end joined =
    omega (arith, ap (λ (segments : List Segment). length (flat_map (λ (segment : Segment). segment.lines.items) segments)) are, chained, told)
  where
    are : of_shard shard (given ++ present) ≡ of_shard shard given ++ end.segment ∷ []
    are =
        filter-append (λ (segment : Segment). segment.shard == shard) given present
        ∙ ap (λ (segments : List Segment). of_shard shard given ++ segments) end.alone

    chained : 0 + length (flat_map (λ (segment : Segment). segment.lines.items) (of_shard shard given ++ end.segment ∷ [])) ≡ lines_to end.segment
    chained =
        chain_total (setup_of config shard) 0 (new_books config shard) (of_shard shard given) end.segment
        (subst (AllGoOn (setup_of config shard) 0 (new_books config shard)) are joined.joined)

    told : end_of shard present ≡ lines_to end.segment
    told = ap (sum_by lines_to) end.alone ∙ one_end end.segment

-- ---- the record

-- what is told of a record, by what was seen of its parts
pub seen_settled : (config : Configuration) (opened : ℕ) (passes passes_seen : List PassSeen) (given given_seen present present_seen : List Segment)
    → passes_seen ≡ passes → given_seen ≡ given → present_seen ≡ present
    → IsSettled config opened (receipts_of passes_seen) (given_seen ++ present_seen) → IsSettled config opened (receipts_of passes) (given ++ present)
seen_settled config opened passes passes_seen given given_seen present present_seen is_passes is_given is_present settled =
    subst (λ (all : List Segment). IsSettled config opened (receipts_of passes) (given ++ all)) is_present
    (subst (λ (all : List Segment). IsSettled config opened (receipts_of passes) (all ++ present_seen)) is_given
    (subst (λ (all : List PassSeen). IsSettled config opened (receipts_of all) (given_seen ++ present_seen)) is_passes settled))

-- an ended service is closed where its record is settled
pub closes : (ended : EndedSeen) (passes : List (List Receipt)) (given sorted : List Segment) → HaveEnds ended.config ended.present
    → ((shard : ℕ) → shard < ended.config.settings.shards → end_of shard ended.present ≡ count_in passes shard)
    → IsRecordSettled ended passes given
    → ((shard : ℕ) → of_shard shard sorted ≡ of_shard shard (given ++ ended.present)) → IsNonDecreasingBy (λ segment. segment.shard) sorted
    → IsClosedBy ended passes given sorted
closes ended passes given sorted ends told settled same by_shard = record {
  settled = settled;
  counted = λ shard within. lines_told ended.config shard given ended.present (ends shard within) (settled.joined shard) ∙ told shard within;
  same = same;
  by_shard = by_shard;
}

-- whose passes are then all that it opened
pub all_given : (opened : ℕ) (config : Configuration) (passes passes_seen : List PassSeen) (given_seen : List Segment)
    → passes_seen ≡ passes → IsSettled config opened (receipts_of passes_seen) given_seen → opened ≡ length passes
all_given opened config passes passes_seen given_seen is_passes settled =
    sym settled.given ∙ length-map passes_seen (λ (pass : PassSeen). pass.receipts) ∙ ap length is_passes

-- and why it is not, by what was seen of the parts of its record
pub faults : (ended : EndedSeen) (passes passes_seen : List PassSeen) (given given_seen present_seen : List Segment) (fault : CloseFault)
    → passes_seen ≡ passes → given_seen ≡ given → present_seen ≡ ended.present
    → IsCloseFault ended.config ended.opened (receipts_of passes_seen) (given_seen ++ present_seen) fault
    → (length passes_seen ≢ ended.opened → fault ≡ MissingPass)
    → (fault ≢ NoMemory → IsSettled ended.config ended.opened (receipts_of passes_seen) (given_seen ++ present_seen) → ⊥)
    → IsFaultOf ended (receipts_of passes) given fault
faults ended passes passes_seen given given_seen present_seen fault is_passes is_given is_present first missing unsettled =
    subst (λ (some : List PassSeen). IsFaultOf ended (receipts_of some) given fault) is_passes
    (subst (λ (some : List Segment). IsFaultOf ended (receipts_of passes_seen) some fault) is_given (record {
      first = is (λ (some : List Segment). IsCloseFault ended.config ended.opened (receipts_of passes_seen) some fault) first;
      missing = λ apart. missing (λ same. apart (length-map passes_seen (λ (pass : PassSeen). pass.receipts) ∙ same));
      unsettled = is (λ (some : List Segment). fault ≢ NoMemory → IsSettled ended.config ended.opened (receipts_of passes_seen) some → ⊥) unsettled;
    }))
  where
    is : (said : List Segment → Type 0) → said (given_seen ++ present_seen) → said (given_seen ++ ended.present)
    is said at = subst (λ (all : List Segment). said (given_seen ++ all)) is_present at

-- where its record is settled, memory alone is refused
pub refused : (ended : EndedSeen) (passes : List (List Receipt)) (given : List Segment) → IsRecordSettled ended passes given → IsFaultOf ended passes given NoMemory
refused ended passes given settled = record {
  first = tt;
  missing = λ missing. absurd (missing settled.given);
  unsettled = λ other is_settled. other refl;
}

-- a service is not closed for a fault of what came out of its locks
pub unsettled : (config : Configuration) (ended : EndedSeen) (passes : List (List Receipt)) (given : List Segment) (fault : CloseFault)
    → IsEndOf config ended → IsFaultOf ended passes given fault → IsUnsettled config passes given fault
unsettled config ended passes given MissingPass is_end first = record { ended = ended; is_end = is_end; first = first }
unsettled config ended passes given (MissingSegment shard) is_end first = record { ended = ended; is_end = is_end; first = first }
unsettled config ended passes given (Mismatch shard position) is_end first = record { ended = ended; is_end = is_end; first = first }
unsettled config ended passes given NoMemory is_end first = tt

-- ---- a stable sort keeps the segments of a shard in their order

less_told : (less same : Bool) → is_lt (cond less Less (cond same Equal Greater)) ≡ less
less_told true same = refl
less_told false true = refl
less_told false false = refl

tie_is : (shard number : ℕ) → not (is_lt (nat_cmp shard number)) && not (is_lt (nat_cmp number shard)) ≡ (number == shard)
tie_is shard number = ap (λ (t : Bool). not t && not (is_lt (nat_cmp number shard))) (less_told (nat_lt shard number) (shard == number))
    ∙ ap (λ (t : Bool). not (nat_lt shard number) && not t) (less_told (nat_lt number shard) (number == shard))
    ∙ by (cases_lt shard number)
  where
    back : (number < shard) ⊎ (shard ≤ number) → number ≤ shard → not (nat_lt number shard) ≡ (number == shard)
    back (inl less) below = ap not (lt-ltb number shard less) ∙ sym (ne_eqb number shard (λ same. omega (arith, less, same)))
    back (inr above) below = ap not (le-ltb number shard above) ∙ sym (eq-eqb number shard (omega (arith, above, below)))

    by : (shard < number) ⊎ (number ≤ shard) → not (nat_lt shard number) && not (nat_lt number shard) ≡ (number == shard)
    by (inl less) =
        ap (λ (t : Bool). not t && not (nat_lt number shard)) (lt-ltb shard number less) ∙ sym (ne_eqb number shard (λ same. omega (arith, less, same)))
    by (inr below) =
        ap (λ (t : Bool). not t && not (nat_lt number shard)) (le-ltb shard number below) ∙ back (cases_lt number shard) below

stable_same : (some : Segment) (shard : ℕ) (segments sorted : List Segment)
    → IsStableByKey (λ (segment : Segment). segment.shard) nat_cmp segments sorted → of_shard shard sorted ≡ of_shard shard segments
stable_same some shard segments sorted stable = sym (agree sorted) ∙ stable model ∙ agree segments
  where
    model : Segment
    model = record { shard = shard; first = some.first; opening = some.opening; lines = some.lines }

    agree : (all : List Segment)
        → filter (ties (λ (x : Segment) (y : Segment). is_lt (nat_cmp x.shard y.shard)) model) all ≡ of_shard shard all
    agree all =
        filter_agree (ties (λ (x : Segment) (y : Segment). is_lt (nat_cmp x.shard y.shard)) model) (λ (one : Segment). one.shard == shard)
        (λ one. tie_is shard one.shard) all

pub sorted_same : (shard : ℕ) (segments sorted : List Segment)
    → IsStableByKey (λ (segment : Segment). segment.shard) nat_cmp segments sorted → of_shard shard sorted ≡ of_shard shard segments
sorted_same shard [] [] stable = refl
sorted_same shard [] (some ∷ sorted) stable = stable_same some shard [] (some ∷ sorted) stable
sorted_same shard (some ∷ segments) sorted stable = stable_same some shard (some ∷ segments) sorted stable
