-- Laws of the counts of fates.
use Rattle.std.proofs.Common.{◌≡◌, ◌≢◌, ℕ, zero, suc, ◌+◌, ◌<◌, Bool, true, cond, ltb, List, [], ◌∷◌, ◌++◌, length, get_or, set, map, sum, Option, Some, sym, refl, ap, ◌∙◌, arith}
use Rattle.std.specs.Prelude.{count_by, option_map, slice_get, unwrap_or}
use Rattle.std.proofs.lemmas.Bool.{lt-ltb, ltb-true}
use Rattle.std.proofs.lemmas.List.Sums.{sum_by-cons}
use Rattle.rld_counts.specs.Counts.{counts_of}
use Rattle.rld_counts.specs.Fates.{at, fate_number, gate_number, number_of}
use Rattle.rld_counts.specs.Tally.{kept, tally_of}
use Rattle.rld_counts.specs.declared.cause.Cause.{Cause}
use Rattle.rld_counts.specs.declared.cause.Cause.TheVariants as causes
use Rattle.rld_counts.specs.declared.cause.TheConstants.{TABLE}
use Rattle.rld_counts.specs.declared.fate.Fate.{Fate}
use Rattle.rld_counts.specs.declared.gate.Gate.{Gate}
use Rattle.rld_counts.specs.declared.gate.Gate.TheVariants as gates
use Rattle.rld_counts.proofs.Tallies.{sum-tally_of, tally_append, tally_push}

pub mapped_append : {X : Type 0} (f : X → ℕ) (xs ys : List X) → map f (xs ++ ys) ≡ map f xs ++ map f ys
mapped_append f [] ys = refl
mapped_append f (x ∷ xs) ys = ap (λ (l : List ℕ). f x ∷ l) (mapped_append f xs ys)

pub counts_push : (fate : Fate) (number : ℕ) (fates : List Fate) (old new : List ℕ) → number ≡ fate_number fate → number < 114 → old ≡ counts_of fates
    → new ≡ set old number (kept (get_or old number 0 + 1)) → new ≡ counts_of (fates ++ fate ∷ [])
counts_push fate number fates old new is below was made =
    tally_push 114 number (map fate_number fates) old new below was made
    ∙ ap (λ (n : ℕ). tally_of 114 (map fate_number fates ++ n ∷ [])) is
    ∙ ap (tally_of 114) (sym (mapped_append fate_number fates (fate ∷ [])))

pub counts_append : (fates others : List Fate) (old other new : List ℕ) → old ≡ counts_of fates → other ≡ counts_of others → length new ≡ length old
    → ((k : ℕ) → k < length new → get_or new k 0 ≡ kept (get_or old k 0 + get_or other k 0))
    → new ≡ counts_of (fates ++ others)
counts_append fates others old other new was added len each =
    tally_append 114 (map fate_number fates) (map fate_number others) old other new was added len each
    ∙ ap (tally_of 114) (sym (mapped_append fate_number fates others))

gate_below : (gate : Gate) → ltb (gate_number gate) 3 ≡ true
gate_below gates.Auth = refl
gate_below _ = refl

cause_below : (cause : Cause) → ltb (number_of cause) 38 ≡ true
cause_below causes.Short = refl
cause_below _ = refl

pub number_below : (fate : Fate) → fate_number fate < 114
number_below fate =
    let gate = ltb-true (gate_number fate.gate) 3 (gate_below fate.gate) in
    let cause = ltb-true (number_of fate.cause) 38 (cause_below fate.cause) in
    omega (arith, gate, cause)

all_below : (fates : List Fate) → count_by (λ one. ltb one 114) (map fate_number fates) ≡ length fates
all_below [] = refl
all_below (fate ∷ fates) =
    sum_by-cons (λ one. cond (ltb one 114) 1 0) (fate_number fate) (map fate_number fates)
    ∙ ap (λ (b : Bool). cond b 1 0 + count_by (λ one. ltb one 114) (map fate_number fates)) (lt-ltb (fate_number fate) 114 (number_below fate))
    ∙ ap (λ (n : ℕ). 1 + n) (all_below fates)
    ∙ omega arith

-- the sum of all counts is how many datagrams there are
pub counts_sum : (fates : List Fate) (counters : List ℕ) → counters ≡ counts_of fates → kept (sum counters) ≡ kept (length fates)
counts_sum fates counters was =
    ap (λ (l : List ℕ). kept (sum l)) was ∙ sum-tally_of 114 (map fate_number fates) ∙ ap kept (all_below fates)

-- ---- two fates have two numbers

row_at : (cause : Cause) → option_map (λ row. row.0) (slice_get TABLE.now (number_of cause)) ≡ Some cause
row_at causes.Short = refl
row_at _ = refl

abbrev gate_at : ℕ → Gate
gate_at zero = gates.Auth
gate_at (suc zero) = gates.Acct
gate_at (suc (suc n)) = gates.Ask

gate_back : (gate : Gate) → gate_at (gate_number gate) ≡ gate
gate_back gates.Auth = refl
gate_back _ = refl

same_cause : (one other : Cause) → number_of one ≡ number_of other → one ≡ other
same_cause one other same =
    ap (λ (o : Option Cause). unwrap_or o one)
    (sym (row_at one) ∙ ap (λ (n : ℕ). option_map (λ row. row.0) (slice_get TABLE.now n)) same ∙ row_at other)

same_gate : (one other : Gate) → gate_number one ≡ gate_number other → one ≡ other
same_gate one other same = sym (gate_back one) ∙ ap gate_at same ∙ gate_back other

same_fate : (one other : Fate) → one.gate ≡ other.gate → one.cause ≡ other.cause → one ≡ other
same_fate one other gate cause =
    ap (λ (g : Gate). at g one.cause) gate ∙ ap (λ (c : Cause). at other.gate c) cause

pub numbers_differ : (fate other : Fate) → other ≢ fate → fate_number other ≢ fate_number fate
numbers_differ fate other differs same =
    let below = ltb-true (number_of fate.cause) 38 (cause_below fate.cause) in
    let other_below = ltb-true (number_of other.cause) 38 (cause_below other.cause) in
    let gate : gate_number other.gate ≡ gate_number fate.gate = omega (arith, same, below, other_below) in
    let cause : number_of other.cause ≡ number_of fate.cause = omega (arith, same, below, other_below) in
    differs (same_fate other fate (same_gate other.gate fate.gate gate) (same_cause other.cause fate.cause cause))
