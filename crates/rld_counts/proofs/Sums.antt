-- Whatever a cell holds are the counts of some datagrams.
use Rattle.std.proofs.Common.{◌≡◌, ℕ, ◌==◌, Bool, true, false, List, [], ◌∷◌, ◌++◌, length, eq-eqb, ne_eqb, subst, sym}
use Rattle.std.proofs.Math.Logic.{∥∥₁_map, ∥∥₁_map₂}
use Rattle.std.specs.Prelude.{if◌then◌else◌}
use Rattle.rld_counts.specs.Cell.{CellSeen, HasCounted, IsCount, for_clients, without_clients}
use Rattle.rld_counts.specs.declared.counted.Counted.{Counted}

pub none_counted : (cell : CellSeen) → HasCounted [] cell → ∥ IsCount cell ∥₁
none_counted cell none = ∣ record { all = []; counted = none } ∣₁

pub one_counted : (old new : CellSeen) (ended : Counted)
    → ((all : List Counted) → HasCounted all old → HasCounted (all ++ ended ∷ []) new)
    → ∥ IsCount old ∥₁ → ∥ IsCount new ∥₁
one_counted old new ended noted before =
    ∥∥₁_map before (λ count. record { all = count.all ++ ended ∷ []; counted = noted count.all count.counted })

pub both_counted : (old other new : CellSeen)
    → ((all others : List Counted) → HasCounted all old → HasCounted others other → HasCounted (all ++ others) new)
    → ∥ IsCount old ∥₁ → ∥ IsCount other ∥₁ → ∥ IsCount new ∥₁
both_counted old other new joined before after =
    ∥∥₁_map₂ before after (λ one two. record { all = one.all ++ two.all; counted = joined one.all two.all one.counted two.counted })

-- where counting by client began anew, and where others were added in all alone
pub renewed_counted : (old new : CellSeen)
    → ((all : List Counted) → HasCounted all old → HasCounted (without_clients all) new)
    → ∥ IsCount old ∥₁ → ∥ IsCount new ∥₁
renewed_counted old new anew before =
    ∥∥₁_map before (λ count. record { all = without_clients count.all; counted = anew count.all count.counted })

pub in_all_counted : (old other new : CellSeen)
    → ((all others : List Counted) → HasCounted all old → HasCounted others other → HasCounted (all ++ without_clients others) new)
    → ∥ IsCount old ∥₁ → ∥ IsCount other ∥₁ → ∥ IsCount new ∥₁
in_all_counted old other new joined before after =
    ∥∥₁_map₂ before after (λ one two. record {
      all = one.all ++ without_clients two.all;
      counted = joined one.all two.all one.counted two.counted;
    })

pub ruleset counting = (none_counted, one_counted, both_counted, renewed_counted, in_all_counted)

-- what is added of a cell for as many clients, and of one for another number
pub added_same : (clients : ℕ) (old other new : CellSeen) → length other.clients ≡ clients
    → ((all others : List Counted) → HasCounted all old → HasCounted others other → HasCounted (all ++ others) new)
    → (all others : List Counted) → HasCounted all old → HasCounted others other
    → HasCounted (all ++ for_clients clients other others) new
added_same clients old other new same joined all others before had =
    let test : (length other.clients == clients) ≡ true = eq-eqb (length other.clients) clients same in
    subst (λ (is : Bool). HasCounted (all ++ (if is then others else without_clients others)) new) (sym test)
    (joined all others before had)

pub added_other : (clients : ℕ) (old other new : CellSeen) → (length other.clients ≡ clients → ⊥)
    → ((all others : List Counted) → HasCounted all old → HasCounted others other → HasCounted (all ++ without_clients others) new)
    → (all others : List Counted) → HasCounted all old → HasCounted others other
    → HasCounted (all ++ for_clients clients other others) new
added_other clients old other new differ joined all others before had =
    let test : (length other.clients == clients) ≡ false = ne_eqb (length other.clients) clients differ in
    subst (λ (is : Bool). HasCounted (all ++ (if is then others else without_clients others)) new) (sym test)
    (joined all others before had)

pub ruleset adding = (both_counted, in_all_counted, added_same, added_other)

-- what is added where nothing was counted
pub added_to_none : (clients : ℕ) (old other new : CellSeen)
    → ((all others : List Counted) → HasCounted all old → HasCounted others other
    → HasCounted (all ++ for_clients clients other others) new)
    → HasCounted [] old → (had : List Counted) → HasCounted had other → HasCounted (for_clients clients other had) new
added_to_none clients old other new added none had counted = added [] had none counted
