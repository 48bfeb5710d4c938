-- What readings come to, one after another.
use Rattle.std.proofs.Common.{◌≡◌, ℕ, ◌+◌, ◌<◌, Bool, true, false, List, [], ◌∷◌, ◌++◌, length, get_or, take, map, subst, sym, ap, ◌∙◌, append-nil}
use Rattle.std.proofs.lemmas.List.{map-append, take_more}
use Rattle.std.proofs.lemmas.List.Concat.{flat_map-append}
use Rattle.std.proofs.lemmas.List.Elements.{All-from_recursion}
use Rattle.std.specs.List.{flat_map}
use Rattle.std.specs.Prelude.{if◌then◌else◌}
use Rattle.rld_counts.specs.declared.gate.Gate.{Gate}
use Rattle.rld_counts.specs.Cell.{CellSeen, HasCounted, for_clients}
use Rattle.rld_counts.specs.Counts.{counts_of}
use Rattle.rld_counts.specs.Fates.{is_same_gate}
use Rattle.rld_counts.specs.declared.fate.Fate.{Fate}
use Rattle.rld_counts.specs.declared.counted.Counted.{Counted}
use Rattle.rld_counts.specs.Reading.{HaveCounted, all_of, counts_in, shown}
use Rattle.rld_counts.specs.declared.reading.Reading.{Reading}

-- the lists of the first elements, and that of one more
flat_map_next : {X A : Type 0} (f : X → List A) (xs : List X) (i : ℕ) (x : X) → i < length xs → x ≡ get_or xs i x
    → flat_map f (take (i + 1) xs) ≡ flat_map f (take i xs) ++ f x
flat_map_next {X} {A} f xs i x within is =
    ap (flat_map f) (take_more xs i x within)
    ∙ flat_map-append f (take i xs) (get_or xs i x ∷ [])
    ∙ ap (λ (y : X). flat_map f (take i xs) ++ (f y ++ [])) (sym is)
    ∙ ap (λ (ys : List A). flat_map f (take i xs) ++ ys) (append-nil (f x))

-- what one of the receivers had counted
had_counted : (had : Reading → List Counted) (readings : List Reading) (i : ℕ) (reading : Reading) → i < length readings
    → reading ≡ get_or readings i reading → HaveCounted had readings → HasCounted (had reading) reading.cell
had_counted had readings i reading within is have =
    subst (λ (one : Reading). HasCounted (had one) one.cell) (sym is)
    (All-from_recursion (λ (one : Reading). HasCounted (had one) one.cell) readings have i reading within)

-- one that is not of the gate adds nothing
pub not_shown : (gate : Gate) (clients : ℕ) (reading : Reading) (before had : List Counted) (cell : CellSeen)
    → is_same_gate reading.gate gate ≡ false
    → HasCounted before cell → HasCounted (before ++ shown gate clients reading had) cell
not_shown gate clients reading before had cell other counted =
    subst (λ (is : Bool). HasCounted (before ++ (if is then for_clients clients reading.cell had else [])) cell)
    (sym other)
    (subst (λ (all : List Counted). HasCounted all cell) (sym (append-nil before)) counted)

pub is_shown : (gate : Gate) (clients : ℕ) (reading : Reading) (before had : List Counted) (cell : CellSeen)
    → is_same_gate reading.gate gate ≡ true
    → HasCounted (before ++ for_clients clients reading.cell had) cell
    → HasCounted (before ++ shown gate clients reading had) cell
is_shown gate clients reading before had cell same counted =
    subst (λ (is : Bool). HasCounted (before ++ (if is then for_clients clients reading.cell had else [])) cell)
    (sym same) counted

pub ruleset shown_steps = (not_shown, is_shown)

-- one more of the receivers of a gate
pub next_cell : (gate : Gate) (clients : ℕ) (readings : List Reading) (i : ℕ) (reading : Reading) (old new : CellSeen)
    → i < length readings → reading ≡ get_or readings i reading → length old.clients ≡ clients
    → ((before had : List Counted) → HasCounted before old → HasCounted had reading.cell
    → HasCounted (before ++ shown gate (length old.clients) reading had) new)
    → ((had : Reading → List Counted) → HaveCounted had readings
    → HasCounted (all_of gate clients had (take i readings)) old)
    → (had : Reading → List Counted) → HaveCounted had readings
    → HasCounted (all_of gate clients had (take (i + 1) readings)) new
next_cell gate clients readings i reading old new within is as_many added so_far had have =
    subst (λ (all : List Counted). HasCounted all new)
    (sym (flat_map_next (λ (one : Reading). shown gate clients one (had one)) readings i reading within is))
    (subst
    (λ (n : ℕ). HasCounted (all_of gate clients had (take i readings) ++ shown gate n reading (had reading)) new)
    as_many
    (added (all_of gate clients had (take i readings)) (had reading) (so_far had have) (had_counted had readings i reading within is have)))

pub ruleset cell_steps = next_cell

-- the counts of one more
pub next_counts : (readings : List Reading) (i : ℕ) (reading : Reading) (old new : List ℕ)
    → i < length readings → reading ≡ get_or readings i reading
    → ((ends others : List Fate) → old ≡ counts_of ends → reading.cell.counts ≡ counts_of others
    → new ≡ counts_of (ends ++ others))
    → ((had : Reading → List Counted) → HaveCounted had readings → old ≡ counts_in had (take i readings))
    → (had : Reading → List Counted) → HaveCounted had readings → new ≡ counts_in had (take (i + 1) readings)
next_counts readings i reading old new within is joined so_far had have =
    joined (map (λ (one : Counted). one.fate) (flat_map had (take i readings))) (map (λ (one : Counted). one.fate) (had reading))
    (so_far had have) (had_counted had readings i reading within is have).counts
    ∙ ap counts_of (sym (map-append (λ (one : Counted). one.fate) (flat_map had (take i readings)) (had reading)))
    ∙ ap (λ (all : List Counted). counts_of (map (λ (one : Counted). one.fate) all)) (sym (flat_map_next had readings i reading within is))

pub ruleset counts_steps = next_counts
