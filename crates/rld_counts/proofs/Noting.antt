-- Laws of a cell.
use Rattle.std.proofs.Common.{◌≡◌, ℕ, ◌+◌, ◌<◌, Bool, true, false, cond, List, [], ◌∷◌, ◌++◌, length, get_or, set, map, append-nil, ◌≤◌, Option, Some, None, sym, refl, ap, subst, ◌∙◌, arith, inl, inr}
use Rattle.std.specs.List.{filter, filter_map}
use Rattle.std.proofs.lemmas.Bool.{cases_eq, cases_lt}
use Rattle.std.proofs.lemmas.List.{get_or_append_left, get_or-set_same, get_or-set_other, length_push}
use Rattle.std.proofs.Math.Seq.{get_or-append_seam}
use Rattle.std.proofs.lemmas.List.Elements.{filter_map-append}
use Rattle.std.specs.List.{cons_option}
use Rattle.rld_counts.specs.Cell.{AreCounted, AreJoined, CellSeen, HasCounted, HasTimes, fates_of, is_of, without_clients}
use Rattle.rld_counts.specs.Histogram.{Times, times_of}
use Rattle.rld_counts.specs.Counts.{counts_of}
use Rattle.rld_counts.specs.declared.fate.Fate.{Fate}
use Rattle.rld_counts.specs.declared.counted.Counted.{Counted}

filter_append : (test : Counted → Bool) (xs ys : List Counted) → filter test (xs ++ ys) ≡ filter test xs ++ filter test ys
filter_append test [] ys = refl
filter_append test (x ∷ xs) ys = elim (test x) as (λ (b : Bool). cond b (x ∷ filter test (xs ++ ys)) (filter test (xs ++ ys)) ≡ cond b (x ∷ filter test xs) (filter test xs) ++ filter test ys) [
  | true ↦ ap (λ (l : List Counted). x ∷ l) (filter_append test xs ys)
  | false ↦ filter_append test xs ys
]

pub ends_append : (xs ys : List Counted) → map (λ one. one.fate) (xs ++ ys) ≡ map (λ one. one.fate) xs ++ map (λ one. one.fate) ys
ends_append [] ys = refl
ends_append (x ∷ xs) ys = ap (λ (l : List Fate). x.fate ∷ l) (ends_append xs ys)

-- how the datagrams of a client ended, of some and then others
pub fates_of_append : (client : ℕ) (xs ys : List Counted) → fates_of client (xs ++ ys) ≡ fates_of client xs ++ fates_of client ys
fates_of_append client xs ys =
    ap (map (λ one. one.fate)) (filter_append (λ one. is_of client one.client) xs ys)
    ∙ ends_append (filter (λ one. is_of client one.client) xs) (filter (λ one. is_of client one.client) ys)

same_ends : (client : ℕ) (all : List Counted) (ended : Counted) → is_of client ended.client ≡ false → fates_of client (all ++ ended ∷ []) ≡ fates_of client all
same_ends client all ended is =
    fates_of_append client all (ended ∷ [])
    ∙ ap (λ (b : Bool). fates_of client all ++ map (λ one. one.fate) (cond b (ended ∷ []) [])) is
    ∙ append-nil (fates_of client all)

-- a datagram of no client
pub none_counted : (all : List Counted) (ended : Counted) (clients : List (List ℕ)) → ended.client ≡ None → AreCounted all clients → AreCounted (all ++ ended ∷ []) clients
none_counted all ended clients none counted client below =
    counted client below ∙ ap counts_of (sym (same_ends client all ended (ap (is_of client) none)))

-- ---- times

times_append : (xs ys : List Counted) → filter_map (λ one. one.micros) (xs ++ ys) ≡ filter_map (λ one. one.micros) xs ++ filter_map (λ one. one.micros) ys
times_append xs ys = filter_map-append (λ (one : Counted). one.micros) xs ys

-- a datagram that was answered, and one that was not
pub time_counted : (all : List Counted) (ended : Counted) (old new : Times) (micros : ℕ) → ended.micros ≡ Some micros
    → ((times : List ℕ) → old ≡ times_of times → new ≡ times_of (times ++ micros ∷ []))
    → HasTimes all old → HasTimes (all ++ ended ∷ []) new
time_counted all ended old new micros is noted was =
    noted (filter_map (λ one. one.micros) all) was
    ∙ ap (λ (o : Option ℕ). times_of (filter_map (λ one. one.micros) all ++ cons_option o [])) (sym is)
    ∙ ap times_of (sym (times_append all (ended ∷ [])))

pub none_timed : (all : List Counted) (ended : Counted) (times : Times) → ended.micros ≡ None → HasTimes all times → HasTimes (all ++ ended ∷ []) times
none_timed all ended times none was =
    was
    ∙ ap times_of (sym (append-nil (filter_map (λ one. one.micros) all)))
    ∙ ap (λ (o : Option ℕ). times_of (filter_map (λ one. one.micros) all ++ cons_option o [])) (sym none)
    ∙ ap times_of (sym (times_append all (ended ∷ [])))

-- ---- whole cells

pub cell_noted : (all : List Counted) (ended : Counted) (old new : CellSeen)
    → ((ends : List Fate) → old.counts ≡ counts_of ends → new.counts ≡ counts_of (ends ++ ended.fate ∷ []))
    → (AreCounted all old.clients → AreCounted (all ++ ended ∷ []) new.clients)
    → (HasTimes all old.times → HasTimes (all ++ ended ∷ []) new.times)
    → HasCounted all old → HasCounted (all ++ ended ∷ []) new
cell_noted all ended old new counts clients times was = record {
  counts = counts (map (λ one. one.fate) all) was.counts ∙ ap counts_of (sym (ends_append all (ended ∷ [])));
  clients = clients was.clients;
  times = times was.times;
}

pub cell_joined : (all others : List Counted) (old other new : CellSeen)
    → AreJoined old.counts other.counts new.counts
    → length new.clients ≡ length old.clients → length other.clients ≡ length old.clients
    → ((client : ℕ) → client < length new.clients → AreJoined (get_or old.clients client []) (get_or other.clients client []) (get_or new.clients client []))
    → ((times more : List ℕ) → old.times ≡ times_of times → other.times ≡ times_of more → new.times ≡ times_of (times ++ more))
    → HasCounted all old → HasCounted others other → HasCounted (all ++ others) new
cell_joined all others old other new counts len same clients times was added = record {
  counts = counts (map (λ one. one.fate) all) (map (λ one. one.fate) others) was.counts added.counts ∙ ap counts_of (sym (ends_append all others));
  clients = λ client below.
      clients client below (fates_of client all) (fates_of client others) (was.clients client (omega arith)) (added.clients client (omega arith))
      ∙ ap counts_of (sym (fates_of_append client all others));
  times =
      times (filter_map (λ one. one.micros) all) (filter_map (λ one. one.micros) others) was.times added.times
      ∙ ap times_of (sym (times_append all others));
}

-- ---- clients of which no datagram came

pub new_counted : (clients new : List (List ℕ)) (counts : List ℕ) → counts ≡ counts_of [] → new ≡ clients ++ counts ∷ [] → AreCounted [] clients → AreCounted [] new
new_counted clients new counts none made counted client below =
    let long : length new ≡ length clients + 1 = ap length made ∙ length_push clients counts in
    elim (cases_lt client (length clients)) [
      | inl less ↦ ap (λ (l : List (List ℕ)). get_or l client []) made ∙ get_or_append_left clients (counts ∷ []) [] client less ∙ counted client less
      | inr last ↦
          let here : client ≡ length clients = omega arith in
          ap (λ (l : List (List ℕ)). get_or l client []) made
          ∙ ap (λ (n : ℕ). get_or (clients ++ counts ∷ []) n []) here
          ∙ get_or-append_seam clients counts [] []
          ∙ none
    ]

-- ---- one client more is added to

pub joined_more : (first others now : List (List ℕ)) (client : ℕ) (counts : List ℕ) → client < length now
    → AreJoined (get_or now client []) (get_or others client []) counts
    → get_or now client [] ≡ get_or first client []
    → ((k : ℕ) → k < client → AreJoined (get_or first k []) (get_or others k []) (get_or now k []))
    → (k : ℕ) → k < client + 1 → AreJoined (get_or first k []) (get_or others k []) (get_or (set now client counts) k [])
joined_more first others now client counts in_now added same before k below =
    elim (cases_eq k client) [
      | inl here ↦ λ ends more was and.
          ap (λ (j : ℕ). get_or (set now client counts) j []) here
          ∙ get_or-set_same now client counts [] in_now
          ∙ added ends more (same ∙ ap (λ (j : ℕ). get_or first j []) (sym here) ∙ was) (ap (λ (j : ℕ). get_or others j []) (sym here) ∙ and)
      | inr other ↦ λ ends more was and.
          get_or-set_other now client k counts [] other ∙ before k (omega arith) ends more was and
    ]

pub rest_same : (first now : List (List ℕ)) (client : ℕ) (counts : List ℕ)
    → ((k : ℕ) → client ≤ k → get_or now k [] ≡ get_or first k [])
    → (k : ℕ) → client + 1 ≤ k → get_or (set now client counts) k [] ≡ get_or first k []
rest_same first now client counts rest k above =
    get_or-set_other now client k counts [] (λ e. omega arith) ∙ rest k (omega arith)

-- ---- datagrams whose clients count no more

ends_without : (all : List Counted) → map (λ one. one.fate) (without_clients all) ≡ map (λ one. one.fate) all
ends_without [] = refl
ends_without (one ∷ all) = ap (λ (l : List Fate). one.fate ∷ l) (ends_without all)

times_without : (all : List Counted) → filter_map (λ one. one.micros) (without_clients all) ≡ filter_map (λ one. one.micros) all
times_without [] = refl
times_without (one ∷ all) = ap (λ (l : List ℕ). cons_option one.micros l) (times_without all)

-- none of them is a client's
none_without : (client : ℕ) (all : List Counted) → fates_of client (without_clients all) ≡ []
none_without client [] = refl
none_without client (one ∷ all) = none_without client all

pub cell_renewed : (all : List Counted) (old new : CellSeen) → new.counts ≡ old.counts → AreCounted [] new.clients → new.times ≡ old.times
    → HasCounted all old → HasCounted (without_clients all) new
cell_renewed all old new counts clients times was = record {
  counts = counts ∙ was.counts ∙ ap counts_of (sym (ends_without all));
  clients = λ client below. clients client below ∙ ap counts_of (sym (none_without client all));
  times = times ∙ was.times ∙ ap times_of (sym (times_without all));
}

pub cell_joined_in_all : (all others : List Counted) (old other new : CellSeen)
    → AreJoined old.counts other.counts new.counts
    → new.clients ≡ old.clients
    → ((times more : List ℕ) → old.times ≡ times_of times → other.times ≡ times_of more → new.times ≡ times_of (times ++ more))
    → HasCounted all old → HasCounted others other → HasCounted (all ++ without_clients others) new
cell_joined_in_all all others old other new counts same times was added = record {
  counts =
      counts (map (λ one. one.fate) all) (map (λ one. one.fate) others) was.counts added.counts
      ∙ ap (λ (l : List Fate). counts_of (map (λ one. one.fate) all ++ l)) (sym (ends_without others))
      ∙ ap counts_of (sym (ends_append all (without_clients others)));
  clients = λ client below.
      ap (λ (l : List (List ℕ)). get_or l client []) same
      ∙ was.clients client (subst (λ (l : List (List ℕ)). client < length l) same below)
      ∙ ap counts_of (sym (append-nil (fates_of client all)))
      ∙ ap (λ (l : List Fate). counts_of (fates_of client all ++ l)) (sym (none_without client others))
      ∙ ap counts_of (sym (fates_of_append client all (without_clients others)));
  times =
      times (filter_map (λ one. one.micros) all) (filter_map (λ one. one.micros) others) was.times added.times
      ∙ ap (λ (l : List ℕ). times_of (filter_map (λ one. one.micros) all ++ l)) (sym (times_without others))
      ∙ ap times_of (sym (times_append all (without_clients others)));
}
