-- The segments of a shard, one after another.
use Rattle.std.proofs.Common.{◌≡◌, ◌↔◌, ◌⊎◌, List, [], ◌∷◌, ◌++◌, Option, Some, None, inl, inr, refl, sym, ap, subst, ◌∙◌, append_assoc, ℕ, ◌+◌, ◌^◌, ◌<◌, ◌≤◌, ◌==◌, min, Bool, true, false, cond, length, map, take, drop, get_or, arith, append-nil, length-append}
use Rattle.std.specs.Prelude.{All, IfErr, OnOk, Result, Ok, Err}
use Rattle.rsl_event.specs.declared.event.Decision.{Decision}
use Rattle.std.proofs.lemmas.Bool.{cases_lt, eq-eqb, ne_eqb}
use Rattle.std.proofs.lemmas.List.{drop_all, drop_more, get_or-map, length-map, take_all, take_more}
use Rattle.std.proofs.lemmas.List.Elements.{All-more, All-nil, filter-append}
use Rattle.rsl_accounts.specs.Configuration.{Configuration}
use Rattle.rsl_book.specs.RuledBook.{RuledBook}
use Rattle.rsl_record.specs.Faults.{GoOn, IsBreak, IsSegmentFault, IsLowestAstray}
use Rattle.rsl_record.specs.Chain.{HasMade, IsNext, Takes}
use Rattle.rsl_record.specs.Segments.{AllGoOn, GoesOn, HasJoined, of_shard}
use Rattle.rsl_record.specs.declared.chain.Chain.{Chain}
use Rattle.rsl_record.specs.declared.close_fault.CloseFault.{CloseFault}
use Rattle.rsl_record.specs.declared.close_fault.CloseFault.TheVariants.{MissingPass, MissingSegment, Mismatch, NoMemory}
use Rattle.rsl_shard.specs.Moves.{IsTaken}
use Rattle.rsl_shard.specs.Restep.{BooksSeen, books_after, new_books, new_books_seen, restep}
use Rattle.rsl_shard.specs.Setup.{Setup, setup_of}
use Rattle.rsl_shard.specs.declared.line.Line.{Line}
use Rattle.rsl_shard.specs.declared.segment.Segment.{Segment}

-- ---- lines

-- the line's move is made where there is a decision
pub line_made : (old new : Chain) (line : Line) (decision : Decision) → Takes old new line (Some decision) → HasMade old new line
line_made old new line decision takes = (decision, takes)

-- and the shard does not take it where there is none
pub line_not_made : (old new : Chain) (line : Line) (made : Option Decision) (shard : ℕ) → Takes old new line made → made ≡ None → shard ≡ new.books.setup.shard
    → (shard ≡ old.books.setup.shard) × (IsTaken old.books.setup line.moved → ⊥)
line_not_made old new line made shard takes none is =
    let takes_none : (IsTaken old.books.setup line.moved → ⊥) × (new ≡ old) = subst (Takes old new line) none takes in
    (is ∙ ap (λ (chain : Chain). chain.books.setup.shard) takes_none.1, takes_none.0)

-- What the loop over lines keeps: the moves so far are made, and those to come lead to what all
-- lead to.
pub record AreMade (lines : List Line) (first now : Chain) (i : ℕ) : Type 0 where
  pub within : i ≤ length lines
  pub count : now.lines ≡ first.lines + i
  pub setup : now.books.setup ≡ first.books.setup
  pub taken : All (λ line. IsTaken first.books.setup line.moved) (take i lines)
  pub books : restep first.books.setup now.books.books (drop i lines) ≡ restep first.books.setup first.books.books lines

pub made_none : (lines : List Line) (first : Chain) → AreMade lines first first 0
made_none lines first = record {
  within = omega arith;
  count = omega arith;
  setup = refl;
  taken = All-nil (λ (line : Line). IsTaken first.books.setup line.moved);
  books = refl;
}

pub made_more : (lines : List Line) (first now new : Chain) (i : ℕ) (line : Line) → i < length lines → line ≡ get_or lines i line → HasMade now new line
    → AreMade lines first now i → AreMade lines first new (i + 1)
unfolding restep
made_more lines first now new i line within is made so_far =
    let has = made.1 in
    record {
      within = omega (arith, within);
      count = omega (arith, has.lines, so_far.count);
      setup = has.setup ∙ so_far.setup;
      taken =
          All-more (λ (l : Line). IsTaken first.books.setup l.moved) lines i line within so_far.taken
          (subst (λ (l : Line). IsTaken first.books.setup l.moved) is (subst (λ (s : Setup). IsTaken s line.moved) so_far.setup has.taken));
      books =
          ap (λ (all : List RuledBook). restep first.books.setup all (drop (i + 1) lines))
          (has.books ∙ ap (λ (s : Setup). books_after s now.books.books line.moved) so_far.setup)
          ∙ ap (λ (l : Line). restep first.books.setup now.books.books (l ∷ drop (i + 1) lines)) is
          ∙ sym (ap (restep first.books.setup now.books.books) (drop_more lines i line within))
          ∙ so_far.books;
    }

-- one line more can be counted
pub made_room : (lines : List Line) (first now : Chain) (i : ℕ) → first.lines + length lines < 2 ^ 128 → i < length lines → AreMade lines first now i
    → now.lines + 1 < 2 ^ 128
made_room lines first now i room within so_far = omega (arith, room, within, so_far.count)

pub made_taken : (lines : List Line) (first now : Chain) (i : ℕ) → length lines ≤ i → AreMade lines first now i
    → All (λ line. IsTaken first.books.setup line.moved) lines
made_taken lines first now i past so_far = subst (All (λ (line : Line). IsTaken first.books.setup line.moved)) (take_all i lines past) so_far.taken

pub made_count : (lines : List Line) (first now : Chain) (i : ℕ) → length lines ≤ i → AreMade lines first now i → now.lines ≡ first.lines + length lines
made_count lines first now i past so_far = omega (arith, past, so_far.within, so_far.count)

pub made_books : (lines : List Line) (first now : Chain) (i : ℕ) → length lines ≤ i → AreMade lines first now i
    → now.books.books ≡ restep first.books.setup first.books.books lines
unfolding restep
made_books lines first now i past so_far = sym (ap (restep first.books.setup now.books.books) (drop_all i lines past)) ∙ so_far.books

-- a fault of a line is one of the lines among which it stands
pub line_broken : (lines : List Line) (first now : Chain) (i : ℕ) (line : Line) (fault : CloseFault) → i < length lines → line ≡ get_or lines i line
    → AreMade lines first now i → IsBreak now.books.setup.shard (IsTaken now.books.setup line.moved) fault
    → IsBreak first.books.setup.shard (All (λ line. IsTaken first.books.setup line.moved) lines) fault
line_broken lines first now i line MissingPass within is so_far broken = broken
line_broken lines first now i line (MissingSegment named) within is so_far broken = (
  broken.0 ∙ ap (λ (s : Setup). s.shard) so_far.setup,
  λ all.
      broken.1
      (subst (λ (s : Setup). IsTaken s line.moved) (sym so_far.setup)
      (subst (λ (l : Line). IsTaken first.books.setup l.moved) (sym is) (all i line within))),
)
line_broken lines first now i line (Mismatch named position) within is so_far broken = broken
line_broken lines first now i line NoMemory within is so_far broken = tt

-- ---- a segment

pub goes_so : (chain : Chain) (segment : Segment) (lines : List Line) → IsNext chain segment → lines ≡ segment.lines.items
    → All (λ line. IsTaken chain.books.setup line.moved) lines → GoesOn chain.books.setup chain.lines chain.books.books segment
goes_so chain segment lines next are taken = record {
  first = next.first;
  opening = next.opening;
  taken = subst (All (λ (line : Line). IsTaken chain.books.setup line.moved)) are taken;
}

pub goes_not : (chain : Chain) (segment : Segment) → (IsNext chain segment → ⊥) → GoesOn chain.books.setup chain.lines chain.books.books segment → ⊥
goes_not chain segment other goes = other (record { first = goes.first; opening = goes.opening })

break_weaker : (shard : ℕ) (A B : Type 0) (fault : CloseFault) → (B → A) → IsBreak shard A fault → IsBreak shard B fault
break_weaker shard A B MissingPass back broken = broken
break_weaker shard A B (MissingSegment named) back broken = (broken.0, λ holds. broken.1 (back holds))
break_weaker shard A B (Mismatch named position) back broken = broken
break_weaker shard A B NoMemory back broken = tt

pub broken_by_lines : {T : Type 0} (chain : Chain) (segment : Segment) (lines : List Line) (result : Result T CloseFault) → lines ≡ segment.lines.items
    → IfErr result (IsBreak chain.books.setup.shard (All (λ line. IsTaken chain.books.setup line.moved) lines))
    → IfErr result (IsBreak chain.books.setup.shard (GoesOn chain.books.setup chain.lines chain.books.books segment))
broken_by_lines chain segment lines (Ok done) are broken = tt
broken_by_lines chain segment lines (Err fault) are broken =
    break_weaker chain.books.setup.shard (All (λ (line : Line). IsTaken chain.books.setup line.moved) lines)
    (GoesOn chain.books.setup chain.lines chain.books.books segment) fault
    (λ (goes : GoesOn chain.books.setup chain.lines chain.books.books segment).
    subst (All (λ (line : Line). IsTaken chain.books.setup line.moved)) (sym are) goes.taken)
    broken

-- ---- segments, one after another

joined_from : (setup setup2 : Setup) (lines lines2 : ℕ) (books books2 : List RuledBook) (segments : List Segment) → setup ≡ setup2 → lines ≡ lines2 → books ≡ books2
    → AllGoOn setup lines books segments → AllGoOn setup2 lines2 books2 segments
joined_from setup setup2 lines lines2 books books2 segments of_setup of_lines of_books joined =
    subst (λ (b : List RuledBook). AllGoOn setup2 lines2 b segments) of_books
    (subst (λ (n : ℕ). AllGoOn setup2 n books segments) of_lines (subst (λ (s : Setup). AllGoOn s lines books segments) of_setup joined))

-- where one segment has gone on, those after it go on exactly where it does with them
goes_with : (now new : Chain) (segment : Segment) (rest : List Segment) → GoesOn now.books.setup now.lines now.books.books segment
    → new.lines ≡ now.lines + length segment.lines.items → new.books.setup ≡ now.books.setup
    → new.books.books ≡ restep now.books.setup now.books.books segment.lines.items
    → GoOn new rest ↔ GoOn now (segment ∷ rest)
unfolding AllGoOn
goes_with now new segment rest goes lines setup books = (
  λ joined. (
    goes,
    joined_from new.books.setup now.books.setup new.lines (now.lines + length segment.lines.items) new.books.books
        (restep now.books.setup now.books.books segment.lines.items) rest setup lines books joined,
  ),
  λ joined.
      joined_from now.books.setup new.books.setup (now.lines + length segment.lines.items) new.lines
      (restep now.books.setup now.books.books segment.lines.items) new.books.books rest (sym setup) (sym lines) (sym books) joined.1,
)

drop_mapped : {X Y : Type 0} (f : X → Y) (xs : List X) (i : ℕ) (x : X) → i < length xs → x ≡ get_or xs i x → drop i (map f xs) ≡ f x ∷ drop (i + 1) (map f xs)
drop_mapped {X} {Y} f xs i x within is =
    drop_more (map f xs) i (f x) (omega (arith, within, length-map xs f))
    ∙ ap (λ (y : Y). y ∷ drop (i + 1) (map f xs)) (get_or-map f xs i x (f x) within ∙ ap f (sym is))

-- what the loop over segments keeps: those to come go on from here exactly where all go on from the start
pub record AreTaken (segments : List Segment) (first now : Chain) (i : ℕ) : Type 0 where
  pub setup : now.books.setup ≡ first.books.setup
  pub goes_on : GoOn now (drop i segments) ↔ GoOn first segments

pub taken_none : (segments : List Segment) (first : Chain) → AreTaken segments first first 0
taken_none segments first = record { setup = refl; goes_on = (λ joined. joined, λ joined. joined) }

pub taken_more : {X : Type 0} (xs : List X) (f : X → Segment) (first now new : Chain) (i : ℕ) (x : X) → i < length xs → x ≡ get_or xs i x
    → GoesOn now.books.setup now.lines now.books.books (f x) → new.lines ≡ now.lines + length (f x).lines.items → new.books.setup ≡ now.books.setup
    → new.books.books ≡ restep now.books.setup now.books.books (f x).lines.items → AreTaken (map f xs) first now i → AreTaken (map f xs) first new (i + 1)
taken_more xs f first now new i x within is goes lines setup books so_far =
    let step = goes_with now new (f x) (drop (i + 1) (map f xs)) goes lines setup books in
    let here = drop_mapped f xs i x within is in
    record {
      setup = setup ∙ so_far.setup;
      goes_on = (
        λ joined. so_far.goes_on.0 (subst (GoOn now) (sym here) (step.0 joined)),
        λ joined. step.1 (subst (GoOn now) here (so_far.goes_on.1 joined)),
      );
    }

pub taken_all : {X : Type 0} (xs : List X) (f : X → Segment) (first now : Chain) (i : ℕ) → length xs ≤ i → AreTaken (map f xs) first now i → GoOn first (map f xs)
unfolding AllGoOn
taken_all xs f first now i past so_far =
    so_far.goes_on.0 (subst (GoOn now) (sym (drop_all i (map f xs) (omega (arith, past, length-map xs f)))) tt)

-- where a segment does not go on, all do not
pub broken_here : {X : Type 0} (xs : List X) (f : X → Segment) (first now : Chain) (i : ℕ) (x : X) (fault : CloseFault) → i < length xs → x ≡ get_or xs i x
    → AreTaken (map f xs) first now i → IsBreak now.books.setup.shard (GoesOn now.books.setup now.lines now.books.books (f x)) fault
    → IsBreak first.books.setup.shard (GoOn first (map f xs)) fault
unfolding AllGoOn
broken_here xs f first now i x MissingPass within is so_far broken = broken
broken_here xs f first now i x (MissingSegment named) within is so_far broken = (
  broken.0 ∙ ap (λ (s : Setup). s.shard) so_far.setup,
  λ joined. broken.1 (subst (GoOn now) (drop_mapped f xs i x within is) (so_far.goes_on.1 joined)).0,
)
broken_here xs f first now i x (Mismatch named position) within is so_far broken = broken
broken_here xs f first now i x NoMemory within is so_far broken = tt

-- ---- a shard

-- the chain of a shard that has no line yet
begins : (config : Configuration) (shard : ℕ) (chain : Chain) (segments : List Segment) → chain.lines ≡ 0 → chain.books ≡ new_books_seen config shard
    → GoOn chain segments → AllGoOn (setup_of config shard) 0 (new_books config shard) segments
begins config shard chain segments none new joined =
    joined_from chain.books.setup (setup_of config shard) chain.lines 0 chain.books.books (new_books config shard) segments
    (ap (λ (seen : BooksSeen). seen.setup) new) none (ap (λ (seen : BooksSeen). seen.books) new) joined

begins_back : (config : Configuration) (shard : ℕ) (chain : Chain) (segments : List Segment) → chain.lines ≡ 0 → chain.books ≡ new_books_seen config shard
    → AllGoOn (setup_of config shard) 0 (new_books config shard) segments → GoOn chain segments
begins_back config shard chain segments none new joined =
    joined_from (setup_of config shard) chain.books.setup 0 chain.lines (new_books config shard) chain.books.books segments
    (sym (ap (λ (seen : BooksSeen). seen.setup) new)) (sym none) (sym (ap (λ (seen : BooksSeen). seen.books) new)) joined

-- a chain that has come through the segments of its shard has joined
pub joined_told : {T X : Type 0} (lent items : List X) (f : X → Segment) (config : Configuration) (shard : ℕ) (chain : Chain) (all : List Segment)
    (result : Result T CloseFault)
    → shard < config.settings.shards → chain.lines ≡ 0 → chain.books ≡ new_books_seen config shard → lent ≡ items → map f items ≡ of_shard shard all
    → OnOk result (GoOn chain (map f lent)) → OnOk result (HasJoined config all shard)
joined_told {T} {X} lent items f config shard chain all (Ok done) within none new same are joined = record {
  there = λ past. absurd (omega (arith, within, past));
  joined = begins config shard chain (of_shard shard all) none new (subst (GoOn chain) (ap (map f) same ∙ are) joined);
}
joined_told {T} {X} lent items f config shard chain all (Err fault) within none new same are joined = tt

pub broken_told : {T X : Type 0} (lent items : List X) (f : X → Segment) (config : Configuration) (shard : ℕ) (chain : Chain) (all : List Segment)
    (result : Result T CloseFault)
    → chain.lines ≡ 0 → chain.books ≡ new_books_seen config shard → lent ≡ items → map f items ≡ of_shard shard all
    → IfErr result (IsBreak chain.books.setup.shard (GoOn chain (map f lent))) → IfErr result (IsBreak shard (HasJoined config all shard))
broken_told {T} {X} lent items f config shard chain all (Ok done) none new same are broken = tt
broken_told {T} {X} lent items f config shard chain all (Err fault) none new same are broken =
    subst (λ (n : ℕ). IsBreak n (HasJoined config all shard) fault) (ap (λ (seen : BooksSeen). seen.setup.shard) new)
    (break_weaker chain.books.setup.shard (GoOn chain (map f lent)) (HasJoined config all shard) fault
    (λ (has : HasJoined config all shard).
    subst (GoOn chain) (sym (ap (map f) same ∙ are)) (begins_back config shard chain (of_shard shard all) none new has.joined))
    broken)

-- ---- all shards

-- a number that is no shard's and that no segment has
none_there : (config : Configuration) (segments : List Segment) (shard : ℕ) → of_shard shard segments ≡ [] → HasJoined config segments shard
unfolding AllGoOn
none_there config segments shard none = record {
  there = λ past. none;
  joined = subst (AllGoOn (setup_of config shard) 0 (new_books config shard)) (sym none) tt;
}

pub each_joined : (config : Configuration) (segments : List Segment) (last : ℕ) → config.settings.shards ≤ last
    → ((lower : ℕ) → lower < last → HasJoined config segments lower) → IsLowestAstray config.settings.shards segments None
    → (shard : ℕ) → HasJoined config segments shard
each_joined config segments last past lower none shard = by (cases_lt shard config.settings.shards)
  where
    by : (shard < config.settings.shards) ⊎ (config.settings.shards ≤ shard) → HasJoined config segments shard
    by (inl less) = lower shard (omega (arith, less, past))
    by (inr there) = none_there config segments shard (none shard there)

pub lowest_broken : (config : Configuration) (segments : List Segment) (last lowest : ℕ) → config.settings.shards ≤ last
    → ((lower : ℕ) → lower < last → HasJoined config segments lower) → IsLowestAstray config.settings.shards segments (Some lowest)
    → IsSegmentFault config segments (MissingSegment lowest)
lowest_broken config segments last lowest past lower found = (
  λ (has : HasJoined config segments lowest). found.1 (has.there found.0),
  λ shard less. by shard less (cases_lt shard config.settings.shards),
)
  where
    by : (shard : ℕ) → shard < lowest → (shard < config.settings.shards) ⊎ (config.settings.shards ≤ shard) → HasJoined config segments shard
    by shard less (inl within) = lower shard (omega (arith, within, past))
    by shard less (inr there) = none_there config segments shard (found.2 shard there less)

-- a break of a shard where all lower ones join
pub first_broken : (config : Configuration) (segments : List Segment) (shard : ℕ) (fault : CloseFault)
    → ((lower : ℕ) → lower < shard → HasJoined config segments lower) → IsBreak shard (HasJoined config segments shard) fault
    → IsSegmentFault config segments fault
first_broken config segments shard MissingPass lower broken = broken
first_broken config segments shard (MissingSegment named) lower broken =
    subst (λ (n : ℕ). (HasJoined config segments n → ⊥) × ((less : ℕ) → less < n → HasJoined config segments less)) (sym broken.0) (broken.1, lower)
first_broken config segments shard (Mismatch named position) lower broken = broken
first_broken config segments shard NoMemory lower broken = tt

-- one shard more
pub below_more : (P : ℕ → Type 0) (shard : ℕ) → ((lower : ℕ) → lower < shard → P lower) → P shard → (lower : ℕ) → lower < shard + 1 → P lower
below_more P shard lower here number less = by (cases_lt number shard)
  where
    by : (number < shard) ⊎ (shard ≤ number) → P number
    by (inl below) = lower number below
    by (inr above) = subst P (omega (arith, above, less)) here

pub joined_more : (config : Configuration) (segments : List Segment) (shard : ℕ) → ((lower : ℕ) → lower < shard → HasJoined config segments lower)
    → HasJoined config segments shard → (lower : ℕ) → lower < shard + 1 → HasJoined config segments lower
joined_more config segments shard lower here = below_more (HasJoined config segments) shard lower here

-- ---- numbers that are no shard's

-- one segment behind others
one_behind : (shard : ℕ) (before : List Segment) (segment : Segment) (t : Bool) → (segment.shard == shard) ≡ t
    → of_shard shard (before ++ segment ∷ []) ≡ of_shard shard before ++ cond t (segment ∷ []) []
one_behind shard before segment t test =
    filter-append (λ (s : Segment). s.shard == shard) before (segment ∷ [])
    ∙ ap (λ (b : Bool). of_shard shard before ++ cond b (segment ∷ []) []) test

behind_none : (shard : ℕ) (before : List Segment) (segment : Segment) → (segment.shard ≡ shard → ⊥) → of_shard shard before ≡ []
    → of_shard shard (before ++ segment ∷ []) ≡ []
behind_none shard before segment other none =
    one_behind shard before segment false (ne_eqb segment.shard shard other) ∙ append-nil (of_shard shard before) ∙ none

behind_some : (shard : ℕ) (before : List Segment) (segment : Segment) → segment.shard ≡ shard → of_shard shard (before ++ segment ∷ []) ≡ [] → ⊥
behind_some shard before segment same none =
    let long : length (of_shard shard before ++ segment ∷ []) ≡ 0 =
    ap length (sym (one_behind shard before segment true (eq-eqb segment.shard shard same)) ∙ none) in
    omega (arith, long, length-append (of_shard shard before) (segment ∷ []))

-- what one had before it still has
behind_still : (shard : ℕ) (before : List Segment) (segment : Segment) → (of_shard shard before ≡ [] → ⊥) → of_shard shard (before ++ segment ∷ []) ≡ [] → ⊥
behind_still shard before segment some none = by (of_shard shard before) refl
  where
    by : (all : List Segment) → of_shard shard before ≡ all → ⊥
    by [] is = some is
    by (one ∷ all) is =
        let long : length (of_shard shard before ++ of_shard shard (segment ∷ [])) ≡ 0 =
        ap length (sym (filter-append (λ (s : Segment). s.shard == shard) before (segment ∷ [])) ∙ none) in
        omega (arith, long, length-append (of_shard shard before) (of_shard shard (segment ∷ [])), ap length is)

pub astray_not : (shards : ℕ) (found : Option ℕ) (number : ℕ) (before : List Segment) (segment : Segment) → number < shards → segment.shard ≡ number
    → IsLowestAstray shards before found → IsLowestAstray shards (before ++ segment ∷ []) found
astray_not shards None number before segment within is found =
    λ shard past. behind_none shard before segment (λ same. omega (arith, within, is, same, past)) (found shard past)
astray_not shards (Some lowest) number before segment within is found = (
  found.0,
  behind_still lowest before segment found.1,
  λ shard past less. behind_none shard before segment (λ same. omega (arith, within, is, same, past)) (found.2 shard past less),
)

pub astray_first : (shards number : ℕ) (before : List Segment) (segment : Segment) → shards ≤ number → segment.shard ≡ number → IsLowestAstray shards before None
    → IsLowestAstray shards (before ++ segment ∷ []) (Some number)
astray_first shards number before segment past is found = (
  past,
  behind_some number before segment is,
  λ shard there less. behind_none shard before segment (λ same. omega (arith, is, same, less)) (found shard there),
)

pub astray_lower : (shards lowest number : ℕ) (before : List Segment) (segment : Segment) → shards ≤ number → segment.shard ≡ number
    → IsLowestAstray shards before (Some lowest) → IsLowestAstray shards (before ++ segment ∷ []) (Some (min lowest number))
astray_lower shards lowest number before segment past is found = by (cases_lt number lowest)
  where
    by : (number < lowest) ⊎ (lowest ≤ number) → IsLowestAstray shards (before ++ segment ∷ []) (Some (min lowest number))
    by (inl less) =
        let same : min lowest number ≡ number = omega (arith, less) in
        subst (λ (n : ℕ). IsLowestAstray shards (before ++ segment ∷ []) (Some n)) (sym same) (
          past,
          behind_some number before segment is,
          λ shard there below. behind_none shard before segment (λ one. omega (arith, is, one, below)) (found.2 shard there (omega (arith, below, less))),
        )
    by (inr more) =
        let same : min lowest number ≡ lowest = omega (arith, more) in
        subst (λ (n : ℕ). IsLowestAstray shards (before ++ segment ∷ []) (Some n)) (sym same) (
          found.0,
          behind_still lowest before segment found.1,
          λ shard there below. behind_none shard before segment (λ one. omega (arith, is, one, below, more)) (found.2 shard there below),
        )

-- the loop over segments
pub astray_more : (shards : ℕ) (found lowest new : Option ℕ) (segments : List Segment) (i : ℕ) (segment : Segment) → i < length segments
    → segment ≡ get_or segments i segment
    → ((before : List Segment) → IsLowestAstray shards before found → IsLowestAstray shards (before ++ take i segments) lowest)
    → ((before : List Segment) (one : Segment) → one.shard ≡ segment.shard → IsLowestAstray shards before lowest → IsLowestAstray shards (before ++ one ∷ []) new)
    → (before : List Segment) → IsLowestAstray shards before found → IsLowestAstray shards (before ++ take (i + 1) segments) new
astray_more shards found lowest new segments i segment within is so_far step before start =
    subst (λ (all : List Segment). IsLowestAstray shards all new)
    (append_assoc before (take i segments) (segment ∷ [])
    ∙ ap (λ (all : List Segment). before ++ all)
    (ap (λ (s : Segment). take i segments ++ s ∷ []) is ∙ sym (take_more segments i segment within)))
    (step (before ++ take i segments) segment refl (so_far before start))

pub astray_none : (shards : ℕ) (segments : List Segment) (found : Option ℕ) (before : List Segment) → IsLowestAstray shards before found
    → IsLowestAstray shards (before ++ take 0 segments) found
astray_none shards segments found before start =
    subst (λ (all : List Segment). IsLowestAstray shards all found) (sym (append-nil before)) start

pub astray_all : (shards : ℕ) (segments : List Segment) (found lowest : Option ℕ) (i : ℕ) → length segments ≤ i
    → ((before : List Segment) → IsLowestAstray shards before found → IsLowestAstray shards (before ++ take i segments) lowest)
    → (before : List Segment) → IsLowestAstray shards before found → IsLowestAstray shards (before ++ segments) lowest
astray_all shards segments found lowest i past so_far before start =
    subst (λ (all : List Segment). IsLowestAstray shards (before ++ all) lowest) (take_all i segments past) (so_far before start)

-- no segment has no number
pub astray_empty : (shards : ℕ) → IsLowestAstray shards [] None
astray_empty shards shard past = refl

pub ruleset one_line = (line_made, line_not_made)

pub ruleset line_steps = (made_none, made_more, made_room, made_taken, made_count, made_books, line_broken)

pub ruleset segment_steps = (goes_so, goes_not, broken_by_lines)

pub ruleset chain_steps = taken_none

pub ruleset astray_steps = (astray_more, astray_none, astray_all)

pub ruleset segments_steps = (joined_more, first_broken, each_joined, lowest_broken, astray_empty)

pub ruleset lower_steps = (astray_not, astray_first, astray_lower)
