-- The reservation that an alive with no class takes has the lowest number.
use Rattle.std.proofs.Common.{◌≡◌, ℕ, suc, ◌+◌, ◌<◌, ◌≤◌, List, [], ◌∷◌, ◌++◌, length, Bool, true, false, cond, ◌&&◌, refl, ap, sym, ◌∙◌, subst, inl, inr, arith}
use Rattle.std.specs.Prelude.{Option, Some, None, filter, find, ⊤}
use Rattle.std.specs.List.{list_all, AllByRecursion}
use Rattle.std.proofs.lemmas.Bool.{cases_eq, and_parts, and_from, eq-eqb, ne_eqb, eqb-true}
use Rattle.rsl_accounts.specs.declared.rules.Rules.{Rules}
use Rattle.rsl_event.specs.declared.event.Event.{Event}
use Rattle.rsl_event.specs.declared.nas.Nas.{Nas}
use Rattle.rsl_session.specs.declared.past_event.PastEvent.{PastEvent}
use Rattle.rsl_session.specs.declared.outcome.Outcome.{Outcome}
use Rattle.rsl_session.specs.declared.outcome.Outcome.TheVariants.{Accepted, AcceptedInPlace, Refused, Repeated, Opened, Took, Renewed, Ignored, Over, Passed}
use Rattle.rsl_session.specs.Past.{Past}
use Rattle.rsl_session.specs.Link.{links, opens, number_of, number_at}
use Rattle.rsl_session.specs.Binding.{is_reserved}
use Rattle.rsl_session.specs.Held.{held_links, held_before, is_at}
use Rattle.rsl_session.specs.Ask.{accepts}
use Rattle.rsl_session.specs.Alive.{is_chosen, is_number, reservation_of}
use Rattle.rsl_session.specs.Rule.{IsRuled}
use Rattle.rsl_session.proofs.Callers.{is_in, is_in-true, links-in}
use Rattle.rsl_rule.proofs.Numbers.{accepts-cons, IsNext, IsNext-outcome_of}
use Rattle.rsl_rule.proofs.Shift.{number_cons, number_later, number_nil}

-- links stand in the order in which they opened
pub IsAscending : List ℕ → Type 0
IsAscending [] = ⊤
IsAscending (x ∷ xs) = AllByRecursion (λ y. x ≤ y) xs × IsAscending xs

below_push : (x : ℕ) (xs : List ℕ) (y : ℕ) → AllByRecursion (λ z. x ≤ z) xs → x ≤ y → AllByRecursion (λ z. x ≤ z) (xs ++ y ∷ [])
below_push x [] y all here = (here, tt)
below_push x (z ∷ xs) y all here = (all.0, below_push x xs y all.1 here)

ascending_push : (xs : List ℕ) (n : ℕ) (t : ℕ → Bool) → ((x : ℕ) → t x ≡ true → x ≤ n) → list_all t xs ≡ true → IsAscending xs → IsAscending (xs ++ n ∷ [])
unfolding IsAscending
ascending_push [] n t within all ascending = (tt, tt)
ascending_push (x ∷ xs) n t within all ascending =
    let parts = and_parts (t x) (list_all t xs) all in
    (below_push x xs n ascending.0 (within x parts.0), ascending_push xs n t within parts.1 ascending.1)

links_ascend : (past : Past) → IsAscending (links past)
unfolding links IsAscending
links_ascend [] = tt
links_ascend (entry ∷ past) = by_cases (opens entry.outcome) (links_ascend past) where
  by_cases : (new : Bool) → IsAscending (links past) → IsAscending (cond new (links past ++ suc (length past) ∷ []) (links past))
  by_cases true older = ascending_push (links past) (suc (length past)) (is_in past) (λ x within. omega (arith, is_in-true past x within)) (links-in past) older
  by_cases false older = older

below_filter : (x : ℕ) (p : ℕ → Bool) (xs : List ℕ) → AllByRecursion (λ z. x ≤ z) xs → AllByRecursion (λ z. x ≤ z) (filter p xs)
below_filter x p [] all = tt
below_filter x p (y ∷ xs) all = by_cases (p y) (below_filter x p xs all.1) where
  by_cases : (kept : Bool) → AllByRecursion (λ z. x ≤ z) (filter p xs) → AllByRecursion (λ z. x ≤ z) (cond kept (y ∷ filter p xs) (filter p xs))
  by_cases true rest = (all.0, rest)
  by_cases false rest = rest

pub ascending_filter : (p : ℕ → Bool) (xs : List ℕ) → IsAscending xs → IsAscending (filter p xs)
unfolding IsAscending
ascending_filter p [] ascending = tt
ascending_filter p (x ∷ xs) ascending = by_cases (p x) (ascending_filter p xs ascending.1) where
  by_cases : (kept : Bool) → IsAscending (filter p xs) → IsAscending (cond kept (x ∷ filter p xs) (filter p xs))
  by_cases true rest = (below_filter x p xs ascending.0, rest)
  by_cases false rest = rest

pub held_before_ascends : (rules : Rules) (past : Past) (event : Event) → IsAscending (held_before rules past event)
unfolding held_links held_before
held_before_ascends rules past event = ascending_filter _ _ (ascending_filter _ (links past) (links_ascend past))

-- what is found of the fewer is not before what is found of the more
found_above : (q : ℕ → Bool) (x b : ℕ) (xs : List ℕ) → AllByRecursion (λ y. x ≤ y) xs → find q xs ≡ Some b → x ≤ b
found_above q x b [] all found = cc
found_above q x b (y ∷ xs) all found = by_cases (q y) found (found_above q x b xs all.1) where
  by_cases : (here : Bool) → cond here (Some y) (find q xs) ≡ Some b → (find q xs ≡ Some b → x ≤ b) → x ≤ b
  by_cases true found rest = let same : y ≡ b = cc in omega (arith, all.0)
  by_cases false found rest = rest found

found_in_order : (p q : ℕ → Bool) → ((x : ℕ) → q x ≡ true → p x ≡ true) → (xs : List ℕ) (a b : ℕ) → IsAscending xs → find p xs ≡ Some a → find q xs ≡ Some b → a ≤ b
unfolding IsAscending
found_in_order p q implies [] a b ascending one other = cc
found_in_order p q implies (x ∷ xs) a b ascending one other = by_cases (p x) (q x) (implies x) one other (found_in_order p q implies xs a b ascending.1) where
  by_cases : (is_p is_q : Bool) → (is_q ≡ true → is_p ≡ true) → cond is_p (Some x) (find p xs) ≡ Some a → cond is_q (Some x) (find q xs) ≡ Some b
      → (find p xs ≡ Some a → find q xs ≡ Some b → a ≤ b) → a ≤ b
  by_cases true true both one other rest = let same : x ≡ a = cc in let here : x ≡ b = cc in omega arith
  by_cases true false both one other rest = let same : x ≡ a = cc in omega (arith, found_above q x b xs ascending.0 other)
  by_cases false true both one other rest = let contradiction : false ≡ true = both refl in cc
  by_cases false false both one other rest = rest one other

-- what is found is not after another that passes
pub found_first : (p : ℕ → Bool) (xs : List ℕ) (a : ℕ) → IsAscending xs → find p xs ≡ Some a → AllByRecursion (λ y. p y ≡ true → a ≤ y) xs
unfolding IsAscending
found_first p [] a ascending found = tt
found_first p (x ∷ xs) a ascending found = by_cases (p x) refl found (found_first p xs a ascending.1) where
  passing : (ys : List ℕ) → AllByRecursion (λ y. x ≤ y) ys → AllByRecursion (λ y. p y ≡ true → x ≤ y) ys
  passing [] all = tt
  passing (y ∷ ys) all = ((λ is. all.0), passing ys all.1)

  by_cases : (here : Bool) → p x ≡ here → cond here (Some x) (find p xs) ≡ Some a → (find p xs ≡ Some a → AllByRecursion (λ y. p y ≡ true → a ≤ y) xs)
      → (p x ≡ true → a ≤ x) × AllByRecursion (λ y. p y ≡ true → a ≤ y) xs
  by_cases true is found rest =
      let same : x ≡ a = cc in
      subst (λ n. (p x ≡ true → n ≤ x) × AllByRecursion (λ y. p y ≡ true → n ≤ y) xs) same ((λ passes. omega arith), passing xs ascending.0)
  by_cases false is found rest = ((λ passes. let contradiction : false ≡ true = sym is ∙ passes in cc), rest found)

pub found_passes : (p : ℕ → Bool) (xs : List ℕ) (a : ℕ) → find p xs ≡ Some a → p a ≡ true
found_passes p [] a found = cc
found_passes p (x ∷ xs) a found = by_cases (p x) refl found (found_passes p xs a) where
  by_cases : (here : Bool) → p x ≡ here → cond here (Some x) (find p xs) ≡ Some a → (find p xs ≡ Some a → p a ≡ true) → p a ≡ true
  by_cases true is found rest = let same : x ≡ a = cc in subst (λ n. p n ≡ true) same is
  by_cases false is found rest = rest found

-- a later link has a higher number
next_is : (past : Past) (outcome : Outcome) (a : ℕ) → IsNext past outcome → number_of outcome ≡ Some a → a ≡ accepts past
unfolding IsNext number_of
next_is past (Accepted number) a next given = let same : number ≡ a = cc in sym same ∙ next
next_is past (AcceptedInPlace number yielded) a next given = let same : number ≡ a = cc in sym same ∙ next
next_is past Refused a next given = cc
next_is past (Repeated decision) a next given = cc
next_is past Opened a next given = cc
next_is past (Took link) a next given = cc
next_is past (Renewed link) a next given = cc
next_is past Ignored a next given = cc
next_is past Over a next given = cc
next_is past Passed a next given = cc

number_here : (rules : Rules) (entry : PastEvent) (past : Past) (link a : ℕ) → IsRuled rules (entry ∷ past) → link ≡ suc (length past) → number_at link (entry ∷ past) ≡ Some a
    → (a ≡ accepts past) × (accepts (entry ∷ past) ≡ 1 + accepts past)
unfolding IsRuled
number_here rules entry past link a ruled here given =
    let given_here : number_of entry.outcome ≡ Some a = rw (eq-eqb link (suc (length past)) here) at (sym (number_cons link entry past) ∙ given) in (
      next_is past entry.outcome a (subst (IsNext past) (sym ruled.0) (IsNext-outcome_of rules past entry.event)) given_here,
      rw given_here at (accepts-cons entry past),
    )

number_older : (entry : PastEvent) (past : Past) (link : ℕ) → (link ≡ suc (length past) → ⊥) → number_at link (entry ∷ past) ≡ number_at link past
number_older entry past link other = number_cons link entry past ∙ rw (ne_eqb link (suc (length past)) other) refl

number_below : (rules : Rules) (past : Past) (link a : ℕ) → IsRuled rules past → number_at link past ≡ Some a → a < accepts past
unfolding IsRuled
number_below rules [] link a ruled given = let none = number_nil link in cc
number_below rules (entry ∷ past) link a ruled given =
    elim (cases_eq link (suc (length past))) [
      | inl here ↦ omega (arith, (number_here rules entry past link a ruled here given).0, (number_here rules entry past link a ruled here given).1)
      | inr other ↦
          let older = number_below rules past link a ruled.1 (sym (number_older entry past link other) ∙ given) in
          omega (arith, accepts-cons entry past)
    ]

number_order : (rules : Rules) (past : Past) (one other a b : ℕ) → IsRuled rules past → one ≤ other → number_at one past ≡ Some a → number_at other past ≡ Some b → a ≤ b
unfolding IsRuled
number_order rules [] one other a b ruled order first second = let none = number_nil one in cc
number_order rules (entry ∷ past) one other a b ruled order first second =
    elim (cases_eq other (suc (length past))) [
      | inl last ↦ elim (cases_eq one (suc (length past))) [
        | inl both ↦ omega (arith, (number_here rules entry past other b ruled last second).0, (number_here rules entry past one a ruled both first).0)
        | inr older ↦
            omega (arith, (number_here rules entry past other b ruled last second).0, number_below rules past one a ruled.1 (sym (number_older entry past one older) ∙ first))
      ]
      | inr before ↦ elim (cases_eq one (suc (length past))) [
        | inl last ↦
            let none : number_at other past ≡ None = number_later past other (omega (arith, before)) in
            let some : number_at other past ≡ Some b = sym (number_older entry past other before) ∙ second in
            cc
        | inr older ↦
            number_order rules past one other a b ruled.1 order (sym (number_older entry past one older) ∙ first) (sym (number_older entry past other before) ∙ second)
      ]
    ]

-- a link that a class names can be taken without a class
chosen_without_class : (past : Past) (nas : Nas) (b link : ℕ) → is_chosen past nas (Some b) link ≡ true → is_chosen past nas None link ≡ true
unfolding is_chosen
chosen_without_class past nas b link chosen =
    let parts = and_parts (is_reserved past link && is_at past nas link) (is_number (Some b) (number_at link past)) chosen in
    and_from _ _ parts.0 refl

named : (number : Option ℕ) (b : ℕ) → is_number (Some b) number ≡ true → number ≡ Some b
named None b is = cc
named (Some a) b is = ap Some (eqb-true a b is)

chosen_number : (past : Past) (nas : Nas) (b link : ℕ) → is_chosen past nas (Some b) link ≡ true → number_at link past ≡ Some b
unfolding is_chosen
chosen_number past nas b link chosen =
    named (number_at link past) b (and_parts (is_reserved past link && is_at past nas link) (is_number (Some b) (number_at link past)) chosen).1

pub lowest : (rules : Rules) (past : Past) (event : Event) (nas : Nas) (link other a b : ℕ) → IsRuled rules past
    → reservation_of rules past event nas None ≡ Some link → number_at link past ≡ Some a → reservation_of rules past event nas (Some b) ≡ Some other → a ≤ b
unfolding reservation_of
lowest rules past event nas link other a b ruled taken number named_other =
    let order : link ≤ other =
    found_in_order (is_chosen past nas None) (is_chosen past nas (Some b)) (chosen_without_class past nas b) (held_before rules past event) link other
    (held_before_ascends rules past event) taken named_other in
    let chosen = found_passes (is_chosen past nas (Some b)) (held_before rules past event) other named_other in
    number_order rules past link other a b ruled order number (chosen_number past nas b other chosen)
