-- What came since some moment, one entry further on, for the loop that looks for a sweep.
use Rattle.std.proofs.Common.{◌≡◌, ℕ, ◌+◌, ◌<◌, ◌≤◌, max, List, ◌∷◌, drop, get_or, length, true, false, ◌||◌, refl, ap, sym, ◌∙◌}
use Rattle.std.proofs.lemmas.List.{drop_more, drop_all}
use Rattle.rsl_event.specs.declared.nas.Nas.{Nas}
use Rattle.rsl_session.specs.declared.past_event.PastEvent.{PastEvent}
use Rattle.rsl_session.specs.Sweep.{swept_in, voids}
use Rattle.rsl_rule.specs.Since.{acts_since}

pub rest_more : (xs : List PastEvent) (i : ℕ) (x : PastEvent) → i < length xs → x ≡ get_or xs i x → drop i xs ≡ x ∷ drop (i + 1) xs
rest_more xs i x within is = drop_more xs i x within ∙ ap (λ y. y ∷ drop (i + 1) xs) (sym is)

swept_more : (xs : List PastEvent) (i now : ℕ) (x : PastEvent) (nas : Nas) (at : ℕ) → i < length xs → x ≡ get_or xs i x
    → swept_in (acts_since now (drop i xs)) nas at
    ≡ (voids nas at (max now x.event.moment) x.event.act || swept_in (acts_since (max now x.event.moment) (drop (i + 1) xs)) nas at)
unfolding swept_in acts_since
swept_more xs i now x nas at within is = rw (rest_more xs i x within is) refl

pub swept_yes : (xs : List PastEvent) (i now next : ℕ) (x : PastEvent) (nas : Nas) (at : ℕ) → i < length xs → x ≡ get_or xs i x → next ≡ max now x.event.moment
    → voids nas at next x.event.act ≡ true → swept_in (acts_since now (drop i xs)) nas at ≡ true
swept_yes xs i now next x nas at within is later void = swept_more xs i now x nas at within is ∙ rw (sym later, void) refl

pub swept_no : (xs : List PastEvent) (i now next : ℕ) (x : PastEvent) (nas : Nas) (at : ℕ) → i < length xs → x ≡ get_or xs i x → next ≡ max now x.event.moment
    → voids nas at next x.event.act ≡ false → swept_in (acts_since now (drop i xs)) nas at ≡ swept_in (acts_since next (drop (i + 1) xs)) nas at
swept_no xs i now next x nas at within is later void = swept_more xs i now x nas at within is ∙ rw (sym later, void) refl

pub swept_end : (xs : List PastEvent) (i now : ℕ) (nas : Nas) (at : ℕ) → length xs ≤ i → swept_in (acts_since now (drop i xs)) nas at ≡ false
unfolding swept_in acts_since
swept_end xs i now nas at all = rw (drop_all i xs all) refl

pub ruleset swept_steps = (swept_yes, swept_no, swept_end)
