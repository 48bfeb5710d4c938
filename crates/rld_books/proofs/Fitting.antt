-- What goes on of a book can be put back.
use Rattle.std.proofs.Common.{◌≡◌, ◌≤◌, List, [], ◌∷◌, map, length, Bool, true, false, cond, Some, None, refl, arith}
use Rattle.std.specs.Prelude.{filter, nat_lt}
use Rattle.std.proofs.lemmas.Bool.{le-ltb, ltb-false}
use Rattle.rsl_accounts.specs.declared.rules.Rules.{Rules}
use Rattle.rsl_book.specs.Restored.{misfit}
use Rattle.rsl_book.specs.declared.restore_fault.RestoreFault.{RestoreFault}
use Rattle.rsl_book.specs.declared.restore_fault.RestoreFault.TheVariants.{TooManyAsks, TooManyPlaces, TooManyStops}
use Rattle.rsl_session.specs.Ask.{KEPT_ASKS}
use Rattle.rsl_session.specs.Book.{Book, bundles_in, new_book, places_in}
use Rattle.rsl_session.specs.Closed.{KEPT_STOPS}
use Rattle.rsl_session.specs.Places.{each_bundle, places_of}
use Rattle.rsl_session.specs.declared.kept.KeptAsk.{KeptAsk}
use Rattle.rsl_session.specs.declared.kept.KeptStop.{KeptStop}
use Rattle.rld_books.specs.Carried.{Next, asks_on, carried_ask, carried_book, carried_stop, goes_on, stops_on}
use Rattle.rld_books.specs.Laws.{CarriedBooksFit}
use Rattle.rld_books.proofs.Carrying.{limit_holds}

fewer : {X Y : Type 0} (keep : X → Bool) (change : X → Y) (xs : List X) → length (map change (filter keep xs)) ≤ length xs
fewer keep change [] = omega arith
fewer keep change (x ∷ xs) = by (keep x) (fewer keep change xs)
  where
    by : (t : Bool) → length (map change (filter keep xs)) ≤ length xs → length (map change (cond t (x ∷ filter keep xs) (filter keep xs))) ≤ length (x ∷ xs)
    by true rest = omega (arith, rest)
    by false rest = omega (arith, rest)

few_asks : (next : Next) (asks : List KeptAsk) → length (asks_on next asks) ≤ length asks
unfolding asks_on
few_asks next asks = fewer (λ (ask : KeptAsk). goes_on next ask.nas) (carried_ask next) asks

few_stops : (next : Next) (stops : List KeptStop) → length (stops_on next stops) ≤ length stops
unfolding stops_on
few_stops next stops = fewer (λ (stop : KeptStop). goes_on next stop.session.nas) (carried_stop next) stops

some_none : (fault : RestoreFault) → Some fault ≡ None → ⊥
some_none fault e = cc

-- what no fault says of a book
record IsFew (book : Book) : Type 0 where
  asks : length book.asks ≤ 8
  stops : length book.stops ≤ 16

no_fault : (rules : Rules) (book : Book) → misfit rules book ≡ None → IsFew book
unfolding misfit
no_fault rules book none = by (nat_lt KEPT_ASKS (length book.asks)) (nat_lt KEPT_STOPS (length book.stops)) refl refl none
  where
    by : (a s : Bool) → nat_lt KEPT_ASKS (length book.asks) ≡ a → nat_lt KEPT_STOPS (length book.stops) ≡ s
        → cond a (Some TooManyAsks) (cond s (Some TooManyStops) (cond (nat_lt rules.places (places_in rules book)) (Some TooManyPlaces) None)) ≡ None → IsFew book
    by true s asks stops none = absurd (some_none TooManyAsks none)
    by false true asks stops none = absurd (some_none TooManyStops none)
    by false false asks stops none = record {
      asks = ltb-false KEPT_ASKS (length book.asks) asks;
      stops = ltb-false KEPT_STOPS (length book.stops) stops;
    }

fits : (rules : Rules) (book : Book) → length book.asks ≤ 8 → length book.stops ≤ 16 → places_in rules book ≤ rules.places → misfit rules book ≡ None
unfolding misfit
fits rules book asks stops places =
    rw (le-ltb KEPT_ASKS (length book.asks) asks, le-ltb KEPT_STOPS (length book.stops) stops, le-ltb rules.places (places_in rules book) places) refl

pub fits_again : CarriedBooksFit
unfolding carried_book
fits_again next before rules book none =
    let few = no_fault before book none in
    fits rules (carried_book next rules book) (omega (arith, few_asks next book.asks, few.asks)) (omega (arith, few_stops next book.stops, few.stops)) (limit_holds next rules book)

-- a new book fits any rules
no_places : (rules : Rules) → places_in rules new_book ≡ 0
unfolding places_in bundles_in new_book places_of each_bundle
no_places rules = refl

few_in_new : IsFew new_book
unfolding new_book
few_in_new = record { asks = omega arith; stops = omega arith }

pub new_fits : (rules : Rules) → misfit rules new_book ≡ None
new_fits rules = fits rules new_book few_in_new.asks few_in_new.stops (omega (arith, no_places rules))
