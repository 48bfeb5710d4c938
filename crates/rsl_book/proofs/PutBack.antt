-- A book that is put back step by step: its numbers, its links, its asks and its stops.
use Rattle.std.proofs.Common.{◌≡◌, ℕ, ◌+◌, ◌<◌, ◌≤◌, List, [], ◌∷◌, ◌++◌, take, drop, get_or, length, refl, ap, sym, ◌∙◌, subst}
use Rattle.std.specs.Prelude.{Option, None, Ok, Err}
use Rattle.std.proofs.lemmas.Bool.{lt-ltb, le-ltb}
use Rattle.std.proofs.lemmas.List.{map-append}
use Rattle.rsl_accounts.specs.declared.rules.Rules.{Rules}
use Rattle.rsl_accounts.specs.Limits.{RulesFit}
use Rattle.rsl_event.specs.declared.nas.Nas.{Nas}
use Rattle.rsl_session.specs.declared.kept.KeptAsk.{KeptAsk}
use Rattle.rsl_session.specs.declared.kept.KeptStop.{KeptStop}
use Rattle.rsl_session.specs.Places.{places_of}
use Rattle.rsl_session.specs.Book.{Book, BookLink, bundles_in, new_book, places_in}
use Rattle.rsl_links.specs.declared.link.Holder.{Holder as LinkHolder}
use Rattle.rsl_links.specs.Seen.{bundle_with, holder_at}
use Rattle.rsl_session.specs.declared.saved.SavedBook.{SavedBook}
use Rattle.rsl_session.specs.declared.saved.SavedLink.{SavedLink}
use Rattle.rsl_session.specs.Saved.{saved_book, saved_holder, saved_link, saved_links}
use Rattle.rsl_book.specs.RuledBook.{RuledBook}
use Rattle.rsl_book.specs.Restored.{misfit, restored}
use Rattle.rsl_book.specs.declared.restore_fault.RestoreFault.TheVariants.{TooManyAsks, TooManyStops, TooManyPlaces}
use Rattle.rsl_book.proofs.OneByOne.{full_before, kept_more, links_more}

abbrev pub with_numbers : RuledBook → (clock accepts over : ℕ) → RuledBook
with_numbers ruled clock accepts over = record ruled { book = record ruled.book { clock = clock; accepts = accepts; over = over } }

abbrev pub with_links : RuledBook → List BookLink → RuledBook
with_links ruled links = record ruled { book = record ruled.book { links = links } }

abbrev pub with_asks : RuledBook → List KeptAsk → RuledBook
with_asks ruled asks = record ruled { book = record ruled.book { asks = asks } }

abbrev pub with_stops : RuledBook → List KeptStop → RuledBook
with_stops ruled stops = record ruled { book = record ruled.book { stops = stops } }

-- a link as it was saved
pub as_saved : (link : SavedLink) (nas : Nas) (holder : LinkHolder) (bundle station : Option (List ℕ)) → nas ≡ link.nas → ((at : Nas) → holder_at at holder ≡ saved_holder at link.holder) → bundle ≡ link.bundle → station ≡ link.station
    → (let made : BookLink = record { nas = nas; holder = holder_at nas holder; bundle = bundle_with nas bundle; station = station; opened = link.opened; touched = link.touched } in made ≡ saved_link link)
unfolding saved_link
as_saved link nas holder bundle station same_nas same_holder same_bundle same_station = rw (same_holder nas, same_nas, same_bundle, same_station) refl

pub full_with : (ports limit : ℕ) (links : List BookLink) (link : SavedLink) (nas : Nas) (bundle : Option (List ℕ)) → nas ≡ link.nas → bundle ≡ link.bundle
    → limit < places_of ports (bundles_in links ++ bundle_with nas bundle ∷ []) → limit < places_of ports (bundles_in (links ++ saved_link link ∷ []))
unfolding bundles_in saved_link
full_with ports limit links link nas bundle same_nas same_bundle full =
    let all : bundles_in (links ++ saved_link link ∷ []) ≡ bundles_in links ++ bundle_with nas bundle ∷ [] =
    map-append (λ (link : BookLink). link.bundle) links (saved_link link ∷ []) ∙ rw (same_nas, same_bundle) refl in
    subst (λ all. limit < places_of ports all) (sym all) full

-- links put back one by one
pub none_put : (ruled : RuledBook) (saved : List SavedLink) → ruled.book.links ≡ [] → ruled ≡ with_links ruled (saved_links (take 0 saved))
unfolding saved_links
none_put ruled saved none = ap (with_links ruled) none

pub link_put : (begun now new : RuledBook) (saved : List SavedLink) (i : ℕ) (x : SavedLink) → i < length saved → x ≡ get_or saved i x
    → now ≡ with_links begun (saved_links (take i saved)) → new ≡ with_links now (now.book.links ++ saved_link x ∷ [])
    → new ≡ with_links begun (saved_links (take (i + 1) saved))
link_put begun now new saved i x within is so_far put =
    put ∙ ap (λ (ruled : RuledBook). with_links ruled (ruled.book.links ++ saved_link x ∷ [])) so_far ∙ ap (with_links begun) (links_more saved i x within is)

pub link_not_put : (begun now : RuledBook) (saved : List SavedLink) (i : ℕ) (x : SavedLink) → RulesFit begun.rules → i < length saved → x ≡ get_or saved i x
    → now ≡ with_links begun (saved_links (take i saved)) → now.rules.places < places_of now.rules.ports (bundles_in (now.book.links ++ saved_link x ∷ []))
    → begun.rules.places < places_of begun.rules.ports (bundles_in (saved_links saved))
link_not_put begun now saved i x fit within is so_far full =
    full_before begun.rules.ports begun.rules.places saved i x fit.a_port within is
    (subst (λ (ruled : RuledBook). ruled.rules.places < places_of ruled.rules.ports (bundles_in (ruled.book.links ++ saved_link x ∷ []))) so_far full)

-- asks and stops put back one by one, the last first
pub ask_put : (begun now new : RuledBook) (saved : List KeptAsk) (k i : ℕ) (x : KeptAsk) → k ≡ i + 1 → i < length saved → length saved ≤ 8 → x ≡ get_or saved i x
    → now ≡ with_asks begun (drop k saved) → new ≡ with_asks now (take 8 (x ∷ now.book.asks)) → new ≡ with_asks begun (drop i saved)
ask_put begun now new saved k i x next within few is so_far put =
    put ∙ ap (λ (ruled : RuledBook). with_asks ruled (take 8 (x ∷ ruled.book.asks))) (so_far ∙ ap (λ n. with_asks begun (drop n saved)) next)
    ∙ ap (with_asks begun) (kept_more 8 saved i x within few is)

pub stop_put : (begun now new : RuledBook) (saved : List KeptStop) (k i : ℕ) (x : KeptStop) → k ≡ i + 1 → i < length saved → length saved ≤ 16 → x ≡ get_or saved i x
    → now ≡ with_stops begun (drop k saved) → new ≡ with_stops now (take 16 (x ∷ now.book.stops)) → new ≡ with_stops begun (drop i saved)
stop_put begun now new saved k i x next within few is so_far put =
    put ∙ ap (λ (ruled : RuledBook). with_stops ruled (take 16 (x ∷ ruled.book.stops))) (so_far ∙ ap (λ n. with_stops begun (drop n saved)) next)
    ∙ ap (with_stops begun) (kept_more 16 saved i x within few is)

-- the steps together
pub numbered_links : (rules : Rules) (clock accepts over : ℕ) (b0 b1 : RuledBook) → (let new : RuledBook = record { rules = rules; book = new_book } in b0 ≡ new) → b1 ≡ with_numbers b0 clock accepts over
    → b1.book.links ≡ []
unfolding new_book
numbered_links rules clock accepts over b0 b1 made numbered = ap (λ (ruled : RuledBook). ruled.book.links) numbered ∙ ap (λ (ruled : RuledBook). ruled.book.links) made

pub linked_asks : (rules : Rules) (clock accepts over : ℕ) (links : List BookLink) (b0 b1 b2 : RuledBook) → (let new : RuledBook = record { rules = rules; book = new_book } in b0 ≡ new) → b1 ≡ with_numbers b0 clock accepts over
    → b2 ≡ with_links b1 links → b2.book.asks ≡ []
unfolding new_book
linked_asks rules clock accepts over links b0 b1 b2 made numbered linked =
    ap (λ (ruled : RuledBook). ruled.book.asks) linked ∙ ap (λ (ruled : RuledBook). ruled.book.asks) numbered ∙ ap (λ (ruled : RuledBook). ruled.book.asks) made

pub asked_stops : (rules : Rules) (clock accepts over : ℕ) (links : List BookLink) (asks : List KeptAsk) (b0 b1 b2 b3 : RuledBook) → (let new : RuledBook = record { rules = rules; book = new_book } in b0 ≡ new)
    → b1 ≡ with_numbers b0 clock accepts over → b2 ≡ with_links b1 links → b3 ≡ with_asks b2 asks → b3.book.stops ≡ []
unfolding new_book
asked_stops rules clock accepts over links asks b0 b1 b2 b3 made numbered linked asked =
    ap (λ (ruled : RuledBook). ruled.book.stops) asked ∙ ap (λ (ruled : RuledBook). ruled.book.stops) linked ∙ ap (λ (ruled : RuledBook). ruled.book.stops) numbered
    ∙ ap (λ (ruled : RuledBook). ruled.book.stops) made

pub put_together : (rules : Rules) (saved : SavedBook) (b0 b1 b2 b3 b4 : RuledBook) → (let new : RuledBook = record { rules = rules; book = new_book } in b0 ≡ new)
    → b1 ≡ with_numbers b0 saved.clock saved.accepts saved.over → b2 ≡ with_links b1 (saved_links saved.links.items) → b3 ≡ with_asks b2 saved.asks.items → b4 ≡ with_stops b3 saved.stops.items
    → (let whole : RuledBook = record { rules = rules; book = saved_book saved } in b4 ≡ whole)
unfolding new_book saved_book
put_together rules saved b0 b1 b2 b3 b4 made numbered linked asked stopped =
    stopped ∙ ap (λ (ruled : RuledBook). with_stops ruled saved.stops.items)
    (asked ∙ ap (λ (ruled : RuledBook). with_asks ruled saved.asks.items)
    (linked ∙ ap (λ (ruled : RuledBook). with_links ruled (saved_links saved.links.items))
    (numbered ∙ ap (λ (ruled : RuledBook). with_numbers ruled saved.clock saved.accepts saved.over) made)))

-- why a book is none of these rules, and that it is one of them
pub many_asks : (rules : Rules) (saved : SavedBook) → 8 < length saved.asks.items → restored rules (saved_book saved) ≡ Err TooManyAsks
unfolding misfit saved_book
many_asks rules saved many = rw (lt-ltb 8 (length saved.asks.items) many) refl

pub many_stops : (rules : Rules) (saved : SavedBook) → length saved.asks.items ≤ 8 → 16 < length saved.stops.items → restored rules (saved_book saved) ≡ Err TooManyStops
unfolding misfit saved_book
many_stops rules saved few many = rw (le-ltb 8 (length saved.asks.items) few, lt-ltb 16 (length saved.stops.items) many) refl

pub many_places : (rules : Rules) (saved : SavedBook) (b0 b1 : RuledBook) → length saved.asks.items ≤ 8 → length saved.stops.items ≤ 16
    → (let new : RuledBook = record { rules = rules; book = new_book } in b0 ≡ new) → b1 ≡ with_numbers b0 saved.clock saved.accepts saved.over
    → b1.rules.places < places_of b1.rules.ports (bundles_in (saved_links saved.links.items)) → restored rules (saved_book saved) ≡ Err TooManyPlaces
unfolding misfit saved_book places_in
many_places rules saved b0 b1 few_asks few_stops made numbered full =
    let same : b1.rules ≡ rules = ap (λ (ruled : RuledBook). ruled.rules) numbered ∙ ap (λ (ruled : RuledBook). ruled.rules) made in
    let many : rules.places < places_of rules.ports (bundles_in (saved_links saved.links.items)) =
    subst (λ (one : Rules). one.places < places_of one.ports (bundles_in (saved_links saved.links.items))) same full in
    rw (le-ltb 8 (length saved.asks.items) few_asks, le-ltb 16 (length saved.stops.items) few_stops, lt-ltb rules.places (places_of rules.ports (bundles_in (saved_links saved.links.items))) many) refl

pub fits : (rules : Rules) (book : Book) → length book.asks ≤ 8 → length book.stops ≤ 16 → places_in rules book ≤ rules.places → misfit rules book ≡ None
unfolding misfit
fits rules book few_asks few_stops within =
    rw (le-ltb 8 (length book.asks) few_asks, le-ltb 16 (length book.stops) few_stops, le-ltb rules.places (places_in rules book) within) refl

pub fits_back : (rules : Rules) (saved : SavedBook) (made : RuledBook) → length saved.asks.items ≤ 8 → length saved.stops.items ≤ 16
    → (let whole : RuledBook = record { rules = rules; book = saved_book saved } in made ≡ whole) → places_in made.rules made.book ≤ made.rules.places → restored rules (saved_book saved) ≡ Ok made
unfolding saved_book
fits_back rules saved made few_asks few_stops whole within =
    let limit : places_in rules (saved_book saved) ≤ rules.places = subst (λ (ruled : RuledBook). places_in ruled.rules ruled.book ≤ ruled.rules.places) whole within in
    rw (fits rules (saved_book saved) few_asks few_stops limit) (ap Ok (sym whole))

-- a stop with a copy of its session's id
pub stop_with : (stop : KeptStop) (id : List ℕ) (stops : List KeptStop) → id ≡ stop.session.id
    → (let copy : KeptStop = record { session = record { nas = stop.session.nas; id = id }; at = stop.at; swept = stop.swept } in take 16 (copy ∷ stops) ≡ take 16 (stop ∷ stops))
stop_with stop id stops same = rw same refl
