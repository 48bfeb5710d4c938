-- Books that are cut to a moment.
use Rattle.std.proofs.Common.{◌≡◌, ℕ, ◌+◌, ◌<◌, ◌≤◌, Bool, true, false, cond, Option, List, [], ◌∷◌, ◌++◌, length, get_or, set, map, take, drop, refl, sym, ap, ◌∙◌, arith, append-nil}
use Rattle.std.specs.Prelude.{nat_lt, sum, sum_by}
use Rattle.std.specs.List.{AllByRecursion}
use Rattle.std.proofs.Math.ListN.{get_or-map}
use Rattle.std.proofs.lemmas.Bool.{le-ltb, ltb-false}
use Rattle.std.proofs.lemmas.List.{drop_all, length-map, map-set, take_all}
use Rattle.std.proofs.lemmas.List.Edits.{map_over_more}
use Rattle.std.proofs.lemmas.List.Elements.{All-from_recursion, recursion_from_All}
use Rattle.std.proofs.lemmas.List.Sums.{sum-map, sum_by_more}
use Rattle.std.proofs.lemmas.Simd.{map-map}
use Rattle.rsl_accounts.specs.Configuration.{Configuration}
use Rattle.rsl_accounts.specs.declared.rules.Rules.{Rules}
use Rattle.rsl_book.specs.Restored.{misfit}
use Rattle.rsl_book.specs.RuledBook.{RuledBook}
use Rattle.rsl_session.specs.Saved.{saved_book, saved_link, saved_links}
use Rattle.rsl_session.specs.declared.saved.SavedBook.{SavedBook}
use Rattle.rsl_session.specs.declared.saved.SavedLink.{SavedLink}
use Rattle.rsl_session.specs.Book.{Book, BookLink, bundles_in, places_in}
use Rattle.rsl_session.specs.declared.bundle.Bundle.{Bundle}
use Rattle.rsl_session.specs.declared.kept.KeptAsk.{KeptAsk}
use Rattle.rsl_session.specs.declared.kept.KeptStop.{KeptStop}
use Rattle.rsl_shard.specs.Opening.{as_new}
use Rattle.rld_books.specs.Cut.{cut_ask, cut_book, cut_link, cut_server, cut_stop, earlier, late, late_in}
use Rattle.rld_books.specs.CutLaws.{BooksUpToStay, CutBooksAreUpTo, CutBooksFit}
use Rattle.rld_books.specs.Saved.{IsServerOf, saved_server}
use Rattle.rld_books.proofs.Saving.{one_server}

-- ---- one moment

earlier_within : (now moment : ℕ) → earlier now moment ≤ now
unfolding earlier
earlier_within now moment = by (nat_lt now moment) refl
  where
    by : (t : Bool) → nat_lt now moment ≡ t → cond t now moment ≤ now
    by true is = omega arith
    by false is = ltb-false now moment is

earlier_same : (now moment : ℕ) → moment ≤ now → earlier now moment ≡ moment
unfolding earlier
earlier_same now moment within = ap (λ (t : Bool). cond t now moment) (le-ltb now moment within)

-- ---- lists

all_mapped : {A : Type 0} (P : A → Type 0) (f : A → A) (xs : List A) → ((x : A) → P (f x)) → AllByRecursion P (map f xs)
all_mapped P f [] each = tt
all_mapped P f (x ∷ xs) each = (each x, all_mapped P f xs each)

all_same : {A : Type 0} (P : A → Type 0) (f : A → A) (xs : List A) → ((x : A) → P x → f x ≡ x) → AllByRecursion P xs → map f xs ≡ xs
all_same P f [] same all = refl
all_same P f (x ∷ xs) same all = ap (λ y. y ∷ map f xs) (same x all.0) ∙ ap (λ l. x ∷ l) (all_same P f xs same all.1)

-- ---- the laws

abbrev is_link_up_to : ℕ → BookLink → Type 0
is_link_up_to now link = (link.opened ≤ now) × (link.touched ≤ now)

pub cut_is_up_to : CutBooksAreUpTo
unfolding cut_book
cut_is_up_to now book = record {
  clock = earlier_within now book.clock;
  links = All-from_recursion (is_link_up_to now) (map (cut_link now) book.links)
      (all_mapped (is_link_up_to now) (cut_link now) book.links (λ link. (earlier_within now link.opened, earlier_within now link.touched)));
  asks = All-from_recursion (λ (ask : KeptAsk). ask.at ≤ now) (map (cut_ask now) book.asks)
      (all_mapped (λ (ask : KeptAsk). ask.at ≤ now) (cut_ask now) book.asks (λ ask. earlier_within now ask.at));
  stops = All-from_recursion (λ (stop : KeptStop). stop.at ≤ now) (map (cut_stop now) book.stops)
      (all_mapped (λ (stop : KeptStop). stop.at ≤ now) (cut_stop now) book.stops (λ stop. earlier_within now stop.at));
}

same_link : (now : ℕ) (link : BookLink) → is_link_up_to now link → cut_link now link ≡ link
same_link now link within =
    let opened : earlier now link.opened ≡ link.opened = earlier_same now link.opened within.0 in
    let touched : earlier now link.touched ≡ link.touched = earlier_same now link.touched within.1 in
    (λ i. record { nas = link.nas; holder = link.holder; bundle = link.bundle; station = link.station; opened = opened i; touched = touched i })

same_ask : (now : ℕ) (ask : KeptAsk) → ask.at ≤ now → cut_ask now ask ≡ ask
same_ask now ask within =
    let at : earlier now ask.at ≡ ask.at = earlier_same now ask.at within in
    (λ i. record { key = ask.key; nas = ask.nas; decision = ask.decision; at = at i; swept = ask.swept })

same_stop : (now : ℕ) (stop : KeptStop) → stop.at ≤ now → cut_stop now stop ≡ stop
same_stop now stop within =
    let at : earlier now stop.at ≡ stop.at = earlier_same now stop.at within in
    (λ i. record { session = stop.session; at = at i; swept = stop.swept })

pub up_to_stays : BooksUpToStay
unfolding cut_book
up_to_stays now book is =
    let clock : earlier now book.clock ≡ book.clock = earlier_same now book.clock is.clock in
    let links : map (cut_link now) book.links ≡ book.links =
    all_same (is_link_up_to now) (cut_link now) book.links (same_link now) (recursion_from_All (is_link_up_to now) book.links is.links) in
    let asks : map (cut_ask now) book.asks ≡ book.asks =
    all_same (λ (ask : KeptAsk). ask.at ≤ now) (cut_ask now) book.asks (same_ask now) (recursion_from_All (λ (ask : KeptAsk). ask.at ≤ now) book.asks is.asks) in
    let stops : map (cut_stop now) book.stops ≡ book.stops =
    all_same (λ (stop : KeptStop). stop.at ≤ now) (cut_stop now) book.stops (same_stop now) (recursion_from_All (λ (stop : KeptStop). stop.at ≤ now) book.stops is.stops) in
    (λ i. record { clock = clock i; links = links i; accepts = book.accepts; asks = asks i; stops = stops i; over = book.over })

same_bundles : (now : ℕ) (links : List BookLink) → bundles_in (map (cut_link now) links) ≡ bundles_in links
unfolding bundles_in
same_bundles now [] = refl
same_bundles now (link ∷ links) = ap (λ (l : List (Option Bundle)). link.bundle ∷ l) (same_bundles now links)

bundles_stay : (now : ℕ) (book : Book) → bundles_in (cut_book now book).links ≡ bundles_in book.links
unfolding cut_book
bundles_stay now book = same_bundles now book.links

fits_still : (now : ℕ) (rules : Rules) (book : Book) → misfit rules (cut_book now book) ≡ misfit rules book
unfolding misfit cut_book places_in
fits_still now rules book =
    rw (length-map book.asks (cut_ask now), length-map book.stops (cut_stop now), same_bundles now book.links) refl

pub cut_fits : CutBooksFit
cut_fits = record { bundles = bundles_stay; misfit = fits_still }

-- ---- the books of a server

saved_cut : (now : ℕ) (server : List RuledBook) → saved_server (cut_server now server) ≡ map (cut_book now) (saved_server server)
saved_cut now [] = refl
saved_cut now (ruled ∷ server) = ap (λ (l : List Book). cut_book now ruled.book ∷ l) (saved_cut now server)

same_rules : (now : ℕ) (server : List RuledBook) → map as_new (cut_server now server) ≡ map as_new server
same_rules now [] = refl
same_rules now (ruled ∷ server) = ap (λ (l : List RuledBook). as_new ruled ∷ l) (same_rules now server)

-- books that were cut are of the configuration that they were of
pub cut_is_of : (config : Configuration) (now : ℕ) (server : List RuledBook) → IsServerOf config server → IsServerOf config (cut_server now server)
cut_is_of config now server of = same_rules now server ∙ of

-- books that were put back from what was cut are those that are cut
pub put_back_cut : (config : Configuration) (now : ℕ) (server made : List RuledBook) (kept cut : List SavedBook) → IsServerOf config server → IsServerOf config made
    → map saved_book kept ≡ saved_server server → map saved_book cut ≡ map (cut_book now) (map saved_book kept) → saved_server made ≡ map saved_book cut → made ≡ cut_server now server
put_back_cut config now server made kept cut of made_of saved_is cut_is back =
    one_server config made (cut_server now server) made_of (cut_is_of config now server of)
    (back ∙ cut_is ∙ ap (map (cut_book now)) saved_is ∙ sym (saved_cut now server))

-- ---- element by element

-- a link more is cut
pub one_link : (now : ℕ) (xs ys : List SavedLink) (i : ℕ) (x new : SavedLink) → i < length xs
    → saved_links ys ≡ map (cut_link now) (take i (saved_links xs)) ++ drop i (saved_links xs)
    → x ≡ get_or ys i x → saved_link new ≡ cut_link now (saved_link (get_or ys i x))
    → saved_links (set ys i new) ≡ map (cut_link now) (take (i + 1) (saved_links xs)) ++ drop (i + 1) (saved_links xs)
unfolding saved_links
one_link now xs ys i x new within so_far read is =
    let long : i < length (map saved_link xs) = omega (arith, length-map xs saved_link, within) in
    let here : saved_link x ≡ get_or (map saved_link ys) i (saved_link x) = ap saved_link read ∙ sym (get_or-map saved_link ys i x) in
    map-set saved_link ys i new ∙ ap (set (map saved_link ys) i) (is ∙ ap (λ (l : SavedLink). cut_link now (saved_link l)) (sym read))
    ∙ map_over_more (cut_link now) (map saved_link xs) (map saved_link ys) i (saved_link x) long so_far here

pub cut_saved_link : (now : ℕ) (link new : SavedLink) (opened touched : ℕ) → opened ≡ earlier now link.opened → touched ≡ earlier now link.touched
    → new ≡ record link { opened = opened; touched = touched } → saved_link new ≡ cut_link now (saved_link link)
unfolding saved_link
cut_saved_link now link new opened touched opened_is touched_is made =
    let kept : BookLink = saved_link link in
    ap saved_link made
    ∙ (λ i. record { nas = kept.nas; holder = kept.holder; bundle = kept.bundle; station = kept.station; opened = opened_is i; touched = touched_is i })

-- an ask more is cut
pub one_ask : (now : ℕ) (xs ys : List KeptAsk) (i : ℕ) (x : KeptAsk) (at : ℕ) → i < length xs → ys ≡ map (cut_ask now) (take i xs) ++ drop i xs
    → x ≡ get_or ys i x → at ≡ earlier now (get_or ys i x).at → set ys i (record (get_or ys i x) { at = at }) ≡ map (cut_ask now) (take (i + 1) xs) ++ drop (i + 1) xs
one_ask now xs ys i x at within so_far read is =
    ap (λ (n : ℕ). set ys i (record (get_or ys i x) { at = n })) is ∙ ap (λ (a : KeptAsk). set ys i (cut_ask now a)) (sym read) ∙ map_over_more (cut_ask now) xs ys i x within so_far read

-- a stop more is cut
pub one_stop : (now : ℕ) (xs ys : List KeptStop) (i : ℕ) (x : KeptStop) (at : ℕ) → i < length xs → ys ≡ map (cut_stop now) (take i xs) ++ drop i xs
    → x ≡ get_or ys i x → at ≡ earlier now (get_or ys i x).at → set ys i (record (get_or ys i x) { at = at }) ≡ map (cut_stop now) (take (i + 1) xs) ++ drop (i + 1) xs
one_stop now xs ys i x at within so_far read is =
    ap (λ (n : ℕ). set ys i (record (get_or ys i x) { at = n })) is ∙ ap (λ (s : KeptStop). set ys i (cut_stop now s)) (sym read) ∙ map_over_more (cut_stop now) xs ys i x within so_far read

-- a book more is cut
pub one_book : (now : ℕ) (xs ys : List SavedBook) (i : ℕ) (x new : SavedBook) → i < length xs
    → map saved_book ys ≡ map (cut_book now) (take i (map saved_book xs)) ++ drop i (map saved_book xs)
    → x ≡ get_or ys i x → saved_book new ≡ cut_book now (saved_book (get_or ys i x))
    → map saved_book (set ys i new) ≡ map (cut_book now) (take (i + 1) (map saved_book xs)) ++ drop (i + 1) (map saved_book xs)
one_book now xs ys i x new within so_far read is =
    let long : i < length (map saved_book xs) = omega (arith, length-map xs saved_book, within) in
    let here : saved_book x ≡ get_or (map saved_book ys) i (saved_book x) = ap saved_book read ∙ sym (get_or-map saved_book ys i x) in
    map-set saved_book ys i new ∙ ap (set (map saved_book ys) i) (is ∙ ap (λ (b : SavedBook). cut_book now (saved_book b)) (sym read))
    ∙ map_over_more (cut_book now) (map saved_book xs) (map saved_book ys) i (saved_book x) long so_far here

-- all elements are cut
pub all_cut : {X : Type 0} (f : X → X) (xs : List X) (i : ℕ) → length xs ≤ i → map f (take i xs) ++ drop i xs ≡ map f xs
all_cut f xs i past =
    ap (λ l. map f l ++ drop i xs) (take_all i xs past) ∙ ap (λ l. map f xs ++ l) (drop_all i xs past) ∙ append-nil (map f xs)

pub all_links : (now : ℕ) (xs : List SavedLink) (i : ℕ) → length xs ≤ i → map (cut_link now) (take i (saved_links xs)) ++ drop i (saved_links xs) ≡ map (cut_link now) (saved_links xs)
unfolding saved_links
all_links now xs i past = all_cut (cut_link now) (map saved_link xs) i (omega (arith, length-map xs saved_link, past))

-- ---- how many moments are later

-- what is counted of mapped elements
counted_mapped : {X Y : Type 0} (g : Y → ℕ) (f : X → Y) (xs : List X) → sum_by g (map f xs) ≡ sum_by (λ x. g (f x)) xs
counted_mapped g f xs = sym (sum-map g (map f xs)) ∙ ap sum (map-map g f xs) ∙ sum-map (λ x. g (f x)) xs

pub late_in_saved : (now : ℕ) (kept : SavedBook)
    → late_in now (saved_book kept)
    ≡ ((late now kept.clock + sum_by (λ (link : SavedLink). late now link.opened + late now link.touched) kept.links.items)
    + sum_by (λ (ask : KeptAsk). late now ask.at) kept.asks.items)
    + sum_by (λ (stop : KeptStop). late now stop.at) kept.stops.items
unfolding late_in saved_book saved_links saved_link
late_in_saved now kept =
    ap (λ (n : ℕ). ((late now kept.clock + n) + sum_by (λ (ask : KeptAsk). late now ask.at) kept.asks.items) + sum_by (λ (stop : KeptStop). late now stop.at) kept.stops.items)
    (counted_mapped (λ (link : BookLink). late now link.opened + late now link.touched) saved_link kept.links.items)

-- with those of a book more
pub late_more : (now : ℕ) (kept : List SavedBook) (i : ℕ) (x : SavedBook) → i < length kept → x ≡ get_or kept i x
    → sum_by (late_in now) (take (i + 1) (map saved_book kept)) ≡ sum_by (late_in now) (take i (map saved_book kept)) + late_in now (saved_book x)
late_more now kept i x within read =
    let long : i < length (map saved_book kept) = omega (arith, length-map kept saved_book, within) in
    let here : get_or (map saved_book kept) i (saved_book x) ≡ saved_book x = get_or-map saved_book kept i x ∙ ap saved_book (sym read) in
    sum_by_more (late_in now) (map saved_book kept) i (saved_book x) long ∙ ap (λ (b : Book). sum_by (late_in now) (take i (map saved_book kept)) + late_in now b) here

-- ---- one book

pub same_length : (now : ℕ) (xs ys : List SavedLink) → saved_links ys ≡ map (cut_link now) (saved_links xs) → length ys ≡ length xs
unfolding saved_links
same_length now xs ys is = sym (length-map ys saved_link) ∙ ap length is ∙ length-map (map saved_link xs) (cut_link now) ∙ length-map xs saved_link

pub book_cut : (now : ℕ) (kept new : SavedBook) → new.clock ≡ earlier now kept.clock → saved_links new.links.items ≡ map (cut_link now) (saved_links kept.links.items)
    → new.asks.items ≡ map (cut_ask now) kept.asks.items → new.stops.items ≡ map (cut_stop now) kept.stops.items → new.accepts ≡ kept.accepts → new.over ≡ kept.over
    → saved_book new ≡ cut_book now (saved_book kept)
unfolding saved_book cut_book
book_cut now kept new clock links asks stops accepts over = (λ i. record { clock = clock i; links = links i; accepts = accepts i; asks = asks i; stops = stops i; over = over i })

pub same_count : (now : ℕ) (xs ys : List SavedBook) → map saved_book ys ≡ map (cut_book now) (map saved_book xs) → length ys ≡ length xs
same_count now xs ys is = sym (length-map ys saved_book) ∙ ap length is ∙ length-map (map saved_book xs) (cut_book now) ∙ length-map xs saved_book
