-- The book of a past once it has come to an event, and the book of the past with the event, field by field.
use Rattle.std.proofs.Common.{◌≡◌, ℕ, suc, List, [], ◌∷◌, length, map, take, max, false, not, refl, ap, sym, ◌∙◌}
use Rattle.rsl_accounts.specs.declared.rules.Rules.{Rules}
use Rattle.rsl_event.specs.declared.event.Event.{Event}
use Rattle.rsl_session.specs.declared.past_event.PastEvent.{PastEvent}
use Rattle.rsl_session.specs.declared.outcome.Outcome.{Outcome}
use Rattle.rsl_session.specs.declared.kept.KeptAsk.{KeptAsk}
use Rattle.rsl_session.specs.declared.kept.KeptStop.{KeptStop}
use Rattle.rsl_session.specs.Past.{Past}
use Rattle.rsl_session.specs.Clock.{clock, clock_at}
use Rattle.rsl_session.specs.Link.{opens}
use Rattle.rsl_session.specs.Binding.{touches}
use Rattle.rsl_session.specs.Lapse.{lapses}
use Rattle.rsl_session.specs.Held.{held_links, held_before}
use Rattle.rsl_session.specs.Ask.{KEPT_ASKS, accepts, fresh_asks}
use Rattle.rsl_session.specs.Closed.{KEPT_STOPS, stops}
use Rattle.rsl_session.specs.Alive.{over_count}
use Rattle.rsl_session.specs.Rule.{IsRuled}
use Rattle.rsl_session.specs.Book.{Book, BookLink}
use Rattle.rsl_session.specs.BookLinks.{lapses_at}
use Rattle.rsl_session.specs.BookStep.{come_to}
use Rattle.rsl_session.specs.BookOf.{book_of, link_view}
use Rattle.rsl_session.proofs.Ending.{any_link, list_all_any, gives_way}
use Rattle.rsl_session.proofs.BookLists.{filter_view}
use Rattle.rsl_session.proofs.BookViews.{did}
use Rattle.rsl_session.proofs.BookTests.{lapses_is}
use Rattle.rsl_session.proofs.BookGrown.{views_quiet, all_left}

make_book : ℕ → List BookLink → ℕ → List KeptAsk → List KeptStop → ℕ → Book
make_book clock links accepts asks stops over = record { clock = clock; links = links; accepts = accepts; asks = asks; stops = stops; over = over }

-- books of equal fields are equal
pub book_same : (a b : Book) → a.clock ≡ b.clock → a.links ≡ b.links → a.accepts ≡ b.accepts → a.asks ≡ b.asks
    → a.stops ≡ b.stops → a.over ≡ b.over → a ≡ b
unfolding make_book
book_same a b clock links accepts asks stops over =
    let same : make_book a.clock a.links a.accepts a.asks a.stops a.over ≡ make_book b.clock b.links b.accepts b.asks b.stops b.over = cc in
    same

-- the book of a past that has come to an event
unfoldable pub book_come : Rules → Past → Event → Book
book_come rules past event =
    record {
      clock = clock_at past event;
      links = map (link_view past) (held_before rules past event);
      accepts = accepts past;
      asks = take KEPT_ASKS (fresh_asks [] past);
      stops = take KEPT_STOPS (stops [] past);
      over = over_count past;
    }

pub come : (rules : Rules) (past : Past) (event : Event)
    → come_to rules (book_of rules past) event.moment ≡ book_come rules past event
unfolding come_to book_of book_come clock_at held_before
come rules past event =
    book_same _ _ refl
    (filter_view (link_view past) any_link (λ link. not (lapses_at rules (max (clock past) event.moment) link)) (λ link. not (lapses rules past event link))
    (λ link any. ap not (lapses_is rules past event link)) (held_links rules past) (list_all_any (held_links rules past)))
    refl refl refl refl

-- the book of a past with one more event, from its fields
pub settled : (rules : Rules) (event : Event) (past : Past) (outcome : Outcome) (book : Book)
    → book.clock ≡ clock_at past event
    → book.links ≡ map (link_view (did event outcome ∷ past)) (held_links rules (did event outcome ∷ past))
    → book.accepts ≡ accepts (did event outcome ∷ past)
    → book.asks ≡ take KEPT_ASKS (fresh_asks [] (did event outcome ∷ past))
    → book.stops ≡ take KEPT_STOPS (stops [] (did event outcome ∷ past))
    → book.over ≡ over_count (did event outcome ∷ past)
    → book ≡ book_of rules (did event outcome ∷ past)
unfolding book_of clock clock_at
settled rules event past outcome book clock links accepts asks stops over = book_same _ _ clock links accepts asks stops over

-- the links where an event ends none by its act, opens none and touches none
pub links_same : (rules : Rules) (entry : PastEvent) (past : Past) → IsRuled rules past
    → opens entry.outcome ≡ false
    → ((link : ℕ) → touches link (suc (length past)) entry.outcome ≡ false)
    → ((link : ℕ) → gives_way entry past link ≡ false)
    → map (link_view past) (held_before rules past entry.event) ≡ map (link_view (entry ∷ past))
    (held_links rules (entry ∷ past))
links_same rules entry past ruled quiet untouched stays =
    sym (views_quiet rules entry past ruled quiet (λ link within. untouched link) ∙ ap (map (link_view past)) (all_left rules entry past stays))
