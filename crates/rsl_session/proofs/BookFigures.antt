-- What a book shows of itself is what the rule counts: places, and reserved, live and stale links.
use Rattle.std.proofs.Common.{◌≡◌, ℕ, List, [], ◌∷◌, map, Bool, cond, refl, sym, ◌∙◌}
use Rattle.std.specs.Prelude.{Option, Some, None, count_by, is_none, is_some}
use Rattle.std.proofs.lemmas.List.Sums.{sum_by-cons}
use Rattle.rsl_accounts.specs.declared.rules.Rules.{Rules}
use Rattle.rsl_session.specs.declared.session.Session.{Session}
use Rattle.rsl_session.specs.Past.{Past}
use Rattle.rsl_session.specs.Clock.{clock}
use Rattle.rsl_session.specs.Link.{number_at}
use Rattle.rsl_session.specs.Binding.{session_at, is_reserved}
use Rattle.rsl_session.specs.Lapse.{is_live, is_stale}
use Rattle.rsl_session.specs.Held.{held_links}
use Rattle.rsl_session.specs.Places.{places}
use Rattle.rsl_session.specs.Book.{BookLink, is_bound, is_reservation, is_live_at, is_stale_at, places_in, reserved_in, live_in, stale_in}
use Rattle.rsl_session.specs.BookOf.{book_of, link_view, holder_of}
use Rattle.rsl_session.proofs.BookJoined.{places_are}

-- a count of views by a test that says of each view what another says of the link
count_view : {A B : Type 0} (h : A → B) (p : B → Bool) (q : A → Bool) → ((x : A) → p (h x) ≡ q x)
    → (xs : List A) → count_by p (map h xs) ≡ count_by q xs
count_view h p q is [] = refl
count_view h p q is (x ∷ xs) =
    sum_by-cons (λ y. cond (p y) 1 0) (h x) (map h xs)
    ∙ rw (is x, count_view h p q is xs) refl
    ∙ sym (sum_by-cons (λ y. cond (q y) 1 0) x xs)

reservation_is : (number : Option ℕ) (session : Option Session)
    → is_reservation (holder_of number session) ≡ is_none session
reservation_is number (Some session) = refl
reservation_is (Some number) None = refl
reservation_is None None = refl

bound_is : (number : Option ℕ) (session : Option Session)
    → is_bound (holder_of number session) ≡ is_some session
bound_is number (Some session) = refl
bound_is (Some number) None = refl
bound_is None None = refl

reserved_are : (rules : Rules) (past : Past) → reserved_in (book_of rules past) ≡ count_by (is_reserved past)
    (held_links rules past)
unfolding reserved_in book_of link_view is_reserved
reserved_are rules past =
    count_view (link_view past) (λ (link : BookLink). is_reservation link.holder) (is_reserved past) (λ link. reservation_is (number_at link past) (session_at link past)) (held_links rules past)

live_are : (rules : Rules) (past : Past) → live_in rules (book_of rules past) ≡ count_by (is_live rules past)
    (held_links rules past)
unfolding live_in book_of link_view is_live_at is_live
live_are rules past =
    count_view (link_view past) (is_live_at rules (clock past)) (is_live rules past) (λ link. rw (bound_is (number_at link past) (session_at link past)) refl) (held_links rules past)

stale_are : (rules : Rules) (past : Past)
    → stale_in rules (book_of rules past) ≡ count_by (is_stale rules past) (held_links rules past)
unfolding stale_in book_of link_view is_stale_at is_stale
stale_are rules past =
    count_view (link_view past) (is_stale_at rules (clock past)) (is_stale rules past) (λ link. rw (bound_is (number_at link past) (session_at link past)) refl) (held_links rules past)

pub figures : (rules : Rules) (past : Past)
    → (places_in rules (book_of rules past) ≡ places rules past)
    × (reserved_in (book_of rules past) ≡ count_by (is_reserved past) (held_links rules past))
    × (live_in rules (book_of rules past) ≡ count_by (is_live rules past) (held_links rules past))
    × (stale_in rules (book_of rules past) ≡ count_by (is_stale rules past) (held_links rules past))
figures rules past = (places_are rules past, reserved_are rules past, live_are rules past, stale_are rules past)
