-- What a book asks of the view of a link is what the rule asks of the link.
use Rattle.std.proofs.Common.{◌≡◌, ℕ, List, map, Bool, true, false, ◌&&◌, ◌||◌, refl, ap, eqb}
use Rattle.std.specs.Prelude.{Option, Some, None, filter, find, nat_le, is_some, is_none}
use Rattle.std.specs.List.{list_all}
use Rattle.rsl_accounts.specs.declared.rules.Rules.{Rules}
use Rattle.rsl_event.specs.declared.event.Event.{Event}
use Rattle.rsl_event.specs.declared.nas.Nas.{Nas}
use Rattle.rsl_session.specs.declared.session.Session.{Session}
use Rattle.rsl_session.specs.Past.{Past}
use Rattle.rsl_session.specs.Same.{same_nas}
use Rattle.rsl_session.specs.Clock.{clock_at}
use Rattle.rsl_session.specs.Sweep.{precedes}
use Rattle.rsl_session.specs.Link.{nas_at, number_at, opened_at}
use Rattle.rsl_session.specs.Binding.{session_at, is_session, is_bound_to, is_reserved}
use Rattle.rsl_session.specs.Touch.{touched_at}
use Rattle.rsl_session.specs.Station.{is_of_station}
use Rattle.rsl_session.specs.Lapse.{lapses, standing_time, is_idle}
use Rattle.rsl_session.specs.Held.{is_at, is_nas}
use Rattle.rsl_session.specs.Places.{bundles}
use Rattle.rsl_session.specs.Ask.{has_place_beside, is_touched_first, first_touched}
use Rattle.rsl_session.specs.Alive.{is_chosen, is_number}
use Rattle.rsl_session.specs.Book.{BookLink, bundles_in, is_bound, is_stale_at}
use Rattle.rsl_session.specs.BookLinks.{lapses_at, time_of, is_holder, is_link_of, is_wanted, can_be_taken, is_oldest, is_stationed, is_swept, fits_beside}
use Rattle.rsl_session.specs.BookOf.{link_view, holder_of, known_nas}
use Rattle.rsl_session.proofs.Ending.{any_link, list_all_any}
use Rattle.rsl_session.proofs.BookLists.{filter_view, find_filter, list_all_view, map_of_map}
use Rattle.rsl_session.proofs.BookKnown.{is_known, known_at}

time_is : (rules : Rules) (number : Option ℕ) (session : Option Session)
    → time_of rules (holder_of number session) ≡ standing_time rules session
time_is rules number (Some session) = refl
time_is rules (Some number) None = refl
time_is rules None None = refl

pub lapses_is : (rules : Rules) (past : Past) (event : Event) (link : ℕ)
    → lapses_at rules (clock_at past event) (link_view past link) ≡ lapses rules past event link
unfolding lapses_at lapses link_view
lapses_is rules past event link = rw (time_is rules (number_at link past) (session_at link past)) refl

bound_is : (number : Option ℕ) (session : Option Session)
    → is_bound (holder_of number session) ≡ is_some session
bound_is number (Some session) = refl
bound_is (Some number) None = refl
bound_is None None = refl

pub stale_is : (rules : Rules) (past : Past) (event : Event) (link : ℕ)
    → is_stale_at rules (clock_at past event) (link_view past link) ≡ is_idle rules past event link
unfolding is_stale_at is_idle link_view
stale_is rules past event link = rw (bound_is (number_at link past) (session_at link past)) refl

holder_is : (wanted : Session) (number : Option ℕ) (session : Option Session)
    → is_holder wanted (holder_of number session) ≡ is_session session wanted
holder_is wanted number (Some session) = refl
holder_is wanted (Some number) None = refl
holder_is wanted None None = refl

pub link_of_is : (past : Past) (session : Session) (link : ℕ)
    → is_link_of session (link_view past link) ≡ is_bound_to past session link
unfolding is_link_of is_bound_to link_view
link_of_is past session link = holder_is session (number_at link past) (session_at link past)

nas_is : (wanted : Nas) (nas : Option Nas) → is_some nas ≡ true
    → same_nas (known_nas nas) wanted ≡ is_nas nas wanted
nas_is wanted (Some nas) known = refl
nas_is wanted None known = cc

pub at_is : (past : Past) (nas : Nas) (link : ℕ) → is_known past link ≡ true
    → same_nas (link_view past link).nas nas ≡ is_at past nas link
unfolding is_at link_view
at_is past nas link known = nas_is nas (nas_at link past) (known_at past link known).0

wanted_is : (class number : Option ℕ) (session : Option Session) (here : Bool)
    → (is_some number || is_some session) ≡ true
    → (is_wanted class (holder_of number session) && here) ≡ ((is_none session && here) && is_number class number)
wanted_is class number (Some session) here has = refl
wanted_is None (Some number) None true has = refl
wanted_is None (Some number) None false has = refl
wanted_is (Some wanted) (Some number) None here has = by_cases here (eqb number wanted) where
  by_cases : (a b : Bool) → (b && a) ≡ (a && b)
  by_cases true true = refl
  by_cases true false = refl
  by_cases false true = refl
  by_cases false false = refl
wanted_is class None None here has = cc

pub chosen_is : (past : Past) (nas : Nas) (class : Option ℕ) (link : ℕ) → is_known past link ≡ true
    → can_be_taken nas class (link_view past link) ≡ is_chosen past nas class link
unfolding can_be_taken is_chosen is_reserved is_at link_view
chosen_is past nas class link known =
    let has = known_at past link known in
    rw (nas_is nas (nas_at link past) has.0) (wanted_is class (number_at link past) (session_at link past) (is_nas (nas_at link past) nas) has.1)

-- the bundles of views, and so what fits beside them
pub bundles_are : (past : Past) (links : List ℕ)
    → bundles_in (map (link_view past) links) ≡ bundles past links
unfolding bundles_in bundles link_view
bundles_are past links = map_of_map (λ (link : BookLink). link.bundle) (link_view past) links

pub fits_is : (rules : Rules) (past : Past) (links : List ℕ)
    → fits_beside rules (map (link_view past) links) ≡ has_place_beside rules past links
unfolding fits_beside has_place_beside
fits_is rules past links = rw (bundles_are past links) refl

-- the links of a station, and those that a sweep ends
pub stationed_is : (past : Past) (station : Option (List ℕ)) (link : ℕ)
    → is_stationed station (link_view past link) ≡ is_of_station past station link
unfolding is_stationed is_of_station link_view
stationed_is past station link = refl

unfoldable pub is_swept_at : Past → Nas → (delay now : ℕ) → ℕ → Bool
is_swept_at past nas delay now link = is_at past nas link && precedes (opened_at link past) delay now

pub swept_is : (past : Past) (nas : Nas) (delay now link : ℕ) → is_known past link ≡ true
    → is_swept nas delay now (link_view past link) ≡ is_swept_at past nas delay now link
unfolding is_swept is_swept_at is_at link_view
swept_is past nas delay now link known = rw (nas_is nas (nas_at link past) (known_at past link known).0) refl

-- the link of some that was touched longest ago
pub is_oldest_of : Past → (ℕ → Bool) → List ℕ → ℕ → Bool
is_oldest_of past passes links link = passes link && is_touched_first past (filter passes links) link

touched_first : (past : Past) (link : ℕ) (links : List ℕ)
    → list_all (λ (other : BookLink). nat_le (link_view past link).touched other.touched)
    (map (link_view past) links)
    ≡ list_all (λ other. nat_le (touched_at link past) (touched_at other past)) links
unfolding link_view
touched_first past link links =
    list_all_view (link_view past) (λ (other : BookLink). nat_le (touched_at link past) other.touched) (λ other. nat_le (touched_at link past) (touched_at other past)) (λ x. refl) links

pub oldest_is : (past : Past) (p : BookLink → Bool) (q : ℕ → Bool) (links : List ℕ)
    → ((link : ℕ) → p (link_view past link) ≡ q link) → (link : ℕ)
    → is_oldest p (map (link_view past) links) (link_view past link) ≡ is_oldest_of past q links link
unfolding is_oldest is_oldest_of is_touched_first
oldest_is past p q links is link =
    let those : filter p (map (link_view past) links) ≡ map (link_view past) (filter q links) =
    filter_view (link_view past) any_link p q (λ x any. is x) links (list_all_any links) in
    rw (those, is link) (ap (λ b. q link && b) (touched_first past link (filter q links)))

pub first_is : (past : Past) (q : ℕ → Bool) (links : List ℕ)
    → first_touched past (filter q links) ≡ find (is_oldest_of past q links) links
unfolding first_touched is_oldest_of
first_is past q links = find_filter (is_touched_first past (filter q links)) q links
