-- The definitions one entry further on, for loops that go over the entries in the order in which they came.
use Rattle.std.proofs.Common.{◌≡◌, ℕ, zero, suc, ◌+◌, ◌-◌, ◌<◌, ◌≤◌, max, List, [], ◌∷◌, ◌++◌, reverse, take, drop, get_or, length, true, false, cond, refl, ap, sym, ◌∙◌, inl, inr, arith, add-one, eqb, ltb}
use Rattle.std.specs.Prelude.{Option, Some, None, is_some, IfSome}
use Rattle.std.specs.Borrow.{Bor}
use Rattle.std.specs.List.{slice_get}
use Rattle.std.specs.Option.{option_or, option_copied}
use Rattle.std.proofs.lemmas.Option.{slice_get-get_or}
use Rattle.std.proofs.lemmas.Bool.{cases_eq, ltb-true, ltb-false, eq-eqb, ne_eqb}
use Rattle.std.proofs.lemmas.List.{get_or_default, take_more, reverse-append, length-reverse, length-take-le, take_all, take-append-drop}
use Rattle.std.proofs.lemmas.List.Sums.{sum_by-cons}
use Rattle.rsl_session.specs.declared.past_event.PastEvent.{PastEvent}
use Rattle.rsl_session.specs.declared.session.Session.{Session}
use Rattle.rsl_session.specs.declared.bundle.Bundle.{Bundle}
use Rattle.rsl_session.specs.Past.{Past, looking_back, entry_at}
use Rattle.rsl_session.specs.Clock.{clock}
use Rattle.rsl_session.specs.Link.{number_of, opened_at}
use Rattle.rsl_session.specs.Binding.{touches, session_at, bound_by, bundle_at, bundled_by}
use Rattle.rsl_session.specs.Touch.{touched_at}
use Rattle.rsl_session.specs.Station.{station_at, stationed_by}
use Rattle.rsl_rule.specs.Standing.{standing_of}
use Rattle.rsl_rule.specs.declared.standing.Standing.{Standing}
use Rattle.rsl_session.specs.Ask.{accepts}

pub looking_back-more : (xs : List PastEvent) (i : ℕ) (x : PastEvent) → i < length xs → x ≡ get_or xs i x → looking_back (take (i + 1) xs) ≡ x ∷ looking_back (take i xs)
unfolding looking_back
looking_back-more xs i x within is =
    ap reverse (take_more xs i x within ∙ ap (λ y. take i xs ++ y ∷ []) (sym is)) ∙ reverse-append (take i xs) (x ∷ [])

pub length-looking_back : (xs : List PastEvent) (i : ℕ) → i ≤ length xs → length (looking_back (take i xs)) ≡ i
unfolding looking_back
length-looking_back xs i within = length-reverse (take i xs) ∙ length-take-le i xs within

pub looking_back_all : (xs : List PastEvent) (i : ℕ) → length xs ≤ i → looking_back (take i xs) ≡ looking_back xs
looking_back_all xs i all = ap looking_back (take_all i xs all)

pub length_all : (xs : List PastEvent) → length (looking_back xs) ≡ length xs
unfolding looking_back
length_all xs = length-reverse xs

pub looking_back-none : looking_back [] ≡ []
unfolding looking_back
looking_back-none = refl

-- the clock
pub clock_none : clock (looking_back []) ≡ 0
unfolding clock
clock_none = ap clock looking_back-none

pub clock_more : (xs : List PastEvent) (i : ℕ) (x : PastEvent) → i < length xs → x ≡ get_or xs i x → clock (looking_back (take (i + 1) xs)) ≡ max (clock (looking_back (take i xs))) x.event.moment
unfolding clock
clock_more xs i x within is = ap clock (looking_back-more xs i x within is)

pub ruleset clock_steps = (clock_none, clock_more, looking_back_all)

-- how a link stands
pub standing_next : (link : ℕ) (xs : List PastEvent) (x : PastEvent)
    → standing_of link (x ∷ looking_back xs) ≡ record {
      clock = max (clock (looking_back xs)) x.event.moment;
      opened = cond (eqb link (length xs + 1)) (max (clock (looking_back xs)) x.event.moment) (opened_at link (looking_back xs));
      touched = cond (touches link (length xs + 1) x.outcome) (max (clock (looking_back xs)) x.event.moment) (touched_at link (looking_back xs));
      session = option_or (session_at link (looking_back xs)) (bound_by link (length xs + 1) x);
    }
unfolding standing_of clock opened_at touched_at session_at
standing_next link xs x = rw (length_all xs, add-one) refl

pub standing_pushed : (link : ℕ) (xs : List PastEvent) (x : PastEvent) (before : Standing) (now opening touch : ℕ) (session : Option Session) → before ≡ standing_of link (looking_back xs)
    → now ≡ max before.clock x.event.moment → opening ≡ cond (eqb link (length xs + 1)) now before.opened → touch ≡ cond (touches link (length xs + 1) x.outcome) now before.touched → session ≡ option_or before.session (bound_by link (length xs + 1) x)
    → (let next : Standing = record { clock = now; opened = opening; touched = touch; session = session } in next) ≡ standing_of link (x ∷ looking_back xs)
unfolding standing_of
standing_pushed link xs x before now opening touch session is at first last found =
    rw (last, first, at, found, is) (sym (standing_next link xs x))

-- the entry of a number
pub entry_at_none : (past : Past) → entry_at 0 past ≡ None
unfolding entry_at
entry_at_none [] = refl
entry_at_none (entry ∷ past) = rw (ne_eqb 0 (suc (length past)) (λ same. omega arith)) (entry_at_none past)

entry_at-cons : (number : ℕ) (entry : PastEvent) (past : Past) → entry_at number (entry ∷ past) ≡ cond (eqb number (suc (length past))) (Some entry) (entry_at number past)
unfolding entry_at
entry_at-cons number entry past = refl

entry_at_newer : (past : Past) (number : ℕ) → length past < number → entry_at number past ≡ None
unfolding entry_at
entry_at_newer [] number newer = refl
entry_at_newer (entry ∷ past) number newer =
    rw (ne_eqb number (suc (length past)) (λ same. omega arith)) (entry_at_newer past number (omega arith))

entry_at-slice_get : (x : PastEvent) (xs : List PastEvent) (i : ℕ) → i ≤ length (x ∷ xs) → (number : ℕ) → 0 < number → number ≤ i → entry_at number (looking_back (take i (x ∷ xs))) ≡ slice_get (x ∷ xs) (number - 1)
entry_at-slice_get x xs zero within number some at = absurd (omega arith)
entry_at-slice_get x xs (suc i) within number some at =
    let last : PastEvent = get_or (x ∷ xs) i x in
    let same : last ≡ get_or (x ∷ xs) i last = get_or_default (x ∷ xs) i x last (omega arith) in
    let more : looking_back (take (suc i) (x ∷ xs)) ≡ last ∷ looking_back (take i (x ∷ xs)) =
    ap (λ n. looking_back (take n (x ∷ xs))) (sym (add-one i)) ∙ looking_back-more (x ∷ xs) i last (omega arith) same in
    ap (entry_at number) more ∙ entry_at_last x xs i last number (omega arith) some at (slice_get-get_or (x ∷ xs) i x (omega arith)) (entry_at-slice_get x xs i (omega arith) number some) where
      entry_at_last : (x : PastEvent) (xs : List PastEvent) (i : ℕ) (last : PastEvent) (number : ℕ) → i < length (x ∷ xs) → 0 < number → number ≤ suc i → slice_get (x ∷ xs) i ≡ Some last
          → (number ≤ i → entry_at number (looking_back (take i (x ∷ xs))) ≡ slice_get (x ∷ xs) (number - 1))
          → entry_at number (last ∷ looking_back (take i (x ∷ xs))) ≡ slice_get (x ∷ xs) (number - 1)
      entry_at_last x xs i last number within some at is older =
          entry_at-cons number last (looking_back (take i (x ∷ xs))) ∙ ap (λ n. cond (eqb number (suc n)) (Some last) (entry_at number (looking_back (take i (x ∷ xs))))) (length-looking_back (x ∷ xs) i (omega arith))
          ∙ elim (cases_eq number (suc i)) [
            | inl same ↦
                let before : number - 1 ≡ i = omega arith in
                rw (eq-eqb number (suc i) same, before) (sym is)
            | inr other ↦ rw (ne_eqb number (suc i) other) (older (omega (arith, other)))
          ]

pub entry_at_number : (xs : List PastEvent) (number : ℕ) → 0 < number → number ≤ length xs → entry_at number (looking_back xs) ≡ slice_get xs (number - 1)
entry_at_number [] number some at = absurd (omega arith)
entry_at_number (x ∷ xs) number some at =
    sym (ap (entry_at number) (looking_back_all (x ∷ xs) (length (x ∷ xs)) (omega arith))) ∙ entry_at-slice_get x xs (length (x ∷ xs)) (omega arith) number some at

pub entry_at_past : (xs : List PastEvent) (number : ℕ) → length xs < number → entry_at number (looking_back xs) ≡ None
entry_at_past xs number past = entry_at_newer (looking_back xs) number (omega (arith, length_all xs))

pub entry_read : (xs : List PastEvent) (number : ℕ) (got : Option (Bor PastEvent)) → (number ≡ 0 → ⊥) → is_some got ≡ ltb (number - 1) (length xs) → IfSome got (λ x. x.now ≡ get_or xs (number - 1) x.now)
    → option_copied got ≡ entry_at number (looking_back xs)
entry_read xs number None some within is =
    let past = ltb-false (number - 1) (length xs) (sym within) in
    sym (entry_at_past xs number (omega (arith, some)))
entry_read xs number (Some x) some within is =
    let inside = ltb-true (number - 1) (length xs) (sym within) in
    ap Some is ∙ sym (slice_get-get_or xs (number - 1) x.now inside) ∙ sym (entry_at_number xs number (omega (arith, some)) (omega (arith, some)))

pub ruleset entry_steps = (entry_at_none)

-- the session that a link is bound to
bound_stays : (link : ℕ) (newer past : Past) (session : Session) → session_at link past ≡ Some session → session_at link (newer ++ past) ≡ Some session
unfolding session_at
bound_stays link [] past session is = is
bound_stays link (entry ∷ newer) past session is = rw (bound_stays link newer past session is) refl

looking_back-split : (xs : List PastEvent) (i : ℕ) → looking_back xs ≡ looking_back (drop i xs) ++ looking_back (take i xs)
unfolding looking_back
looking_back-split xs i = ap reverse (sym (take-append-drop i xs)) ∙ reverse-append (take i xs) (drop i xs)

pub bound_none : (link : ℕ) → session_at link (looking_back []) ≡ None
unfolding session_at
bound_none link = ap (session_at link) looking_back-none

bound_more : (link : ℕ) (xs : List PastEvent) (i : ℕ) (x : PastEvent) → i < length xs → x ≡ get_or xs i x
    → session_at link (looking_back (take (i + 1) xs)) ≡ option_or (session_at link (looking_back (take i xs))) (bound_by link (i + 1) x)
unfolding session_at
bound_more link xs i x within is =
    rw (looking_back-more xs i x within is, length-looking_back xs i (omega arith), add-one) refl

pub bound_next : (link : ℕ) (xs : List PastEvent) (i : ℕ) (x : PastEvent) (found : Option Session) → i < length xs → x ≡ get_or xs i x
    → session_at link (looking_back (take i xs)) ≡ None → found ≡ bound_by link (i + 1) x → is_some found ≡ false → session_at link (looking_back (take (i + 1) xs)) ≡ None
bound_next link xs i x None within is before found none = bound_more link xs i x within is ∙ rw before (sym found)
bound_next link xs i x (Some session) within is before found none = cc

pub bound_first : (link : ℕ) (xs : List PastEvent) (i : ℕ) (x : PastEvent) (found : Option Session) → i < length xs → x ≡ get_or xs i x
    → session_at link (looking_back (take i xs)) ≡ None → found ≡ bound_by link (i + 1) x → is_some found ≡ true → session_at link (looking_back xs) ≡ found
bound_first link xs i x None within is before found some = cc
bound_first link xs i x (Some session) within is before found some =
    let here : session_at link (looking_back (take (i + 1) xs)) ≡ Some session = bound_more link xs i x within is ∙ rw before (sym found) in
    ap (session_at link) (looking_back-split xs (i + 1)) ∙ bound_stays link (looking_back (drop (i + 1) xs)) (looking_back (take (i + 1) xs)) session here

pub ruleset bound_steps = (bound_none, bound_next, bound_first, looking_back_all)

-- the bundle of a link
bundle_stays : (link : ℕ) (newer past : Past) (bundle : Bundle) → bundle_at link past ≡ Some bundle → bundle_at link (newer ++ past) ≡ Some bundle
unfolding bundle_at
bundle_stays link [] past bundle is = is
bundle_stays link (entry ∷ newer) past bundle is = rw (bundle_stays link newer past bundle is) refl

pub bundle_none : (link : ℕ) → bundle_at link (looking_back []) ≡ None
unfolding bundle_at
bundle_none link = ap (bundle_at link) looking_back-none

bundle_more : (link : ℕ) (xs : List PastEvent) (i : ℕ) (x : PastEvent) → i < length xs → x ≡ get_or xs i x
    → bundle_at link (looking_back (take (i + 1) xs)) ≡ option_or (bundle_at link (looking_back (take i xs))) (bundled_by link (i + 1) x)
unfolding bundle_at
bundle_more link xs i x within is =
    rw (looking_back-more xs i x within is, length-looking_back xs i (omega arith), add-one) refl

pub bundle_next : (link : ℕ) (xs : List PastEvent) (i : ℕ) (x : PastEvent) (found : Option Bundle) → i < length xs → x ≡ get_or xs i x
    → bundle_at link (looking_back (take i xs)) ≡ None → found ≡ bundled_by link (i + 1) x → is_some found ≡ false → bundle_at link (looking_back (take (i + 1) xs)) ≡ None
bundle_next link xs i x None within is before found none = bundle_more link xs i x within is ∙ rw before (sym found)
bundle_next link xs i x (Some bundle) within is before found none = cc

pub bundle_first : (link : ℕ) (xs : List PastEvent) (i : ℕ) (x : PastEvent) (found : Option Bundle) → i < length xs → x ≡ get_or xs i x
    → bundle_at link (looking_back (take i xs)) ≡ None → found ≡ bundled_by link (i + 1) x → is_some found ≡ true → bundle_at link (looking_back xs) ≡ found
bundle_first link xs i x None within is before found some = cc
bundle_first link xs i x (Some bundle) within is before found some =
    let here : bundle_at link (looking_back (take (i + 1) xs)) ≡ Some bundle = bundle_more link xs i x within is ∙ rw before (sym found) in
    ap (bundle_at link) (looking_back-split xs (i + 1)) ∙ bundle_stays link (looking_back (drop (i + 1) xs)) (looking_back (take (i + 1) xs)) bundle here

pub ruleset bundle_steps = (bundle_none, bundle_next, bundle_first, looking_back_all)

-- the station of a link
pub station_none : (link : ℕ) → station_at link (looking_back []) ≡ None
unfolding station_at
station_none link = ap (station_at link) looking_back-none

station_either : (one other : Option (Bor (List ℕ))) → option_copied (option_or one other) ≡ option_or (option_copied one) (option_copied other)
station_either None other = refl
station_either (Some one) other = refl

pub station_more : (link : ℕ) (xs : List PastEvent) (i : ℕ) (x : PastEvent) (found before : Option (Bor (List ℕ))) → i < length xs → x ≡ get_or xs i x
    → option_copied found ≡ stationed_by link (i + 1) x → option_copied before ≡ station_at link (looking_back (take i xs))
    → option_copied (option_or found before) ≡ station_at link (looking_back (take (i + 1) xs))
unfolding station_at
station_more link xs i x found before within is here older =
    station_either found before ∙ rw (here, older, looking_back-more xs i x within is, length-looking_back xs i (omega arith), add-one) refl

pub ruleset station_steps = (station_none, station_more, looking_back_all)

-- how many asks were accepted
pub accepts_none : accepts (looking_back []) ≡ 0
unfolding accepts
accepts_none = ap accepts looking_back-none

pub accepts_more : (xs : List PastEvent) (i : ℕ) (x : PastEvent) → i < length xs → x ≡ get_or xs i x
    → accepts (looking_back (take (i + 1) xs)) ≡ accepts (looking_back (take i xs)) + cond (is_some (number_of x.outcome)) 1 0
unfolding accepts
accepts_more xs i x within is =
    ap accepts (looking_back-more xs i x within is) ∙ (omega (arith, sum_by-cons (λ (e : PastEvent). cond (is_some (number_of e.outcome)) 1 0) x (looking_back (take i xs))))

pub ruleset accepts_steps = (accepts_none, accepts_more, looking_back_all)
