-- What is held, one entry further on, for the pass that carries it over a past.
use Rattle.std.proofs.Common.{◌≡◌, ℕ, suc, ◌+◌, ◌-◌, ◌<◌, ◌≤◌, max, List, [], ◌∷◌, ◌++◌, map, take, get_or, length, Bool, true, false, refl, ap, sym, ◌∙◌, arith}
use Rattle.std.specs.Prelude.{Option, None, filter, nat_le}
use Rattle.std.specs.Option.{option_or}
use Rattle.std.proofs.lemmas.Bool.{eq-eqb, ne_eqb}
use Rattle.std.proofs.lemmas.List.{get_or-map, length-map, map-append, take_all}
use Rattle.rsl_accounts.specs.declared.rules.Rules.{Rules}
use Rattle.rsl_event.specs.declared.event.Event.{Event}
use Rattle.rsl_session.specs.declared.past_event.PastEvent.{PastEvent}
use Rattle.rsl_session.specs.declared.outcome.Outcome.{Outcome}
use Rattle.rsl_session.specs.declared.outcome.Outcome.TheVariants.{Accepted, AcceptedInPlace, Refused, Repeated, Opened, Took, Renewed, Ignored, Over, Passed}
use Rattle.rsl_session.specs.declared.session.Session.{Session}
use Rattle.rsl_session.specs.Past.{Past, looking_back}
use Rattle.rsl_session.specs.Clock.{clock, clock_at}
use Rattle.rsl_session.specs.Link.{links, opens}
use Rattle.rsl_session.specs.Binding.{binds, touches, session_at, bound_by}
use Rattle.rsl_session.specs.Lapse.{lapses, standing_time}
use Rattle.rsl_session.specs.Held.{held_links}
use Rattle.rsl_session.proofs.Callers.{left_by, left_by-held, held-quiet, held-opened}
use Rattle.rsl_rule.specs.Standing.{standing_of}
use Rattle.rsl_rule.specs.Holding.{IsHolding, furthest_taken, lasting, standings, taken_by}
use Rattle.rsl_rule.specs.declared.holding.HeldLink.{HeldLink}
use Rattle.rsl_rule.specs.declared.holding.Holding.{Holding}
use Rattle.rsl_rule.specs.declared.standing.Standing.{Standing}
use Rattle.rsl_rule.proofs.Lists.{filter_yes, filter_no}
use Rattle.rsl_rule.proofs.Looking.{looking_back-none, looking_back-more, looking_back_all, length_all, clock_none, standing_next}

-- a link that is carried stands so
pub standings_at : (past : Past) (links : List ℕ) (items : List HeldLink) → items ≡ standings past links → (i : ℕ) (x : HeldLink) → i < length items → x ≡ get_or items i x
    → (i < length links) × (x.link ≡ get_or links i x.link) × (x.standing ≡ standing_of x.link past)
unfolding standings
standings_at past links items same i x within is =
    let as_item : ℕ → HeldLink = λ link. record { link = link; standing = standing_of link past } in
    let long : length items ≡ length links = ap length same ∙ length-map links as_item in
    let inside : i < length links = omega arith in
    let here : x ≡ as_item (get_or links i x.link) = is ∙ ap (λ xs. get_or xs i x) same ∙ get_or-map as_item links i x.link x inside in
    let number : x.link ≡ get_or links i x.link = ap (λ (h : HeldLink). h.link) here in (
      inside,
      number,
      ap (λ (h : HeldLink). h.standing) here ∙ ap (λ n. standing_of n past) (sym number),
    )

pub length-standings : (past : Past) (links : List ℕ) → length (standings past links) ≡ length links
unfolding standings
length-standings past links = length-map links _

-- the links that pass a test, one link further on
pub left_yes : (p : ℕ → Bool) (past next : Past) (links : List ℕ) (items : List HeldLink) → items ≡ standings past links → (i : ℕ) (x : HeldLink) → i < length items → x ≡ get_or items i x
    → p x.link ≡ true → (standing : Standing) → standing ≡ standing_of x.link next
    → standings next (filter p (take (i + 1) links)) ≡ standings next (filter p (take i links)) ++ (record { link = x.link; standing = standing }) ∷ []
unfolding standings
left_yes p past next links items same i x within is passes standing stands =
    let at = standings_at past links items same i x within is in
    let as_item : ℕ → HeldLink = λ link. record { link = link; standing = standing_of link next } in
    rw stands (ap (map as_item) (filter_yes p links i x.link at.0 at.1 passes) ∙ map-append as_item (filter p (take i links)) (x.link ∷ []))

pub left_no : (p : ℕ → Bool) (past next : Past) (links : List ℕ) (items : List HeldLink) → items ≡ standings past links → (i : ℕ) (x : HeldLink) → i < length items → x ≡ get_or items i x
    → p x.link ≡ false → standings next (filter p (take (i + 1) links)) ≡ standings next (filter p (take i links))
left_no p past next links items same i x within is misses =
    let at = standings_at past links items same i x within is in
    ap (λ ls. standings next ls) (filter_no p links i x.link at.0 at.1 misses)

-- a link that has not opened is bound only where an event took its number
binds-none : (link number : ℕ) (outcome : Outcome) → number < link → taken_by outcome < link → binds link number outcome ≡ false
unfolding binds taken_by
binds-none link number Opened later beyond = ne_eqb link number (λ same. omega (arith, same))
binds-none link number (Took taken) later beyond = ne_eqb link taken (λ same. omega (arith, same))
binds-none link number (Accepted accept) later beyond = refl
binds-none link number (AcceptedInPlace accept yielded) later beyond = refl
binds-none link number Refused later beyond = refl
binds-none link number (Repeated decision) later beyond = refl
binds-none link number (Renewed renewed) later beyond = refl
binds-none link number Ignored later beyond = refl
binds-none link number Over later beyond = refl
binds-none link number Passed later beyond = refl

bound_by-none : (link number : ℕ) (entry : PastEvent) → number < link → taken_by entry.outcome < link → bound_by link number entry ≡ None
unfolding bound_by
bound_by-none link number entry later beyond = rw (binds-none link number entry.outcome later beyond) refl

bound-none : (past : Past) (link : ℕ) → length past < link → furthest_taken past < link → session_at link past ≡ None
unfolding session_at furthest_taken
bound-none [] link later beyond = refl
bound-none (entry ∷ past) link later beyond =
    rw (bound-none past link (omega arith) (omega arith), bound_by-none link (suc (length past)) entry later (omega arith)) refl

pub unbound : (xs : List PastEvent) (link furthest : ℕ) → length xs < link → furthest ≡ furthest_taken (looking_back xs) → furthest < link → session_at link (looking_back xs) ≡ None
unbound xs link furthest later is beyond = bound-none (looking_back xs) link (omega (arith, length_all xs)) (omega arith)

-- a link is touched by the event that opens it
touches_own : (number : ℕ) (outcome : Outcome) → opens outcome ≡ true → touches number number outcome ≡ true
unfolding opens touches
touches_own number (Accepted accept) opened = eq-eqb number number refl
touches_own number (AcceptedInPlace accept yielded) opened = eq-eqb number number refl
touches_own number Opened opened = eq-eqb number number refl
touches_own number Refused opened = cc
touches_own number (Repeated decision) opened = cc
touches_own number (Took taken) opened = cc
touches_own number (Renewed renewed) opened = cc
touches_own number Ignored opened = cc
touches_own number Over opened = cc
touches_own number Passed opened = cc

pub opened_stands : (xs : List PastEvent) (x : PastEvent) (link now : ℕ) (before session : Option Session) → opens x.outcome ≡ true → link ≡ length xs + 1 → now ≡ max (clock (looking_back xs)) x.event.moment
    → before ≡ session_at link (looking_back xs) → session ≡ option_or before (bound_by link link x)
    → (let opened : Standing = record { clock = now; opened = now; touched = now; session = session } in opened) ≡ standing_of (length xs + 1) (x ∷ looking_back xs)
opened_stands xs x link now before session opened number at was is =
    let own = touches_own (length xs + 1) x.outcome opened in
    let same = eq-eqb (length xs + 1) (length xs + 1) refl in
    rw (is, was, at, number) (sym (standing_next (length xs + 1) xs x ∙ rw (own, same) refl))

-- what is held before the first event
pub standings_none : (rules : Rules) → standings (looking_back []) (held_links rules (looking_back [])) ≡ []
unfolding standings held_links links
standings_none rules = ap (λ past. standings past (held_links rules past)) looking_back-none

pub furthest_none : furthest_taken (looking_back []) ≡ 0
unfolding furthest_taken
furthest_none = ap furthest_taken looking_back-none

pub ruleset holding_none = (standings_none, clock_none, furthest_none)

-- what is held after one more entry
left_by-lasting : (rules : Rules) (entry : PastEvent) (past : Past) → left_by rules entry past ≡ lasting rules entry past
left_by-lasting rules entry past = sym (left_by-held rules entry past)

pub carried_quiet : (rules : Rules) (past : Past) (x : PastEvent) → opens x.outcome ≡ false
    → standings (x ∷ past) (held_links rules (x ∷ past)) ≡ standings (x ∷ past) (lasting rules x past)
carried_quiet rules past x quiet = ap (λ ls. standings (x ∷ past) ls) (held-quiet rules x past quiet ∙ left_by-lasting rules x past)

pub carried_opened : (rules : Rules) (xs : List PastEvent) (x : PastEvent) (standing : Standing) → opens x.outcome ≡ true → standing ≡ standing_of (length xs + 1) (x ∷ looking_back xs)
    → standings (x ∷ looking_back xs) (held_links rules (x ∷ looking_back xs))
    ≡ standings (x ∷ looking_back xs) (lasting rules x (looking_back xs)) ++ (record { link = length xs + 1; standing = standing }) ∷ []
unfolding standings
carried_opened rules xs x standing opened stands =
    let as_item : ℕ → HeldLink = λ link. record { link = link; standing = standing_of link (x ∷ looking_back xs) } in
    let number : suc (length (looking_back xs)) ≡ length xs + 1 = omega (arith, length_all xs) in
    rw stands (ap (map as_item) (held-opened rules x (looking_back xs) opened ∙ ap (λ ls. ls ++ suc (length (looking_back xs)) ∷ []) (left_by-lasting rules x (looking_back xs)) ∙ ap (λ n. lasting rules x (looking_back xs) ++ n ∷ []) number)
    ∙ map-append as_item (lasting rules x (looking_back xs)) ((length xs + 1) ∷ []))

pub clock_next : (past : Past) (x : PastEvent) → clock (x ∷ past) ≡ max (clock past) x.event.moment
unfolding clock
clock_next past x = refl

pub furthest_next : (past : Past) (x : PastEvent) → furthest_taken (x ∷ past) ≡ max (furthest_taken past) (taken_by x.outcome)
unfolding furthest_taken
furthest_next past x = refl

-- what is held, over the entries of a past
pub holding_more : (rules : Rules) (xs : List PastEvent) (i : ℕ) (x : PastEvent) (holding : Holding) → i < length xs → x ≡ get_or xs i x → IsHolding rules (x ∷ looking_back (take i xs)) holding → IsHolding rules (looking_back (take (i + 1) xs)) holding
holding_more rules xs i x holding within is so = rw (looking_back-more xs i x within is) so

pub holding_all : (rules : Rules) (xs : List PastEvent) (i : ℕ) (holding : Holding) → length xs ≤ i → IsHolding rules (looking_back (take i xs)) holding → IsHolding rules (looking_back xs) holding
holding_all rules xs i holding all so = rw looking_back_all at so

pub number_all : (past : Past) (links : List ℕ) (items : List HeldLink) → items ≡ standings past links → (i : ℕ) → length items ≤ i → take i links ≡ links
number_all past links items same i all = take_all i links (omega (arith, ap length same, length-standings past links))

-- whether a link that stands so lapses
pub lapses_so : (rules : Rules) (past : Past) (event : Event) (link : ℕ) (standing : Standing) → standing ≡ standing_of link past
    → nat_le (standing_time rules standing.session) (max standing.clock event.moment - standing.touched) ≡ lapses rules past event link
unfolding lapses clock_at standing_of
lapses_so rules past event link standing is = rw is refl
