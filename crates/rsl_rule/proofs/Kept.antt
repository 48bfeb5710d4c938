-- The last fresh asks and stops of a past, for loops that go over the entries from the newest to the oldest.
use Rattle.std.proofs.Common.{◌≡◌, ℕ, ◌+◌, ◌-◌, ◌<◌, ◌≤◌, List, [], ◌∷◌, ◌++◌, take, drop, get_or, length, refl, ap, sym, ◌∙◌, arith}
use Rattle.std.specs.Prelude.{Some, None}
use Rattle.std.specs.List.{cons_option}
use Rattle.std.proofs.Math.Seq.{take-append_seam}
use Rattle.std.proofs.lemmas.List.{drop_all, take_all, take_rest, append-nil, append_assoc}
use Rattle.rsl_event.specs.declared.event.Act.{Act}
use Rattle.rsl_session.specs.declared.past_event.PastEvent.{PastEvent}
use Rattle.rsl_session.specs.declared.kept.KeptAsk.{KeptAsk}
use Rattle.rsl_session.specs.declared.kept.KeptStop.{KeptStop}
use Rattle.rsl_session.specs.Past.{Past, looking_back}
use Rattle.rsl_session.specs.Clock.{clock}
use Rattle.rsl_session.specs.Ask.{fresh_asks, fresh_decision, kept_ask}
use Rattle.rsl_session.specs.Closed.{kept_stop, stops}
use Rattle.rsl_rule.specs.Since.{acts_since}
use Rattle.rsl_rule.proofs.Looking.{looking_back-more, looking_back-none}
use Rattle.rsl_rule.proofs.Since.{rest_more}

-- the acts that came after the first entries, each with its clock
abbrev pub later_acts : List PastEvent → ℕ → List (ℕ × Act)
later_acts xs i = acts_since (clock (looking_back (take i xs))) (drop i xs)

asks_cons : (since : List (ℕ × Act)) (entry : PastEvent) (past : Past) → fresh_asks since (entry ∷ past) ≡ cons_option (kept_ask (clock (entry ∷ past)) since entry.event.act (fresh_decision entry.outcome)) (fresh_asks ((clock (entry ∷ past), entry.event.act) ∷ since) past)
unfolding fresh_asks
asks_cons since entry past = refl

asks_more : (xs : List PastEvent) (i : ℕ) (x : PastEvent) → i < length xs → x ≡ get_or xs i x
    → fresh_asks (later_acts xs (i + 1)) (looking_back (take (i + 1) xs))
    ≡ cons_option (kept_ask (clock (looking_back (take (i + 1) xs))) (later_acts xs (i + 1)) x.event.act (fresh_decision x.outcome)) (fresh_asks (later_acts xs i) (looking_back (take i xs)))
unfolding acts_since clock
asks_more xs i x within is =
    rw (rest_more xs i x within is, looking_back-more xs i x within is) (asks_cons (acts_since (clock (x ∷ looking_back (take i xs))) (drop (i + 1) xs)) x (looking_back (take i xs)))

pub asks_yes : (xs : List PastEvent) (n i now : ℕ) (x : PastEvent) (entries : List PastEvent) (ask : KeptAsk) → i < length xs → n ≡ i + 1 → x ≡ get_or xs i x
    → now ≡ clock (looking_back (take (i + 1) xs)) → entries ≡ drop (i + 1) xs → Some ask ≡ kept_ask now (acts_since now entries) x.event.act (fresh_decision x.outcome)
    → fresh_asks (later_acts xs n) (looking_back (take n xs)) ≡ ask ∷ fresh_asks (later_acts xs i) (looking_back (take i xs))
asks_yes xs n i now x entries ask within step is at rest kept =
    rw step (asks_more xs i x within is ∙ rw (sym at, sym rest, sym kept) refl)

pub asks_no : (xs : List PastEvent) (n i now : ℕ) (x : PastEvent) (entries : List PastEvent) → i < length xs → n ≡ i + 1 → x ≡ get_or xs i x
    → now ≡ clock (looking_back (take (i + 1) xs)) → entries ≡ drop (i + 1) xs → None ≡ kept_ask now (acts_since now entries) x.event.act (fresh_decision x.outcome)
    → fresh_asks (later_acts xs n) (looking_back (take n xs)) ≡ fresh_asks (later_acts xs i) (looking_back (take i xs))
asks_no xs n i now x entries within step is at rest none =
    rw step (asks_more xs i x within is ∙ rw (sym at, sym rest, sym none) refl)

asks_none : (since : List (ℕ × Act)) → fresh_asks since (looking_back []) ≡ []
unfolding fresh_asks
asks_none since = ap (fresh_asks since) looking_back-none

pub asks_end : (xs : List PastEvent) (n : ℕ) → n ≡ 0 → fresh_asks (later_acts xs n) (looking_back (take n xs)) ≡ []
asks_end xs n none = rw none (asks_none (later_acts xs 0))

pub asks_all : (xs : List PastEvent) (n : ℕ) → length xs ≤ n → fresh_asks (later_acts xs n) (looking_back (take n xs)) ≡ fresh_asks [] (looking_back xs)
unfolding acts_since
asks_all xs n all = rw (drop_all n xs all, take_all n xs all) refl

-- a loop that has found enough, or has gone over all
pub taken_enough : {A : Type 0} (n : ℕ) (found rest whole : List A) → found ++ rest ≡ whole → length found ≤ n → n ≤ length found → found ≡ take n whole
taken_enough n found rest whole is most enough =
    let same : n ≡ length found = omega arith in
    rw (sym is, same) (sym (take-append_seam found rest))

pub taken_all : {A : Type 0} (n : ℕ) (found rest whole : List A) → found ++ rest ≡ whole → length found ≤ n → rest ≡ [] → found ≡ take n whole
taken_all n found rest whole is most none =
    let all : found ≡ whole = sym (append-nil found) ∙ ap (λ ys. found ++ ys) (sym none) ∙ is in
    rw (sym all) (sym (take_all n found most))

pub ruleset asks_steps = (asks_yes, asks_no, asks_all, take_rest)

stops_cons : (since : List (ℕ × Act)) (entry : PastEvent) (past : Past) → stops since (entry ∷ past) ≡ cons_option (kept_stop (clock (entry ∷ past)) since entry.event.act) (stops ((clock (entry ∷ past), entry.event.act) ∷ since) past)
unfolding stops
stops_cons since entry past = refl

stops_more : (xs : List PastEvent) (i : ℕ) (x : PastEvent) → i < length xs → x ≡ get_or xs i x
    → stops (later_acts xs (i + 1)) (looking_back (take (i + 1) xs))
    ≡ cons_option (kept_stop (clock (looking_back (take (i + 1) xs))) (later_acts xs (i + 1)) x.event.act) (stops (later_acts xs i) (looking_back (take i xs)))
unfolding acts_since clock
stops_more xs i x within is =
    rw (rest_more xs i x within is, looking_back-more xs i x within is) (stops_cons (acts_since (clock (x ∷ looking_back (take i xs))) (drop (i + 1) xs)) x (looking_back (take i xs)))

pub stops_yes : (xs : List PastEvent) (n i now : ℕ) (x : PastEvent) (entries : List PastEvent) (stop : KeptStop) → i < length xs → n ≡ i + 1 → x ≡ get_or xs i x
    → now ≡ clock (looking_back (take (i + 1) xs)) → entries ≡ drop (i + 1) xs → Some stop ≡ kept_stop now (acts_since now entries) x.event.act
    → stops (later_acts xs n) (looking_back (take n xs)) ≡ stop ∷ stops (later_acts xs i) (looking_back (take i xs))
stops_yes xs n i now x entries stop within step is at rest kept =
    rw step (stops_more xs i x within is ∙ rw (sym at, sym rest, sym kept) refl)

pub stops_no : (xs : List PastEvent) (n i now : ℕ) (x : PastEvent) (entries : List PastEvent) → i < length xs → n ≡ i + 1 → x ≡ get_or xs i x
    → now ≡ clock (looking_back (take (i + 1) xs)) → entries ≡ drop (i + 1) xs → None ≡ kept_stop now (acts_since now entries) x.event.act
    → stops (later_acts xs n) (looking_back (take n xs)) ≡ stops (later_acts xs i) (looking_back (take i xs))
stops_no xs n i now x entries within step is at rest none =
    rw step (stops_more xs i x within is ∙ rw (sym at, sym rest, sym none) refl)

stops_none : (since : List (ℕ × Act)) → stops since (looking_back []) ≡ []
unfolding stops
stops_none since = ap (stops since) looking_back-none

pub stops_end : (xs : List PastEvent) (n : ℕ) → n ≡ 0 → stops (later_acts xs n) (looking_back (take n xs)) ≡ []
stops_end xs n none = rw none (stops_none (later_acts xs 0))

pub stops_all : (xs : List PastEvent) (n : ℕ) → length xs ≤ n → stops (later_acts xs n) (looking_back (take n xs)) ≡ stops [] (looking_back xs)
unfolding acts_since
stops_all xs n all = rw (drop_all n xs all, take_all n xs all) refl

pub ruleset stops_steps = (stops_yes, stops_no, stops_all, take_rest)

pub asks_pushed : (xs : List PastEvent) (n now : ℕ) (x : PastEvent) (ask : KeptAsk) (old new whole : List KeptAsk) → 0 < n → n ≤ length xs → x ≡ get_or xs (n - 1) x
    → now ≡ clock (looking_back (take (n - 1 + 1) xs))
    → Some ask ≡ kept_ask now (acts_since now (take (length xs - (n - 1 + 1)) (drop (n - 1 + 1) xs))) x.event.act (fresh_decision x.outcome)
    → new ≡ old ++ ask ∷ [] → old ++ fresh_asks (later_acts xs n) (looking_back (take n xs)) ≡ whole
    → new ++ fresh_asks (later_acts xs (n - 1)) (looking_back (take (n - 1) xs)) ≡ whole
asks_pushed xs n now x ask old new whole some within is at found pushed before =
    rw pushed (append_assoc old (ask ∷ []) (fresh_asks (later_acts xs (n - 1)) (looking_back (take (n - 1) xs)))
    ∙ ap (λ ys. old ++ ys) (sym (asks_yes xs n (n - 1) now x (take (length xs - (n - 1 + 1)) (drop (n - 1 + 1) xs)) ask (omega arith) (omega arith) is at (take_rest xs (n - 1 + 1)) found))
    ∙ before)

pub stops_pushed : (xs : List PastEvent) (n now : ℕ) (x : PastEvent) (stop : KeptStop) (old new whole : List KeptStop) → 0 < n → n ≤ length xs → x ≡ get_or xs (n - 1) x
    → now ≡ clock (looking_back (take (n - 1 + 1) xs))
    → Some stop ≡ kept_stop now (acts_since now (take (length xs - (n - 1 + 1)) (drop (n - 1 + 1) xs))) x.event.act
    → new ≡ old ++ stop ∷ [] → old ++ stops (later_acts xs n) (looking_back (take n xs)) ≡ whole
    → new ++ stops (later_acts xs (n - 1)) (looking_back (take (n - 1) xs)) ≡ whole
stops_pushed xs n now x stop old new whole some within is at found pushed before =
    rw pushed (append_assoc old (stop ∷ []) (stops (later_acts xs (n - 1)) (looking_back (take (n - 1) xs)))
    ∙ ap (λ ys. old ++ ys) (sym (stops_yes xs n (n - 1) now x (take (length xs - (n - 1 + 1)) (drop (n - 1 + 1) xs)) stop (omega arith) (omega arith) is at (take_rest xs (n - 1 + 1)) found))
    ∙ before)
