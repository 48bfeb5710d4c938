-- A ring of what is kept and of its fingerprints: look-ups that pass over what has another one, pushes, and sameness.
use Rattle.std.proofs.Common.{◌≡◌, ◌≢◌, ℕ, ◌+◌, ◌<◌, List, [], ◌∷◌, take, drop, get_or, length, map, Bool, true, false, refl, ap, sym, ◌∙◌, arith}
use Rattle.std.specs.Prelude.{find, ◌↔◌, ◌&&◌, ◌-◌, nat_lt, not}
use Rattle.std.specs.List.{list_any}
use Rattle.std.proofs.lemmas.Bool.{and_parts}
use Rattle.std.proofs.lemmas.List.{take-map, get_or_default}
use Rattle.rsl_accounts.specs.declared.rules.Rules.{Rules}
use Rattle.rsl_event.specs.declared.event.Key.{Key}
use Rattle.rsl_event.specs.declared.nas.Nas.{Nas}
use Rattle.rsl_session.specs.declared.kept.KeptAsk.{KeptAsk}
use Rattle.rsl_session.specs.declared.kept.KeptStop.{KeptStop}
use Rattle.rsl_session.specs.declared.session.Session.{Session}
use Rattle.rsl_session.specs.Ask.{repeats}
use Rattle.rsl_session.specs.Closed.{closes}
use Rattle.rsl_session.specs.Same.{same_key, same_session}
use Rattle.rsl_session.proofs.Callers.{same_key-true, same_session-true}
use Rattle.rsl_book.specs.declared.kept.Kept.{Kept}
use Rattle.rsl_book.specs.declared.kept.DecidedAsk.{DecidedAsk}
use Rattle.rsl_book.specs.declared.kept.EndedSession.{EndedSession}
use Rattle.rsl_book.specs.Fingerprint.{id_fingerprint, key_fingerprint}
use Rattle.rsl_book.specs.Seen.{SeenKept, all_seen, ask_seen, asks_seen, kept_seen, stop_seen, stops_seen, sweep_kept}
use Rattle.rsl_book.proofs.Swept.{subjects_swept}
use Rattle.circular_buffer.specs.Buffer.{Buffer, buffer}
use Rattle.rsl_links.specs.Seen.{server_at}
use Rattle.rsl_links.proofs.Callers.{any_end, any_no, any_yes, find_end, find_no, find_yes}

-- what passes a test has the fingerprint that is sought, so one with another does not pass
misses : (b : Bool) (n own : ℕ) → (b ≡ true → n ≡ own) → n ≢ own → b ≡ false
misses true n own told other = absurd (other (told refl))
misses false n own told other = refl

find_past : {A B : Type 0} (p : B → Bool) (f : A → B) (print : A → ℕ) (own : ℕ) (xs : List A) (i : ℕ) → i < length xs → ((x : A) → p (f x) ≡ true → print x ≡ own)
    → ((x : A) → print (get_or xs i x) ≢ own) → find p (map f (drop i xs)) ≡ find p (map f (drop (i + 1) xs))
find_past p f print own [] i within told other = absurd (omega arith)
find_past p f print own (x ∷ xs) i within told other =
    find_no p f (x ∷ xs) i (get_or (x ∷ xs) i x) within (get_or_default (x ∷ xs) i x (get_or (x ∷ xs) i x) within)
    (misses (p (f (get_or (x ∷ xs) i x))) (print (get_or (x ∷ xs) i x)) own (told (get_or (x ∷ xs) i x)) (other x))

any_past : {A B : Type 0} (p : B → Bool) (f : A → B) (print : A → ℕ) (own : ℕ) (xs : List A) (i : ℕ) → i < length xs → ((x : A) → p (f x) ≡ true → print x ≡ own)
    → ((x : A) → print (get_or xs i x) ≢ own) → list_any p (map f (drop i xs)) ≡ list_any p (map f (drop (i + 1) xs))
any_past p f print own [] i within told other = absurd (omega arith)
any_past p f print own (x ∷ xs) i within told other =
    any_no p f (x ∷ xs) i (get_or (x ∷ xs) i x) within (get_or_default (x ∷ xs) i x (get_or (x ∷ xs) i x) within)
    (misses (p (f (get_or (x ∷ xs) i x))) (print (get_or (x ∷ xs) i x)) own (told (get_or (x ∷ xs) i x)) (other x))

-- equal keys, and equal ids, have equal fingerprints
ask_told : (servers : List Nas) (rules : Rules) (key : Key) (now : ℕ) (ask : Kept DecidedAsk) → repeats rules key now (ask_seen servers ask) ≡ true → key_fingerprint ask.subject.key ≡ key_fingerprint key
unfolding repeats ask_seen
ask_told servers rules key now ask passes =
    let young = and_parts (same_key ask.subject.key key && nat_lt (now - ask.at) rules.keep) (not ask.swept) passes in
    let same = and_parts (same_key ask.subject.key key) (nat_lt (now - ask.at) rules.keep) young.0 in
    ap key_fingerprint (same_key-true ask.subject.key key same.0)

stop_told : (servers : List Nas) (rules : Rules) (session : Session) (now : ℕ) (stop : Kept EndedSession) → closes rules session now (stop_seen servers stop) ≡ true → id_fingerprint stop.subject.id ≡ id_fingerprint session.id
unfolding closes stop_seen
stop_told servers rules session now stop passes =
    let own : Session = record { nas = server_at servers stop.nas; id = stop.subject.id } in
    let young = and_parts (same_session own session && nat_lt (now - stop.at) rules.closed) (not stop.swept) passes in
    let same = and_parts (same_session own session) (nat_lt (now - stop.at) rules.closed) young.0 in
    ap (λ (one : Session). id_fingerprint one.id) (same_session-true own session same.0)

pub asks_past : (servers : List Nas) (rules : Rules) (key : Key) (now own : ℕ) (asks : List (Kept DecidedAsk)) (i : ℕ) → i < length asks → own ≡ key_fingerprint key
    → ((ask : Kept DecidedAsk) → key_fingerprint (get_or asks i ask).subject.key ≢ own)
    → find (repeats rules key now) (asks_seen servers (drop i asks)) ≡ find (repeats rules key now) (asks_seen servers (drop (i + 1) asks))
unfolding asks_seen
asks_past servers rules key now own asks i within is other =
    find_past (repeats rules key now) (ask_seen servers) (λ (ask : Kept DecidedAsk). key_fingerprint ask.subject.key) own asks i within
    (λ ask passes. ask_told servers rules key now ask passes ∙ sym is) other

pub stops_past : (servers : List Nas) (rules : Rules) (session : Session) (now own : ℕ) (stops : List (Kept EndedSession)) (i : ℕ) → i < length stops → own ≡ id_fingerprint session.id
    → ((stop : Kept EndedSession) → id_fingerprint (get_or stops i stop).subject.id ≢ own)
    → list_any (closes rules session now) (stops_seen servers (drop i stops)) ≡ list_any (closes rules session now) (stops_seen servers (drop (i + 1) stops))
unfolding stops_seen
stops_past servers rules session now own stops i within is other =
    any_past (closes rules session now) (stop_seen servers) (λ (stop : Kept EndedSession). id_fingerprint stop.subject.id) own stops i within
    (λ stop passes. stop_told servers rules session now stop passes ∙ sym is) other

pub ruleset ask_steps = (find_yes, find_no, find_end, asks_past)

pub ruleset stop_steps = (any_yes, any_no, any_end, stops_past)

-- one more in front
pub prints_push : {S : Type 0} (print : S → ℕ) (kept : Kept S) (own : ℕ) (prints more : Buffer ℕ) (all new : Buffer (Kept S)) → prints ≡ buffer (map (λ (one : Kept S). print one.subject) all.items) all.capacity
    → own ≡ print kept.subject → more ≡ buffer (take prints.capacity (own ∷ prints.items)) prints.capacity → new ≡ buffer (take all.capacity (kept ∷ all.items)) all.capacity
    → more ≡ buffer (map (λ (one : Kept S). print one.subject) new.items) new.capacity
prints_push {S = S} print kept own prints more all new are is pushed kept_too =
    pushed ∙ rw (are, is, kept_too) (ap (λ xs. buffer xs all.capacity) (take-map (λ (one : Kept S). print one.subject) all.capacity (kept ∷ all.items)))

-- a sweep changes no fingerprint
pub prints_swept : {S : Type 0} (print : S → ℕ) (servers : List Nas) (nas : Nas) (delay now : ℕ) (prints : Buffer ℕ) (all : Buffer (Kept S)) (swept : List (Kept S)) → prints ≡ buffer (map (λ (one : Kept S). print one.subject) all.items) all.capacity
    → swept ≡ map (sweep_kept servers nas delay now) all.items → prints ≡ buffer (map (λ (one : Kept S). print one.subject) swept) all.capacity
prints_swept {S = S} print servers nas delay now prints all swept are is =
    are ∙ ap (λ xs. buffer xs all.capacity) (sym (ap (map (λ (one : Kept S). print one.subject)) is ∙ subjects_swept print servers nas delay now all.items))

-- two rings are seen as the same asks, or stops, where they are seen as the same
map_over : {A B C : Type 0} (f : A → B) (g : B → C) (h : A → C) → ((x : A) → g (f x) ≡ h x) → (xs : List A) → map g (map f xs) ≡ map h xs
map_over f g h same [] = refl
map_over f g h same (x ∷ xs) = rw (same x) (ap (λ ys. h x ∷ ys) (map_over f g h same xs))

as_ask : SeenKept DecidedAsk → KeptAsk
as_ask kept = record { key = kept.subject.key; nas = kept.nas; decision = kept.subject.decision; at = kept.at; swept = kept.swept }

of_ask : KeptAsk → SeenKept DecidedAsk
of_ask ask = record { subject = record { key = ask.key; decision = ask.decision }; at = ask.at; swept = ask.swept; nas = ask.nas }

as_stop : SeenKept EndedSession → KeptStop
as_stop kept = record { session = record { nas = kept.nas; id = kept.subject.id }; at = kept.at; swept = kept.swept }

of_stop : KeptStop → SeenKept EndedSession
of_stop stop = record { subject = record { id = stop.session.id }; at = stop.at; swept = stop.swept; nas = stop.session.nas }

pub asks_alike : (servers others : List Nas) (one two : List (Kept DecidedAsk)) (r : Bool) → ((r ≡ true) ↔ (all_seen servers one ≡ all_seen others two)) → (r ≡ true) ↔ (asks_seen servers one ≡ asks_seen others two)
unfolding asks_seen ask_seen all_seen kept_seen as_ask of_ask
asks_alike servers others one two r same = (
  λ is. sym (map_over (kept_seen servers) as_ask (ask_seen servers) (λ x. refl) one) ∙ ap (map as_ask) (same.0 is) ∙ map_over (kept_seen others) as_ask (ask_seen others) (λ x. refl) two,
  λ seen. same.1 (sym (map_over (ask_seen servers) of_ask (kept_seen servers) (λ x. refl) one) ∙ ap (map of_ask) seen ∙ map_over (ask_seen others) of_ask (kept_seen others) (λ x. refl) two),
)

pub stops_alike : (servers others : List Nas) (one two : List (Kept EndedSession)) (r : Bool) → ((r ≡ true) ↔ (all_seen servers one ≡ all_seen others two)) → (r ≡ true) ↔ (stops_seen servers one ≡ stops_seen others two)
unfolding stops_seen stop_seen all_seen kept_seen as_stop of_stop
stops_alike servers others one two r same = (
  λ is. sym (map_over (kept_seen servers) as_stop (stop_seen servers) (λ x. refl) one) ∙ ap (map as_stop) (same.0 is) ∙ map_over (kept_seen others) as_stop (stop_seen others) (λ x. refl) two,
  λ seen. same.1 (sym (map_over (stop_seen servers) of_stop (kept_seen servers) (λ x. refl) one) ∙ ap (map of_stop) seen ∙ map_over (stop_seen others) of_stop (kept_seen others) (λ x. refl) two),
)
