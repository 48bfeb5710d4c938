-- A loop over the lines of a text, which takes one line after the other.
use Rattle.std.proofs.Common.{◌≡◌, ◌≢◌, ℕ, ◌+◌, ◌<◌, ◌≤◌, Bool, true, false, ◌&&◌, ◌||◌, nat_lt, List, [], ◌∷◌, ◌++◌, length, map, take, drop, get_or, Option, None, Some, option_to_list, unwrap_or, Ok, Err, add-zero, zero-add, Bor, zero, suc, refl, ap, sym, ◌∙◌, arith}
use Rattle.std.proofs.lemmas.List.{take_more as list_take_more, take_all, drop_more, drop_all, map-append, length-map, length-take-le}
use borrow.Author.Tests.{lt-ltb}
use Rattle.std.proofs.lemmas.List.Elements.{filter_map-append}
use Rattle.std.proofs.lemmas.Iterator.{YieldsList}
use Rattle.std.proofs.lemmas.Iterator.Consumers.{YieldsList-turn, YieldsList-end}
use Rattle.std.specs.Iterator.{Yields}
use Rattle.std.specs.List.{filter_map, cons_option, enumerate_from, list_any}
use Rattle.rsl_script.specs.declared.event_line.EventLine.{EventLine}
use Rattle.rsl_script.specs.declared.line.ScriptLine.{ScriptLine}
use Rattle.rsl_script.specs.declared.line.ScriptLine.TheVariants as lines
use Rattle.rsl_script.specs.Line.{line_of}
use Rattle.rsl_script.specs.Script.{Contents, contents_of, event_said, first_wrong, is_configuration, is_event, is_wrong, last_of, script_of}
use Rattle.rsl_script.specs.Words.{text_lines}
use Rattle.rsl_script.specs.declared.fault.ScriptFault.TheVariants.{Line as line_fault, NoMemory as no_memory}
use Rattle.rsl_script.specs.declared.fault.ScriptFault.{ScriptFault}
use Rattle.rsl_script.specs.declared.fault.LineFault.{LineFault}
use Rattle.rsl_script.specs.declared.fault.LineFault.TheVariants.{Wrong, NoMemory as line_no_memory}
use Rattle.rsl_script.specs.Reads.{script_fault_at}
use Rattle.rsl_script.specs.Taking.{with_next_line, with_said, contents_with}

-- one line more at the end

cons_option_alone : {Y : Type 0} (o : Option Y) → cons_option o [] ≡ option_to_list o
cons_option_alone None = refl
cons_option_alone (Some y) = refl

filter_map_last : {X Y : Type 0} (f : X → Option Y) (xs : List X) (x : X) → filter_map f (xs ++ x ∷ []) ≡ filter_map f xs ++ option_to_list (f x)
filter_map_last f xs x = filter_map-append f xs (x ∷ []) ∙ ap (λ ys. filter_map f xs ++ ys) (cons_option_alone (f x))

last_of_more : (first : ℕ) (values : List ℕ) (more : Option ℕ) → last_of first (values ++ option_to_list more) ≡ unwrap_or more (last_of first values)
last_of_more first [] None = refl
last_of_more first [] (Some value) = refl
last_of_more first (value ∷ values) more = last_of_more value values more

contents_more : (said : List ScriptLine) (line : ScriptLine) → contents_of (said ++ line ∷ []) ≡ contents_with (contents_of said) line
unfolding contents_of
contents_more said line =
    simp (filter_map_last, last_of_more)

-- whether an event line stands among some lines

begun_step : (said : Option ScriptLine) (rest : List ScriptLine) (begun : Bool) → begun ≡ nat_lt 0 (length (filter_map event_said rest)) → (is_event said || begun) ≡ nat_lt 0 (length (filter_map event_said (cons_option said rest)))
begun_step None rest begun is = is
begun_step (Some (lines.Event event)) rest begun is = sym (lt-ltb 0 (length (event ∷ filter_map event_said rest)) (omega arith))
begun_step (Some lines.Silent) rest begun is = is
begun_step (Some (lines.Set setting value)) rest begun is = is
begun_step (Some (lines.Client client)) rest begun is = is
begun_step (Some (lines.Account account)) rest begun is = is

begun_is : (front : List (List ℕ)) → list_any is_event (map line_of front) ≡ nat_lt 0 (length (filter_map event_said (filter_map line_of front)))
begun_is [] = refl
begun_is (line ∷ front) = begun_step (line_of line) (filter_map line_of front) (list_any is_event (map line_of front)) (begun_is front)

events_held : (front : List (List ℕ)) → (contents_of (filter_map line_of front)).events ≡ filter_map event_said (filter_map line_of front)
unfolding contents_of
events_held front = refl

-- whether a line after others is wrong, by what they hold
wrong_by : (front : List (List ℕ)) (line : ScriptLine) → is_wrong (map line_of front) (Some line) ≡ (is_configuration line && nat_lt 0 (length (contents_of (filter_map line_of front)).events))
wrong_by front line = ap (λ begun. is_configuration line && begun) (begun_is front ∙ ap (λ (events : List EventLine). nat_lt 0 (length events)) (sym (events_held front)))

said_last : (front : List (List ℕ)) (line : List ℕ) → map line_of (front ++ line ∷ []) ≡ map line_of front ++ line_of line ∷ []
said_last front line = map-append line_of front (line ∷ [])

-- a line that is taken
pub record IsTaken (front : List (List ℕ)) (line : List ℕ) (rest : List (List ℕ)) (after : Contents) : Type 0 where
  pub held : after ≡ contents_of (filter_map line_of (front ++ line ∷ []))
  pub passed : first_wrong (map line_of front) (line_of line ∷ map line_of rest) ≡ first_wrong (map line_of (front ++ line ∷ [])) (map line_of rest)

passed_where_right : (before rest : List (Option ScriptLine)) (said : Option ScriptLine) → is_wrong before said ≡ false → first_wrong before (said ∷ rest) ≡ first_wrong (before ++ said ∷ []) rest
unfolding first_wrong
passed_where_right before rest said right = rw right

named_where_wrong : (before rest : List (Option ScriptLine)) (said : Option ScriptLine) → is_wrong before said ≡ true → first_wrong before (said ∷ rest) ≡ Some (length before + 1)
unfolding first_wrong
named_where_wrong before rest said wrong = rw wrong

taken_held : (held after : Contents) (line : ScriptLine) (wrong : Bool) → (is_configuration line && nat_lt 0 (length held.events)) ≡ wrong → with_next_line held line ≡ Some after → (wrong ≡ false) × (contents_with held line ≡ after)
taken_held held after line true is took = cc
taken_held held after line false is took = (refl, cc)

pub taken_more : (front : List (List ℕ)) (line : List ℕ) (rest : List (List ℕ)) (after : Contents) (said : Option ScriptLine) → line_of line ≡ said → with_said (contents_of (filter_map line_of front)) said ≡ Some after → IsTaken front line rest after
unfolding with_said
taken_more front line rest after None is took = cc
taken_more front line rest after (Some said) is took =
    let held = contents_of (filter_map line_of front) in
    let (right, more) = taken_held held after said (is_configuration said && nat_lt 0 (length held.events)) refl took in
    let last : filter_map line_of (front ++ line ∷ []) ≡ filter_map line_of front ++ said ∷ [] = filter_map_last line_of front line ∙ ap (λ o. filter_map line_of front ++ option_to_list o) is in
    record {
      held = sym more ∙ (sym (contents_more (filter_map line_of front) said) ∙ ap contents_of (sym last));
      passed = rw is (passed_where_right (map line_of front) (map line_of rest) (Some said) (wrong_by front said ∙ right)) ∙ ap (λ before. first_wrong before (map line_of rest)) (sym (said_last front line));
    }

refused : (held : Contents) (line : ScriptLine) (wrong : Bool) → (is_configuration line && nat_lt 0 (length held.events)) ≡ wrong → with_next_line held line ≡ None → wrong ≡ true
refused held line true is none = refl
refused held line false is none = cc

pub wrong_named : (front : List (List ℕ)) (line : List ℕ) (rest : List (List ℕ)) (said : Option ScriptLine) → line_of line ≡ said → with_said (contents_of (filter_map line_of front)) said ≡ None → first_wrong (map line_of front) (line_of line ∷ map line_of rest) ≡ Some (length front + 1)
unfolding with_said
wrong_named front line rest said is none =
    rw is (named_where_wrong (map line_of front) (map line_of rest) said (by said none)) ∙ ap (λ len. Some (len + 1)) (length-map front line_of)
  where
    by : (said : Option ScriptLine) → with_said (contents_of (filter_map line_of front)) said ≡ None → is_wrong (map line_of front) said ≡ true
    by None none = refl
    by (Some line) none = wrong_by front line ∙ refused (contents_of (filter_map line_of front)) line _ refl none

-- the loop over the lines, at one of them
pub record Stands (all : List (List ℕ)) (k : ℕ) (held : Contents) : Type 0 where
  pub held_is : held ≡ contents_of (filter_map line_of (take k all))
  pub wrong_is : first_wrong [] (map line_of all) ≡ first_wrong (map line_of (take k all)) (map line_of (drop k all))

pub stands_more : (all : List (List ℕ)) (k : ℕ) (line : List ℕ) (held after : Contents) → Stands all k held → k < length all → line ≡ get_or all k line → with_said held (line_of line) ≡ Some after → Stands all (k + 1) after
stands_more all k line held after s below is took =
    let front = take k all in
    let rest = drop (k + 1) all in
    let t = taken_more front line rest after (line_of line) refl (rw s.held_is at took) in
    let more : take (k + 1) all ≡ front ++ line ∷ [] = list_take_more all k line below ∙ ap (λ (last : List ℕ). front ++ last ∷ []) (sym is) in
    let next : drop k all ≡ line ∷ rest = drop_more all k line below ∙ ap (λ (first : List ℕ). first ∷ rest) (sym is) in
    record {
      held_is = t.held ∙ ap (λ lines. contents_of (filter_map line_of lines)) (sym more);
      wrong_is = s.wrong_is ∙ (ap (λ lines. first_wrong (map line_of front) (map line_of lines)) next ∙ (t.passed ∙ ap (λ lines. first_wrong (map line_of lines) (map line_of rest)) (sym more)));
    }

-- what the loop answers
pub script_refused : (text : List ℕ) (k : ℕ) (line : List ℕ) (held : Contents) → Stands (text_lines text) k held → k < length (text_lines text) → line ≡ get_or (text_lines text) k line → with_said held (line_of line) ≡ None → script_of text ≡ Err (line_fault (k + 1))
unfolding script_of
script_refused text k line held s below is none =
    let all = text_lines text in
    let front = take k all in
    let rest = drop (k + 1) all in
    let next : drop k all ≡ line ∷ rest = drop_more all k line below ∙ ap (λ (first : List ℕ). first ∷ rest) (sym is) in
    let number : first_wrong [] (map line_of all) ≡ Some (k + 1) =
    s.wrong_is
    ∙ (ap (λ lines. first_wrong (map line_of front) (map line_of lines)) next
    ∙ (wrong_named front line rest (line_of line) refl (rw s.held_is at none)
    ∙ ap (λ len. Some (len + 1)) (length-take-le k all (omega arith)))) in
    rw number

none_behind : (before : List (Option ScriptLine)) → first_wrong before [] ≡ None
unfolding first_wrong
none_behind before = refl

pub script_read : (text : List ℕ) (k : ℕ) (held : Contents) → Stands (text_lines text) k held → length (text_lines text) ≤ k → script_of text ≡ Ok held
unfolding script_of
script_read text k held s over =
    let all = text_lines text in
    let none : first_wrong [] (map line_of all) ≡ None =
    s.wrong_is ∙ (ap (λ lines. first_wrong (map line_of (take k all)) (map line_of lines)) (drop_all k all over) ∙ none_behind _) in
    let whole : held ≡ contents_of (filter_map line_of all) = s.held_is ∙ ap (λ lines. contents_of (filter_map line_of lines)) (take_all k all over) in
    rw (none, sym whole)

pub fault_named : (text : List ℕ) (number : ℕ) (fault : LineFault) (result : ScriptFault) → result ≡ script_fault_at number fault → (fault ≡ Wrong → script_of text ≡ Err (line_fault number)) → result ≢ no_memory → script_of text ≡ Err result
fault_named text number Wrong result is refused other = refused refl ∙ ap Err (sym is)
fault_named text number line_no_memory result is refused other = absurd (other is)

-- a numbered line
pub numbered : (from : ℕ) (all : List (List ℕ)) (k : ℕ) (number : ℕ) (line : List ℕ) → k < length (enumerate_from from all) → (number, line) ≡ get_or (enumerate_from from all) k (number, line) → (k < length all) × (number ≡ from + k) × (line ≡ get_or all k line)
numbered from [] k number line below is = absurd (omega arith)
numbered from (first ∷ rest) zero number line below is = (omega arith, ap (λ (p : ℕ × List ℕ). p.0) is ∙ sym (add-zero from), ap (λ (p : ℕ × List ℕ). p.1) is)
numbered from (first ∷ rest) (suc k) number line below is =
    let (there, counted, same) = numbered (from + 1) rest k number line (omega arith) is in
    (omega arith, omega arith, same)

pub length_numbered : (from : ℕ) (all : List (List ℕ)) → length (enumerate_from from all) ≡ length all
length_numbered from [] = refl
length_numbered from (first ∷ rest) = ap suc (length_numbered (from + 1) rest)

-- a turn of a loop over the numbered lines, and its end. The chain comes last, since what its iterator is shows in the other arguments
pub line_turn : {S : Type 0} {steps : S → Option (ℕ × Bor (List ℕ)) → S → Type 0} {s : S} (text : List ℕ) (xs : List (ℕ × Bor (List ℕ))) (t : S) → Yields steps s xs t → (r : Option (ℕ × Bor (List ℕ))) (u : S) (x : ℕ × Bor (List ℕ)) → r ≡ Some x → steps t r u → YieldsList {B = ℕ × List ℕ} steps (λ p. (p.0, p.1.now)) s (enumerate_from 0 (text_lines text)) → (length xs < length (text_lines text)) × (x.0 ≡ length xs) × (x.1.now ≡ get_or (text_lines text) (length xs) x.1.now)
line_turn text xs t yields r u x is step chain =
    let turn = YieldsList-turn chain xs t yields r u x is step in
    let (below, number, same) = numbered 0 (text_lines text) (length xs) x.0 x.1.now turn.0 turn.1 in
    (below, number ∙ zero-add (length xs), same)

pub lines_end : {S : Type 0} {steps : S → Option (ℕ × Bor (List ℕ)) → S → Type 0} {s : S} (text : List ℕ) (xs : List (ℕ × Bor (List ℕ))) (t : S) → Yields steps s xs t → (r : Option (ℕ × Bor (List ℕ))) (u : S) → r ≡ None → steps t r u → YieldsList {B = ℕ × List ℕ} steps (λ p. (p.0, p.1.now)) s (enumerate_from 0 (text_lines text)) → length (text_lines text) ≤ length xs
lines_end text xs t yields r u is step chain =
    let whole = YieldsList-end chain xs t yields r u is step in
    omega (arith, whole.1, length_numbered 0 (text_lines text))
