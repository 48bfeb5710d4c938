-- The asks of connections, one after the other.
use Rattle.std.proofs.Common.{◌≡◌, ℕ, ◌+◌, ◌<◌, ◌≤◌, List, [], ◌∷◌, ◌++◌, take, length, refl, ap, sym, ◌∙◌, append-nil, subst, get_or, arith}
use Rattle.std.proofs.lemmas.List.{drop-set-lt, drop_more, take_all, take_more, take_more_set}
use Rattle.std.specs.Prelude.{Result, set, Bool, true, false, cond, drop, not, slice_get}
use Rattle.std.proofs.lemmas.Grind.{flat_map-append}
use Rattle.rld_ask.specs.Form.{form_of}
use Rattle.std.specs.List.{filter}
use Rattle.rsl_reply.specs.declared.dictionary.Dictionary.{Dictionary}
use Rattle.rld_ask.specs.Asking.{AreTold, IsToldIf, answers_after, asks_in, forms_of, has_ended, is_waiting}
use Rattle.rld_ask.specs.declared.ask_connection.AskConnection.{AskConnection}
use Rattle.rld_ask.specs.declared.ask_connection.Phase.{Phase}
use Rattle.rld_ask.specs.declared.ask_connection.Phase.TheVariants as phases
use Rattle.rld_ask.specs.declared.asked.Answer.{Answer}
use Rattle.rld_ask.specs.declared.form.AskForm.{AskForm}
use Rattle.rld_ask.specs.declared.fault.FormFault.{FormFault}

-- with the connection that comes next
pub asks_more : (connections : List AskConnection) (index : ℕ) (new : AskConnection) → index < length connections →
    asks_in (take (index + 1) (set connections index new)) ≡ asks_in (take index connections) ++ forms_of new
asks_more connections index new within =
    ap asks_in (take_more_set connections index new within)
    ∙ flat_map-append forms_of (take index connections) (new ∷ [])
    ∙ ap (λ more. asks_in (take index connections) ++ more) (append-nil (forms_of new))

pub asks_all : (connections : List AskConnection) (index : ℕ) → length connections ≤ index →
    asks_in (take index connections) ≡ asks_in connections
asks_all connections index all = ap asks_in (take_all index connections all)

-- those that have ended have none
forms_kept : (phase : Phase) (form : Result AskForm FormFault) →
    cond (not (has_ended phase)) (cond (is_waiting phase) (form ∷ []) []) [] ≡ cond (is_waiting phase) (form ∷ []) []
forms_kept phases.Rests form = refl
forms_kept phases.Reads form = refl
forms_kept phases.Waits form = refl
forms_kept phases.Closes form = refl
forms_kept phases.Discards form = refl
forms_kept phases.Ends form = refl

asks_with : (kept : Bool) (one : AskConnection) (others : List AskConnection) →
    asks_in (cond kept (one ∷ others) others) ≡ cond kept (forms_of one) [] ++ asks_in others
asks_with true one others = refl
asks_with false one others = refl

abbrev pub is_kept : AskConnection → Bool
is_kept one = not (has_ended one.phase)

pub asks_kept : (connections : List AskConnection) → asks_in (filter is_kept connections) ≡ asks_in connections
asks_kept [] = refl
asks_kept (one ∷ others) =
    asks_with (is_kept one) one (filter is_kept others)
    ∙ ap (λ forms. forms ++ asks_in (filter is_kept others)) (forms_kept one.phase (form_of one.form.items))
    ∙ ap (λ rest. forms_of one ++ rest) (asks_kept others)

-- ---- the answers

-- those that are left after these connections
abbrev pub answers_left : List AskConnection → List Answer → List Answer
answers_left [] answers = answers
answers_left (old ∷ olds) answers = answers_left olds (answers_after old answers)

left_more : (olds : List AskConnection) (answers : List Answer) (old : AskConnection) →
    answers_left (olds ++ old ∷ []) answers ≡ answers_after old (answers_left olds answers)
left_more [] answers old = refl
left_more (first ∷ rest) answers old = left_more rest (answers_after first answers) old

told_more : (names : Dictionary) (olds : List AskConnection) (answers : List Answer) (news : List AskConnection) (old new : AskConnection) →
    AreTold names olds answers news → IsToldIf names old (slice_get (answers_left olds answers) 0) new →
    AreTold names (olds ++ old ∷ []) answers (news ++ new ∷ [])
told_more names [] answers [] old new told is = (is, tt)
told_more names [] answers (other ∷ others) old new told is = elim told [ ]
told_more names (other ∷ others) answers [] old new told is = elim told [ ]
told_more names (first ∷ rest) answers (second ∷ others) old new told is =
    (told.0, told_more names rest (answers_after first answers) others old new told.1 is)

-- the connection at hand is the one that it was
old_is : (olds news : List AskConnection) (index : ℕ) (old : AskConnection) → index < length olds → index < length news →
    drop index news ≡ drop index olds → old ≡ get_or news index old → get_or olds index old ≡ old
old_is olds news index old within within_news same is =
    sym (ap (λ (list : List AskConnection). get_or list 0 old)
    (sym (drop_more news index old within_news) ∙ same ∙ drop_more olds index old within))
    ∙ sym is

pub told_step : (names : Dictionary) (olds news : List AskConnection) (answers : List Answer) (index : ℕ) (old new : AskConnection) →
    index < length olds → index < length news →
    AreTold names (take index olds) answers (take index news) → drop index news ≡ drop index olds → old ≡ get_or news index old →
    IsToldIf names old (slice_get (answers_left (take index olds) answers) 0) new →
    AreTold names (take (index + 1) olds) answers (take (index + 1) (set news index new))
told_step names olds news answers index old new within within_news told same is told_now =
    let first : take (index + 1) olds ≡ take index olds ++ old ∷ [] =
    take_more olds index old within
    ∙ ap (λ (one : AskConnection). take index olds ++ one ∷ []) (old_is olds news index old within within_news same is) in
    subst (λ (xs : List AskConnection). AreTold names xs answers (take (index + 1) (set news index new))) (sym first)
    (subst (λ (ys : List AskConnection). AreTold names (take index olds ++ old ∷ []) answers ys) (sym (take_more_set news index new within_news))
    (told_more names (take index olds) answers (take index news) old new told told_now))

pub left_step : (olds news : List AskConnection) (answers : List Answer) (index : ℕ) (old : AskConnection) →
    index < length olds → index < length news → drop index news ≡ drop index olds → old ≡ get_or news index old →
    answers_after old (answers_left (take index olds) answers) ≡ answers_left (take (index + 1) olds) answers
left_step olds news answers index old within within_news same is =
    sym (ap (λ (xs : List AskConnection). answers_left xs answers)
    (take_more olds index old within
    ∙ ap (λ (one : AskConnection). take index olds ++ one ∷ []) (old_is olds news index old within within_news same is))
    ∙ left_more (take index olds) answers old)

pub rest_step : (olds news : List AskConnection) (index : ℕ) (new : AskConnection) →
    index < length olds → index < length news → drop index news ≡ drop index olds →
    drop (index + 1) (set news index new) ≡ drop (index + 1) olds
rest_step olds news index new within within_news same =
    drop-set-lt (index + 1) news index new (omega (arith))
    ∙ ap (λ (list : List AskConnection). drop 1 list)
    (sym (drop_more news index new within_news) ∙ same ∙ drop_more olds index new within)

pub told_all : (names : Dictionary) (olds news : List AskConnection) (answers : List Answer) (index : ℕ) → length olds ≤ index → length news ≤ index →
    AreTold names (take index olds) answers (take index news) → AreTold names olds answers news
told_all names olds news answers index all all_news told =
    subst (λ (xs : List AskConnection). AreTold names xs answers news) (take_all index olds all)
    (subst (λ (ys : List AskConnection). AreTold names (take index olds) answers ys) (take_all index news all_news) told)
