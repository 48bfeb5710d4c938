-- What one step makes of the shards of a run.
use Rattle.std.proofs.Common.{◌≡◌, ℕ, ◌+◌, get_or, ◌-◌, ◌^◌, ◌%◌, ◌<◌, ◌≤◌, List, [], ◌∷◌, ◌++◌, length, map, set, Bool, true, false, ◌==◌, cond, Option, Some, None, Result, Ok, Err, refl, sym, ap, subst, ◌∙◌, append-nil, inl, inr, ◌⊎◌, arith}
use Rattle.std.specs.Prelude.{slice_get, IfOk, OnErr}
use Rattle.std.specs.Option.{option_map_or, option_to_list}
use Rattle.std.proofs.lemmas.Bool.{eqb-true, eq-eqb}
use Rattle.std.proofs.lemmas.List.{length-append, set-get_or, length-map, length-set, map-append}
use Rattle.std.proofs.lemmas.Option.{slice_get_within, slice_get-get_or}
use Rattle.rsl_accounts.specs.Configuration.{Configuration, client_number}
use Rattle.rsl_accounts.specs.declared.entry.Entry.{Entry as Account}
use Rattle.rsl_book.specs.RuledBook.{RuledBook}
use Rattle.rsl_event.specs.Answer.{answer, said}
use Rattle.rsl_event.specs.Meaning.{Fails, meaning}
use Rattle.rsl_event.specs.Prepared.{HasAccount}
use Rattle.rsl_event.specs.declared.event.Act.{Act}
use Rattle.rsl_event.specs.declared.event.Decision.{Decision}
use Rattle.rsl_event.specs.declared.event.Decision.TheVariants.{Done}
use Rattle.rsl_event.specs.declared.event.Event.{Event}
use Rattle.rsl_event.specs.declared.event.Source.{Source}
use Rattle.rsl_event.specs.declared.meaning.Dropped.{Dropped}
use Rattle.rsl_event.specs.declared.meaning.Dropped.TheVariants as drops
use Rattle.rsl_event.specs.declared.meaning.Meaning.{Meaning}
use Rattle.rsl_event.specs.declared.meaning.Meaning.TheVariants.{Bare, Reject, Own, Restart, Stray}
use Rattle.rsl_event.specs.declared.meaning.Port.{Port}
use Rattle.rsl_event.specs.declared.nas.Nas.{Nas}
use Rattle.rsl_event.specs.declared.meaning.Note.{Note}
use Rattle.rsl_event.specs.declared.words.Said.{Said}
use Rattle.rsl_session.specs.Book.{new_book}
use Rattle.rsl_session.specs.BookStep.{book_after, step}
use Rattle.rsl_shard.specs.Moves.{IsTaken, own_in}
use Rattle.rsl_shard.specs.Restep.{book_at, decision_by, restep}
use Rattle.rsl_shard.specs.Seen.{ShardSeen, books_of, new_shard, total_of, with_line}
use Rattle.rsl_shard.specs.Setup.{Setup, setup_of}
use Rattle.rsl_shard.specs.declared.line.Line.{Line}
use Rattle.rsl_shard.specs.declared.moved.Move.{Move}
use Rattle.rsl_shard.specs.declared.moved.Move.TheVariants as moves
use Rattle.rsl_wire.specs.Packet.{Fields, packet_of}
use Rattle.rsl_wire.specs.declared.packet.WireFault.{WireFault}
use Rattle.rsl_steps.specs.Books.{account_book, answer_with_book, decision_by_book}
use Rattle.rsl_steps.specs.Moves.{move_in, move_of, shard_moves}
use Rattle.rsl_steps.specs.Own.{own}
use Rattle.rsl_steps.specs.Ran.{AreShards, HasMoved}
use Rattle.rsl_steps.specs.Run.{octets_by}
use Rattle.rsl_steps.specs.Taking.{AreReady, IsDecided, IsMovedAt, IsNotThere, IsQuietAt, IsStepTaken, Takes, answer_to_drop}
use Rattle.rsl_steps.specs.declared.step.Answer.{Answer}
use Rattle.rsl_steps.specs.declared.step.Answer.TheVariants as answers
use Rattle.rsl_steps.specs.declared.step.Step.{Step}
use Rattle.rsl_steps.specs.declared.step.Step.TheVariants as steps
use Rattle.rsl_steps.specs.declared.step.Step.TheVariants.{Datagram}
use Rattle.rsl_steps.proofs.Journals.{book_after_lines}
use Rattle.rsl_steps.proofs.OneMore.{moves-cons, moves-few, push_cases, set_cases, there_is}
use Rattle.rsl_steps.proofs.OwnMoves.{own-journal}

-- ---- tests on numbers

then_same : {X : Type 0} (a b : ℕ) (x y : X) → a ≡ b → cond (a == b) x y ≡ x
then_same a b x y same = ap (λ (t : Bool). cond t x y) (eq-eqb a b same)

else_other : {X : Type 0} (a b : ℕ) (x y : X) → (a ≡ b → ⊥) → cond (a == b) x y ≡ y
else_other a b x y other = by (a == b) refl
  where
    by : (t : Bool) → (a == b) ≡ t → cond t x y ≡ y
    by true is = absurd (other (eqb-true a b is))
    by false is = refl

-- ---- one shard

moved_list : (seen : ShardSeen) (moved : Move) (decision : Decision)
    → map (λ (line : Line). line.moved) (with_line seen moved decision).lines ≡ map (λ (line : Line). line.moved) seen.lines ++ moved ∷ []
moved_list seen moved decision = map-append (λ (line : Line). line.moved) seen.lines (record { moved = moved; decision = decision } ∷ [])

-- a shard to which a step is no move
still : (config : Configuration) (boot : ℕ) (before : List Step) (step : Step) (number : ℕ) (seen : ShardSeen) → HasMoved config boot before number seen
    → move_of config boot number step ≡ None → HasMoved config boot (step ∷ before) number seen
still config boot before step number seen has none = record {
  setup = has.setup;
  opening = has.opening;
  first = has.first;
  moves = has.moves ∙ sym (append-nil (shard_moves config boot number before))
      ∙ ap (λ (o : Option Move). shard_moves config boot number before ++ option_to_list o) (sym none)
      ∙ sym (moves-cons config boot number step before);
}

-- a shard that has made the move
one_line : (config : Configuration) (boot : ℕ) (before : List Step) (step : Step) (number : ℕ) (seen : ShardSeen) (moved : Move) (decision : Decision)
    → HasMoved config boot before number seen → move_of config boot number step ≡ Some moved → HasMoved config boot (step ∷ before) number (with_line seen moved decision)
one_line config boot before step number seen moved decision has some = record {
  setup = has.setup;
  opening = has.opening;
  first = has.first;
  moves = moved_list seen moved decision
      ∙ ap (λ (all : List Move). all ++ moved ∷ []) has.moves
      ∙ ap (λ (o : Option Move). shard_moves config boot number before ++ option_to_list o) (sym some)
      ∙ sym (moves-cons config boot number step before);
}

-- ---- all shards

-- a step that is no move to any shard
pub shards_still : (config : Configuration) (boot : ℕ) (before : List Step) (step : Step) (old new : List ShardSeen) → AreShards config boot before old → new ≡ old
    → ((number : ℕ) → number < config.settings.shards → move_of config boot number step ≡ None) → AreShards config boot (step ∷ before) new
shards_still config boot before step old new are same none = rw same (record {
  count = are.count;
  each = λ number seen at. still config boot before step number seen (are.each number seen at)
      (none number (let within = slice_get_within old number seen at in omega (arith, within, are.count)));
})

-- a step that is a move to one shard alone
pub shards_moved : (config : Configuration) (boot : ℕ) (before : List Step) (step : Step) (at : ℕ) (moved : Move) (decision : Decision) (old new : List ShardSeen)
    → AreShards config boot before old → IsMovedAt at moved decision old new
    → ((number : ℕ) → number ≡ at → move_of config boot number step ≡ Some moved)
    → ((number : ℕ) → (number ≡ at → ⊥) → move_of config boot number step ≡ None)
    → AreShards config boot (step ∷ before) new
shards_moved config boot before step at moved decision old new are it some none = record {
  count = ap length it.moved_on ∙ length-set old at (with_line it.seen moved decision) ∙ are.count;
  each = λ number seen here. by number seen (set_cases old at number (with_line it.seen moved decision) seen (ap (λ (all : List ShardSeen). slice_get all number) (sym it.moved_on) ∙ here));
}
  where
    by : (number : ℕ) (seen : ShardSeen) → ((number ≡ at) × (seen ≡ with_line it.seen moved decision)) ⊎ ((number ≡ at → ⊥) × (slice_get old number ≡ Some seen))
        → HasMoved config boot (step ∷ before) number seen
    by number seen (inl here) =
        rw (here.0, here.1) (one_line config boot before step at it.seen moved decision (are.each at it.seen it.there) (some at refl))
    by number seen (inr other) = still config boot before step number seen (are.each number seen other.1) (none number other.0)

-- ---- the decision on an account's own event

same_book : (entry : Account) (one other : List Event) → one ≡ other
    → (let a : RuledBook = record { rules = entry.rules; book = book_after entry.rules new_book one } in
    let b : RuledBook = record { rules = entry.rules; book = book_after entry.rules new_book other } in Some a ≡ Some b)
same_book entry one other same = λ i. Some (record { rules = entry.rules; book = book_after entry.rules new_book (same i) })

-- the book of an account in its shard
pub book_in_its_shard : (config : Configuration) (boot : ℕ) (before : List Step) (account : ℕ) (entry : Account) (seen : ShardSeen)
    → account % config.settings.shards < config.settings.shards → slice_get config.accounts account ≡ Some entry
    → HasMoved config boot before (account % config.settings.shards) seen
    → book_at seen.setup (books_of seen) account ≡ Some (record { rules = entry.rules; book = account_book config boot account before entry.rules })
book_in_its_shard config boot before account entry seen less there has =
    (λ i. book_at (has.setup i) (restep (has.setup i) (has.opening i) seen.lines) account)
    ∙ book_after_lines config (account % config.settings.shards) account entry seen.lines less there refl
    ∙ same_book entry (own_in account seen.lines) (own config boot account before) (own-journal config boot account before seen.lines has.moves)

stepped_by : Event → Option RuledBook → Decision
stepped_by event found = option_map_or (λ (ruled : RuledBook). (step ruled.rules ruled.book event).1) found Done

decided_own : (config : Configuration) (boot : ℕ) (before : List Step) (moment account : ℕ) (act : Act) (decision : Decision) (old new : List ShardSeen)
    → AreShards config boot before old → account < length config.accounts
    → IsMovedAt (account % config.settings.shards) (moves.Own account (record { moment = moment; act = act })) decision old new
    → decision ≡ decision_by_book config boot before moment (Own account act)
unfolding stepped_by
decided_own config boot before moment account act decision old new are within it =
    let found = there_is config.accounts account within in
    let at = slice_get_within old (account % config.settings.shards) it.seen it.there in
    it.decided
    ∙ ap (stepped_by (record { moment = moment; act = act }))
    (book_in_its_shard config boot before account found.0 it.seen (omega (arith, at, are.count)) found.1 (are.each (account % config.settings.shards) it.seen it.there))
    ∙ sym (ap (λ (o : Option Account). option_map_or (λ (entry : Account). (step entry.rules (account_book config boot account before entry.rules) (record { moment = moment; act = act })).1) o Done) found.1)

-- ---- one datagram

moved_own : (config : Configuration) (boot : ℕ) (before : List Step) (moment : ℕ) (port : Port) (source : Source) (datagram : List ℕ) (account : ℕ) (act : Act) (decision : Decision) (old new : List ShardSeen)
    → meaning config boot port source datagram ≡ Ok (Own account act) → AreShards config boot before old
    → IsMovedAt (account % config.settings.shards) (moves.Own account (record { moment = moment; act = act })) decision old new
    → AreShards config boot (Datagram moment port source datagram ∷ before) new
moved_own config boot before moment port source datagram account act decision old new is are it =
    let event : Event = record { moment = moment; act = act } in
    shards_moved config boot before (Datagram moment port source datagram) (account % config.settings.shards) (moves.Own account event) decision old new are it
    (λ number same. ap (move_in config number moment) is ∙ then_same (account % config.settings.shards) number (Some (moves.Own account event)) None (sym same))
    (λ number other. ap (move_in config number moment) is ∙ else_other (account % config.settings.shards) number (Some (moves.Own account event)) None (λ same. other (sym same)))

moved_stray : (config : Configuration) (boot : ℕ) (before : List Step) (moment : ℕ) (port : Port) (source : Source) (datagram : List ℕ) (note : Note) (decision : Decision) (old new : List ShardSeen)
    → meaning config boot port source datagram ≡ Ok (Stray note) → AreShards config boot before old
    → IsMovedAt 0 (moves.Stray moment note) decision old new → AreShards config boot (Datagram moment port source datagram ∷ before) new
moved_stray config boot before moment port source datagram note decision old new is are it =
    shards_moved config boot before (Datagram moment port source datagram) 0 (moves.Stray moment note) decision old new are it
    (λ number same. ap (move_in config number moment) is ∙ then_same 0 number (Some (moves.Stray moment note)) None (sym same))
    (λ number other. ap (move_in config number moment) is ∙ else_other 0 number (Some (moves.Stray moment note)) None (λ same. other (sym same)))

-- a datagram that moves no shard
pub moved_none : (config : Configuration) (boot : ℕ) (before : List Step) (moment : ℕ) (port : Port) (source : Source) (datagram : List ℕ) (r : Result Meaning Dropped) (old new : List ShardSeen)
    → meaning config boot port source datagram ≡ r → ((number : ℕ) → move_in config number moment r ≡ None) → AreShards config boot before old → new ≡ old
    → AreShards config boot (Datagram moment port source datagram ∷ before) new
moved_none config boot before moment port source datagram r old new is none are same =
    shards_still config boot before (Datagram moment port source datagram) old new are same (λ number _. ap (move_in config number moment) is ∙ none number)

-- what was decided on a meaning, and the shards after it
record IsDecidedRight (config : Configuration) (boot : ℕ) (before : List Step) (moment : ℕ) (step : Step) (found : Meaning) (decision : Decision) (new : List ShardSeen) : Type 0 where
  pub right : decision ≡ decision_by_book config boot before moment found
  pub moved : AreShards config boot (step ∷ before) new

decided_right : (config : Configuration) (boot : ℕ) (before : List Step) (moment : ℕ) (port : Port) (source : Source) (datagram : List ℕ) (found : Meaning) (decision : Decision) (old new : List ShardSeen)
    → meaning config boot port source datagram ≡ Ok found → HasAccount config found → AreShards config boot before old → IsDecided config moment found decision old new
    → IsDecidedRight config boot before moment (Datagram moment port source datagram) found decision new
decided_right config boot before moment port source datagram Bare decision old new is has are d =
    record { right = d.0; moved = moved_none config boot before moment port source datagram (Ok Bare) old new is (λ _. refl) are d.1 }
decided_right config boot before moment port source datagram Reject decision old new is has are d =
    record { right = d.0; moved = moved_none config boot before moment port source datagram (Ok Reject) old new is (λ _. refl) are d.1 }
decided_right config boot before moment port source datagram (Restart nas delay) decision old new is has are d =
    record { right = d.0; moved = moved_none config boot before moment port source datagram (Ok (Restart nas delay)) old new is (λ _. refl) are d.1 }
decided_right config boot before moment port source datagram (Stray note) decision old new is has are d =
    record { right = d.decided; moved = moved_stray config boot before moment port source datagram note decision old new is are d }
decided_right config boot before moment port source datagram (Own account act) decision old new is has are d =
    record { right = decided_own config boot before moment account act decision old new are has d; moved = moved_own config boot before moment port source datagram account act decision old new is are d }

dropped_is : (config : Configuration) (boot : ℕ) (before : List Step) (moment : ℕ) (port : Port) (source : Source) (datagram : List ℕ) (dropped : Dropped) (old : List ShardSeen)
    → meaning config boot port source datagram ≡ Err dropped → AreShards config boot before old
    → IsStepTaken config boot before (Datagram moment port source datagram) (answers.Dropped dropped) old
dropped_is config boot before moment port source datagram dropped old is are = record {
  answered = sym (ap (answer_with_book config boot before moment source datagram) is);
  moved = moved_none config boot before moment port source datagram (Err dropped) old old is (λ _. refl) are refl;
}

pub takes_drop : (config : Configuration) (boot : ℕ) (before : List Step) (moment : ℕ) (port : Port) (source : Source) (datagram : List ℕ) (dropped : Dropped) (old : List ShardSeen) → Fails dropped (meaning config boot port source datagram) → AreShards config boot before old
    → Takes config boot before (Datagram moment port source datagram) (answer_to_drop dropped) old old
takes_drop config boot before moment port source datagram drops.NoMemory old is are = refl
takes_drop config boot before moment port source datagram drops.Short old is are = dropped_is config boot before moment port source datagram drops.Short old is are
takes_drop config boot before moment port source datagram drops.BadLength old is are = dropped_is config boot before moment port source datagram drops.BadLength old is are
takes_drop config boot before moment port source datagram drops.UnknownClient old is are = dropped_is config boot before moment port source datagram drops.UnknownClient old is are
takes_drop config boot before moment port source datagram drops.WrongCode old is are = dropped_is config boot before moment port source datagram drops.WrongCode old is are
takes_drop config boot before moment port source datagram drops.BadAuthenticator old is are = dropped_is config boot before moment port source datagram drops.BadAuthenticator old is are
takes_drop config boot before moment port source datagram drops.Malformed old is are = dropped_is config boot before moment port source datagram drops.Malformed old is are
takes_drop config boot before moment port source datagram drops.BadSignature old is are = dropped_is config boot before moment port source datagram drops.BadSignature old is are
takes_drop config boot before moment port source datagram drops.Unsigned old is are = dropped_is config boot before moment port source datagram drops.Unsigned old is are
takes_drop config boot before moment port source datagram drops.UnsignedProxy old is are = dropped_is config boot before moment port source datagram drops.UnsignedProxy old is are
takes_drop config boot before moment port source datagram drops.ProxyTooLong old is are = dropped_is config boot before moment port source datagram drops.ProxyTooLong old is are
takes_drop config boot before moment port source datagram drops.NoStatus old is are = dropped_is config boot before moment port source datagram drops.NoStatus old is are
takes_drop config boot before moment port source datagram drops.NoSession old is are = dropped_is config boot before moment port source datagram drops.NoSession old is are

pub takes_reply : (config : Configuration) (boot : ℕ) (before : List Step) (moment : ℕ) (port : Port) (source : Source) (datagram : List ℕ) (found : Meaning) (fields : Fields) (client : ℕ) (decision : Decision) (word : Said) (octets : List ℕ) (old new : List ShardSeen)
    → meaning config boot port source datagram ≡ Ok found → packet_of datagram ≡ Ok fields → client_number config source.address ≡ Some client
    → HasAccount config found → AreShards config boot before old → IsDecided config moment found decision old new
    → word ≡ said found decision → octets ≡ answer config boot client fields found decision
    → IsStepTaken config boot before (Datagram moment port source datagram) (answers.Reply word octets) new
takes_reply config boot before moment port source datagram found fields client decision word octets old new is packet at has are d ew eo =
    let c = decided_right config boot before moment port source datagram found decision old new is has are d in
    let replied : octets_by config boot found decision (packet_of datagram) (client_number config source.address) ≡ answer config boot client fields found decision =
    ap (λ (r : Result Fields WireFault). octets_by config boot found decision r (client_number config source.address)) packet ∙ ap (octets_by config boot found decision (Ok fields)) at in
    let by_decision : answers.Reply word octets ≡ answers.Reply (said found decision) (octets_by config boot found decision (packet_of datagram) (client_number config source.address)) = (λ i. answers.Reply (ew i) ((eo ∙ sym replied) i)) in
    record {
      answered = by_decision ∙ ap (λ (x : Decision). answers.Reply (said found x) (octets_by config boot found x (packet_of datagram) (client_number config source.address))) c.right ∙ sym (ap (answer_with_book config boot before moment source datagram) is);
      moved = c.moved;
    }

-- ---- a sweep, a tick

-- a step that names a shard
takes_quiet : (config : Configuration) (boot : ℕ) (before : List Step) (step : Step) (shard : ℕ) (moved : Move) (old new : List ShardSeen)
    → ((number : ℕ) → move_of config boot number step ≡ cond (number == shard) (Some moved) None) → AreShards config boot before old
    → ((decision : Decision) × IsMovedAt shard moved decision old new) ⊎ IsNotThere shard old new → AreShards config boot (step ∷ before) new
takes_quiet config boot before step shard moved old new names are (inl made) =
    shards_moved config boot before step shard moved made.0 old new are made.1
    (λ number same. names number ∙ then_same number shard (Some moved) None same)
    (λ number other. names number ∙ else_other number shard (Some moved) None other)
takes_quiet config boot before step shard moved old new names are (inr out) =
    shards_still config boot before step old new are out.same
    (λ number less. names number ∙ else_other number shard (Some moved) None (λ same. omega (arith, same, less, are.count, out.past)))

pub takes_sweep : (config : Configuration) (boot : ℕ) (before : List Step) (shard moment : ℕ) (nas : Nas) (delay : ℕ) (given : Answer) (old new : List ShardSeen) → AreShards config boot before old
    → IsQuietAt given shard (moves.Sweep moment nas delay) old new → Takes config boot before (steps.Sweep shard moment nas delay) given old new
takes_sweep config boot before shard moment nas delay answers.Refused old new are quiet = quiet
takes_sweep config boot before shard moment nas delay answers.Quiet old new are quiet =
    record { answered = refl; moved = takes_quiet config boot before (steps.Sweep shard moment nas delay) shard (moves.Sweep moment nas delay) old new (λ number. refl) are quiet }
takes_sweep config boot before shard moment nas delay (answers.Reply word octets) old new are quiet = absurd quiet
takes_sweep config boot before shard moment nas delay (answers.Dropped dropped) old new are quiet = absurd quiet

pub takes_tick : (config : Configuration) (boot : ℕ) (before : List Step) (shard moment : ℕ) (given : Answer) (old new : List ShardSeen) → AreShards config boot before old
    → IsQuietAt given shard (moves.Tick moment) old new → Takes config boot before (steps.Tick shard moment) given old new
takes_tick config boot before shard moment answers.Refused old new are quiet = quiet
takes_tick config boot before shard moment answers.Quiet old new are quiet =
    record { answered = refl; moved = takes_quiet config boot before (steps.Tick shard moment) shard (moves.Tick moment) old new (λ number. refl) are quiet }
takes_tick config boot before shard moment (answers.Reply word octets) old new are quiet = absurd quiet
takes_tick config boot before shard moment (answers.Dropped dropped) old new are quiet = absurd quiet

-- ---- room

long_lines : (config : Configuration) (boot : ℕ) (before : List Step) (number : ℕ) (seen : ShardSeen) → HasMoved config boot before number seen → total_of seen ≤ length before
long_lines config boot before number seen has =
    let all : length seen.lines ≡ length (shard_moves config boot number before) = sym (length-map seen.lines (λ (line : Line). line.moved)) ∙ ap length has.moves in
    omega (arith, all, has.first, moves-few config boot number before)

-- shards that have taken few steps are ready for one more
pub shards_ready : (config : Configuration) (boot : ℕ) (before : List Step) (shards : List ShardSeen) → AreShards config boot before shards → length before < 2 ^ 64 - 1 → AreReady config shards
shards_ready config boot before shards are few = record {
  count = are.count;
  setup = λ number seen at. (are.each number seen at).setup;
  room = λ number seen at. let long = long_lines config boot before number seen (are.each number seen at) in omega (arith, long, few);
}

-- ---- one move of one shard

pub moved_at : {E : Type 0} (old : List ShardSeen) (number : ℕ) (d later : ShardSeen) (moved : Move) (r : Result Decision E) → number < length old
    → IfOk r (λ (decision : Decision). later ≡ with_line (get_or old number d) moved decision)
    → IfOk r (λ (decision : Decision). decision ≡ decision_by (get_or old number d).setup (books_of (get_or old number d)) moved)
    → IfOk r (λ (decision : Decision). IsMovedAt number moved decision old (set old number later))
moved_at old number d later moved (Ok decision) within line decided = record {
  seen = get_or old number d;
  there = slice_get-get_or old number d within;
  moved_on = ap (set old number) line;
  decided = decided;
}
moved_at old number d later moved (Err e) within line decided = tt

pub not_moved : {E : Type 0} (old : List ShardSeen) (number : ℕ) (d later : ShardSeen) (r : Result Decision E)
    → OnErr r (later ≡ get_or old number d) → OnErr r (set old number later ≡ old)
not_moved old number d later (Ok decision) same = tt
not_moved old number d later (Err e) same = ap (set old number) same ∙ set-get_or old number d

-- a move that a shard of the configuration takes is one that the shard there takes
pub taken_there : (config : Configuration) (shards : List ShardSeen) (number : ℕ) (moved : Move) (seen : ShardSeen) → AreReady config shards
    → IsTaken (setup_of config number) moved → slice_get shards number ≡ Some seen → IsTaken seen.setup moved
taken_there config shards number moved seen ready taken at = subst (λ (setup : Setup). IsTaken setup moved) (sym (ready.setup number seen at)) taken

-- ---- new shards

-- the first shards of a configuration, none of which has made a move
pub record AreFirst (config : Configuration) (count : ℕ) (shards : List ShardSeen) : Type 0 where
  pub len : length shards ≡ count
  pub each : (number : ℕ) (seen : ShardSeen) → slice_get shards number ≡ Some seen → seen ≡ new_shard config number

pub first_none : (config : Configuration) → AreFirst config 0 []
first_none config = record { len = refl; each = λ number seen at. cc }

pub first_more : (config : Configuration) (count : ℕ) (shards : List ShardSeen) (new : ShardSeen) → AreFirst config count shards → new ≡ new_shard config count
    → AreFirst config (count + 1) (shards ++ new ∷ [])
first_more config count shards new are is = record {
  len = let long = length-append shards (new ∷ []) in omega (arith, long, are.len);
  each = λ number seen at. by number seen (push_cases shards number new seen at);
}
  where
    by : (number : ℕ) (seen : ShardSeen) → ((number ≡ length shards) × (seen ≡ new)) ⊎ (slice_get shards number ≡ Some seen) → seen ≡ new_shard config number
    by number seen (inl last) = last.1 ∙ is ∙ ap (new_shard config) (sym (last.0 ∙ are.len))
    by number seen (inr before) = are.each number seen before

nothing_moved : (config : Configuration) (boot number : ℕ) → [] ≡ shard_moves config boot number []
unfolding shard_moves
nothing_moved config boot number = refl

new_moved : (config : Configuration) (boot number : ℕ) → HasMoved config boot [] number (new_shard config number)
new_moved config boot number = record { setup = refl; opening = refl; first = refl; moves = nothing_moved config boot number }

pub first_all : (config : Configuration) (boot count : ℕ) (shards : List ShardSeen) → AreFirst config count shards → count ≡ config.settings.shards → AreShards config boot [] shards
first_all config boot count shards are all = record {
  count = are.len ∙ all;
  each = λ number seen at. rw (are.each number seen at) (new_moved config boot number);
}
