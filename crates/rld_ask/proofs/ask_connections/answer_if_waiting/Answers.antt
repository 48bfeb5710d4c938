use Rattle.std.proofs.Common.{rules, ◌≡◌, List, [], ◌∷◌, length, true, refl}
use Rattle.std.specs.Prelude.{None, slice_get}
use Rattle.rsl_reply.specs.declared.dictionary.Dictionary.{Dictionary}
use Rattle.rld_ask.specs.Asking.{IsToldIf, is_waiting}
use Rattle.rld_ask.specs.Sending.{IsTold}
use Rattle.rld_ask.specs.declared.ask_connection.AskConnection.{AskConnection}
use Rattle.rld_ask.specs.declared.asked.Answer.{Answer}
use Rattle.rld_ask.proofs.ask_connections.answer_if_waiting.Goals as goal

none_first : (answers : List Answer) → length answers ≡ 0 → slice_get answers 0 ≡ None
none_first [] e = refl
none_first (answer ∷ answers) e = cc

-- one that waits is told that there is no answer, where none is left
told_none : (names : Dictionary) (old : AskConnection) (answers : List Answer) (new : AskConnection) → is_waiting old.phase ≡ true → slice_get answers 0 ≡ None
    → IsTold names old None new → IsToldIf names old (slice_get answers 0) new
told_none names old answers new waits none told = rw (waits, none) told

pub returns-in-None-clause-told : goal.returns-in-None-clause-told
returns-in-None-clause-told c =
    let waits : is_waiting c.args.connection.now.phase ≡ true = search rules in
    let none : slice_get c.args.answers.now 0 ≡ None = none_first c.args.answers.now c.in-None.ensures.cases in
    told_none c.args.names.now c.args.connection.now c.args.answers.now _ waits none c.answer_or_end-in-None.ensures
