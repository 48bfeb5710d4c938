use Rattle.std.proofs.Common.{rules, ◌≡◌, ℕ, List, [], ◌∷◌, subst}
use Rattle.std.specs.Prelude.{IfOk, Result, Ok, Err, Some, Vec, slice_get}
use Rattle.std.specs.declared.alloc.Global.{Global}
use Rattle.rld_ask.specs.declared.asked.Answer.{Answer}
use Rattle.rld_ask.specs.declared.form.AskForm.{AskForm}
use Rattle.rld_networks.specs.declared.network.Network.{Network}
use Rattle.rsl_reply.specs.declared.dictionary.Dictionary.{Dictionary}
use Rattle.rld_serve.specs.Answering.{TellsAccepted}
use Rattle.rld_serve.specs.Asked.{TellsFirst}
use Rattle.rld_current.specs.Asking.{AreAnswered}
use Rattle.rld_current.specs.Noting.{noted_if}
use Rattle.rld_serve.specs.declared.ask_fault.AskFault.{AskFault}
use Rattle.rld_current.specs.declared.ask_watch.Noted.{Noted}
use Rattle.rld_serve.proofs.server.Server.told_at.Goals as goal

-- what tells of the answer to the only ask that it is accepted tells so of that ask
of_first : (names : Dictionary) (networks : List Network) (client : List ℕ) (noted : List Noted) (ask : AskForm) (answers : List Answer)
    (answer : Answer) (told : Result (Vec ℕ Global) AskFault)
    → slice_get answers 0 ≡ Some answer → AreAnswered networks client noted (ask ∷ []) answers
    → IfOk told (λ octets. TellsAccepted names answer octets.items)
    → IfOk told (λ octets. TellsFirst names networks client noted ask octets.items)
of_first names networks client noted ask answers answer (Ok octets) first answered tells =
    record { answers = answers; answer = answer; first = first; answered = answered; tells = tells }
of_first names networks client noted ask answers answer (Err fault) first answered tells = tt

pub returns-in-Some-clause-told : goal.returns-in-Some-clause-told
returns-in-Some-clause-told g c =
    let names = c.args.self.now.plan.names.now in
    let networks = c.args.self.now.plan.networks.now in
    let client = c.args.place.now.client in
    let watch = c.take_turn_of.new.place.watch in
    let noted = noted_if watch.is_whole watch.noted.items in
    let answers = c.in-Ok.answers.items in
    let asks : c.as_slice.result.now ≡ c.args.ask ∷ [] = search rules in
    let first : slice_get answers 0 ≡ Some c.in-Some.answer.now = search rules in
    of_first names networks client noted c.args.ask answers c.in-Some.answer.now c.told_of.result first
    (subst (λ (l : List AskForm). AreAnswered networks client noted l answers) asks c.in-Ok.ensures.answered)
    c.told_of.ensures.told
