use Rattle.std.proofs.Common.{◌≡◌, subst, sym, ℕ, List}
use Rattle.std.specs.Prelude.{IfOk, Option, Some, Result, Ok, Err, Vec}
use Rattle.std.specs.declared.alloc.Global.{Global}
use Rattle.rld_ask.specs.Form.{form_of}
use Rattle.rld_ask.specs.declared.fault.FormFault.{FormFault}
use Rattle.rld_ask.specs.declared.form.AskForm.{AskForm}
use Rattle.rld_networks.specs.declared.network.Network.{Network}
use Rattle.rsl_reply.specs.declared.dictionary.Dictionary.{Dictionary}
use Rattle.rld_serve.specs.Asked.{IsToldOf, TellsFirst, client_of}
use Rattle.rld_serve.specs.declared.ask_fault.AskFault.{AskFault}
use Rattle.rld_current.specs.declared.ask_watch.Noted.{Noted}
use Rattle.rld_serve.specs.declared.asking.Seat.{Seat}
use Rattle.rld_serve.proofs.server.Server.ask.Goals as goal

-- what tells of an ask of the client of a seat that it is accepted tells so of its form
of_form : (names : Dictionary) (networks : List Network) (seat : Option Seat) (client : List ℕ) (noted : List Noted) (form : Result AskForm FormFault)
    (ask : AskForm) (told : Result (Vec ℕ Global) AskFault)
    → form ≡ Ok ask → client_of seat ≡ Some client
    → IfOk told (λ octets. TellsFirst names networks client noted ask octets.items)
    → IfOk told (λ octets. IsToldOf names networks seat form octets.items)
of_form names networks seat client noted form ask (Ok octets) is seated tells =
    subst (λ (f : Result AskForm FormFault). IsToldOf names networks seat f octets.items) (sym is) (client, noted, seated, tells)
of_form names networks seat client noted form ask (Err fault) is seated tells = tt

pub returns-in_ok-seated-in-Ok-clause-told : goal.returns-in_ok-seated-in-Ok-clause-told
returns-in_ok-seated-in-Ok-clause-told g c =
    of_form c.args.self.now.plan.names.now c.args.self.now.plan.networks.now c.args.self.now.seat _ _ (form_of c.args.form.now)
    c.in-Ok.ask c.told_at.result c.in-Ok.ensures.ok c.in_ok-seated-in-Ok.ensures.client c.told_at.ensures.told
