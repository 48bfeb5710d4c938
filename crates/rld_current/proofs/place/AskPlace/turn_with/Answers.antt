use Rattle.std.proofs.Common.{rules, ◌≡◌, ℕ, List, take, ap, subst, refl}
use Rattle.std.specs.Prelude.{IfSome, map}
use Rattle.std.specs.Arc.{arc_value}
use Rattle.rld_turn.specs.Present.{PeerDatagram}
use Rattle.rld_current.proofs.Asks.{told_answers}
use Rattle.rld_current.specs.Asking.{AreAnswers}
use Rattle.rld_current.specs.Requests.{AreRequests, datagrams_of}
use Rattle.rsl_accounts.specs.Configuration.{Configuration}
use Rattle.rld_current.specs.declared.ask_watch.Noted.{Noted}
use Rattle.rld_current.proofs.place.AskPlace.turn_with.Goals as goal

pub returns-clause-answered : goal.returns-clause-answered
returns-clause-answered g c =
    let port = c.in-Ok.port in
    let then = c.turn-turn.new.datagrams in
    let watch = c.turn-turn.new.watch in
    let requests : List (List ℕ) = map (λ request. request.items) port.requests.items in
    let config : c.deref.result.now ≡ arc_value c.args.current.now.config = search rules in
    told_answers (λ replies. replies.items) (arc_value c.args.current.now.config) c.args.shared.now.networks.now
    c.args.current.now.boot c.args.current.now.table c.args.self.now.client c.args.asks.now c.answers_or_none.result.items
    requests port.peer then.next
    c.args.self.now.receiver.port _ _ _ _ watch.is_whole then.is_whole watch.noted.items then.replies c.into_replies.result
    (subst (λ (present : Configuration). AreRequests present c.args.self.now.client c.args.asks.now requests) config c.in-Ok.ensures.requests)
    c.in-Ok.ensures.peer
    c.args.self.now.port c.turn-turn.ensures.turned
    (λ whole. c.requires.none)
    (ap (λ (n : ℕ). take n (datagrams_of port.peer requests)) c.in-Ok.ensures.next)
    c.in-Ok.ensures.none
    (ap (λ (all : List PeerDatagram). take then.next all) c.turn-turn.ensures.contents)
    refl
    c.into_replies.ensures
    c.answers_or_none.ensures.lost
    (subst (λ (noted : List Noted). IfSome c.into_replies.result (λ replies. AreAnswers noted replies.items c.answers_or_none.result.items))
    c.noted.ensures c.answers_or_none.ensures.kept)
