use Rattle.std.proofs.Common.{◌≡◌, ◌∷◌, ◌++◌, [], Some, ◌∙◌, ap, sym, append-nil}
use Rattle.rld_books.specs.Numbers.{number_in}
use Rattle.rld_books.proofs.Placing.{stop_gone, stop_on}
use Rattle.rld_books.proofs.carry.push_stop.Goals as goal

pub returns-in_ok-push-in-Some : goal.returns-in_ok-push-in-Some
returns-in_ok-push-in-Some c =
    let is : number_in c.args.numbers.now c.args.stop.now.session.nas.client ≡ Some c.in-Some.client = sym c.in-Some.ensures in
    c.in_ok-push-in-Some.ensures.items
    ∙ ap (λ one. c.args.made.now.items ++ one ∷ []) (c.in_ok-stop_of-in-Some.ensures (number_in c.args.numbers.now) is)
    ∙ ap (λ l. c.args.made.now.items ++ l) (sym (stop_on (number_in c.args.numbers.now) c.args.stop.now c.in-Some.client is))

pub returns-in-None : goal.returns-in-None
returns-in-None c =
    sym (ap (λ l. c.args.made.now.items ++ l) (stop_gone (number_in c.args.numbers.now) c.args.stop.now (sym c.in-None.ensures)) ∙ append-nil c.args.made.now.items)
