use Rattle.std.proofs.Common.{refl}
use Rattle.rld_books.proofs.Placing.{link_made}
use Rattle.rld_books.proofs.carry.link_of.Goals as goal

pub returns : goal.returns
returns c = λ next is.
    link_made next c.args.link.now _ c.args.client is c.in_ok-nas_of.ensures c.in_ok-holder_of.ensures c.in_ok-try_copy_option.ensures.copy c.in_ok-try_copy_option-2.ensures.copy refl refl
