use Rattle.std.proofs.lemmas.Option.{IfSome_then}
use Rattle.rsl_links.specs.declared.order.OrderKind.TheVariants.{Sessions}
use Rattle.rsl_links.specs.LinkList.{is_held}
use Rattle.rsl_links.specs.Order.{goes_by}
use Rattle.rsl_links.specs.Slots.{links_of}
use Rattle.rsl_links.proofs.Indexed.{none_then}
use Rattle.rsl_links.proofs.Sought.{first_as, held_is, none_as}
use Rattle.rsl_links.proofs.order.Order.first_session.Goals as goal

pub returns-clause-found : goal.returns-clause-found
returns-clause-found c =
    IfSome_then c.first_of.result c.first_of.ensures.found
    (λ at first. first_as (goes_by Sessions c.args.nas c.args.id.now) (is_held c.args.nas c.args.id.now)
    (held_is c.args.nas c.args.id.now) (links_of c.args.slots.now) at first)

pub returns-clause-missed : goal.returns-clause-missed
returns-clause-missed c =
    none_then c.first_of.result c.first_of.ensures.missed
    (λ none. none_as (goes_by Sessions c.args.nas c.args.id.now) (is_held c.args.nas c.args.id.now)
    (held_is c.args.nas c.args.id.now) (links_of c.args.slots.now) none)
