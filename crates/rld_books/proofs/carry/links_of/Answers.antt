use Rattle.std.proofs.Common.{List, ap, sym, ◌∙◌, arith}
use Rattle.rsl_session.specs.Saved.{saved_links}
use Rattle.rsl_session.specs.declared.saved.SavedLink.{SavedLink}
use Rattle.rsl_session.specs.Book.{bundles_in}
use Rattle.rsl_session.specs.Places.{places_of}
use Rattle.rld_books.specs.Numbers.{number_in}
use Rattle.rld_books.proofs.Placing.{links_more, links_none, none_placed}
use Rattle.rld_books.proofs.carry.links_of.Goals as goal

pub loop-link-init : goal.loop-link-init
loop-link-init c = record {
  links = ap saved_links c.new-found.ensures.links ∙ links_none (number_in c.args.numbers.now) c.args.rules.now;
  counted = c.new-found.ensures.places c.args.rules.now.ports ∙ ap (λ (l : List SavedLink). places_of c.args.rules.now.ports (bundles_in (saved_links l))) (sym c.new-found.ensures.links);
  limit = omega (arith, c.new-found.ensures.places c.args.rules.now.ports, none_placed c.args.rules.now.ports);
}

pub loop-link-preserved : goal.loop-link-preserved
loop-link-preserved c = record {
  links = links_more (number_in c.args.numbers.now) c.args.rules.now c.args.links.now c.loop-link.link-index c.link-item.result (saved_links c.loop-link.found.links.items) (saved_links c.place.new.found.links.items)
      c.loop-link-test.true c.link-item.is c.loop-link.invariant.links c.in_ok-place.ensures.links;
  counted = c.in_ok-place.ensures.counted;
  limit = c.in_ok-place.ensures.limit;
}
