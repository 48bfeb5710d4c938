use Rattle.std.proofs.Common.{◌≡◌, ◌∷◌, [], List, Some, ap, sym, subst, ◌∙◌}
use Rattle.std.specs.Prelude.{OnOk}
use Rattle.rsl_session.specs.Saved.{saved_link, saved_links}
use Rattle.rsl_session.specs.Book.{BookLink}
use Rattle.rld_books.specs.Carried.{links_on, placed}
use Rattle.rld_books.specs.Numbers.{number_in}
use Rattle.rld_books.proofs.Placing.{link_gone, link_on, placed_none}
use Rattle.rld_books.proofs.carry.place.Goals as goal

pub returns-in_ok-link_of-in-Some-clause-links : goal.returns-in_ok-link_of-in-Some-clause-links
returns-in_ok-link_of-in-Some-clause-links c =
    let is : number_in c.args.numbers.now c.args.link.now.nas.client ≡ Some c.in-Some.client = sym c.in-Some.ensures in
    let same : saved_link c.in_ok-link_of-in-Some.field-0 ∷ [] ≡ links_on (number_in c.args.numbers.now) (saved_link c.args.link.now ∷ []) =
    ap (λ (one : BookLink). one ∷ []) (c.in_ok-link_of-in-Some.ensures (number_in c.args.numbers.now) is)
    ∙ sym (link_on (number_in c.args.numbers.now) c.args.link.now c.in-Some.client is) in
    subst
    (λ (l : List BookLink). OnOk c.put.result (saved_links c.put.new.self.links.items ≡ placed c.args.rules.now (saved_links c.args.found.now.links.items) l))
    same c.put.ensures.links

pub returns-in-None-clause-links : goal.returns-in-None-clause-links
returns-in-None-clause-links c =
    sym (ap (placed c.args.rules.now (saved_links c.args.found.now.links.items)) (link_gone (number_in c.args.numbers.now) c.args.link.now (sym c.in-None.ensures))
    ∙ placed_none c.args.rules.now (saved_links c.args.found.now.links.items))
