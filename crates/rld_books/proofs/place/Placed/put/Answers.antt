use Rattle.std.proofs.Common.{◌≡◌, ◌+◌, ◌∷◌, ◌++◌, [], List, subst, ◌∙◌, arith}
use Rattle.rsl_session.specs.Saved.{saved_link, saved_links}
use Rattle.rsl_session.specs.declared.saved.SavedLink.{SavedLink}
use Rattle.rsl_session.specs.Book.{bundles_in}
use Rattle.rsl_session.specs.Places.{places_of}
use Rattle.rld_books.proofs.Placing.{put_counted, put_in, put_out}
use Rattle.rld_books.proofs.place.Placed.put.Goals as goal

pub returns-then-rules-places-clause-links : goal.returns-then-rules-places-clause-links
returns-then-rules-places-clause-links c =
    put_out c.args.rules.now c.args.self.now.links.items c.args.link c.args.self.now.places c.places_more-more.result
    (subst
    (λ (l : List SavedLink).
    places_of c.args.rules.now.ports (bundles_in (saved_links l) ++ (saved_link c.args.link).bundle ∷ []) ≡ places_of c.args.rules.now.ports (bundles_in (saved_links l)) + c.places_more-more.result)
    c.as_slice.ensures.value c.places_more-more.ensures)
    c.requires.counted (omega (arith, c.if-rules-places.true, c.saturating_add-places.ensures))

pub returns-clause-links : goal.returns-clause-links
returns-clause-links c =
    put_in c.args.rules.now c.args.self.now.links.items c.push.new.self.items c.args.link c.args.self.now.places c.places_more-more.result c.in_ok-push.ensures.items
    (subst
    (λ (l : List SavedLink).
    places_of c.args.rules.now.ports (bundles_in (saved_links l) ++ (saved_link c.args.link).bundle ∷ []) ≡ places_of c.args.rules.now.ports (bundles_in (saved_links l)) + c.places_more-more.result)
    c.as_slice.ensures.value c.places_more-more.ensures)
    c.requires.counted (omega (arith, c.if-rules-places.false, c.saturating_add-places.ensures, c.requires.rules.places))

pub returns-clause-counted : goal.returns-clause-counted
returns-clause-counted c =
    let sum : c.saturating_add-places.result ≡ c.args.self.now.places + c.places_more-more.result =
    omega (arith, c.if-rules-places.false, c.saturating_add-places.ensures, c.requires.rules.places) in
    sum
    ∙ put_counted c.args.rules.now.ports c.args.self.now.links.items c.push.new.self.items c.args.link c.args.self.now.places c.places_more-more.result c.in_ok-push.ensures.items
    (subst
    (λ (l : List SavedLink).
    places_of c.args.rules.now.ports (bundles_in (saved_links l) ++ (saved_link c.args.link).bundle ∷ []) ≡ places_of c.args.rules.now.ports (bundles_in (saved_links l)) + c.places_more-more.result)
    c.as_slice.ensures.value c.places_more-more.ensures)
    c.requires.counted
