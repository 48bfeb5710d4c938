use Rattle.std.proofs.Common.{◌+◌, ◌-◌, ◌^◌, min, refl, ap, ◌∙◌}
use Rattle.rsl_book.specs.RuledBook.{RuledBook}
use Rattle.rsl_links.specs.Seen.{bundle_with}
use Rattle.rsl_book.proofs.Insides.{has_opened, has_not_opened}
use Rattle.rsl_book.proofs.book.Book.open_link.Goals as goal

pub returns-then-not-open_touched : goal.returns-then-not-open_touched
returns-then-not-open_touched c =
    let same = c.self-2.view_is ∙ c.if-not-open_touched.ensures.same refl in
    has_not_opened c.args.self.now _ c.saturating_add-self-inside.result (record { nas = c.args.nas; id = c.args.id }) (bundle_with c.args.nas c.args.bundle) c.args.station
    (c.saturating_add-self-inside.ensures ∙ ap (λ (v : RuledBook). min (v.book.over + 1) (2 ^ 64 - 1)) same)
    (c.if-not-open_touched.ensures.full refl)
    (ap (λ (v : RuledBook). let made : RuledBook = record v { book = record v.book { over = c.saturating_add-self-inside.result } } in made) same)

pub returns-else-not-open_touched : goal.returns-else-not-open_touched
returns-else-not-open_touched c =
    has_opened c.args.self.now c.open_touched.new.self c.self.inside.clock c.args.nas c.args.id (bundle_with c.args.nas c.args.bundle) c.args.station
    (ap (λ (v : RuledBook). v.book.clock) c.self.view_is)
    (c.if-not-open_touched.ensures.fits refl)
    (c.if-not-open_touched.ensures.put refl)
