use Rattle.std.proofs.Common.{◌≡◌, ap, arith, refl, ◌∙◌}
use Rattle.rsl_shard.specs.Restep.{BooksSeen, new_books}
use Rattle.rsl_shard.specs.declared.opening.Opening.TheVariants.{New}
use Rattle.rsl_shard.proofs.Journaling.{begun, new_seen, renewed_new}
use Rattle.rsl_shard.proofs.shard.Shard.new.Goals as goal

pub invariant_of-result : goal.invariant_of-result
invariant_of-result c =
    let are : c.in_ok-new.field-0.books ≡ new_books c.args.config.now c.args.number = ap (λ (seen : BooksSeen). seen.books) c.in_ok-new.ensures.books in
    begun (record { books = c.in_ok-new.field-0; opening = New; journal = c.in_ok-new-2.field-0; first = 0 })
    c.in_ok-new.ensures.sound (renewed_new c.args.config.now c.args.number c.in_ok-new.field-0.books are) c.in_ok-new-2.ensures (omega arith)

pub returns : goal.returns
returns c =
    let are : c.in_ok-new.field-0.books ≡ new_books c.args.config.now c.args.number = ap (λ (seen : BooksSeen). seen.books) c.in_ok-new.ensures.books in
    new_seen c.args.config.now c.args.number (record { books = c.in_ok-new.field-0; opening = New; journal = c.in_ok-new-2.field-0; first = 0 })
    (ap (λ (seen : BooksSeen). seen.setup) c.in_ok-new.ensures.books)
    (renewed_new c.args.config.now c.args.number c.in_ok-new.field-0.books are ∙ are) c.in_ok-new-2.ensures refl
