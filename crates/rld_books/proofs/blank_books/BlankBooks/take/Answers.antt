use Rattle.rld_books.proofs.Blanking.{taken_blank}
use Rattle.rld_books.proofs.blank_books.BlankBooks.take.Goals as goal

pub invariant_of-self : goal.invariant_of-self
invariant_of-self c = taken_blank c.self.inside.list.items c.args.account c.take.new.self c.take.ensures.after c.self.invariant

pub invariant_of-self-in-Some : goal.invariant_of-self-in-Some
invariant_of-self-in-Some c = taken_blank c.self.inside.list.items c.args.account c.take.new.self c.take.ensures.after c.self.invariant
