use Rattle.std.proofs.Common.{◌≡◌, ◌+◌, ◌^◌, ◌<◌, List, rules, sym, ap, subst, ◌∙◌}
use Rattle.rsl_book.specs.RuledBook.{RuledBook}
use Rattle.rsl_shard.specs.Journal.{JournalSeen}
use Rattle.rsl_shard.specs.Opening.{opening_of}
use Rattle.rsl_shard.specs.Restep.{AreBooks}
use Rattle.rsl_shard.specs.ShardSeen.{HasJournal}
use Rattle.rsl_shard.specs.declared.opening.Opening.{Opening}
use Rattle.rsl_shard.specs.declared.shard.Shard.TheInside.{Inside}
use Rattle.rsl_shard.proofs.Journaling.{begun}
use Rattle.rsl_shard.proofs.shard.Shard.cut_loose.Goals as goal

pub invariant_of-self : goal.invariant_of-self
invariant_of-self c =
    subst (λ (opening : Opening). let inside : Inside = record { books = c.self.inside.books; opening = opening; journal = c.self.inside.journal; first = c.self.inside.first } in HasJournal inside)
    (sym c.in_err-opening.ensures.err) c.self.invariant

pub invariant_of-self-2 : goal.invariant_of-self-2
invariant_of-self-2 c =
    let sound : AreBooks c.self.inside.books.setup c.self.inside.books.books =
    subst (λ (all : List RuledBook). AreBooks c.self.inside.books.setup all) (sym c.self.invariant.restepped) c.self.invariant.kept.books in
    let within : c.self.inside.first + c.len-more.result < 2 ^ 64 = search rules in
    let opening : opening_of c.hand_out.new.self c.self.inside.books.books ≡ c.self.inside.books.books =
    ap (λ (opening : Opening). opening_of opening c.self.inside.books.books) c.in_ok-opening.ensures.next ∙ c.in_ok-next.ensures in
    begun (record { books = c.self.inside.books; opening = c.hand_out.new.self; journal = c.replace.new.dest; first = c.self.inside.first + c.len-more.result })
    sound opening (ap (λ (journal : JournalSeen). journal.lines) c.replace.ensures.after ∙ c.room.invariant.1) within
