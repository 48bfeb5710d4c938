use Rattle.std.proofs.Common.{◌++◌, ◌+◌, List, ℕ, Bor, ap, ◌∙◌, arith}
use Rattle.rsl_accounts.specs.Configuration.{Configuration}
use Rattle.rld_books.specs.Server.{decision_in}
use Rattle.rld_lines.specs.Lines.{line}
use Rattle.rld_lines.proofs.Printing.{books_all, books_more, lines_all, lines_more}
use Rattle.rld_lines.proofs.replay.Replay.push_lines.Goals as goal

pub loop-moved-preserved : goal.loop-moved-preserved
loop-moved-preserved c =
    let so = c.loop-moved.invariant in
    let made = c.in_ok-push_line.ensures in
    let moved = c.moved-item.result in
    let number = c.loop-moved.self.number + 1 in
    let decided = decision_in c.loop-moved.self.books moved in
    record {
      config = c.push_line.ensures.config ∙ so.config;
      file = c.push_line.ensures.file ∙ so.file;
      number = omega (arith, made.number, so.number);
      books = books_more c.loop-moved.self.books c.push_line.new.self.books _ c.args.batch.now c.loop-moved.moved-index moved c.loop-moved-test.true c.moved-item.is made.books so.books;
      lines = lines_more c.args.self.now.file.now c.args.self.now.config.now c.loop-moved.self.number c.push_line.new.self.number c.loop-moved.self.books c.push_line.new.self.books
          c.args.batch.now c.loop-moved.moved-index moved c.loop-moved.out.items c.push_line.new.out.items _
          c.loop-moved-test.true c.moved-item.is made.number made.books
          (made.line
          ∙ ap (λ (f : Bor (List ℕ)). c.loop-moved.out.items ++ line f.now c.loop-moved.self.config.now number moved decided) so.file
          ∙ ap (λ (k : Bor Configuration). c.loop-moved.out.items ++ line c.args.self.now.file.now k.now number moved decided) so.config)
          so.lines;
    }

pub returns-clause-books : goal.returns-clause-books
returns-clause-books c =
    books_all c.loop-moved.self.books _ c.args.batch.now c.loop-moved.moved-index c.loop-moved-test.false c.loop-moved.invariant.books

pub returns-clause-lines : goal.returns-clause-lines
returns-clause-lines c =
    lines_all c.args.self.now.file.now c.args.self.now.config.now c.loop-moved.self.number c.loop-moved.self.books c.args.batch.now c.loop-moved.moved-index
    c.loop-moved.out.items _ c.loop-moved-test.false c.loop-moved.invariant.lines
