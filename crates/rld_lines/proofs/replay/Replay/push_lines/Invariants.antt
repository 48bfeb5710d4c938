use Rattle.std.proofs.Common.{◌≡◌, ◌+◌, ◌++◌, drop}
use Rattle.rld_books.specs.Server.{replay}
use Rattle.rld_lines.specs.Lines.{lines_of}
use Rattle.rld_lines.proofs.replay.Replay.push_lines.Given as goal

-- what is left to be made and printed comes to the same as all
abbrev pub invariant-loop-moved : goal.invariant-loop-moved
invariant-loop-moved l = record {
  config : l.self.config ≡ l.fn.self.config;
  file : l.self.file ≡ l.fn.self.file;
  number : l.self.number ≡ l.fn.self.number + l.moved-index;
  books : replay l.self.books (drop l.moved-index l.batch) ≡ replay l.fn.self.books l.batch;
  lines : l.out.items ++ lines_of l.fn.self.file.now l.fn.self.config.now l.self.number l.self.books (drop l.moved-index l.batch)
      ≡ l.fn.out.items ++ lines_of l.fn.self.file.now l.fn.self.config.now l.fn.self.number l.fn.self.books l.batch;
}
