use Rattle.std.proofs.Common.{◌≤◌, vec_len}
use Rattle.std.specs.Io.KnownBytes.{Consumes}
use Rattle.rsl_account_file.proofs.text_file.read_text.Given as goal

-- the text is what was read so far
abbrev pub invariant-loop : goal.invariant-loop
invariant-loop g l = record {
  short : vec_len l.text ≤ l.fn.most;
  read : Consumes (g.R.Read.remaining l.fn.reader) (g.R.Read.remaining l.reader) l.text.items;
}
