use Rattle.std.proofs.Common.{◌≡◌, ◌+◌, ◌++◌, drop, length}
use Rattle.rld_page.specs.Figures.{with_commas}
use Rattle.rld_page.proofs.html.Html.with_commas.Given as goal

-- what is written, and what is left of it
abbrev pub invariant-loop-digit : goal.invariant-loop-digit
invariant-loop-digit l = record {
  written : l.fn.self ++ with_commas l.digits ≡ l.self ++ with_commas (drop l.digit-index l.digits);
  behind : l.left + l.digit-index ≡ length l.digits;
}
