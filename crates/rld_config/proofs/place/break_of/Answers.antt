use Rattle.std.proofs.Common.{sym, refl, arith}
use Rattle.std.proofs.lemmas.Bool.{false≢true}
use Rattle.toml.specs.View.{table_view}
use Rattle.rsl_account_file.proofs.Files.{file_of-table, file_of-none}
use Rattle.rld_config.proofs.place.break_of.Goals as goal

pub returns-in-Ok-clause-whole : goal.returns-in-Ok-clause-whole
returns-in-Ok-clause-whole c =
    rw (file_of-table c.args.text.now (table_view c.in-Ok.field-0) c.in-Ok.ensures.ok.0 c.in-Ok.ensures.ok.1) refl

pub returns-in-Some-clause-broken : goal.returns-in-Some-clause-broken
returns-in-Some-clause-broken c = (
  file_of-none c.args.text.now (c.in-Err.ensures.refused (λ memory. false≢true (sym (c.in-Some.ensures.none.1 memory)))),
  (c.in-Some.span.start, omega (arith, c.in-Some.ensures.range, c.in-Err.ensures.span), c.after.ensures),
)
