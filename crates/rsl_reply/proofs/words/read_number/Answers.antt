use Rattle.std.proofs.Common.{sym, lit<}
use Rattle.std.proofs.lemmas.Str.Pattern.{starts_char}
use Rattle.rsl_reply.proofs.Numbers.{number_of_plus}
use Rattle.rsl_reply.proofs.words.read_number.Goals as goal

pub returns-then-starts_with : goal.returns-then-starts_with
returns-then-starts_with c = sym (number_of_plus c.args.word.now ((starts_char 43 c.args.word.now _ c.starts_with.ensures.cases (lit< tt) (lit< tt)).0 c.if-starts_with.true))
