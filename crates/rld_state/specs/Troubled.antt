-- The reports on batches that are not recorded: one when it begins, and one when it ends.
use Rattle.std.specs.Prelude.{Bool, true, false, Option, Some, None}
use Rattle.rld_state.specs.declared.trouble.News.{News}
use Rattle.rld_state.specs.declared.trouble.News.TheVariants.{Began, Over}

abbrev pub news_of : (before now : Bool) → Option News
news_of false true = Some Began
news_of true false = Some Over
news_of false false = None
news_of true true = None
