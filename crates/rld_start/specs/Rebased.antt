-- The message on a generation that was begun with the books of the one before, cut to the present.
use Rattle.std.specs.Prelude.{ℕ, List, ◌++◌, codes}
use Rattle.rld_start.specs.declared.cutting.Rebased.{Rebased}
use Rattle.rld_start.specs.Greeting.{numbered}

abbrev pub rebased : Rebased → List ℕ
rebased done =
    numbered (codes "generation ") done.from
    ++ numbered (codes ": ") done.moments
    ++ numbered (codes " moments cut; generation ") done.generation
    ++ codes " begins\n"
