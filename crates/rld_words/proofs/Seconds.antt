-- A number is what its own text writes.
use Rattle.std.proofs.Common.{◌≡◌, ℕ, ◌<◌, ◌≤◌, ◌^◌, List, Some, Result, ap, arith, lit≤}
use Rattle.std.specs.Fmt.{decimal}
use Rattle.std.specs.Result.{result_ok}
use Rattle.std.specs.Str.Parse.{ParsesUnsigned}
use Rattle.std.proofs.lemmas.Fmt.{parse-decimal}

pub number_parsed : {E : Type 0} (bs : List ℕ) (r : Result ℕ E) → ParsesUnsigned 32 10 bs r
    → (number : ℕ) → number < 2 ^ 32 → bs ≡ decimal number → result_ok r ≡ Some number
number_parsed bs r h number small e =
    let widths : 2 ^ 32 ≤ 2 ^ 64 = lit≤ tt in
    ap result_ok (parse-decimal 32 number bs r small (omega (arith, small, widths)) e h)
