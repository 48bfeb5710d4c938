use Rattle.std.proofs.Common.{arith}
use Rattle.rld_config.proofs.Told.{books_more}
use Rattle.rld_config.proofs.warning.books_octets.Goals as goal

pub loop-number-preserved : goal.loop-number-preserved
loop-number-preserved c =
    let more = books_more c.args.config.now.accounts c.loop-number.number c.entry.result.now c.entry.ensures.entry in
    record {
      value = omega (arith, more, c.loop-number.invariant.value, c.book_octets-octets.ensures.value);
      most = omega (arith, c.loop-number.invariant.most, c.book_octets-octets.ensures.most);
    }
