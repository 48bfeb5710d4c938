use Rattle.std.proofs.Common.{◌≡◌, All, map, subst}
use Rattle.rsl_book.specs.RuledBook.{IsWithinLimit}
use Rattle.rsl_shard.specs.Opening.{as_new}
use Rattle.rsl_shard.specs.Restep.{AreBooks, new_books}
use Rattle.rsl_shard.specs.Setup.{Setup, IsSetup, setup_of}
use Rattle.rsl_shard.proofs.GivenBooks.{given_are_books}
use Rattle.rsl_shard.proofs.books.Books.from_books.Goals as goal

pub invariant_of-result : goal.invariant_of-result
invariant_of-result c =
    let same : setup_of c.args.config.now c.args.shard ≡ record { shard = c.args.shard; shards = c.shards.result; accounts = c.accounts.result } = cc in
    let within : IsSetup (setup_of c.args.config.now c.args.shard) = record {
      shard = c.requires;
      shards = c.shards.ensures.limits.settings.shards;
      accounts = c.shards.ensures.limits.accounts;
    } in
    let are : map as_new c.args.books.items ≡ new_books c.args.config.now c.args.shard =
    rw (← c.as_slice.ensures.value) (c.are_of_shard.ensures.own.0 c.if-not-are_of_shard.false) in
    let limit : All IsWithinLimit c.args.books.items = rw (← c.as_slice.ensures.value) (c.are_of_shard.ensures.limit c.if-not-are_of_shard.false) in
    subst (λ (setup : Setup). AreBooks setup c.args.books.items) same
    (given_are_books c.args.config.now c.args.shard c.args.books.items within are limit)

pub returns-clause-sound : goal.returns-clause-sound
returns-clause-sound c = invariant_of-result c
