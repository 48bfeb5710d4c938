use Rattle.std.proofs.Common.{◌≡◌, subst}
use Rattle.rsl_shard.specs.Restep.{AreBooks}
use Rattle.rsl_shard.specs.Setup.{Setup, IsSetup, setup_of}
use Rattle.rsl_shard.proofs.Beginning.{new_are_books}
use Rattle.rsl_shard.proofs.books.Books.new.Goals as goal

pub invariant_of-result : goal.invariant_of-result
invariant_of-result c =
    let same : setup_of c.args.config.now c.args.shard ≡ record { shard = c.args.shard; shards = c.shards.result; accounts = c.accounts.result } = cc in
    let within : IsSetup (setup_of c.args.config.now c.args.shard) = record {
      shard = c.requires;
      shards = c.shards.ensures.limits.settings.shards;
      accounts = c.shards.ensures.limits.accounts;
    } in
    subst (λ (setup : Setup). AreBooks setup c.in_ok-new_list.field-0.items) same
    (new_are_books c.args.config.now c.args.shard c.in_ok-new_list.field-0.items within c.in_ok-new_list.ensures.books c.in_ok-new_list.ensures.limit)

pub returns-clause-sound : goal.returns-clause-sound
returns-clause-sound c = invariant_of-result c
