use Rattle.std.proofs.Common.{◌<◌, ◌≤◌, ◌∙◌, length, subst, sym, take, arith}
use Rattle.std.proofs.Math.Nat.{suc-mul}
use Rattle.std.proofs.lemmas.List.{take_all}
use Rattle.std.proofs.lemmas.List.Elements.{All-more, All-same}
use Rattle.rsl_book.specs.RuledBook.{IsWithinLimit}
use Rattle.rsl_shard.specs.Opening.{as_new}
use Rattle.rsl_shard.proofs.GivenBooks.{given_all, given_few, given_more, given_not, has_entry}
use Rattle.rsl_shard.proofs.books.given.are_of_shard.Goals as goal

pub returns-then-not-is_book_of-clause-own : goal.returns-then-not-is_book_of-clause-own
returns-then-not-is_book_of-clause-own c =
    given_not c.args.config.now c.args.shard c.args.books.now c.requires c.loop-book.book-index c.loop-book.account c.book-item.result c.loop-book.invariant.at c.loop-book-test.true c.book-item.is
    (λ is. sym c.if-not-is_book_of.true ∙ c.is_book_of.ensures.own.1 is)

pub overflow_add-account : goal.overflow_add-account
overflow_add-account c =
    let there : c.loop-book.account < length c.args.config.now.accounts =
    has_entry c.args.config.now.accounts c.loop-book.account (as_new c.book-item.result) (c.is_book_of.ensures.own.0 c.if-not-is_book_of.false) in
    let few = c.accounts-accounts.ensures.limits.accounts in
    let shards = c.shards-shards.ensures.limits.settings.shards in
    let same = c.shards-shards.ensures.number in
    omega arith

pub loop-book-preserved : goal.loop-book-preserved
loop-book-preserved c =
    record {
      at =
          let at = c.loop-book.invariant.at in
          let same = c.shards-shards.ensures.number in
          let next = suc-mul c.loop-book.book-index c.args.config.now.settings.shards in
          omega arith;
      so_far = given_more c.args.config.now c.args.shard c.args.books.now c.requires c.loop-book.book-index c.loop-book.account c.book-item.result c.loop-book.invariant.at c.loop-book-test.true c.book-item.is
          (c.is_book_of.ensures.own.0 c.if-not-is_book_of.false) c.loop-book.invariant.so_far;
      limit = All-more IsWithinLimit c.args.books.now c.loop-book.book-index _ (omega arith) c.loop-book.invariant.limit
          (subst IsWithinLimit c.book-item.is (c.is_book_of.ensures.limit c.if-not-is_book_of.false));
    }

pub returns-then-account-accounts-clause-own : goal.returns-then-account-accounts-clause-own
returns-then-account-accounts-clause-own c =
    let left : c.loop-book.account < length c.args.config.now.accounts =
    subst (λ n. c.loop-book.account < n) c.accounts-accounts.ensures.number c.if-account-accounts.true in
    given_few c.args.config.now c.args.shard c.args.books.now c.requires c.loop-book.book-index c.loop-book.account c.loop-book-test.false c.loop-book.invariant.at left

pub returns-clause-own : goal.returns-clause-own
returns-clause-own c =
    let past : length c.args.config.now.accounts ≤ c.loop-book.account =
    subst (λ n. n ≤ c.loop-book.account) c.accounts-accounts.ensures.number c.if-account-accounts.false in
    given_all c.args.config.now c.args.shard c.args.books.now c.requires c.loop-book.book-index c.loop-book.account c.loop-book-test.false c.loop-book.invariant.at past c.loop-book.invariant.so_far

pub returns-clause-limit : goal.returns-clause-limit
returns-clause-limit c = λ yes.
    All-same IsWithinLimit c.args.books.now (take c.loop-book.book-index c.args.books.now)
    (sym (take_all c.loop-book.book-index c.args.books.now (omega arith))) c.loop-book.invariant.limit
