use Rattle.std.proofs.Common.{ℕ, length, ap, refl, rules, ◌∙◌}
use Rattle.std.proofs.lemmas.Option.{slice_get_read}
use Rattle.rld_books.specs.Dealt.{dealt_place}
use Rattle.rld_books.proofs.Dealing.{one_dealt}
use Rattle.rld_books.proofs.server_books.dealt.dealt_books.Goals as goal

pub loop-account-preserved : goal.loop-account-preserved
loop-account-preserved c =
    one_dealt c.args.shards c.args.config.now c.args.kept.now c.loop-account.account c.dealt_place.result c.loop-account.books.items c.push.new.self.items c.entry.result.now c.in-Some.one.now
    c.in_ok-restored_book.field-0 c.loop-account.invariant c.entry.ensures.entry
    (c.dealt_place.ensures ∙ ap (λ (n : ℕ). dealt_place c.args.shards n c.loop-account.account) c.accounts-accounts.ensures.number)
    (slice_get_read c.args.kept.now (length c.args.kept.now) c.dealt_place.result c.in-Some.one.now refl (search rules) c.in-Some.ensures.lookup.1) c.in_ok-restored_book.ensures.book c.in_ok-push.ensures.items
