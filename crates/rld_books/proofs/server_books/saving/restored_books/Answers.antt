use Rattle.std.proofs.Common.{ap, arith, length, map, refl, ◌∙◌}
use Rattle.std.specs.Option.{option_map}
use Rattle.std.proofs.lemmas.List.{length-map}
use Rattle.std.proofs.lemmas.Option.{slice_get-map, slice_get_read}
use Rattle.std.proofs.lemmas.Result.{err_from_is_err_and}
use Rattle.rsl_session.specs.Saved.{saved_book}
use Rattle.rld_books.proofs.Misfits.{all_fit, as_counted, next_fits, none_wrong, this_misfits}
use Rattle.rld_books.proofs.Saving.{all_back_rules, all_back_saved, one_back}
use Rattle.rld_books.proofs.server_books.saving.restored_books.Goals as goal

pub loop-account-preserved : goal.loop-account-preserved
loop-account-preserved c = record {
  back = one_back c.args.config.now c.args.kept.now c.loop-account.account c.loop-account.books.items c.push.new.self.items c.entry.result.now c.index-kept-account.result c.in_ok-restored_book.field-0
      c.loop-account.invariant.back c.entry.ensures.entry (omega arith) c.index-kept-account.is c.in_ok-restored_book.ensures.book c.in_ok-push.ensures.items;
  fit = next_fits c.args.config.now.accounts (map saved_book c.args.kept.now) c.loop-account.account c.entry.result.now (saved_book c.index-kept-account.result) c.entry.ensures.entry
      (slice_get-map saved_book c.args.kept.now c.loop-account.account
      ∙ ap (option_map saved_book) (slice_get_read c.args.kept.now (length c.args.kept.now) c.loop-account.account c.index-kept-account.result refl (omega arith) c.index-kept-account.is))
      c.in_ok-restored_book.ensures.fits c.loop-account.invariant.fit;
}

pub returns-clause-server : goal.returns-clause-server
returns-clause-server c = all_back_rules c.args.config.now c.args.kept.now c.loop-account.account c.loop-account.books.items c.loop-account.invariant.back (omega arith)

pub returns-clause-saved : goal.returns-clause-saved
returns-clause-saved c = all_back_saved c.args.config.now c.args.kept.now c.loop-account.account c.loop-account.books.items c.loop-account.invariant.back (omega arith)

pub returns-clause-fits : goal.returns-clause-fits
returns-clause-fits c =
    none_wrong c.args.config.now (map saved_book c.args.kept.now) (omega (arith, length-map c.args.kept.now saved_book))
    (all_fit c.args.config.now.accounts (map saved_book c.args.kept.now) c.loop-account.account (omega arith) c.loop-account.invariant.fit)

pub returns-in_err-restored_book-clause-fault : goal.returns-in_err-restored_book-clause-fault
returns-in_err-restored_book-clause-fault c =
    let p = err_from_is_err_and c.from_residual.result c.from_residual.ensures.1 in
    rw (p.1, p.2)
    (λ other.
    as_counted c.args.config.now (map saved_book c.args.kept.now) (omega (arith, length-map c.args.kept.now saved_book))
    ∙ this_misfits c.args.config.now.accounts (map saved_book c.args.kept.now) c.loop-account.account c.entry.result.now (saved_book c.index-kept-account.result) c.in_err-restored_book.field-0.0 c.entry.ensures.entry
    (slice_get-map saved_book c.args.kept.now c.loop-account.account
    ∙ ap (option_map saved_book) (slice_get_read c.args.kept.now (length c.args.kept.now) c.loop-account.account c.index-kept-account.result refl (omega arith) c.index-kept-account.is))
    (c.in_err-restored_book.ensures.fault other) c.loop-account.invariant.fit)
