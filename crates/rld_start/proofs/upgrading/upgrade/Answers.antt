use Rattle.std.proofs.Common.{subst, ◌∙◌}
use Rattle.std.proofs.lemmas.Result.{IfOk-weaker}
use Rattle.rld_log.specs.declared.reading.Frames.{Frames}
use Rattle.rld_store.specs.Former.{EndsFormer}
use Rattle.rld_start.proofs.Going.{both_ok, first_by_number}
use Rattle.rld_start.proofs.upgrading.upgrade.Goals as goal

pub returns-clause-admits : goal.returns-clause-admits
returns-clause-admits g c =
    IfOk-weaker c.change_from.result _ _
    (λ started is. record {
      former = c.in_ok-former.former.table;
      old = c.in_ok-former.former.config;
      header = c.in-Ok.header;
      has = c.in-Ok.ensures;
      table = c.in_ok-former.ensures.table;
      again = c.in-Ok-read_former.end.header;
      end = c.in-Ok-read_former.end.books;
      ends = subst (λ (frames : Frames). EndsFormer c.in_ok-former.former.config c.in_ok-former.former.table.shards frames.octets.items c.in-Ok-read_former.end.header c.in-Ok-read_former.end.books)
          c.into_log-frames.ensures.frames c.in-Ok-read_former.ensures.ends;
      admitted = is.0;
      next_is = first_by_number started.store.header c.in_ok-first.first c.in_ok-former.former.table.boot (is.1 ∙ c.first_header-next.ensures);
    })
    (both_ok c.change_from.result _ _ c.change_from.ensures.admitted c.change_from.ensures.header)
