use Rattle.std.proofs.Common.{◌≡◌, ◌∙◌, Bool, ap, subst, sym}
use Rattle.std.specs.Prelude.{◌↔◌, IsTrue}
use Rattle.std.specs.Arc.{arc_value}
use Rattle.rld_books.specs.Saved.{IsServerOf}
use Rattle.rld_books.specs.Server.{ServerSeen}
use Rattle.rld_spelling.specs.Tables.{table_of}
use Rattle.rld_spelling.specs.declared.header.Header.{Header}
use Rattle.rld_store.proofs.Callers.{still_server}
use Rattle.rsl_accounts.specs.Configuration.{Configuration}
use Rattle.rld_state.proofs.state.ServerState.go_on.Goals as goal

-- what is asked of two configurations is asked of what these are
asked_of : (one other a b : Configuration) (same : Bool) → one ≡ a → other ≡ b
    → IsTrue same ↔ (table_of one ≡ table_of other) → IsTrue same ↔ (table_of a ≡ table_of b)
asked_of one other a b same this that is =
    subst (λ (x : Configuration). IsTrue same ↔ (table_of x ≡ table_of b)) this
    (subst (λ (y : Configuration). IsTrue same ↔ (table_of one ≡ table_of y)) that is)

pub returns-then-goes_on-clause-same : goal.returns-then-goes_on-clause-same
returns-then-goes_on-clause-same g c =
    subst (λ (same : Bool). IsTrue same ↔ (table_of (arc_value c.args.self.now.recorder.config) ≡ table_of (arc_value c.args.config))) c.if-goes_on.true
    (asked_of c.accounts.result.now c.deref.result.now (arc_value c.args.self.now.recorder.config) (arc_value c.args.config) c.has_same_table-goes_on.result
    c.accounts.ensures c.deref.ensures c.has_same_table-goes_on.ensures)

pub returns-else-goes_on-clause-same : goal.returns-else-goes_on-clause-same
returns-else-goes_on-clause-same g c =
    subst (λ (same : Bool). IsTrue same ↔ (table_of (arc_value c.args.self.now.recorder.config) ≡ table_of (arc_value c.args.config))) c.if-goes_on.false
    (asked_of c.accounts.result.now c.deref.result.now (arc_value c.args.self.now.recorder.config) (arc_value c.args.config) c.has_same_table-goes_on.result
    c.accounts.ensures c.deref.ensures c.has_same_table-goes_on.ensures)

pub take_accounts-requires : goal.take_accounts-requires
take_accounts-requires g c =
    (asked_of c.accounts.result.now c.deref.result.now (arc_value c.args.self.now.recorder.config) (arc_value c.args.config) c.has_same_table-goes_on.result
    c.accounts.ensures c.deref.ensures c.has_same_table-goes_on.ensures).0 c.if-goes_on.true

-- the books are of the other accounts too
pub invariant_of-self : goal.invariant_of-self
invariant_of-self g c = record {
  server = subst (λ config. IsServerOf (arc_value config) c.take_accounts.new.self.books) (sym c.take_accounts.ensures.config)
      (subst (λ (books : ServerSeen). IsServerOf (arc_value c.args.config) books) (sym c.take_accounts.ensures.books)
      (still_server (arc_value c.args.self.now.recorder.config) (arc_value c.args.config)
      ((asked_of c.accounts.result.now c.deref.result.now (arc_value c.args.self.now.recorder.config) (arc_value c.args.config) c.has_same_table-goes_on.result
      c.accounts.ensures c.deref.ensures c.has_same_table-goes_on.ensures).0 c.if-goes_on.true)
      c.args.self.now.recorder.books c.args.self.now.server));
  kept = c.args.self.now.kept ∙ ap (λ (h : Header). h.generation) (sym c.take_accounts.ensures.header);
}
