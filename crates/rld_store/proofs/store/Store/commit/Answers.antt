use Rattle.std.proofs.Common.{◌≡◌, ◌+◌, ℕ, List, ◌∙◌, drop, length, sym, ap, subst}
use Rattle.std.specs.Arc.{arc_value}
use Rattle.rsl_accounts.specs.Configuration.{Configuration}
use Rattle.rsl_shard.specs.declared.moved.Move.{Move}
use Rattle.rld_books.specs.Server.{ServerSeen, replay}
use Rattle.rld_log.specs.Frames.{Fits}
use Rattle.rld_spelling.specs.Moves.{moves_field}
use Rattle.rld_spelling.specs.declared.moves.Counts.{Counts}
use Rattle.rld_store.specs.Generations.{counts_of}
use Rattle.rld_store.specs.Standing.{EndsSo}
use Rattle.rld_store.specs.declared.store.End.{End}
use Rattle.rld_store.proofs.Standing.{stands_more}
use Rattle.rld_store.proofs.store.Store.commit.Goals as goal

pub returns-clause-recorded : goal.returns-clause-recorded
returns-clause-recorded g c = λ told opening history unanswered so.
    let batch : List Move = c.args.batch.items in
    let config : Configuration = arc_value c.args.self.now.config in
    let counted : c.counts_in.result ≡ counts_of config = c.counts_in.ensures ∙ ap counts_of c.deref.ensures in
    let counts : Counts = counts_of config in
    let payload : List ℕ = drop 20 c.settle.new.self.buffer.items in
    let given : c.deref-2.result.now ≡ batch = c.deref-2.ensures.value in
    let kept : payload ≡ drop 20 c.spell_batch.new.buffer.items = ap (λ (l : List ℕ). drop 20 l) c.settle.ensures.buffer in
    let spelled : payload ≡ (moves_field counts).spell batch = kept ∙ c.in_ok-whole.ensures.spelled ∙ ap (λ (n : Counts). (moves_field n).spell c.deref-2.result.now) counted ∙ ap (λ (l : List Move). (moves_field counts).spell l) given in
    let fit : (moves_field counts).Fits batch = subst (λ (l : List Move). (moves_field counts).Fits l) given (subst (λ (n : Counts). (moves_field n).Fits c.deref-2.result.now) counted c.in_ok-whole.ensures.fit) in
    let told_settle = c.add.ensures.told told in
    let short : Fits payload = subst (λ (p : List ℕ). Fits p) (sym kept) c.in_ok-whole.ensures.short in
    let size_is : c.add.new.self.whole ≡ c.args.self.now.whole + (20 + length payload) =
    c.in_ok-add.ensures.whole ∙ c.in_ok-whole.ensures.whole ∙ ap (λ (p : List ℕ). c.args.self.now.whole + (20 + length p)) (sym kept) in
    stands_more config opening g.L.Log.tears c.args.self.now.end
    (g.L.Log.seen c.args.self.now.log) (g.L.Log.seen c.add.new.self.log) (g.L.Log.may_leave c.args.self.now.log) (g.L.Log.may_leave c.add.new.self.log)
    c.args.self.now.whole c.add.new.self.whole c.args.self.now.books c.make_all-decisions.new.self history unanswered batch payload so
    short size_is
    (c.make_all-decisions.ensures.books ∙ ap (λ (b : ServerSeen). replay b batch) (c.add.ensures.books ∙ c.settle.ensures.books)) spelled fit
    (λ before other size ends. c.in_ok-add.ensures.added told before (subst (λ (e : End). EndsSo e g.L.Log.tears (g.L.Log.seen c.settle.new.self.log) (g.L.Log.may_leave c.settle.new.self.log) before other)
    c.in_ok-settle.ensures.settled (c.settle.ensures.ends told_settle before other size ends)))
