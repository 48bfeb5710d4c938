use Rattle.std.proofs.Common.{◌≡◌, map}
use Rattle.std.proofs.lemmas.Result.{IfOk-weaker}
use Rattle.rsl_shard.specs.LooseSeen.{LooseSeen}
use Rattle.rsl_shard.specs.Opening.{as_new}
use Rattle.rsl_service.proofs.Ruled.{ruled_end}
use Rattle.rsl_service.proofs.desk.Desk.cut.Goals as goal

pub returns-clause-books : goal.returns-clause-books
returns-clause-books g c =
    let desk = c.args.self.now in
    IfOk-weaker c.cut_loose.result (λ (loose : LooseSeen). loose.opening ≡ desk.shard.opening) (λ (loose : LooseSeen). map as_new loose.opening ≡ g.L.Tally.books)
    (λ loose is. ruled_end desk.shard loose.opening g.L.Tally.books is desk.ruled) c.cut_loose.ensures.opening
