use Rattle.rsl_record.specs.Output.{output_octets}
use Rattle.rsl_serve.proofs.server.serve.Goals as goal

pub returns-clause-served : goal.returns-clause-served
returns-clause-served g c =
    let served = c.in_ok-served.ensures in
    (served.0, output_octets c.in_ok-served.served.output, served.1, c.in_ok-write.ensures)
