use Rattle.rld_export.specs.Text.{server_columns}
use Rattle.rld_values.proofs.Callers.{written_5}
use Rattle.rld_export.proofs.record.push_server.Goals as goal

pub returns : goal.returns
unfolding server_columns
returns c =
    written_5 _ _ _ _ _ _ _ _ _ _ _
    c.in_ok-push_quoted.ensures c.in_ok-push_text.ensures c.in_ok-push_dotted.ensures c.in_ok-push_text-2.ensures c.in_ok-push_nas.ensures
