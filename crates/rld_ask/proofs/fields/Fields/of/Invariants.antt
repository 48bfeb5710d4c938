use Rattle.std.proofs.Common.{◌≡◌}
use Rattle.form_urlencoded.specs.Form.{raw_pairs}
use Rattle.form_urlencoded.specs.Parse.{raw_pairs_left}
use Rattle.rld_ask.specs.Form.{no_fields, with_pairs}
use Rattle.rld_ask.proofs.fields.Fields.of.Given as goal

-- what the pairs that are left make of the fields is what all make of none
abbrev pub invariant-loop-name : goal.invariant-loop-name
invariant-loop-name l = with_pairs l.fields (raw_pairs_left l.name-iterator) ≡ with_pairs no_fields (raw_pairs l.form)
