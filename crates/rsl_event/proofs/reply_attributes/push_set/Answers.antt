use Rattle.std.proofs.Common.{Option, ℕ, ap, ◌∙◌, ◌++◌}
use Rattle.rsl_wire.specs.Attributes.{list_octets}
use Rattle.rsl_event.specs.Answer.{optional_attribute}
use Rattle.rsl_event.proofs.ReplyAttributeLaws.{accept_written, with_attributes}
use Rattle.rsl_event.proofs.reply_attributes.push_set.Goals as goal

pub returns-clause-written : goal.returns-clause-written
returns-clause-written c =
    let class = c.push_class.new.draft in
    let port = c.push_optional.ensures.written ∙ ap (λ (o : Option ℕ). with_attributes class (class.attributes ++ list_octets (optional_attribute 62 o))) c.port_limit_of.ensures in
    accept_written c.args.boot c.args.number c.args.entry.now c.args.draft.now class _ _ _ _ _ _
    c.push_class.ensures.written port c.push_optional-2.ensures.written c.push_optional-3.ensures.written c.push_optional-4.ensures.written c.push_optional-5.ensures.written c.push_optional-6.ensures.written
