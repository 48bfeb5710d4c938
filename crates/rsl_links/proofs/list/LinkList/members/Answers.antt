use Rattle.std.proofs.Common.{ap, ◌∙◌}
use Rattle.std.specs.Prelude.{count_by}
use Rattle.rsl_links.specs.LinkList.{RoomyList, is_member}
use Rattle.rsl_links.proofs.list.LinkList.members.Goals as goal

pub returns : goal.returns
returns c = c.members.ensures ∙ ap (λ (value : RoomyList). count_by (is_member c.args.nas c.args.id.now) value.items) c.self.view_is
