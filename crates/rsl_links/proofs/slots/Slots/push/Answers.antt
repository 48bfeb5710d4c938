use Rattle.std.proofs.Common.{◌≡◌, length, sym, subst, rules}
use Rattle.rsl_links.specs.declared.slots.Slots.{Slots}
use Rattle.rsl_links.proofs.Grown.{HasRoom, more, roomy_grown, roomy_same}
use Rattle.rsl_links.proofs.slots.Slots.push.Goals.{then-self-len, else-self-len}
use Rattle.rsl_links.proofs.slots.Slots.push.Goals as goal

pub returns : goal.returns
returns c =
    let numbered : Slots = c.next_number-opened.new.self in
    let first = c.next_number-opened.ensures.same in
    let long : c.len.result ≡ length numbered.sequence.items = search rules in
    let second : HasRoom numbered c.if-self-len.self =
    elim c.if-self-len.branch [
      | then-self-len w ↦ subst (HasRoom numbered) (sym w.self-is) (roomy_grown numbered w.grow.new.self first.kept w.grow.ensures.same w.grow.ensures.more w.grow.ensures.numbers)
      | else-self-len w ↦ subst (HasRoom numbered) (sym w.self-is) (roomy_same numbered first.kept c.len.result long w.if-self-len.false)
    ] in
    more c.args.self.now numbered c.if-self-len.self first second c.index-slot.result.now c.index-slot.ensures
    (record { link = c.args.link; opened = c.next_number-opened.result }) c.next_number-opened.ensures.later c.next_number-opened.ensures.below
