use Rattle.std.proofs.Common.{◌≡◌, take}
use Rattle.std.specs.List.{flat_map}
use Rattle.rld_text.specs.Links.{text_if_known}
use Rattle.rld_text.proofs.links.links_text.Given as goal

-- the lines of the links that were written
abbrev pub invariant-loop-link : goal.invariant-loop-link
invariant-loop-link l =
    l.text.items ≡ flat_map (text_if_known l.form l.holder.config.now l.holder.name.now l.holder.live l.holder.moment) (take l.link-index l.links)
