use Rattle.std.proofs.Common.{◌≡◌, ◌++◌, take}
use Rattle.std.specs.List.{flat_map}
use Rattle.rld_text.specs.Listing.{text_if_wanted}
use Rattle.rld_text.proofs.listing.push_wanted.Given as goal

-- the lines of the links that were looked at
abbrev pub invariant-loop-link : goal.invariant-loop-link
invariant-loop-link l =
    l.out.items
    ≡ l.fn.out.items ++ flat_map (text_if_wanted l.form l.holder.config.now l.wanted l.holder.name.now l.holder.live l.holder.moment) (take l.link-index l.links)
