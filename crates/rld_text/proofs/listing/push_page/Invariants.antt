use Rattle.std.proofs.Common.{◌≡◌, ◌++◌, take}
use Rattle.std.specs.List.{flat_map}
use Rattle.rld_text.specs.Listing.{held_text}
use Rattle.rld_text.proofs.listing.push_page.Given as goal

-- the links of the accounts that were looked at
abbrev pub invariant-loop-held : goal.invariant-loop-held
invariant-loop-held l =
    l.out.items
    ≡ l.fn.out.items ++ flat_map (held_text l.shown.form l.shown.config.now l.shown.wanted.now l.shown.moment) (take l.held-index l.page)
