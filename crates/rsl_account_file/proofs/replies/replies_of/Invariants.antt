use Rattle.std.proofs.Common.{◌≡◌, ◌+◌, [], drop, map}
use Rattle.toml.specs.View.{view}
use Rattle.rsl_account_file.specs.File.{replies_from}
use Rattle.rsl_account_file.proofs.replies.replies_of.Given as goal

-- what is read so far, and what is left
abbrev pub invariant-loop-item : goal.invariant-loop-item
invariant-loop-item l = record {
  read : replies_from l.names l.part l.name l.place l.attributes.items (map view (drop l.item-index l.items)) ≡ replies_from l.names l.part l.name 1 [] (map view l.items);
  counted : l.place ≡ l.item-index + 1;
}
