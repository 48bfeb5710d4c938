-- How an alive changes a link.
use Rattle.std.specs.Prelude.{ℕ, List, Option}
use Rattle.std.specs.Option.{option_or}
use Rattle.rsl_links.specs.declared.link.Link.{Link}
use Rattle.rsl_links.specs.declared.link.Holder.TheVariants.{Bound as LinkBound}

unfoldable pub touched_link : ℕ → Option (List ℕ) → Option (List ℕ) → Link → Link
touched_link now bundle station link =
    record link {
      bundle = option_or link.bundle bundle;
      station = option_or station link.station;
      touched = now;
    }

-- how an alive changes the link that its session takes
unfoldable pub taken_link : ℕ → List ℕ → Option (List ℕ) → Option (List ℕ) → Link → Link
taken_link now id bundle station link =
    record link {
      holder = LinkBound id;
      bundle = option_or link.bundle bundle;
      station = option_or station link.station;
      touched = now;
    }

-- the bundle that the link then has, if it had none; its station, if the alive names one; its
-- clock; and its session and clock
unfoldable pub joined_link : Option (List ℕ) → Link → Link
joined_link bundle link = record link { bundle = option_or link.bundle bundle }

unfoldable pub stationed_link : Option (List ℕ) → Link → Link
stationed_link station link = record link { station = option_or station link.station }

unfoldable pub renewed_link : ℕ → Link → Link
renewed_link now link = record link { touched = now }

unfoldable pub bound_link : ℕ → List ℕ → Link → Link
bound_link now id link = record link { holder = LinkBound id; touched = now }
