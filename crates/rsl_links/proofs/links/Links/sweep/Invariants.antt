use Rattle.std.proofs.Common.{◌≡◌, ◌≤◌, ◌++◌, take, drop, length, not}
use Rattle.std.specs.Prelude.{filter}
use Rattle.rsl_session.specs.Book.{BookLink}
use Rattle.rsl_session.specs.BookLinks.{is_swept}
use Rattle.rsl_links.specs.Seen.{links_seen}
use Rattle.rsl_links.specs.Counted.{AreCounted}
use Rattle.rsl_links.proofs.links.Links.sweep.Given as goal

abbrev pub invariant-loop-at : goal.invariant-loop-at
invariant-loop-at l =
    record {
      within : l.at ≤ length (links_seen l.servers l.initial.self.list.items);
      inside : l.at ≤ length l.self.list.items;
      left : links_seen l.servers l.self.list.items
          ≡ take l.at (links_seen l.servers l.initial.self.list.items)
          ++ filter (λ (link : BookLink). not (is_swept l.nas l.delay l.now link)) (drop l.at (links_seen l.servers l.initial.self.list.items));
      counted : AreCounted l.servers l.self;
      fewer : l.self.places ≤ l.initial.self.places;
      ports : l.self.ports ≡ l.initial.self.ports;
      room : l.self.list.room ≡ l.initial.self.list.room;
    }

abbrev pub decreases-loop-at : goal.decreases-loop-at
decreases-loop-at l = l.at
