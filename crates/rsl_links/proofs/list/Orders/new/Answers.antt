use Rattle.rsl_links.proofs.list.Orders.new.Goals as goal

pub returns-clause-empty : goal.returns-clause-empty
returns-clause-empty c =
    record {
      reserved = c.in_ok-new.ensures.empty;
      bound = c.in_ok-new-2.ensures.empty;
      sessions = c.in_ok-new-3.ensures.empty;
      bundles = c.in_ok-new-4.ensures.empty;
      stations = c.in_ok-new-5.ensures.empty;
    }

pub returns-clause-room : goal.returns-clause-room
returns-clause-room c =
    record {
      reserved = c.in_ok-new.ensures.room;
      bound = c.in_ok-new-2.ensures.room;
      sessions = c.in_ok-new-3.ensures.room;
      bundles = c.in_ok-new-4.ensures.room;
      stations = c.in_ok-new-5.ensures.room;
    }
