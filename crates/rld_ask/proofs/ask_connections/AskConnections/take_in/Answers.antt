use Rattle.std.proofs.Common.{◌≡◌, Bool, true, false, List, [], ◌∷◌, ◌++◌, inl, inr, ap, ◌∙◌}
use Rattle.std.specs.Prelude.{if◌then◌else◌, is_ok}
use Rattle.rld_ask.specs.Asking.{IsTakenIn, with_room}
use Rattle.rld_ask.specs.declared.ask_connection.AskConnection.{AskConnection}
use Rattle.rld_ask.proofs.ask_connections.AskConnections.take_in.Goals as goal

-- one is put after those that are left once there is room, or memory for it is refused
taken_in : (ok : Bool) (old made new : List AskConnection) (added : AskConnection) → made ≡ with_room old
    → new ≡ (if ok then made ++ added ∷ [] else made) → added.has_shown_token ≡ false → IsTakenIn old new
taken_in true old made new added room pushed unshown = inl (record {
  added = added;
  taken = record {
    is = pushed ∙ ap (λ (l : List AskConnection). l ++ added ∷ []) room;
    unshown = unshown;
  };
})
taken_in false old made new added room pushed unshown = inr (inl (pushed ∙ room))

pub returns : goal.returns
returns c =
    taken_in (is_ok c.push-none.result) c.args.self.now.connections.items c.make_room.new.self.connections.items c.push-none.new.self.items
    c.in-Ok.connection c.make_room.ensures c.push-none.ensures.items c.in-Ok.ensures.shown
