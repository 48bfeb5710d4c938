-- The same looks, at links as they are saved.
use Rattle.std.specs.Prelude.{ℕ, List, [], ◌∷◌, Bool, false, ◌&&◌, Option}
use Rattle.std.specs.List.{flat_map}
use Rattle.rsl_event.specs.declared.nas.Nas.{Nas}
use Rattle.rsl_session.specs.Same.{same_nas, same_octets}
use Rattle.rsl_session.specs.declared.saved.SavedHolder.{SavedHolder}
use Rattle.rsl_session.specs.declared.saved.SavedHolder.TheVariants.{Reserved, Bound}
use Rattle.rsl_session.specs.declared.saved.SavedLink.{SavedLink}
use Rattle.rsl_session.specs.declared.session.Session.{Session}
use Rattle.rld_export.specs.Sessions.{began_in}
use Rattle.rld_export.specs.declared.session.Held.{Held}

-- whether a saved link is bound to a session
abbrev pub is_saved_holder : (id : List ℕ) → SavedHolder → Bool
is_saved_holder id (Reserved number) = false
is_saved_holder id (Bound other) = same_octets other id

abbrev pub is_saved_of : Session → SavedLink → Bool
is_saved_of session link = same_nas link.nas session.nas && is_saved_holder session.id link.holder

-- the session of a saved link, if it is bound
abbrev pub held_by_saved : (began : Option ℕ) → List Held → Nas → (touched : ℕ) → SavedHolder → List Held
held_by_saved began helds nas touched (Reserved number) = []
held_by_saved began helds nas touched (Bound id) =
    record {
      session = record { nas = nas; id = id };
      began = began_in began helds (record { nas = nas; id = id });
      seen = touched;
    } ∷ []

abbrev pub held_saved : (began : Option ℕ) → List Held → SavedLink → List Held
held_saved began helds link = held_by_saved began helds link.nas link.touched link.holder

abbrev pub found_saved : (began : Option ℕ) → List Held → List SavedLink → List Held
found_saved began helds links = flat_map (held_saved began helds) links
