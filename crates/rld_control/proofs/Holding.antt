-- A link is bound to the session of a Stop just where it is as it is saved.
use Rattle.std.proofs.Common.{◌≡◌, List, [], ◌∷◌, Bool, true, false, ◌||◌, refl, ap, ◌∙◌}
use Rattle.std.specs.Prelude.{◌&&◌}
use Rattle.std.specs.List.{list_any}
use Rattle.rsl_event.specs.Same.{same_nas}
use Rattle.rsl_event.specs.declared.nas.Nas.{Nas}
use Rattle.rsl_session.specs.BookLinks.{is_holder as has, is_link_of}
use Rattle.rsl_session.specs.Same.{same_session}
use Rattle.rsl_session.specs.Saved.{saved_holder, saved_link, saved_links}
use Rattle.rsl_session.specs.declared.saved.SavedHolder.{SavedHolder}
use Rattle.rsl_session.specs.declared.saved.SavedHolder.TheVariants.{Reserved, Bound}
use Rattle.rsl_session.specs.declared.saved.SavedLink.{SavedLink}
use Rattle.rld_control.specs.Stops.{is_ended, is_held, is_holder, session_of}
use Rattle.rld_control.specs.declared.stop.Stop.{Stop}

never : (test : Bool) → (test && false) ≡ false
never true = refl
never false = refl

by_holder : (stop : Stop) (nas : Nas) (holder : SavedHolder) → (same_nas nas stop.nas && is_holder stop.session holder) ≡ has (session_of stop) (saved_holder nas holder)
unfolding same_session
by_holder stop nas (Reserved number) = never (same_nas nas stop.nas)
by_holder stop nas (Bound id) = refl

one_ended : (stop : Stop) (link : SavedLink) → is_ended stop link ≡ is_link_of (session_of stop) (saved_link link)
unfolding is_link_of saved_link
one_ended stop link = by_holder stop link.nas link.holder

pub any_ended : (stop : Stop) (links : List SavedLink) → list_any (is_ended stop) links ≡ is_held stop (saved_links links)
unfolding saved_links
any_ended stop [] = refl
any_ended stop (link ∷ links) =
    ap (λ (test : Bool). test || list_any (is_ended stop) links) (one_ended stop link)
    ∙ ap (λ (test : Bool). is_link_of (session_of stop) (saved_link link) || test) (any_ended stop links)
