-- A look at saved links finds what a look at the links of the book finds.
use Rattle.std.proofs.Common.{◌≡◌, ℕ, List, [], ◌∷◌, ◌++◌, Bool, true, false, ◌||◌, Option, refl, ap, ◌∙◌}
use Rattle.std.specs.Prelude.{◌&&◌}
use Rattle.std.specs.List.{list_any}
use Rattle.rsl_event.specs.Same.{same_nas}
use Rattle.rsl_event.specs.declared.nas.Nas.{Nas}
use Rattle.rsl_session.specs.BookLinks.{is_holder, is_link_of}
use Rattle.rsl_session.specs.Same.{same_session}
use Rattle.rsl_session.specs.Saved.{saved_holder, saved_link, saved_links}
use Rattle.rsl_session.specs.declared.saved.SavedHolder.{SavedHolder}
use Rattle.rsl_session.specs.declared.saved.SavedHolder.TheVariants.{Reserved, Bound}
use Rattle.rsl_session.specs.declared.saved.SavedLink.{SavedLink}
use Rattle.rsl_session.specs.declared.session.Session.{Session}
use Rattle.rld_export.specs.Saved.{found_saved, held_by_saved, held_saved, is_saved_holder, is_saved_of}
use Rattle.rld_export.specs.Sessions.{found, held_by, held_one, is_bound_in}
use Rattle.rld_export.specs.declared.session.Held.{Held}

never : (test : Bool) → (test && false) ≡ false
never true = refl
never false = refl

by_holder : (session : Session) (nas : Nas) (holder : SavedHolder)
    → (same_nas nas session.nas && is_saved_holder session.id holder) ≡ is_holder session (saved_holder nas holder)
unfolding same_session
by_holder session nas (Reserved number) = never (same_nas nas session.nas)
by_holder session nas (Bound id) = refl

one_bound : (session : Session) (link : SavedLink) → is_saved_of session link ≡ is_link_of session (saved_link link)
unfolding is_link_of saved_link
one_bound session link = by_holder session link.nas link.holder

pub any_bound : (session : Session) (links : List SavedLink)
    → list_any (is_saved_of session) links ≡ is_bound_in (saved_links links) session
unfolding saved_links
any_bound session [] = refl
any_bound session (link ∷ links) =
    ap (λ (test : Bool). test || list_any (is_saved_of session) links) (one_bound session link)
    ∙ ap (λ (test : Bool). is_link_of session (saved_link link) || test) (any_bound session links)

by_saved : (began : Option ℕ) (helds : List Held) (nas : Nas) (touched : ℕ) (holder : SavedHolder)
    → held_by_saved began helds nas touched holder ≡ held_by began helds touched (saved_holder nas holder)
by_saved began helds nas touched (Reserved number) = refl
by_saved began helds nas touched (Bound id) = refl

one_held : (began : Option ℕ) (helds : List Held) (link : SavedLink)
    → held_saved began helds link ≡ held_one began helds (saved_link link)
unfolding saved_link
one_held began helds link = by_saved began helds link.nas link.touched link.holder

pub found_of_saved : (began : Option ℕ) (helds : List Held) (links : List SavedLink)
    → found_saved began helds links ≡ found began helds (saved_links links)
unfolding saved_links
found_of_saved began helds [] = refl
found_of_saved began helds (link ∷ links) =
    ap (λ (one : List Held). one ++ found_saved began helds links) (one_held began helds link)
    ∙ ap (λ (rest : List Held). held_one began helds (saved_link link) ++ rest) (found_of_saved began helds links)
