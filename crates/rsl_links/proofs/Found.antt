-- The first link that passes, by its position, and what a change of the link at a position is seen as.
use Rattle.std.proofs.Common.{◌≡◌, ℕ, zero, suc, ◌<◌, List, [], ◌∷◌, ◌++◌, take, drop, set, get_or, length, map, Bool, true, false, refl, ap, sym, ◌∙◌, arith, add-one}
use Rattle.std.specs.Prelude.{Option, Some, None, find, is_some, ◌&&◌, ◌==◌}
use Rattle.std.specs.Option.{option_or}
use Rattle.std.specs.List.{list_any}
use Rattle.std.proofs.lemmas.Bool.{or_parts, and_parts, false≢true}
use Rattle.rsl_event.specs.declared.nas.Nas.{Nas}
use Rattle.rsl_session.specs.declared.session.Session.{Session}
use Rattle.rsl_session.specs.Same.{same_nas}
use Rattle.rsl_session.specs.Book.{BookLink, Holder, Reserved, Bound}
use Rattle.rsl_session.specs.BookLinks.{change_first, without_first, is_holder, is_link_of, is_wanted, can_be_taken, touch, take_for}
use Rattle.rsl_session.proofs.Callers.{same_nas-true, same_session-true}
use Rattle.rsl_links.specs.declared.link.Link.{Link}
use Rattle.rsl_links.specs.declared.link.Holder.{Holder as LinkHolder}
use Rattle.rsl_links.specs.declared.link.Holder.TheVariants.{Reserved as LinkReserved, Bound as LinkBound}
use Rattle.rsl_links.specs.First.{IsFirst, change_at}
use Rattle.rsl_links.specs.Seen.{server_at, holder_at, bundle_with, link_seen, links_seen}
use Rattle.rsl_links.specs.Changed.{bound_link, joined_link, renewed_link, stationed_link, taken_link, touched_link}
use Rattle.rsl_links.specs.Steps.{server_of, touch_here, take_here, without_at}

module _ {A : Type 0} where
  find_at : (p : A → Bool) (xs : List A) (at : ℕ) (d : A) → at < length xs → ((d : A) → p (get_or xs at d) ≡ true) → list_any p (take at xs) ≡ false → find p xs ≡ Some (get_or xs at d)
  find_at p [] at d within passed none = absurd (omega arith)
  find_at p (x ∷ xs) zero d within passed none = rw (passed d) refl
  find_at p (x ∷ xs) (suc at) d within passed none =
      let parts = or_parts (p x) (list_any p (take at xs)) none in
      rw parts.0 (find_at p xs at d (omega arith) passed parts.1)

  pub found_at : (p : A → Bool) (xs : List A) (at : ℕ) (d : A) → IsFirst p xs at → find p xs ≡ Some (get_or xs at d)
  found_at p xs at d first = find_at p xs at d first.within first.passed first.before

  change_is : (p : A → Bool) (f g : A → A) (xs : List A) (at : ℕ) → ((x : A) → p x ≡ true → g x ≡ f x) → at < length xs → ((d : A) → p (get_or xs at d) ≡ true) → list_any p (take at xs) ≡ false
      → change_first p f xs ≡ change_at at g xs
  unfolding change_first change_at
  change_is p f g [] at same within passed none = absurd (omega arith)
  change_is p f g (x ∷ xs) zero same within passed none = rw (passed x) (ap (λ y. y ∷ xs) (sym (same x (passed x))))
  change_is p f g (x ∷ xs) (suc at) same within passed none =
      let parts = or_parts (p x) (list_any p (take at xs)) none in
      rw parts.0 (ap (λ ys. x ∷ ys) (change_is p f g xs at same (omega arith) passed parts.1))

  pub changed_at : (p : A → Bool) (f g : A → A) (xs : List A) (at : ℕ) → ((x : A) → p x ≡ true → g x ≡ f x) → IsFirst p xs at → change_first p f xs ≡ change_at at g xs
  changed_at p f g xs at same first = change_is p f g xs at same first.within first.passed first.before

  without_is : (p : A → Bool) (xs : List A) (at : ℕ) → at < length xs → ((d : A) → p (get_or xs at d) ≡ true) → list_any p (take at xs) ≡ false → without_first p xs ≡ take at xs ++ drop (suc at) xs
  unfolding without_first
  without_is p [] at within passed none = absurd (omega arith)
  without_is p (x ∷ xs) zero within passed none = rw (passed x) refl
  without_is p (x ∷ xs) (suc at) within passed none =
      let parts = or_parts (p x) (list_any p (take at xs)) none in
      rw parts.0 (ap (λ ys. x ∷ ys) (without_is p xs at (omega arith) passed parts.1))

  pub without_found : (p : A → Bool) (xs : List A) (at : ℕ) → IsFirst p xs at → without_first p xs ≡ without_at at xs
  unfolding without_at
  without_found p xs at first = rw add-one (without_is p xs at first.within first.passed first.before)

  -- a write of what a change makes of the element there
  pub set_is_change : (f : A → A) (xs : List A) (at : ℕ) (x y : A) → at < length xs → x ≡ get_or xs at x → y ≡ f x → set xs at y ≡ change_at at f xs
  unfolding change_at
  set_is_change f [] at x y within is changed = absurd (omega arith)
  set_is_change f (z ∷ zs) zero x y within is changed = ap (λ w. w ∷ zs) (changed ∙ ap f is)
  set_is_change f (z ∷ zs) (suc at) x y within is changed = ap (λ ws. z ∷ ws) (set_is_change f zs at x y (omega arith) is changed)

  -- a change that changes nothing there
  pub change_same : (f : A → A) (xs : List A) (at : ℕ) (x : A) → at < length xs → x ≡ get_or xs at x → f x ≡ x → xs ≡ change_at at f xs
  unfolding change_at
  change_same f [] at x within is same = refl
  change_same f (z ∷ zs) zero x within is same = ap (λ w. w ∷ zs) (sym is ∙ sym same ∙ ap f is)
  change_same f (z ∷ zs) (suc at) x within is same = ap (λ ws. z ∷ ws) (change_same f zs at x (omega (arith, within)) is same)

  pub change_twice : (f g : A → A) (xs : List A) (at : ℕ) → change_at at f (change_at at g xs) ≡ change_at at (λ x. f (g x)) xs
  unfolding change_at
  change_twice f g [] at = refl
  change_twice f g (x ∷ xs) zero = refl
  change_twice f g (x ∷ xs) (suc at) = ap (λ ys. x ∷ ys) (change_twice f g xs at)

-- a link joins a bundle, gets a station and is touched; or is bound, joins a bundle and gets a station
pub touched_after : (now : ℕ) (bundle station : Option (List ℕ)) (xs ys zs us : List Link) (at : ℕ) → ys ≡ change_at at (joined_link bundle) xs → zs ≡ change_at at (stationed_link station) ys → us ≡ change_at at (renewed_link now) zs
    → us ≡ change_at at (touched_link now bundle station) xs
unfolding touched_link joined_link stationed_link renewed_link
touched_after now bundle station xs ys zs us at joined moved renewed =
    renewed ∙ ap (change_at at (renewed_link now)) (moved ∙ ap (change_at at (stationed_link station)) joined ∙ change_twice (stationed_link station) (joined_link bundle) xs at)
    ∙ change_twice (renewed_link now) (λ link. stationed_link station (joined_link bundle link)) xs at

pub taken_after : (now : ℕ) (id : List ℕ) (bundle station : Option (List ℕ)) (xs ys zs us : List Link) (at : ℕ) → ys ≡ change_at at (bound_link now id) xs → zs ≡ change_at at (joined_link bundle) ys → us ≡ change_at at (stationed_link station) zs
    → us ≡ change_at at (taken_link now id bundle station) xs
unfolding taken_link joined_link stationed_link bound_link
taken_after now id bundle station xs ys zs us at bound joined moved =
    moved ∙ ap (change_at at (stationed_link station)) (joined ∙ ap (change_at at (joined_link bundle)) bound ∙ change_twice (joined_link bundle) (bound_link now id) xs at)
    ∙ change_twice (stationed_link station) (λ link. joined_link bundle (bound_link now id link)) xs at

-- a link that has a bundle joins none
or_same : (old new : Option (List ℕ)) → is_some old ≡ true → option_or old new ≡ old
or_same None new some = absurd (false≢true some)
or_same (Some id) new some = refl

pub joined_same : (bundle : Option (List ℕ)) (links : List Link) (at : ℕ) (x : Link) → at < length links → x ≡ get_or links at x → is_some x.bundle ≡ true → links ≡ change_at at (joined_link bundle) links
unfolding joined_link
joined_same bundle links at x within is some = change_same (joined_link bundle) links at x within is (ap (λ b. record x { bundle = b }) (or_same x.bundle bundle some))

-- and an alive that carries no bundle lets no link join one
or_none : (old new : Option (List ℕ)) → is_some new ≡ false → option_or old new ≡ old
or_none old (Some id) none = absurd (false≢true (sym none))
or_none None None none = refl
or_none (Some id) None none = refl

pub joined_none : (bundle : Option (List ℕ)) (links : List Link) (at : ℕ) → is_some bundle ≡ false → links ≡ change_at at (joined_link bundle) links
unfolding change_at joined_link
joined_none bundle [] at none = refl
joined_none bundle (x ∷ xs) zero none = ap (λ (one : Link). one ∷ xs) (sym (ap (λ b. record x { bundle = b }) (or_none x.bundle bundle none)))
joined_none bundle (x ∷ xs) (suc at) none = ap (λ ys. x ∷ ys) (joined_none bundle xs at none)

pub length-change_at : {A : Type 0} (f : A → A) (xs : List A) (at : ℕ) → length (change_at at f xs) ≡ length xs
unfolding change_at
length-change_at f [] at = refl
length-change_at f (x ∷ xs) zero = refl
length-change_at f (x ∷ xs) (suc at) = ap suc (length-change_at f xs at)

-- a change of a link as it is seen
pub seen_changed : (servers : List Nas) (f : Link → Link) (g : BookLink → BookLink) (xs : List Link) (at : ℕ) → ((x : Link) → link_seen servers (f x) ≡ g (link_seen servers x))
    → links_seen servers (change_at at f xs) ≡ change_at at g (links_seen servers xs)
unfolding links_seen change_at
seen_changed servers f g [] at same = refl
seen_changed servers f g (x ∷ xs) zero same = ap (λ y. y ∷ map (link_seen servers) xs) (same x)
seen_changed servers f g (x ∷ xs) (suc at) same = ap (λ ys. link_seen servers x ∷ ys) (seen_changed servers f g xs at same)

nas_kept : (nas : Nas) (holder : LinkHolder) → server_of nas (holder_at nas holder) ≡ nas
nas_kept nas (LinkReserved number) = refl
nas_kept nas (LinkBound id) = refl

bundle_or : (nas : Nas) (old new : Option (List ℕ)) → bundle_with nas (option_or old new) ≡ option_or (bundle_with nas old) (bundle_with nas new)
bundle_or nas None new = refl
bundle_or nas (Some id) new = refl

pub seen_touched : (servers : List Nas) (now : ℕ) (bundle station : Option (List ℕ)) (link : Link) → link_seen servers (touched_link now bundle station link) ≡ touch_here now bundle station (link_seen servers link)
unfolding link_seen touched_link touch_here touch
seen_touched servers now bundle station link =
    rw (nas_kept (server_at servers link.nas) link.holder, bundle_or (server_at servers link.nas) link.bundle bundle) refl

pub seen_taken : (servers : List Nas) (now : ℕ) (id : List ℕ) (bundle station : Option (List ℕ)) (link : Link) → link_seen servers (taken_link now id bundle station link) ≡ take_here now id bundle station (link_seen servers link)
unfolding link_seen taken_link take_here take_for touch
seen_taken servers now id bundle station link =
    rw (nas_kept (server_at servers link.nas) link.holder, bundle_or (server_at servers link.nas) link.bundle bundle) refl

-- the link that an alive finds is at its access server
holder_nas : (nas : Nas) (session : Session) (holder : Holder) → is_holder session holder ≡ true → server_of nas holder ≡ session.nas
holder_nas nas session (Reserved number) is = absurd (false≢true is)
holder_nas nas session (Bound other) is = ap (λ (one : Session). one.nas) (same_session-true other session is)

pub touched_here : (session : Session) (now : ℕ) (bundle station : Option (List ℕ)) (link : BookLink) → is_link_of session link ≡ true → touch_here now bundle station link ≡ touch now (bundle_with session.nas bundle) station link
unfolding is_link_of touch_here
touched_here session now bundle station link is = ap (λ nas. touch now (bundle_with nas bundle) station link) (holder_nas link.nas session link.holder is)

wanted_nas : (link_nas nas : Nas) (class : Option ℕ) (holder : Holder) → (is_wanted class holder && same_nas link_nas nas) ≡ true → server_of link_nas holder ≡ nas
wanted_nas link_nas nas class (Bound session) is = absurd (false≢true is)
wanted_nas link_nas nas None (Reserved number) is = same_nas-true link_nas nas is
wanted_nas link_nas nas (Some wanted) (Reserved number) is = same_nas-true link_nas nas (and_parts (number == wanted) (same_nas link_nas nas) is).1

pub taken_here : (nas : Nas) (class : Option ℕ) (now : ℕ) (id : List ℕ) (bundle station : Option (List ℕ)) (link : BookLink) → can_be_taken nas class link ≡ true
    → take_here now id bundle station link ≡ take_for (record { nas = nas; id = id }) now (bundle_with nas bundle) station link
unfolding can_be_taken take_here
taken_here nas class now id bundle station link is =
    ap (λ (at : Nas). take_for (record { nas = at; id = id }) now (bundle_with at bundle) station link) (wanted_nas link.nas nas class link.holder is)
