-- The link that a step finds, and the parts of the step that the code takes one by one.
use Rattle.std.specs.Prelude.{ℕ, ◌+◌, List, ◌++◌, take, drop, Option}
use Rattle.rsl_event.specs.declared.nas.Nas.{Nas}
use Rattle.rsl_session.specs.Book.{BookLink, Holder, Reserved, Bound}
use Rattle.rsl_session.specs.BookLinks.{touch, take_for}
use Rattle.rsl_links.specs.Seen.{bundle_with}

-- the access server of a link, as its session names it if it is bound
abbrev pub server_of : Nas → Holder → Nas
server_of nas (Reserved number) = nas
server_of nas (Bound session) = session.nas

-- a link touched, or taken for a session of this id, by an alive at its own access server
unfoldable pub touch_here : ℕ → Option (List ℕ) → Option (List ℕ) → BookLink → BookLink
touch_here now bundle station link =
    touch now (bundle_with (server_of link.nas link.holder) bundle) station link

unfoldable pub take_here : ℕ → List ℕ → Option (List ℕ) → Option (List ℕ) → BookLink → BookLink
take_here now id bundle station link =
    take_for (record { nas = server_of link.nas link.holder; id = id }) now
    (bundle_with (server_of link.nas link.holder) bundle) station link

-- the links without the one at a position
unfoldable pub without_at : {A : Type 0} → ℕ → List A → List A
without_at at xs = take at xs ++ drop (at + 1) xs
