-- Each test of `specs/Same.antt` says true exactly where the two values are equal.
use Rattle.std.proofs.Common.{◌≡◌, ℕ, List, Bool, true, false, ◌&&◌, refl, ap, sym, ◌∙◌, subst, eqb, ◌⊎◌, inl, inr}
use Rattle.std.specs.Prelude.{◌↔◌}
use Rattle.std.specs.Bool.{Decides}
use Rattle.std.proofs.lemmas.Bool.{eqb-true, eq-eqb, and_parts, and_from, cases_Bool, false_from_ne_true, false≢true}
use Rattle.std.proofs.lemmas.Slice.Eq.{bytes_eq-Decides}
use Rattle.rsl_event.specs.declared.event.Source.{Source}
use Rattle.rsl_event.specs.declared.event.Key.{Key}
use Rattle.rsl_event.specs.declared.nas.Nas.{Nas}
use Rattle.rsl_event.specs.declared.nas.NasName.{NasName}
use Rattle.rsl_event.specs.declared.nas.NasName.TheVariants.{Identifier, Address, Unnamed}
use Rattle.rsl_session.specs.declared.session.Session.{Session}
use Rattle.rsl_session.specs.declared.bundle.Bundle.{Bundle}
use Rattle.rsl_session.specs.Same.{same_octets, same_key, same_name, same_nas, same_session, same_bundle}

-- values that are made of equal parts are equal
from_parts : {A B C : Type 0} (make : A → B → C) (a b : A) (x y : B) → a ≡ b → x ≡ y → make a x ≡ make b y
from_parts make a b x y e f = cc

pub same_octets-Decides : (a b : List ℕ) → Decides (same_octets a b) (a ≡ b)
same_octets-Decides a b = bytes_eq-Decides a b

same_octets-refl : (a : List ℕ) → same_octets a a ≡ true
same_octets-refl a = (same_octets-Decides a a).1 refl

same_octets-true : (a b : List ℕ) → same_octets a b ≡ true → a ≡ b
same_octets-true a b = (same_octets-Decides a b).0

same_name-true : (a b : NasName) → same_name a b ≡ true → a ≡ b
unfolding same_name
same_name-true (Identifier a) (Identifier b) h = ap Identifier (same_octets-true a b h)
same_name-true (Address a) (Address b) h = ap Address (same_octets-true a b h)
same_name-true Unnamed Unnamed h = refl
same_name-true (Identifier a) (Address b) h = cc
same_name-true (Identifier a) Unnamed h = cc
same_name-true (Address a) (Identifier b) h = cc
same_name-true (Address a) Unnamed h = cc
same_name-true Unnamed (Identifier b) h = cc
same_name-true Unnamed (Address b) h = cc

same_name-refl : (a : NasName) → same_name a a ≡ true
unfolding same_name
same_name-refl (Identifier a) = same_octets-refl a
same_name-refl (Address a) = same_octets-refl a
same_name-refl Unnamed = refl

make_nas : ℕ → NasName → Nas
make_nas client name = record { client = client; name = name }

pub same_nas-true : (a b : Nas) → same_nas a b ≡ true → a ≡ b
unfolding same_nas make_nas
same_nas-true a b h =
    let parts = and_parts (eqb a.client b.client) (same_name a.name b.name) h in
    let client : a.client ≡ b.client = eqb-true a.client b.client parts.0 in
    let name : a.name ≡ b.name = same_name-true a.name b.name parts.1 in
    from_parts make_nas a.client b.client a.name b.name client name

pub same_nas-refl : (a : Nas) → same_nas a a ≡ true
unfolding same_nas
same_nas-refl a = and_from _ _ (eq-eqb a.client a.client refl) (same_name-refl a.name)

make_session : Nas → List ℕ → Session
make_session nas id = record { nas = nas; id = id }

pub same_session-true : (a b : Session) → same_session a b ≡ true → a ≡ b
unfolding same_session make_session
same_session-true a b h =
    let parts = and_parts (same_nas a.nas b.nas) (same_octets a.id b.id) h in
    from_parts make_session a.nas b.nas a.id b.id (same_nas-true a.nas b.nas parts.0) (same_octets-true a.id b.id parts.1)

pub same_session-refl : (a : Session) → same_session a a ≡ true
unfolding same_session
same_session-refl a = and_from _ _ (same_nas-refl a.nas) (same_octets-refl a.id)

make_bundle : Nas → List ℕ → Bundle
make_bundle nas id = record { nas = nas; id = id }

pub same_bundle-true : (a b : Bundle) → same_bundle a b ≡ true → a ≡ b
unfolding same_bundle make_bundle
same_bundle-true a b h =
    let parts = and_parts (same_nas a.nas b.nas) (same_octets a.id b.id) h in
    from_parts make_bundle a.nas b.nas a.id b.id (same_nas-true a.nas b.nas parts.0) (same_octets-true a.id b.id parts.1)

pub same_bundle-refl : (a : Bundle) → same_bundle a a ≡ true
unfolding same_bundle
same_bundle-refl a = and_from _ _ (same_nas-refl a.nas) (same_octets-refl a.id)

make_source : List ℕ → ℕ → Source
make_source address port = record { address = address; port = port }

make_key : Source × ℕ → List ℕ → Key
make_key (source, id) authenticator = record { source = source; id = id; authenticator = authenticator }

source_id : Source → ℕ → Source × ℕ
source_id source id = (source, id)

pub same_key-true : (a b : Key) → same_key a b ≡ true → a ≡ b
unfolding same_key make_source make_key source_id
same_key-true a b h =
    let three = and_parts (same_octets a.source.address b.source.address && eqb a.source.port b.source.port && eqb a.id b.id) (same_octets a.authenticator b.authenticator) h in
    let two = and_parts (same_octets a.source.address b.source.address && eqb a.source.port b.source.port) (eqb a.id b.id) three.0 in
    let one = and_parts (same_octets a.source.address b.source.address) (eqb a.source.port b.source.port) two.0 in
    let source : a.source ≡ b.source =
    from_parts make_source a.source.address b.source.address a.source.port b.source.port
    (same_octets-true a.source.address b.source.address one.0) (eqb-true a.source.port b.source.port one.1) in
    from_parts make_key (a.source, a.id) (b.source, b.id) a.authenticator b.authenticator
    (from_parts source_id a.source b.source a.id b.id source (eqb-true a.id b.id two.1))
    (same_octets-true a.authenticator b.authenticator three.1)

pub same_key-refl : (a : Key) → same_key a a ≡ true
unfolding same_key
same_key-refl a =
    and_from _ _
    (and_from _ _ (and_from _ _ (same_octets-refl a.source.address) (eq-eqb a.source.port a.source.port refl)) (eq-eqb a.id a.id refl))
    (same_octets-refl a.authenticator)

-- two bundles are equal, or are told apart either way round
pub bundle_cases : (a b : Bundle) → (a ≡ b) ⊎ ((same_bundle a b ≡ false) × (same_bundle b a ≡ false))
bundle_cases a b =
    elim (cases_Bool (same_bundle a b)) [
      | inl same ↦ inl (same_bundle-true a b same)
      | inr other ↦ inr (
        other,
        false_from_ne_true (same_bundle b a) (λ same.
            let back : b ≡ a = same_bundle-true b a same in
            let P : Bundle → Type 0 = λ x. same_bundle a x ≡ false in
            let none : same_bundle a a ≡ false = subst P back other in
            false≢true (sym none ∙ same_bundle-refl a)),
      )
    ]

-- a test that is true exactly where two values are equal is the test of the definitions
same_test : {A : Type 0} (a b : A) (r s : Bool) → ((r ≡ true) ↔ (a ≡ b)) → (s ≡ true → a ≡ b) → (a ≡ b → s ≡ true) → r ≡ s
same_test a b true s r_is sound complete = sym (complete (r_is.0 refl))
same_test a b false true r_is sound complete = r_is.1 (sound refl)
same_test a b false false r_is sound complete = refl

pub nas_is_same : (a b : Nas) (r : Bool) → ((r ≡ true) ↔ (a ≡ b)) → r ≡ same_nas a b
nas_is_same a b r is = same_test a b r (same_nas a b) is (same_nas-true a b) (λ e. subst (λ x. same_nas a x ≡ true) e (same_nas-refl a))

pub key_is_same : (a b : Key) (r : Bool) → ((r ≡ true) ↔ (a ≡ b)) → r ≡ same_key a b
key_is_same a b r is = same_test a b r (same_key a b) is (same_key-true a b) (λ e. subst (λ x. same_key a x ≡ true) e (same_key-refl a))
