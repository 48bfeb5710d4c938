-- A walk over attributes of Microsoft finds a credential exactly where their list may have one.
use Rattle.std.proofs.Common.{◌≡◌, ℕ, ◌<◌, Bool, true, false, not, List, [], ◌∷◌, length, Some, None, Result, Ok, Err, refl, sym, ap, ◌∙◌, arith, ◌||◌}
use Rattle.std.specs.List.{list_any}
use Rattle.rsl_wire.specs.Attributes.{Attribute, attribute_list, first_attribute, with_first}
use Rattle.rsl_wire.proofs.AttributeLaws.{attribute_list-bad, attribute_list-first, attribute_list-nil}
use Rattle.rsl_event.specs.Credential.{is_no_credential, may_have_credential}

-- one that is none is passed
one_passed : (first : Attribute) (r : Result (List Attribute) ℕ) → is_no_credential first.kind ≡ true → may_have_credential (with_first first r) ≡ may_have_credential r
one_passed first (Ok attributes) none = ap (λ (b : Bool). not b || list_any (λ a. not (is_no_credential a.kind)) attributes) none
one_passed first (Err at) none = refl

pub passed : (octets : List ℕ) (first : Attribute) (rest : List ℕ) → first_attribute octets ≡ Some (first, rest) → is_no_credential first.kind ≡ true
    → may_have_credential (attribute_list rest) ≡ may_have_credential (attribute_list octets)
passed octets first rest e none = sym (ap may_have_credential (attribute_list-first octets first rest e) ∙ one_passed first (attribute_list rest) none)

-- one that may be one is found
one_found : (first : Attribute) (r : Result (List Attribute) ℕ) → is_no_credential first.kind ≡ false → may_have_credential (with_first first r) ≡ true
one_found first (Ok attributes) some = ap (λ (b : Bool). not b || list_any (λ a. not (is_no_credential a.kind)) attributes) some
one_found first (Err at) some = refl

pub found : (octets : List ℕ) (first : Attribute) (rest : List ℕ) → first_attribute octets ≡ Some (first, rest) → is_no_credential first.kind ≡ false
    → may_have_credential (attribute_list octets) ≡ true
found octets first rest e some = ap may_have_credential (attribute_list-first octets first rest e) ∙ one_found first (attribute_list rest) some

-- what is malformed may have one
pub malformed : (octets : List ℕ) → 0 < length octets → first_attribute octets ≡ None → may_have_credential (attribute_list octets) ≡ true
malformed octets some e = ap may_have_credential (attribute_list-bad octets some e)

pub none_left : (octets : List ℕ) → length octets ≡ 0 → may_have_credential (attribute_list octets) ≡ false
none_left [] e = ap may_have_credential attribute_list-nil
none_left (octet ∷ octets) e = absurd (omega (arith, e))
