-- Credentials that the server does not check: all but a User-Password and a CHAP-Password. A request of a trusted
-- client that has one is rejected, since nobody may have looked at it.
use Rattle.std.specs.Prelude.{ℕ, ◌==◌, ◌&&◌, ◌||◌, nat_le, nat_lt, Bool, true, not, List, length, take, drop, if◌then◌else◌, Result, Ok, Err}
use Rattle.std.specs.Int.{w32, from_be_bytes}
use Rattle.std.specs.List.{list_any}
use Rattle.rsl_wire.specs.Attributes.{Attribute, attribute_list}
use Rattle.rsl_event.specs.declared.codes.TheConstants.{VENDOR_SPECIFIC, MIN_VENDOR_SPECIFIC_LEN, MICROSOFT, ARAP_PASSWORD, ARAP_FEATURES, ARAP_SECURITY, ARAP_SECURITY_DATA, ARAP_CHALLENGE_RESPONSE, EAP_MESSAGE, DIGEST_RESPONSE, SIP_AOR, PKM_SS_CERT, PKM_CA_CERT, DRAFT_DIGEST_RESPONSE, DRAFT_DIGEST_ATTRIBUTES}

abbrev pub is_within : (low high : ℕ) → ℕ → Bool
is_within low high number = nat_le low number && nat_le number high

-- A Type by which a credential is shown: of ARAP (RFC 2869 sections 5.4, 5.5, 5.7, 5.8 and 5.15), EAP (RFC 3579
-- section 3.1), Digest (RFC 5090 section 3: Digest-Response to SIP-AOR, and the two Types of its early draft), and
-- the certificates of PKM (RFC 5904 sections 3.1 and 3.2).
abbrev pub is_credential : (kind : ℕ) → Bool
is_credential kind =
    kind == ARAP_PASSWORD
    || kind == ARAP_FEATURES
    || kind == ARAP_SECURITY
    || kind == ARAP_SECURITY_DATA
    || kind == EAP_MESSAGE
    || kind == ARAP_CHALLENGE_RESPONSE
    || is_within DIGEST_RESPONSE SIP_AOR kind
    || kind == PKM_SS_CERT
    || kind == PKM_CA_CERT
    || kind == DRAFT_DIGEST_RESPONSE
    || kind == DRAFT_DIGEST_ATTRIBUTES

-- A Vendor-Type of Microsoft that is known to be no credential: what access server and user are and may do
-- (RFC 2548 section 2, [MS-RNAP] section 2.2.1). What is left are MS-CHAP (1 to 6, 11, 25 to 27), keys (12, 16,
-- 17), ARAP (19 to 21, 33), the statement of health (55), and numbers that name nothing.
abbrev pub is_no_credential : (vendor_type : ℕ) → Bool
is_no_credential vendor_type =
    is_within 7 10 vendor_type
    || is_within 13 15 vendor_type
    || vendor_type == 18
    || is_within 22 24 vendor_type
    || is_within 28 31 vendor_type
    || is_within 34 37 vendor_type
    || is_within 40 42 vendor_type
    || is_within 44 54 vendor_type
    || is_within 56 63 vendor_type

-- whether attributes of Microsoft may have a credential, as those that are malformed may
abbrev pub may_have_credential : Result (List Attribute) ℕ → Bool
may_have_credential (Err at) = true
may_have_credential (Ok attributes) =
    list_any (λ attribute. not (is_no_credential attribute.kind)) attributes

-- Whether a Vendor-Specific may have one (RFC 2865 section 5.26): four octets are the vendor's number, and at
-- least one is what the vendor says. Microsoft says attributes of its own there, and other vendors are not read.
abbrev pub vendor_may_have_credential : List ℕ → Bool
vendor_may_have_credential value =
    if nat_lt (length value) MIN_VENDOR_SPECIFIC_LEN then true
    else from_be_bytes w32 (take 4 value) == MICROSOFT
    && may_have_credential (attribute_list (drop 4 value))

abbrev pub is_unchecked : Attribute → Bool
is_unchecked attribute =
    if attribute.kind == VENDOR_SPECIFIC then vendor_may_have_credential attribute.value
    else is_credential attribute.kind

-- whether a request has a credential that the server does not check
unfoldable pub has_unchecked_credential : List Attribute → Bool
has_unchecked_credential attributes = list_any is_unchecked attributes
