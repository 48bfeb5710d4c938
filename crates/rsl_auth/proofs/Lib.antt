pub mod AuthenticatorLemmas
pub mod ChapLemmas
pub mod DigestLemmas
pub mod HmacLemmas
pub mod PasswordLemmas
pub mod SignatureLemmas
pub mod ComparisonLemmas
