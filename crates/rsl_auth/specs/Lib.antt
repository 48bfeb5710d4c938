pub mod Authenticator
pub mod Chap
pub mod Hmac
pub mod Password
pub mod Signature
