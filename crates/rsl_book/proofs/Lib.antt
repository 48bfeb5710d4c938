pub mod Swept
pub mod Naming
pub mod Ringed
pub mod Fingerprinted
pub mod Insides
pub mod OneByOne
pub mod PutBack
pub mod Callers
