pub mod Laws
pub mod Since
pub mod Standing
pub mod Holding
pub mod Yielding
pub mod Sweeping
pub mod Memory
