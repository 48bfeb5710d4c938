pub mod Chains
mod Fields
