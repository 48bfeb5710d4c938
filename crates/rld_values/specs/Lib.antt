pub mod Dates
pub mod Laws
pub mod Read
pub mod Values
