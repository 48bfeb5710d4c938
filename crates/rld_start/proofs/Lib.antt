pub mod After
pub mod Alike
pub mod Ends
pub mod Fronts
pub mod Going
pub mod Greatest
pub mod Passed
