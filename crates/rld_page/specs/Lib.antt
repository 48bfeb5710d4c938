pub mod Chart
pub mod Figures
pub mod Html
pub mod Json
pub mod Page
pub mod Summary
pub mod Tables
