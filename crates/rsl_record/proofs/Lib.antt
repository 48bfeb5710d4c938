pub mod AuditLaws
pub mod Chains
pub mod Counting
pub mod Records
pub mod Telling
pub mod Walking
pub mod TableLaws
