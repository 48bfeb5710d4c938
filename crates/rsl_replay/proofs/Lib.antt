pub mod AccountingLaws
pub mod AccessLaws
pub mod LineLaws
pub mod ReportLaws
pub mod StepCounts
pub mod StepLaws
pub mod Written
