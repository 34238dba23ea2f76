pub mod Status
pub mod Texts
pub mod UsageText
pub mod UsageLaws
