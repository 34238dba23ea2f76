pub mod UsageNumbers
pub mod UsageDefaults
