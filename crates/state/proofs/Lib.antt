pub mod Costs
pub mod Forming
pub mod Freshness
pub mod Idle
