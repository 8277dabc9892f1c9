pub mod Fresh
pub mod Jobs
