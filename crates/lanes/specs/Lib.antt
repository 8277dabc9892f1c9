pub mod Job
pub mod Lane
pub mod Demand
pub mod Line
pub mod Standing
pub mod Lanes
