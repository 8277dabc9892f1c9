pub mod Arrivals
pub mod Opening
