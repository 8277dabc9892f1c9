pub mod Loads
pub mod Searches
pub mod Sweeps
pub mod Weighings
pub mod Fronts
pub mod Turns
pub mod Misfits
