pub mod Entries
pub mod Least
pub mod Lists
pub mod LongStaircase
pub mod Sums
pub mod Ranges
