pub mod Clock
pub mod Counter
pub mod Bucket
pub mod Monitor
pub mod Runs
pub mod Windows
pub mod Continuations
