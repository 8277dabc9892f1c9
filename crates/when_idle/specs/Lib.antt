pub mod WhenIdle
pub mod Lawful
