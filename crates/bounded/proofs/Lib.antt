pub mod Pushes
pub mod Slots
