pub mod Front
pub mod Ahead
pub mod Turn
pub mod Weighing
