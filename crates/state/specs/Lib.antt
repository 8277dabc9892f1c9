pub mod StateRefusal
pub mod State
