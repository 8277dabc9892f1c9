pub mod Passing
pub mod Formed
pub mod Replies
pub mod ShortSweep
pub mod ShortSearch
pub mod Quick
pub mod Computed
