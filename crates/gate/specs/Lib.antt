pub mod Queue
pub mod Gate
pub mod OpenRefusal
pub mod Opening
pub mod OpensRightly
pub mod Closing
pub mod Preparing
