pub mod Replies
pub mod Digits
pub mod Staircases
pub mod Numerals
pub mod WrittenBack
pub mod Lengths
pub mod ReadsBack
pub mod Texts
