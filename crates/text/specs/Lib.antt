pub mod Writing
pub mod Bytes
pub mod Numeral
pub mod Line
pub mod Reading
pub mod RoundTrip
pub mod Fault
pub mod Views
