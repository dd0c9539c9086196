pub mod Digits
pub mod Bitwise
pub mod Counts
