pub mod Numbers
pub mod Kept
pub mod Appending
pub mod Added
