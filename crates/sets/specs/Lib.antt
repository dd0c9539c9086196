pub mod Counting
pub mod Members
pub mod Empty
