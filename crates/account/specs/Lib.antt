pub mod Checking
pub mod Noting
pub mod Showing
