pub mod Asking
pub mod Sums
pub mod Rules
pub mod Clipping
