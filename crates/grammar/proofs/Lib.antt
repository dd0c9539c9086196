pub mod Cuts
pub mod Standing
pub mod Order
pub mod Bounds
pub mod Splits
pub mod Steps
