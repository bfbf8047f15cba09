pub mod Sizes
pub mod Leavers
