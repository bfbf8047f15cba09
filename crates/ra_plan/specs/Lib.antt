pub mod Choosing
pub mod Weighings
pub mod Deciding
