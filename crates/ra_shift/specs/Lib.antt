pub mod Windows
pub mod Arriving
pub mod Conditions
pub mod Filter
pub mod Finding
pub mod Lanes
pub mod Leaving
pub mod Sharing
