pub mod MovedCounts
pub mod Replaced
pub mod Counted
pub mod Marks
pub mod Held
pub mod Labels
pub mod Stands
