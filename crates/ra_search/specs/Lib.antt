pub mod Kept
pub mod Moving
pub mod Visiting
pub mod Hunting
pub mod Found
