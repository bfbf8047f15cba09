pub mod Listed
pub mod Searches
pub mod SmallParts
pub mod Sums
pub mod Tables
pub mod Whole
