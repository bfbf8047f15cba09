pub mod Laws
pub mod Loads
pub mod Marks
pub mod PinLists
pub mod Pinned
pub mod Pins
pub mod Searches
pub mod Walks
