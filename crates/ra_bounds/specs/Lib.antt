pub mod Bounds
pub mod Laws
pub mod PinnedBounds
pub mod Totals
