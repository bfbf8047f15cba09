pub mod NeedLemmas
pub mod CountLemmas
pub mod PlaceLemmas
pub mod DependantLemmas
pub mod DistinctLemmas
