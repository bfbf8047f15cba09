pub mod TotalLemmas
pub mod SignLemmas
pub mod ReadLemmas
pub mod CostLemmas
pub mod PinnedLemmas
