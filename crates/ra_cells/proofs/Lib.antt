pub mod GreatestLemmas
pub mod HeldLemmas
pub mod SiftLemmas
pub mod MakingLemmas
pub mod CellLemmas
