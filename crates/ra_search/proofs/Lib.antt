pub mod StepLemmas
pub mod JudgeLemmas
pub mod ReachLemmas
pub mod FoundLemmas
