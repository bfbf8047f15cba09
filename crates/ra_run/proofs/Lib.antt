pub mod AlikeLemmas
pub mod SolveLemmas
pub mod TrialLemmas
pub mod VerifyLemmas
pub mod RunLemmas
