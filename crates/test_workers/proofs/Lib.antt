pub mod StepLemmas
pub mod PlayLemmas
pub mod PlayedLemmas
pub mod RoundLemmas
mod FirstLemmas
mod PassLemmas
mod TurnLemmas
mod AloneLemmas
