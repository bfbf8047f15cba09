pub mod AssignLemmas
pub mod ClosedLemmas
pub mod AssignSteps
pub mod ClosedSteps
pub mod TextLemmas
