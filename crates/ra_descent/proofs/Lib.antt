pub mod CheapestLemmas
pub mod MarkLemmas
pub mod ShiftLemmas
pub mod TurnLemmas
