pub mod RoundLemmas
pub mod StayLemmas
pub mod TableLemmas
pub mod MarkLemmas
pub mod WalkLemmas
pub mod SearchLemmas
pub mod PinLemmas
