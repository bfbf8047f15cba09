pub mod OptionSizes
pub mod Bests
pub mod Weighed
pub mod Marked
pub mod RingPlaces
pub mod Below
mod Flawless
