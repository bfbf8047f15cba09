pub mod Laws
pub mod Plays
pub mod Rounds
pub mod FirstPlans
pub mod Passing
