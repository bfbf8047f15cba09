pub mod Chances
pub mod Heats
pub mod Ranks
pub mod Nearness
pub mod Crowds
