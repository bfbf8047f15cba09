pub mod Commands
pub mod Headline
pub mod Solving
pub mod Trials
pub mod Verifying
