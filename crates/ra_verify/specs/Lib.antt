pub mod WrongLines
pub mod Laws
pub mod Checking
pub mod Judging
pub mod Reading
pub mod Verdicts
