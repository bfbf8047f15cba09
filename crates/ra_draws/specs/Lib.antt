pub mod Allowance
pub mod Drawn
pub mod Lots
pub mod Readers
pub mod Shown
pub mod Words
