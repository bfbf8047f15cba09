pub mod Cheapest
pub mod Optimal
