pub mod Judged
pub mod Fitting
pub mod Cheapest
pub mod Standing
pub mod Clauses
pub mod SameMoves
