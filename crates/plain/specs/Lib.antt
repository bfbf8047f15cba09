pub mod Plans
pub mod Benches
pub mod Illegal
pub mod Touching
