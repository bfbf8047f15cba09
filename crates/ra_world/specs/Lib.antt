pub mod Costs
pub mod Keeping
pub mod Following
pub mod Required
pub mod FilterTables
pub mod Standing
pub mod Differing
