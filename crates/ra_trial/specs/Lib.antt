pub mod InstanceNumbers
pub mod Instances
pub mod Lines
pub mod Numbers
pub mod Trials
