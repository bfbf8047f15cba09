pub mod Made
pub mod Stands
pub mod Services
pub mod Stamps
