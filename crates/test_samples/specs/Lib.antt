pub mod Copied
pub mod WrittenLots
