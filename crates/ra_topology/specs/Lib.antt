pub mod TopologyLists
pub mod Lists
pub mod Fits
pub mod Places
pub mod Starts
